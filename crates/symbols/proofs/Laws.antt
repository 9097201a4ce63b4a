-- Filling a row and taking its numbers are inverse.
-- Assumes nothing.
use Prim.Native.Nat.{ℕ, suc, ◌^◌, ◌≤◌, ◌<◌}
use mathlib.Core.Bool.{Bool, true, ◌&&◌}
use mathlib.Core.List.{List, [], ◌∷◌, ◌++◌}
use mathlib.Core.Path.{◌≡◌, refl, sym, ap, ap₂, ◌∙◌}
use native.Mathlib.Nat.{mod-eq_of_lt}
use native.Mathlib.Omega.{arith}
use lib.Dec.{leb, eqb}
use lib.ListN.{length, take, drop, get_or, length-append, take-append-drop}
use lib.Seq.{take_at, drop_at, length-take-le}
use borrow.Author.Tests.{le-leb, leb-true, eqb-true}
use Rattle.bits.specs.Bits.{bits, number, is_bit, all, Binary}
use Rattle.bits.proofs.Bits.{length-bits, binary-bits, number-bits, number_lt, bits-number}
use Rattle.bits.proofs.Tests.{head-true, tail-true, and-true, binary, all-binary}
use Rattle.symbols.specs.Symbols.{mark, blank, high, fill, fits, numbers, FilledReads, ReadFills}

-- ---- the row of numbers

high-number : (n x : ℕ) → x < 2 ^ n → number (bits n x) ≡ x
high-number n x h = number-bits n x ∙ mod-eq_of_lt h

-- a part of n symbols before the rest
module _ (n : ℕ) (w rest : List ℕ) (l : length w ≡ n) (b : Binary w) where
  part-fits : (r : Bool) → r ≡ true → (leb n (length (w ++ rest)) && all is_bit (take n (w ++ rest)) && r) ≡ true
  part-fits r e = and-true (and-true (le-leb n (length (w ++ rest)) (omega (arith, length-append w rest))) (rw (take_at w rest n l) (all-binary w b))) e

pub filled-reads : FilledReads
unfolding fits fill numbers
filled-reads [] vs h = (refl, sym h)
filled-reads (mark ∷ ps) vs h = filled-reads ps vs h
filled-reads (blank ∷ ps) vs h = let r = filled-reads ps vs h in (and-true (and-true (le-leb 1 (suc (length (fill ps vs))) (omega arith)) refl) r.0, r.1)
filled-reads (high n ∷ ps) [] h = absurd h
filled-reads (high n ∷ ps) (v ∷ vs) h =
    let r = filled-reads ps vs h.1 in
    let w = bits n v in
    let l = length-bits n v in
    let rest = fill ps vs in (
      part-fits n w rest l (binary-bits n v) (fits ps (drop n (w ++ rest))) (rw (drop_at w rest n l) r.0),
      rw (take_at w rest n l, drop_at w rest n l, high-number n v h.0, r.1),
    )

-- ---- the numbers of a row

-- the head of a list that has one
headed : (s : List ℕ) (x : ℕ) → 1 ≤ length s → get_or s 0 0 ≡ x → x ∷ drop 1 s ≡ s
headed [] x h e = absurd (omega arith)
headed (y ∷ s) x h e = ap (λ (z : ℕ). z ∷ s) (sym e)

-- a list whose head is 2 has one
marked : (s : List ℕ) → get_or s 0 0 ≡ 2 → 1 ≤ length s
marked [] e = absurd (omega arith)
marked (y ∷ s) e = omega arith

none : (s : List ℕ) → length s ≡ 0 → [] ≡ s
none [] e = refl
none (x ∷ s) e = absurd (omega arith)

pub read-fills : ReadFills
unfolding fits fill numbers
read-fills [] s h = (refl, none s (eqb-true (length s) 0 h))
read-fills (mark ∷ ps) s h =
    let e = eqb-true (get_or s 0 0) 2 (head-true (eqb (get_or s 0 0) 2) (fits ps (drop 1 s)) h) in
    let r = read-fills ps (drop 1 s) (tail-true (eqb (get_or s 0 0) 2) (fits ps (drop 1 s)) h) in
    (r.0, ap (λ (l : List ℕ). 2 ∷ l) r.1 ∙ headed s 2 (marked s e) e)
read-fills (blank ∷ ps) s h =
    let t = leb 1 (length s) && eqb (get_or s 0 0) 0 in
    let both = head-true t (fits ps (drop 1 s)) h in
    let l = leb-true 1 (length s) (head-true (leb 1 (length s)) (eqb (get_or s 0 0) 0) both) in
    let e = eqb-true (get_or s 0 0) 0 (tail-true (leb 1 (length s)) (eqb (get_or s 0 0) 0) both) in
    let r = read-fills ps (drop 1 s) (tail-true t (fits ps (drop 1 s)) h) in
    (r.0, ap (λ (l : List ℕ). 0 ∷ l) r.1 ∙ headed s 0 l e)
read-fills (high n ∷ ps) s h =
    let t = leb n (length s) && all is_bit (take n s) in
    let both = head-true t (fits ps (drop n s)) h in
    let l = length-take-le n s (leb-true n (length s) (head-true (leb n (length s)) (all is_bit (take n s)) both)) in
    let b = binary (take n s) (tail-true (leb n (length s)) (all is_bit (take n s)) both) in
    let r = read-fills ps (drop n s) (tail-true t (fits ps (drop n s)) h) in
    ((rw l at (number_lt (take n s) b), r.0), ap₂ ◌++◌ (rw l at (bits-number (take n s) b)) r.1 ∙ take-append-drop n s)
