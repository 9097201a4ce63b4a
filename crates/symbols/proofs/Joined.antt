-- Rows of parts after parts, and rows without markers, which are bits.
-- Assumes nothing.
use Prim.Native.Nat.{ℕ, suc, ◌+◌, ◌≤◌}
use mathlib.Core.Bool.{Bool, true, ◌&&◌, and_assoc}
use mathlib.Core.List.{List, [], ◌∷◌, ◌++◌}
use mathlib.Core.Path.{◌≡◌, refl, sym, ap}
use native.Mathlib.Omega.{arith}
use lib.Dec.{leb, eqb}
use lib.ListN.{length, take, drop, length-drop, take-append-drop}
use lib.Seq.{take-take, drop-drop, length-take-le}
use borrow.Author.Tests.{le-leb, eqb-true}
use Rattle.bits.specs.Bits.{number, is_bit, all, Binary}
use Rattle.bits.proofs.Parts.{binary-append, drop-take}
use Rattle.bits.proofs.Tests.{head-true, tail-true, binary}
use Rattle.symbols.specs.Symbols.{Part, marker, mark, blank, high, fits, numbers}

-- the number of symbols of parts
abbrev pub width : List Part → ℕ
width [] = 0
width (mark ∷ ps) = suc (width ps)
width (blank ∷ ps) = suc (width ps)
width (high n ∷ ps) = n + width ps

-- the first n of n + w symbols, and the others
module _ (n w : ℕ) (s : List ℕ) (h : n + w ≤ length s) where
  front : take n (take (n + w) s) ≡ take n s
  front = take-take n (n + w) s (omega arith)

  rest-length : w ≤ length (drop n s)
  rest-length = omega (arith, length-drop n s)

  long : leb n (length s) ≡ true
  long = le-leb n (length s) (omega arith)

  still-long : leb n (length (take (n + w) s)) ≡ true
  still-long = le-leb n (length (take (n + w) s)) (omega (arith, length-take-le (n + w) s h))

one-long : (s : List ℕ) → leb 1 (suc (length s)) ≡ true
one-long s = le-leb 1 (suc (length s)) (omega arith)

-- a test before two
before : (t a b c : Bool) → a ≡ (b && c) → (t && a) ≡ (t && b && c)
before t a b c e = rw e (sym (and_assoc t b c))

pub fits-append : (ps qs : List Part) (s : List ℕ) → width ps ≤ length s → fits (ps ++ qs) s ≡ (fits ps (take (width ps) s) && fits qs (drop (width ps) s))
unfolding fits
fits-append [] qs s h = refl
fits-append (mark ∷ ps) qs [] h = absurd (omega arith)
fits-append (mark ∷ ps) qs (x ∷ s) h = before (eqb x marker) _ _ _ (fits-append ps qs s (omega arith))
fits-append (blank ∷ ps) qs [] h = absurd (omega arith)
fits-append (blank ∷ ps) qs (x ∷ s) h =
    rw (one-long s, one-long (take (width ps) s)) (before (eqb x 0) _ _ _ (fits-append ps qs s (omega arith)))
fits-append (high n ∷ ps) qs s h =
    let w = width ps in
    rw (front n w s h, drop-take n w s, ← drop-drop w n s, long n w s h, still-long n w s h)
    (before (all is_bit (take n s)) _ _ _ (fits-append ps qs (drop n s) (rest-length n w s h)))

pub numbers-append : (ps qs : List Part) (s : List ℕ) → width ps ≤ length s → numbers (ps ++ qs) s ≡ numbers ps (take (width ps) s) ++ numbers qs (drop (width ps) s)
unfolding numbers
numbers-append [] qs s h = refl
numbers-append (mark ∷ ps) qs [] h = absurd (omega arith)
numbers-append (mark ∷ ps) qs (x ∷ s) h = numbers-append ps qs s (omega arith)
numbers-append (blank ∷ ps) qs [] h = absurd (omega arith)
numbers-append (blank ∷ ps) qs (x ∷ s) h = numbers-append ps qs s (omega arith)
numbers-append (high n ∷ ps) qs s h =
    let w = width ps in
    rw (front n w s h, drop-take n w s, ← drop-drop w n s)
    (ap (λ (l : List ℕ). number (take n s) ∷ l) (numbers-append ps qs (drop n s) (rest-length n w s h)))

-- no marker among the parts
abbrev pub Plain : List Part → Type 0
Plain [] = Unit {0}
Plain (mark ∷ ps) = ⊥
Plain (blank ∷ ps) = Plain ps
Plain (high n ∷ ps) = Plain ps

-- a row that fits them is bits
pub plain-binary : (ps : List Part) (s : List ℕ) → Plain ps → fits ps s ≡ true → Binary s
unfolding fits
plain-binary [] [] p h = tt
plain-binary [] (x ∷ s) p h = absurd (omega (arith, eqb-true (suc (length s)) 0 h))
plain-binary (mark ∷ ps) s p h = absurd p
plain-binary (blank ∷ ps) [] p h = tt
plain-binary (blank ∷ ps) (x ∷ s) p h =
    let t = leb 1 (suc (length s)) && eqb x 0 in
    let e = eqb-true x 0 (tail-true (leb 1 (suc (length s))) (eqb x 0) (head-true t (fits ps s) h)) in
    (omega arith, plain-binary ps s p (tail-true t (fits ps s) h))
plain-binary (high n ∷ ps) s p h =
    let t = leb n (length s) && all is_bit (take n s) in
    let b = binary (take n s) (tail-true (leb n (length s)) (all is_bit (take n s)) (head-true t (fits ps (drop n s)) h)) in
    let r = plain-binary ps (drop n s) p (tail-true t (fits ps (drop n s)) h) in
    rw (take-append-drop n s) at (binary-append (take n s) (drop n s) b r)
