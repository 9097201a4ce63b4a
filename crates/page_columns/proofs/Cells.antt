-- A number right-aligned, character by character.
-- Assumes nothing.
use Prim.Native.Nat.{ℕ, zero, suc, ◌+◌, ◌-◌, ◌*◌, ◌/◌, ◌%◌, ◌^◌, ◌≤◌, ◌<◌}
use mathlib.Core.Bool.{Bool, true, false}
use mathlib.Core.List.{List, [], ◌∷◌, ◌++◌, append_assoc}
use mathlib.Core.Path.{◌≡◌, refl, sym, ap, ◌∙◌}
use native.Mathlib.Nat.{pow-suc}
use native.Mathlib.Omega.{arith}
use lib.Dec.{ltb, eqb}
use lib.ListN.{length, drop, set, replicate}
use borrow.Author.Tests.{ltb-true, ltb-false, ne_eqb}
use Rattle.bits.specs.Bits.{pick}
use Rattle.bits.proofs.Slices.{drop-set}
use Rattle.decimal.specs.Decimal.{width, digits, decimal}
use Rattle.decimal.proofs.Laws.{width-more}
use Rattle.page_rules.specs.Page.{blanks, aligned}
use Rattle.page_rules.proofs.Cells.{aligned-small}

-- the low digits of a number, blank where nothing is left of it
unfoldable pub blank_digits : ℕ → ℕ → List ℕ
blank_digits zero n = []
blank_digits (suc k) n = blank_digits k (n / 10) ++ (pick (eqb n 0) 32 (48 + n % 10) ∷ [])

-- one cell more in front of those that stand
pub cells-next : (out : List ℕ) (i left : ℕ) → i < length out
    → blank_digits (suc i) left ++ drop (suc i) out ≡ blank_digits i (left / 10) ++ drop i (set out i (pick (eqb left 0) 32 (48 + left % 10)))
unfolding blank_digits
cells-next out i left h =
    rw (drop-set out i (pick (eqb left 0) 32 (48 + left % 10)) h)
    (append_assoc (blank_digits i (left / 10)) (pick (eqb left 0) 32 (48 + left % 10) ∷ []) (drop (suc i) out))

abbrev Blanks : ℕ → List ℕ
Blanks k = replicate k 32

replicate_more : (k : ℕ) → Blanks k ++ (32 ∷ []) ≡ Blanks (suc k)
replicate_more zero = refl
replicate_more (suc k) = ap (λ (l : List ℕ). 32 ∷ l) (replicate_more k)

no-digits : (k : ℕ) → blank_digits k 0 ≡ blanks k
unfolding blank_digits blanks
no-digits zero = refl
no-digits (suc k) = rw (no-digits k) (replicate_more k)

aligned-more : (c n : ℕ) → 10 ≤ n → aligned (suc c) n ≡ aligned c (n / 10) ++ ((48 + n % 10) ∷ [])
unfolding aligned blanks decimal digits
aligned-more c n h =
    let e : suc c - suc (width (n / 10)) ≡ c - width (n / 10) = omega arith in
    rw (width-more n h, e) (sym (append_assoc (replicate (c - width (n / 10)) 32) (digits (width (n / 10)) (n / 10)) ((48 + n % 10) ∷ [])))

pub aligned-cells : (c n : ℕ) → n < 10 ^ suc c → aligned (suc c) n ≡ blank_digits c (n / 10) ++ ((48 + n % 10) ∷ [])
unfolding blank_digits blanks
aligned-cells zero n h = aligned-small 0 n (omega arith)
aligned-cells (suc c) n h = go (ltb n 10) refl (λ k. aligned-cells c (n / 10) k)
  where
    go : (b : Bool) → ltb n 10 ≡ b → (n / 10 < 10 ^ suc c → aligned (suc c) (n / 10) ≡ blank_digits c (n / 10 / 10) ++ ((48 + n / 10 % 10) ∷ []))
        → aligned (suc (suc c)) n ≡ blank_digits (suc c) (n / 10) ++ ((48 + n % 10) ∷ [])
    go true e r =
        let l = ltb-true n 10 e in
        let z : n / 10 ≡ 0 = omega arith in
        aligned-small (suc c) n l ∙ rw z (ap (λ (w : List ℕ). w ++ ((48 + n % 10) ∷ [])) (sym (no-digits (suc c))))
    go false e r =
        let l = ltb-false n 10 e in
        let p : 10 ^ suc (suc c) ≡ 10 ^ suc c * 10 = pow-suc 10 (suc c) in
        let q : n / 10 < 10 ^ suc c = omega arith in
        let d = ne_eqb (n / 10) 0 (λ z. omega (arith, z)) in
        let s : blank_digits c (n / 10 / 10) ++ ((48 + n / 10 % 10) ∷ []) ≡ blank_digits (suc c) (n / 10) = rw d in
        aligned-more (suc c) n l ∙ ap (λ (w : List ℕ). w ++ ((48 + n % 10) ∷ [])) (r q ∙ s)

-- a number in all columns but the last, by its cells
pub column-is : (k n end : ℕ) → 2 ≤ k → n < 10 ^ (k - 1)
    → blank_digits (k - 2) (n / 10) ++ ((48 + n % 10) ∷ end ∷ []) ≡ aligned (k - 1) n ++ (end ∷ [])
column-is zero n end h l = absurd (omega arith)
column-is (suc zero) n end h l = absurd (omega arith)
column-is (suc (suc k)) n end h l =
    let two : suc (suc k) - 2 ≡ k = omega arith in
    let one : suc (suc k) - 1 ≡ suc k = omega arith in
    rw (two, one, aligned-cells k n (rw one at l))
    (sym (append_assoc (blank_digits k (n / 10)) ((48 + n % 10) ∷ []) (end ∷ [])))
