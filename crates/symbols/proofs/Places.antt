-- A row fits its parts exactly when it is as long as they are and each symbol is of its place's kind.
-- Assumes nothing.
use Prim.Native.Nat.{ℕ, zero, suc, ◌<◌}
use mathlib.Core.Bool.{Bool, true, false, ◌&&◌, false≢true}
use mathlib.Core.List.{List, [], ◌∷◌, ◌++◌}
use mathlib.Core.Path.{◌≡◌, refl, ap, ◌∙◌}
use native.Mathlib.Omega.{arith}
use lib.Dec.{leb, eqb}
use lib.ListN.{length, take, drop, get_or, replicate}
use borrow.Author.Tests.{le-leb, lt-leb, leb-true, leb-false, ne_eqb}
use Rattle.bits.specs.Bits.{pick, is_bit, all}
use Rattle.bits.proofs.Tests.{both_true, and-true}
use Rattle.symbols.specs.Symbols.{Part, mark, blank, high, fits}

-- the kind of each symbol of a row: 2 for a marker, 0 for a place that is always 0, 1 for a bit
unfoldable pub kinds : List Part → List ℕ
kinds [] = []
kinds (mark ∷ ps) = 2 ∷ kinds ps
kinds (blank ∷ ps) = 0 ∷ kinds ps
kinds (high n ∷ ps) = replicate n 1 ++ kinds ps

-- whether a symbol is of a kind
unfoldable pub is_kind : ℕ → ℕ → Bool
is_kind k x = pick (eqb k 1) (leb x 1) (eqb x k)

-- whether the symbols of a row are of these kinds, one by one
unfoldable pub each : List ℕ → List ℕ → Bool
each [] [] = true
each [] (x ∷ s) = false
each (k ∷ ks) [] = false
each (k ∷ ks) (x ∷ s) = is_kind k x && each ks s

-- ---- parts and kinds

moved : (l b a f : Bool) → (l && (b && a) && f) ≡ (b && (l && a && f))
moved true true a f = refl
moved true false a f = refl
moved false true a f = refl
moved false false a f = refl

less : (n m : ℕ) → leb (suc n) (suc m) ≡ leb n m
less n m = go (leb n m) refl
  where
    go : (b : Bool) → leb n m ≡ b → leb (suc n) (suc m) ≡ b
    go true h = le-leb (suc n) (suc m) (omega (arith, leb-true n m h))
    go false h = lt-leb (suc n) (suc m) (omega (arith, leb-false n m h))

-- n bits, and a rest whose kinds are known
bits_each : (n : ℕ) (s ks : List ℕ) (f : List ℕ → Bool) → ((t : List ℕ) → f t ≡ each ks t)
    → (leb n (length s) && all is_bit (take n s) && f (drop n s)) ≡ each (replicate n 1 ++ ks) s
unfolding each is_kind
bits_each zero s ks f h = rw (le-leb 0 (length s) (omega arith)) (h s)
bits_each (suc n) [] ks f h = rw (lt-leb (suc n) 0 (omega arith))
bits_each (suc n) (x ∷ s) ks f h =
    rw (less n (length s)) (moved (leb n (length s)) (leb x 1) (all is_bit (take n s)) (f (drop n s)) ∙ ap (λ (b : Bool). leb x 1 && b) (bits_each n s ks f h))

pub fits_each : (ps : List Part) (s : List ℕ) → fits ps s ≡ each (kinds ps) s
unfolding fits kinds each is_kind
fits_each [] [] = refl
fits_each [] (x ∷ s) = ne_eqb (suc (length s)) 0 (λ e. omega arith)
fits_each (mark ∷ ps) [] = refl
fits_each (mark ∷ ps) (x ∷ s) = ap (λ (b : Bool). eqb x 2 && b) (fits_each ps s)
fits_each (blank ∷ ps) [] = refl
fits_each (blank ∷ ps) (x ∷ s) = rw (le-leb 1 (suc (length s)) (omega arith)) (ap (λ (b : Bool). eqb x 0 && b) (fits_each ps s))
fits_each (high n ∷ ps) s = bits_each n s (kinds ps) (fits ps) (fits_each ps)

-- ---- kinds, place by place

abbrev pub EachAt : List ℕ → List ℕ → Type 0
EachAt ks s = (length s ≡ length ks) × ((i : ℕ) → i < length s → is_kind (get_or ks i 0) (get_or s i 0) ≡ true)

pub each_at : (ks s : List ℕ) → each ks s ≡ true → EachAt ks s
unfolding each
each_at [] [] h = (refl, λ i l. absurd (omega arith))
each_at [] (x ∷ s) h = absurd (false≢true h)
each_at (k ∷ ks) [] h = absurd (false≢true h)
each_at (k ∷ ks) (x ∷ s) h =
    let b = both_true (is_kind k x) (each ks s) h in
    let r = each_at ks s b.1 in
    (ap suc r.0, at b.0 r.1)
  where
    at : is_kind k x ≡ true → ((i : ℕ) → i < length s → is_kind (get_or ks i 0) (get_or s i 0) ≡ true)
        → (i : ℕ) → i < suc (length s) → is_kind (get_or (k ∷ ks) i 0) (get_or (x ∷ s) i 0) ≡ true
    at p q zero l = p
    at p q (suc i) l = q i (omega arith)

pub at_each : (ks s : List ℕ) → EachAt ks s → each ks s ≡ true
unfolding each
at_each [] [] h = refl
at_each [] (x ∷ s) h = absurd (omega (arith, h.0))
at_each (k ∷ ks) [] h = absurd (omega (arith, h.0))
at_each (k ∷ ks) (x ∷ s) h = and-true (h.1 0 (omega arith)) (at_each ks s (omega (arith, h.0), λ i l. h.1 (suc i) (omega arith)))
