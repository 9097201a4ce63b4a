-- The number of places at which two rows differ, place by place.
-- Assumes nothing.
use Prim.Native.Nat.{ℕ, ◌+◌, ◌<◌}
use mathlib.Core.List.{List}
use mathlib.Core.Path.{◌≡◌, ◌∙◌}
use native.Mathlib.Numerals.{add-one}
use native.Mathlib.Omega.{arith}
use lib.Dec.{eqb}
use lib.ListN.{length, drop, get_or, drop_of_length-le}
use lib.Seq.{drop-cons}
use borrow.Author.Tests.{eq-eqb, ne_eqb}
use Rattle.bits.specs.Bits.{pick, distance}

-- from place i on
module _ (a b : List ℕ) (i : ℕ) where
  abbrev left : ℕ → ℕ
  left k = distance (drop k a) (drop k b)

  distance-drop : i < length a → i < length b → left i ≡ pick (eqb (get_or a i 0) (get_or b i 0)) 0 1 + left (i + 1)
  unfolding distance
  distance-drop h l = rw (add-one i, drop-cons a i 0 h, drop-cons b i 0 l)

  pub same_place : i < length a → i < length b → get_or a i 0 ≡ get_or b i 0 → left i ≡ left (i + 1)
  same_place h l e = distance-drop h l ∙ rw (eq-eqb _ _ e) (omega arith)

  pub other_place : i < length a → i < length b → (get_or a i 0 ≡ get_or b i 0 → ⊥) → left i ≡ left (i + 1) + 1
  other_place h l e = distance-drop h l ∙ rw (ne_eqb _ _ e) (omega arith)

  pub no_place : length a ≡ i → length b ≡ i → left i ≡ 0
  unfolding distance
  no_place h l = rw (drop_of_length-le a {i = i} (omega arith), drop_of_length-le b {i = i} (omega arith))
