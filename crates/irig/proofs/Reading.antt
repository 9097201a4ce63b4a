-- Question 21 of reading, step by step.
-- Assumes nothing.
use Prim.Native.Nat.{ℕ}
use mathlib.Core.Bool.{Bool, true, false, and-false}
use mathlib.Core.List.{List, [], ◌∷◌}
use mathlib.Core.Path.{◌≡◌, sym, ap, ◌∙◌}
use lib.Dec.{eqb}
use lib.ListN.{length}
use borrow.Author.Tests.{ne_eqb}
use Rattle.bits.specs.Bits.{distance}
use Rattle.bits.specs.Numbers.{found, refused}
use Rattle.bits.proofs.Distance.{distance_none}
use Rattle.questions.specs.Questions.{asked}
use Rattle.irig_rules.specs.declared.Clock.{Clock}
use Rattle.irig_rules.specs.Irig.{element_count, second_of_day, elements_of}
use Rattle.irig_rules.specs.Reading.{clock_in, real_clock, consistent, read_questions, read_irig}
use Rattle.irig_rules.proofs.Shown.{length-elements}

module _ (e : List ℕ) where
  -- a row of another length is not that of the time that it shows
  other : (length e ≡ element_count → ⊥) → consistent e ≡ false
  unfolding consistent
  other h =
      ne_eqb (distance e (elements_of (clock_in e))) 0
      (λ d. h (ap length (distance_none e (elements_of (clock_in e)) d) ∙ length-elements (clock_in e)))

  pub other_length : (length e ≡ element_count → ⊥) → refused 21 ≡ read_irig e
  unfolding read_irig read_questions asked
  other_length h = rw (other h, and-false (real_clock (clock_in e)))

  module _ (c : Clock) (shown : c ≡ clock_in e) where
    pub not-real : real_clock c ≡ false → refused 21 ≡ read_irig e
    unfolding read_irig read_questions asked
    not-real h = rw (ap real_clock (sym shown) ∙ h)

    module _ (h : real_clock c ≡ true) where
      consistent-is : (t : Bool) → t ≡ eqb (distance e (elements_of c)) 0 → consistent e ≡ t
      unfolding consistent
      consistent-is t g = ap (λ (k : Clock). eqb (distance e (elements_of k)) 0) (sym shown) ∙ sym g

      pub not-row : false ≡ eqb (distance e (elements_of c)) 0 → refused 21 ≡ read_irig e
      unfolding read_irig read_questions asked
      not-row g = rw (ap real_clock (sym shown) ∙ h, consistent-is false g)

      pub is_row : true ≡ eqb (distance e (elements_of c)) 0 → found (c.day ∷ second_of_day c ∷ []) ≡ read_irig e
      unfolding read_irig read_questions asked
      is_row g = rw (ap real_clock (sym shown) ∙ h, consistent-is true g) (ap (λ (k : Clock). found (k.day ∷ second_of_day k ∷ [])) shown)
