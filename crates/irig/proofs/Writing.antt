-- The questions of writing, one by one: the answer and the buffer that each gives.
-- Assumes nothing.
use Prim.Native.Nat.{ℕ, ◌≤◌, ◌<◌}
use mathlib.Core.Bool.{true, false}
use mathlib.Core.List.{List, [], ◌∷◌, ◌++◌}
use mathlib.Core.Logic.{inl, inr}
use mathlib.Core.Path.{◌≡◌, refl, sym, ap, ◌∙◌}
use native.Mathlib.Omega.{arith}
use lib.ListN.{length, drop}
use borrow.Author.Tests.{le-leb, lt-leb, lt-ltb, le-ltb}
use Rattle.bits.specs.Numbers.{found, refused}
use Rattle.questions.specs.Questions.{AllYes, FirstNo}
use Rattle.calendar.specs.Calendar.{minute_count, max_minute}
use Rattle.plan.specs.Plan.{length_at}
use Rattle.messages.specs.Message.{Schedule, legal_schedule}
use Rattle.irig_rules.specs.declared.Clock.{Clock}
use Rattle.irig_rules.specs.Irig.{element_count, elements_of, clock_at}
use Rattle.irig_rules.specs.Writing.{write_questions, write_irig, elements_written}
use Rattle.irig_rules.proofs.Refusals.{write-accepted, write-refused, write-undone, buffer-done}

module _ (p : Schedule) (t x : ℕ) (buffer : List ℕ) where
  abbrev Refused : ℕ → Type 0
  Refused k = (refused k ≡ write_irig p t x (length buffer)) × (buffer ≡ elements_written p t x buffer)

  first : (k : ℕ) → FirstNo (write_questions p t x (length buffer)) k → Refused k
  first k h = (sym ((write-refused p t x (length buffer) k).1 h), sym (write-undone p t x buffer k h))

  pub no-1 : legal_schedule p ≡ false → Refused 1
  unfolding write_questions
  no-1 h = first 1 (inl (refl, h))

  module _ (q1 : legal_schedule p ≡ true) where
    pub no-3 : minute_count ≤ t → Refused 3
    unfolding write_questions
    no-3 h = first 3 (inr (q1, inl (refl, lt-leb t max_minute (omega arith))))

    module _ (q3 : t < minute_count) where
      pub no-21 : length_at p.plan t ≤ x → Refused 21
      unfolding write_questions
      no-21 h = first 21 (inr (q1, inr (le-leb t max_minute (omega arith), inl (refl, le-ltb x (length_at p.plan t) h))))

      module _ (q21 : x < length_at p.plan t) where
        pub no-4 : length buffer < element_count → Refused 4
        unfolding write_questions
        no-4 h =
            first 4
            (inr (q1, inr (le-leb t max_minute (omega arith), inr (lt-ltb x (length_at p.plan t) q21, inl (refl, lt-leb element_count (length buffer) h)))))

        module _ (h : element_count ≤ length buffer) where
          yes : AllYes (write_questions p t x (length buffer))
          unfolding write_questions
          yes = (q1, (le-leb t max_minute (omega arith), (lt-ltb x (length_at p.plan t) q21, (le-leb element_count (length buffer) h, tt))))

          pub all_yes : (c : Clock) (after : List ℕ) → c ≡ clock_at t x → after ≡ elements_of c ++ drop element_count buffer
              → (found (element_count ∷ []) ≡ write_irig p t x (length buffer)) × (after ≡ elements_written p t x buffer)
          all_yes c after e a = (
            sym ((write-accepted p t x (length buffer)).1 yes),
            a ∙ ap (λ (k : Clock). elements_of k ++ drop element_count buffer) e ∙ sym (buffer-done p t x buffer yes),
          )
