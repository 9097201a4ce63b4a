-- The questions of writing, one by one: the answer and the buffer that each gives.
-- Assumes nothing.
use Prim.Native.Nat.{ℕ, ◌≤◌, ◌<◌}
use mathlib.Core.Bool.{true, false}
use mathlib.Core.List.{List, [], ◌∷◌, ◌++◌}
use mathlib.Core.Logic.{inl, inr}
use mathlib.Core.Path.{◌≡◌, refl, sym, ap, ◌∙◌}
use native.Mathlib.Omega.{arith}
use lib.IntN.{ℤ}
use lib.ListN.{length, drop}
use borrow.Author.Tests.{le-leb, lt-leb}
use Rattle.bits.specs.Numbers.{found, refused}
use Rattle.questions.specs.Questions.{AllYes, FirstNo}
use Rattle.calendar.specs.Calendar.{minute_count, max_minute}
use Rattle.plan.specs.Plan.{length_at}
use Rattle.messages.specs.Message.{Schedule, legal_schedule}
use Rattle.amplitude_rules.specs.declared.Values.{Values}
use Rattle.amplitude_rules.specs.Amplitude.{legal_ut1, symbols}
use Rattle.amplitude_rules.specs.Writing.{values_at, write_questions, write_amplitude, symbols_written}
use Rattle.amplitude_rules.proofs.Refusals.{write-accepted, write-refused, write-undone, buffer-done}

module _ (p : Schedule) (t : ℕ) (sign : ℤ) (tenths : ℕ) (buffer : List ℕ) where
  abbrev Refused : ℕ → Type 0
  Refused k = (refused k ≡ write_amplitude p t sign tenths (length buffer)) × (buffer ≡ symbols_written p t sign tenths buffer)

  first : (k : ℕ) → FirstNo (write_questions p t sign tenths (length buffer)) k → Refused k
  first k h = (sym ((write-refused p t sign tenths (length buffer) k).1 h), sym (write-undone p t sign tenths buffer k h))

  pub no-1 : legal_schedule p ≡ false → Refused 1
  unfolding write_questions
  no-1 h = first 1 (inl (refl, h))

  module _ (q1 : legal_schedule p ≡ true) where
    pub no-3 : minute_count ≤ t → Refused 3
    unfolding write_questions
    no-3 h = first 3 (inr (q1, inl (refl, lt-leb t max_minute (omega arith))))

    module _ (q3 : t < minute_count) where
      pub no-18 : legal_ut1 sign tenths ≡ false → Refused 18
      unfolding write_questions
      no-18 h = first 18 (inr (q1, inr (le-leb t max_minute (omega arith), inl (refl, h))))

      module _ (q18 : legal_ut1 sign tenths ≡ true) (r : Values) (e : r ≡ values_at p.plan t sign tenths) where
        seconds-are : r.seconds ≡ length_at p.plan t
        unfolding values_at
        seconds-are = ap (λ (q : Values). q.seconds) e

        pub no-4 : length buffer < r.seconds → Refused 4
        unfolding write_questions
        no-4 h = first 4 (inr (q1, inr (le-leb t max_minute (omega arith), inr (q18, inl (refl, lt-leb (length_at p.plan t) (length buffer) (omega (arith, seconds-are)))))))

        module _ (h : r.seconds ≤ length buffer) where
          yes : AllYes (write_questions p t sign tenths (length buffer))
          unfolding write_questions
          yes = (q1, (le-leb t max_minute (omega arith), (q18, (le-leb (length_at p.plan t) (length buffer) (omega (arith, seconds-are)), tt))))

          pub all_yes : (after : List ℕ) → after ≡ symbols r ++ drop r.seconds buffer
              → (found (r.seconds ∷ []) ≡ write_amplitude p t sign tenths (length buffer)) × (after ≡ symbols_written p t sign tenths buffer)
          unfolding values_at
          all_yes after a = (
            rw seconds-are (sym ((write-accepted p t sign tenths (length buffer)).1 yes)),
            a ∙ ap (λ (q : Values). symbols q ++ drop q.seconds buffer) e ∙ sym (buffer-done p t sign tenths buffer yes),
          )
