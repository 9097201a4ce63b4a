-- What the questions of reading and of writing decide, and the buffer after writing.
-- Assumes nothing.
use Prim.Native.Nat.{ℕ, ◌≤◌, ◌<◌}
use mathlib.Core.Bool.{true, false}
use mathlib.Core.List.{List, ◌++◌}
use mathlib.Core.Logic.Iff
use mathlib.Core.Logic.{inl, inr, ◌↔◌}
use mathlib.Core.Path.{◌≡◌, refl, ap, ◌∙◌}
use native.Mathlib.Omega.{arith}
use lib.Dec.{leb, eqb}
use lib.IntN.{ℤ}
use lib.ListN.{length, take, drop, length-append, length-drop}
use lib.Seq.{take_at, drop_at}
use borrow.Author.Tests.{le-leb, lt-leb, leb-true, leb-false, ne_eqb}
use Rattle.questions.specs.Questions.{AllYes, FirstNo, numbers_of, one_of}
use Rattle.questions.proofs.Laws.{accepted-when, refused-when, answers-in, listed}
use Rattle.calendar.specs.Calendar.{minute_count, max_minute}
use Rattle.calendar.proofs.Answers.{values-when, number-alone-when, no_other}
use Rattle.plan.specs.Plan.{length_at}
use Rattle.messages.specs.Message.{Schedule, legal_schedule}
use Rattle.messages.proofs.Schedules.{plan-legal}
use Rattle.amplitude_rules.specs.declared.Values.{Values}
use Rattle.amplitude_rules.specs.Amplitude.{legal_ut1, symbols}
use Rattle.amplitude_rules.specs.Reading.{layout_fits, values_in, fields_fit, read_questions, refused, accepted, read_amplitude}
use Rattle.amplitude_rules.specs.Writing.{values_at, write_questions, write_amplitude, symbols_written}
use Rattle.amplitude_rules.specs.Theorems.{AmplitudeReadOrder, AmplitudeReadAccepted, AmplitudeReadRefused, AmplitudeReadAnswers}
use Rattle.amplitude_rules.specs.Theorems.{AmplitudeReadFacts, AmplitudeWriteOrder, AmplitudeWriteAccepted, AmplitudeWriteRefused}
use Rattle.amplitude_rules.specs.Theorems.{AmplitudeWriteAnswers, AmplitudeWriteFacts, AmplitudeDone, AmplitudeWriteDone}
use Rattle.amplitude_rules.specs.Theorems.{AmplitudeWriteUndone, SameSymbols, write_refusals}
use Rattle.amplitude_rules.proofs.Facts.{Legal}
use Rattle.amplitude_rules.proofs.ReadBack.{length-of}
use Rattle.amplitude_rules.proofs.Exact.{not-refused}
use Rattle.amplitude_rules.proofs.Sent.{values-legal, sent-reads}

-- ---- reading

same_number : (n m : ℕ) → refused n ≡ refused m → n ≡ m
same_number n m e = cc

pub read-order : AmplitudeReadOrder
unfolding numbers_of read_questions
read-order s = refl

pub read-accepted : AmplitudeReadAccepted
unfolding read_amplitude
read-accepted s = accepted-when refused (accepted (values_in s)) (read_questions s) (λ n p e. not-refused n (values_in s) e)

pub read-refused : AmplitudeReadRefused
unfolding read_amplitude
read-refused s n = refused-when refused (accepted (values_in s)) (read_questions s) same_number n (not-refused n (values_in s))

pub read-answers : AmplitudeReadAnswers
unfolding read_amplitude
read-answers s = rw (read-order s) at (answers-in refused (accepted (values_in s)) (read_questions s))

-- ---- writing

pub write-order : AmplitudeWriteOrder
unfolding numbers_of write_questions
write-order p t sign tenths space = refl

pub write-accepted : AmplitudeWriteAccepted
unfolding write_amplitude
write-accepted p t sign tenths space = values-when (write_questions p t sign tenths space) _ _

pub write-refused : AmplitudeWriteRefused
unfolding write_amplitude
write-refused p t sign tenths space = number-alone-when (write_questions p t sign tenths space) _ _

pub write-answers : AmplitudeWriteAnswers
unfolding write_amplitude
write-answers p t sign tenths space = no_other (write_questions p t sign tenths space) _ _ _ (write-order p t sign tenths space)

-- ---- the same without the lists

seventeen : (s : List ℕ) → FirstNo (read_questions s) 17 ↔ (layout_fits s ≡ false)
unfolding read_questions
seventeen s = (there, λ h. inl (refl, h))
  where
    there : FirstNo (read_questions s) 17 → layout_fits s ≡ false
    there (inl h) = h.1
    there (inr (h, inl k)) = absurd (omega (arith, k.0))
    there (inr (h, inr k)) = absurd k.1

eighteen : (s : List ℕ) → FirstNo (read_questions s) 18 ↔ ((layout_fits s ≡ true) × (fields_fit s ≡ false))
unfolding read_questions
eighteen s = (there, λ h. inr (h.0, inl (refl, h.1)))
  where
    there : FirstNo (read_questions s) 18 → (layout_fits s ≡ true) × (fields_fit s ≡ false)
    there (inl h) = absurd (omega (arith, h.0))
    there (inr (h, inl k)) = (h, k.1)
    there (inr (h, inr k)) = absurd k.1

pub amplitude-read-facts : AmplitudeReadFacts
amplitude-read-facts =
    record {
      symbols17 = λ s. Iff.trans (read-refused s 17) (seventeen s);
      values18 = λ s. Iff.trans (read-refused s 18) (eighteen s);
    }

module _ (p : Schedule) (t : ℕ) (sign : ℤ) (tenths space : ℕ) where
  abbrev First : ℕ → Type 0
  First k = FirstNo (write_questions p t sign tenths space) k

  early : t < minute_count → leb t max_minute ≡ true
  early h = le-leb t max_minute (omega arith)

  is-early : leb t max_minute ≡ true → t < minute_count
  is-early h = omega (arith, leb-true t max_minute h)

  one : First 1 ↔ (legal_schedule p ≡ false)
  unfolding write_questions
  one = (there, λ h. inl (refl, h))
    where
      there : First 1 → legal_schedule p ≡ false
      there (inl h) = h.1
      there (inr (a, inl h)) = absurd (omega (arith, h.0))
      there (inr (a, inr (b, inl h))) = absurd (omega (arith, h.0))
      there (inr (a, inr (b, inr (c, inl h)))) = absurd (omega (arith, h.0))
      there (inr (a, inr (b, inr (c, inr h)))) = absurd h.1

  three : First 3 ↔ ((legal_schedule p ≡ true) × (minute_count ≤ t))
  unfolding write_questions
  three = (there, λ h. inr (h.0, inl (refl, lt-leb t max_minute (omega (arith, h.1)))))
    where
      there : First 3 → (legal_schedule p ≡ true) × (minute_count ≤ t)
      there (inl h) = absurd (omega (arith, h.0))
      there (inr (a, inl h)) = (a, omega (arith, leb-false t max_minute h.1))
      there (inr (a, inr (b, inl h))) = absurd (omega (arith, h.0))
      there (inr (a, inr (b, inr (c, inl h)))) = absurd (omega (arith, h.0))
      there (inr (a, inr (b, inr (c, inr h)))) = absurd h.1

  ut1 : First 18 ↔ ((legal_schedule p ≡ true) × (t < minute_count) × (legal_ut1 sign tenths ≡ false))
  unfolding write_questions
  ut1 = (there, λ h. inr (h.0, inr (early h.1, inl (refl, h.2))))
    where
      there : First 18 → (legal_schedule p ≡ true) × (t < minute_count) × (legal_ut1 sign tenths ≡ false)
      there (inl h) = absurd (omega (arith, h.0))
      there (inr (a, inl h)) = absurd (omega (arith, h.0))
      there (inr (a, inr (b, inl h))) = (a, is-early b, h.1)
      there (inr (a, inr (b, inr (c, inl h)))) = absurd (omega (arith, h.0))
      there (inr (a, inr (b, inr (c, inr h)))) = absurd h.1

  four : First 4 ↔ ((legal_schedule p ≡ true) × (t < minute_count) × (legal_ut1 sign tenths ≡ true) × (space < length_at p.plan t))
  unfolding write_questions
  four = (there, λ h. inr (h.0, inr (early h.1, inr (h.2, inl (refl, lt-leb (length_at p.plan t) space h.3)))))
    where
      there : First 4 → (legal_schedule p ≡ true) × (t < minute_count) × (legal_ut1 sign tenths ≡ true) × (space < length_at p.plan t)
      there (inl h) = absurd (omega (arith, h.0))
      there (inr (a, inl h)) = absurd (omega (arith, h.0))
      there (inr (a, inr (b, inl h))) = absurd (omega (arith, h.0))
      there (inr (a, inr (b, inr (c, inl h)))) = (a, is-early b, c, leb-false (length_at p.plan t) space h.1)
      there (inr (a, inr (b, inr (c, inr h)))) = absurd h.1

pub amplitude-write-facts : AmplitudeWriteFacts
amplitude-write-facts p t sign tenths space =
    record {
      plan1 = Iff.trans (write-refused p t sign tenths space 1) (one p t sign tenths space);
      minute3 = Iff.trans (write-refused p t sign tenths space 3) (three p t sign tenths space);
      ut1-18 = Iff.trans (write-refused p t sign tenths space 18) (ut1 p t sign tenths space);
      space4 = Iff.trans (write-refused p t sign tenths space 4) (four p t sign tenths space);
    }

-- ---- the buffer after writing

module _ (p : Schedule) (t : ℕ) (sign : ℤ) (tenths : ℕ) (buffer : List ℕ) where
  abbrev n : ℕ
  n = length_at p.plan t

  abbrev r : Values
  r = values_at p.plan t sign tenths

  abbrev after : List ℕ
  after = symbols_written p t sign tenths buffer

  -- every question is answered yes
  module _ (yes : AllYes (write_questions p t sign tenths (length buffer))) where
    fits : Legal r
    unfolding write_questions
    fits = values-legal p.plan t sign tenths (omega (arith, leb-true t max_minute yes.1.0)) yes.1.1.0

    room : n ≤ length buffer
    unfolding write_questions
    room = leb-true n (length buffer) yes.1.1.1.0

    symbols-length : length (symbols r) ≡ n
    unfolding values_at
    symbols-length = length-of r fits

    pub buffer-done : after ≡ symbols r ++ drop n buffer
    unfolding symbols_written
    buffer-done = rw ((write-accepted p t sign tenths (length buffer)).1 yes)

    front : take n after ≡ symbols r
    front = rw buffer-done (take_at (symbols r) (drop n buffer) n symbols-length)

    reads : read_amplitude (symbols r) ≡ accepted r
    unfolding write_questions
    reads = sent-reads p.plan t sign tenths (plan-legal p yes.0) (omega (arith, leb-true t max_minute yes.1.0)) yes.1.1.0

    done : AmplitudeDone p t sign tenths buffer
    done =
        record {
          written = front;
          rest = rw buffer-done (drop_at (symbols r) (drop n buffer) n symbols-length);
          length = ap length buffer-done ∙ length-append (symbols r) (drop n buffer) ∙ omega (arith, symbols-length, length-drop n buffer, room);
          read = ap read_amplitude front ∙ reads;
        }

  -- the numbers of the questions are above 0
  above : (k : ℕ) → FirstNo (write_questions p t sign tenths (length buffer)) k → eqb k 0 ≡ false
  unfolding one_of
  above k first = go k (rw (write-order p t sign tenths (length buffer)) at (listed (write_questions p t sign tenths (length buffer)) k first))
    where
      go : (k : ℕ) → one_of write_refusals k ≡ true → eqb k 0 ≡ false
      go k h = ne_eqb k 0 (λ e. absurd (let z : false ≡ true = rw e at h in let w : ◌≡◌ {A = ℕ} 0 1 = cc in omega arith))

  undone : (k : ℕ) → FirstNo (write_questions p t sign tenths (length buffer)) k → after ≡ buffer
  unfolding symbols_written
  undone k first = rw ((write-refused p t sign tenths (length buffer) k).1 first, above k first)

pub write_done : AmplitudeWriteDone
write_done = done

pub write-undone : AmplitudeWriteUndone
write-undone = undone

-- ---- plans that differ in messages alone

module _ (p q : Schedule) (t : ℕ) (sign : ℤ) (tenths : ℕ) (buffer : List ℕ) (lp : legal_schedule p ≡ true) (lq : legal_schedule q ≡ true) (e : p.plan ≡ q.plan) where
  same-answers : write_amplitude p t sign tenths (length buffer) ≡ write_amplitude q t sign tenths (length buffer)
  unfolding write_amplitude write_questions
  same-answers = rw (lp, lq, e)

  same-buffers : symbols_written p t sign tenths buffer ≡ symbols_written q t sign tenths buffer
  unfolding symbols_written
  same-buffers = rw (same-answers, e)

pub same-symbols : SameSymbols
same-symbols p q t sign tenths buffer lp lq e = (same-answers p q t sign tenths buffer lp lq e, same-buffers p q t sign tenths buffer lp lq e)
