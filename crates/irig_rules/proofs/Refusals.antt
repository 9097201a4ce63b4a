-- What the questions of reading and of writing decide, and the buffer after writing.
-- Assumes nothing.
use Prim.Native.Nat.{ℕ, ◌≤◌, ◌<◌}
use mathlib.Core.Bool.{Bool, true, false, false≢true}
use mathlib.Core.List.{List, [], ◌∷◌, ◌++◌}
use mathlib.Core.Logic.Iff
use mathlib.Core.Logic.{inl, inr, ◌↔◌}
use mathlib.Core.Path.{◌≡◌, refl, sym, ap, ◌∙◌}
use native.Mathlib.Omega.{arith}
use lib.Dec.{leb, ltb, eqb}
use lib.ListN.{length, take, drop, length-append, length-drop}
use lib.Seq.{take_at, drop_at}
use borrow.Author.Tests.{lt-ltb, le-ltb, ltb-true, ltb-false, le-leb, lt-leb, leb-true, leb-false, eq-eqb, ne_eqb}
use Rattle.bits.specs.Bits.{pick}
use Rattle.questions.specs.Questions.{Question, AllYes, FirstNo, numbers_of, one_of}
use Rattle.questions.proofs.Laws.{listed}
use Rattle.calendar.specs.Calendar.{minute_count, max_minute}
use Rattle.calendar.proofs.Answers.{values-when, number-alone-when, no_other}
use Rattle.plan.specs.Plan.{length_at}
use Rattle.messages.specs.Message.{Schedule, legal_schedule}
use Rattle.irig_rules.specs.Irig.{element_count, clock_at, elements}
use Rattle.irig_rules.specs.Reading.{read_questions, read_irig}
use Rattle.irig_rules.specs.Writing.{write_questions, write_irig, elements_written}
use Rattle.irig_rules.specs.Theorems.{Gives, IrigReadOrder, IrigReadAccepted, IrigReadRefused, IrigReadAnswers, IrigWriteOrder, IrigWriteAccepted}
use Rattle.irig_rules.specs.Theorems.{IrigWriteRefused, IrigWriteAnswers, IrigWriteFacts, IrigDone, IrigWriteDone, IrigWriteUndone}
use Rattle.irig_rules.proofs.Shown.{length-elements}
use Rattle.irig_rules.proofs.Given.{reads-back}

-- ---- reading

pub read-order : IrigReadOrder
unfolding numbers_of read_questions
read-order e = refl

pub read-accepted : IrigReadAccepted
unfolding read_irig
read-accepted e = values-when (read_questions e) _ _

pub read-refused : IrigReadRefused
unfolding read_irig
read-refused e = number-alone-when (read_questions e) _ _

pub read-answers : IrigReadAnswers
unfolding read_irig
read-answers e = no_other (read_questions e) _ _ _ (read-order e)

-- ---- writing

pub write-order : IrigWriteOrder
unfolding numbers_of write_questions
write-order p t x space = refl

pub write-accepted : IrigWriteAccepted
unfolding write_irig
write-accepted p t x space = values-when (write_questions p t x space) _ _

pub write-refused : IrigWriteRefused
unfolding write_irig
write-refused p t x space = number-alone-when (write_questions p t x space) _ _

pub write-answers : IrigWriteAnswers
unfolding write_irig
write-answers p t x space = no_other (write_questions p t x space) _ _ _ (write-order p t x space)

-- ---- the same without the list

-- a question whose number no other question of the list has is the first no exactly when those before it are answered yes and it is not
module _ (n : ℕ) (b : Bool) (after : List Question) (once : one_of (numbers_of after) n ≡ false) where
  not_listed : (qs : List Question) → one_of (numbers_of qs) n ≡ false → FirstNo qs n → ⊥
  not_listed qs h f = false≢true (sym h ∙ listed qs n f)

  others : (k : ℕ) (ks : List ℕ) → one_of (k ∷ ks) n ≡ false → one_of ks n ≡ false
  unfolding one_of
  others k ks = go (eqb k n)
    where
      go : (t : Bool) → pick t true (one_of ks n) ≡ false → one_of ks n ≡ false
      go true h = absurd (false≢true (sym h))
      go false h = h

  there : (qs : List Question) → one_of (numbers_of qs) n ≡ false → FirstNo (qs ++ (n, b) ∷ after) n → AllYes qs × (b ≡ false)
  unfolding numbers_of
  there [] h (inl f) = (tt, f.1)
  there [] h (inr f) = absurd (not_listed after once f.1)
  there (q ∷ qs) h (inl f) = absurd (false≢true (sym h ∙ unfold one_of in rw (eq-eqb q.0 n f.0)))
  there (q ∷ qs) h (inr f) = let r = there qs (others q.0 (numbers_of qs) h) f.1 in ((f.0, r.0), r.1)

  here : (qs : List Question) → AllYes qs × (b ≡ false) → FirstNo (qs ++ (n, b) ∷ after) n
  here [] a = inl (refl, a.1)
  here (q ∷ qs) a = inr (a.0.0, here qs (a.0.1, a.1))

  first-at : (qs : List Question) → one_of (numbers_of qs) n ≡ false → FirstNo (qs ++ (n, b) ∷ after) n ↔ (AllYes qs × (b ≡ false))
  first-at qs h = (there qs h, here qs)

module _ (p : Schedule) (t x space : ℕ) where
  abbrev q1 : Question
  q1 = (1, legal_schedule p)

  abbrev q3 : Question
  q3 = (3, leb t max_minute)

  abbrev q21 : Question
  q21 = (21, ltb x (length_at p.plan t))

  abbrev q4 : Question
  q4 = (4, leb element_count space)

  abbrev First : ℕ → Type 0
  First k = FirstNo (write_questions p t x space) k

  early : t < minute_count → leb t max_minute ≡ true
  early h = le-leb t max_minute (omega arith)

  is-early : leb t max_minute ≡ true → t < minute_count
  is-early h = omega (arith, leb-true t max_minute h)

  one : First 1 ↔ (legal_schedule p ≡ false)
  unfolding write_questions numbers_of one_of
  one = let f = first-at 1 q1.1 (q3 ∷ q21 ∷ q4 ∷ []) refl [] refl in ((λ h. (f.0 h).1), λ h. f.1 (tt, h))

  three : First 3 ↔ ((legal_schedule p ≡ true) × (minute_count ≤ t))
  unfolding write_questions numbers_of one_of
  three =
      let f = first-at 3 q3.1 (q21 ∷ q4 ∷ []) refl (q1 ∷ []) refl in (
        (λ h. ((f.0 h).0.0, omega (arith, leb-false t max_minute (f.0 h).1))),
        λ h. f.1 ((h.0, tt), lt-leb t max_minute (omega (arith, h.1))),
      )

  twenty-one : First 21 ↔ ((legal_schedule p ≡ true) × (t < minute_count) × (length_at p.plan t ≤ x))
  unfolding write_questions numbers_of one_of
  twenty-one =
      let f = first-at 21 q21.1 (q4 ∷ []) refl (q1 ∷ q3 ∷ []) refl in (
        (λ h. ((f.0 h).0.0, is-early (f.0 h).0.1.0, ltb-false x (length_at p.plan t) (f.0 h).1)),
        λ h. f.1 ((h.0, (early h.1, tt)), le-ltb x (length_at p.plan t) h.2),
      )

  four : First 4 ↔ ((legal_schedule p ≡ true) × (t < minute_count) × (x < length_at p.plan t) × (space < 100))
  unfolding write_questions numbers_of one_of
  four =
      let f = first-at 4 q4.1 [] refl (q1 ∷ q3 ∷ q21 ∷ []) refl in (
        (λ h. ((f.0 h).0.0, is-early (f.0 h).0.1.0, ltb-true x (length_at p.plan t) (f.0 h).0.1.1.0, leb-false 100 space (f.0 h).1)),
        λ h. f.1 ((h.0, (early h.1, (lt-ltb x (length_at p.plan t) h.2, tt))), lt-leb 100 space h.3),
      )

pub write-facts : IrigWriteFacts
write-facts p t x space =
    record {
      plan1 = Iff.trans (write-refused p t x space 1) (one p t x space);
      minute3 = Iff.trans (write-refused p t x space 3) (three p t x space);
      second21 = Iff.trans (write-refused p t x space 21) (twenty-one p t x space);
      space4 = Iff.trans (write-refused p t x space 4) (four p t x space);
    }

-- ---- the buffer after writing

module _ (p : Schedule) (t x : ℕ) (buffer : List ℕ) where
  abbrev written : List ℕ
  written = elements_written p t x buffer

  abbrev l : List ℕ
  l = elements t x

  -- every question is answered yes
  module _ (yes : AllYes (write_questions p t x (length buffer))) where
    pub buffer-done : written ≡ l ++ drop element_count buffer
    unfolding elements_written
    buffer-done = rw ((write-accepted p t x (length buffer)).1 yes)

    room : 100 ≤ length buffer
    unfolding write_questions
    room = leb-true 100 (length buffer) yes.1.1.1.0

    given : Gives l p t x
    unfolding write_questions
    given = (yes.0, omega (arith, leb-true t max_minute yes.1.0), ltb-true x (length_at p.plan t) yes.1.1.0, refl)

    front : take element_count written ≡ l
    front = rw buffer-done (take_at l (drop element_count buffer) element_count (length-elements (clock_at t x)))

    done : IrigDone p t x buffer
    done =
        record {
          written = front;
          rest = rw buffer-done (drop_at l (drop element_count buffer) element_count (length-elements (clock_at t x)));
          length =
              ap length buffer-done ∙ length-append l (drop element_count buffer)
              ∙ omega (arith, length-elements (clock_at t x), length-drop element_count buffer, room);
          read = ap read_irig front ∙ reads-back l p t x given;
        }

  -- the numbers of the questions are above 0
  above : (k : ℕ) → FirstNo (write_questions p t x (length buffer)) k → eqb k 0 ≡ false
  unfolding one_of
  above k f = ne_eqb k 0 (λ e. false≢true (rw e at (rw (write-order p t x (length buffer)) at (listed (write_questions p t x (length buffer)) k f))))

  undone : (k : ℕ) → FirstNo (write_questions p t x (length buffer)) k → written ≡ buffer
  unfolding elements_written
  undone k f = rw ((write-refused p t x (length buffer) k).1 f, above k f)

pub write_done : IrigWriteDone
write_done = done

pub write-undone : IrigWriteUndone
write-undone = undone
