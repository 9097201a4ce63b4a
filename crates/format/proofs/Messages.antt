-- The answers to a message's questions, one by one, and its fields from the first 59 bits as a number.
-- Assumes nothing.
use Prim.Native.Nat.{ℕ, ◌/◌, ◌%◌, ◌^◌, ◌≤◌, ◌<◌}
use mathlib.Core.Bool.{Bool, true, false}
use mathlib.Core.List.{List}
use mathlib.Core.Path.{◌≡◌, refl, sym, ap, ◌∙◌}
use native.Mathlib.Omega.{arith}
use lib.ListN.{take, get_or}
use lib.Seq.{get_or-take}
use borrow.Author.Tests.{le-leb, lt-leb, eq-eqb, ne_eqb, eqb-true}
use Rattle.questions.specs.Questions.{asked}
use Rattle.bits.specs.Bits.{bits, number}
use Rattle.bits.proofs.Parts.{part-take}
use Rattle.calendar.specs.Calendar.{minute_count, max_minute}
use Rattle.format.specs.Frame.{min_frame}
use Rattle.format.specs.Entry.{Entry}
use Rattle.format.specs.Message.{message_sync_word, is_message, data_in}
use Rattle.format.specs.Questions.{question13, question20, message_questions}
use Rattle.format.specs.Next.{refused, entry}
use Rattle.format.specs.declared.Due.TheVariants.{Any, Minute}
use Rattle.format.proofs.Words.{notice-bit}
use Rattle.format.proofs.Questions.{message_answer}

-- ---- each question

pub sync-of : (f : List ℕ) → is_message f ≡ true → number (take 13 f) ≡ message_sync_word
unfolding is_message
sync-of f h = eqb-true (number (take 13 f)) message_sync_word h

pub no-19 : (one : Bool) (f : List ℕ) (e : Entry) → message_answer Any one f e ≡ refused 19
unfolding message_questions asked
no-19 one f e = refl

-- after a frame
module _ (m l : ℕ) (one : Bool) (f : List ℕ) (e : Entry) where
  pub no-20 : question20 (Minute m l) ≡ false → message_answer (Minute m l) one f e ≡ refused 20
  unfolding message_questions asked
  no-20 h = rw h

  module _ (q20 : question20 (Minute m l) ≡ true) where
    pub no-11 : minute_count ≤ e.minute → message_answer (Minute m l) one f e ≡ refused 11
    unfolding message_questions asked
    no-11 h = rw (q20, lt-leb e.minute max_minute (omega arith))

    module _ (q11 : e.minute < minute_count) where
      pub no-13 : question13 one f e ≡ false → message_answer (Minute m l) one f e ≡ refused 13
      unfolding message_questions asked
      no-13 h = rw (q20, le-leb e.minute max_minute (omega arith), h)

      module _ (q13 : question13 one f e ≡ true) where
        pub no-14 : (get_or f 19 0 ≡ e.minute % 2 → ⊥) → message_answer (Minute m l) one f e ≡ refused 14
        unfolding message_questions asked
        no-14 h = rw (q20, le-leb e.minute max_minute (omega arith), q13, ne_eqb (get_or f 19 0) (e.minute % 2) h)

        pub yes-14 : get_or f 19 0 ≡ e.minute % 2 → message_answer (Minute m l) one f e ≡ entry e
        unfolding message_questions asked
        yes-14 h = rw (q20, le-leb e.minute max_minute (omega arith), q13, eq-eqb (get_or f 19 0) (e.minute % 2) h)

-- ---- the fields from the first 59 bits as a number

pub data-front : (f : List ℕ) → data_in (take min_frame f) ≡ data_in f
unfolding data_in
data-front f =
    rw (
      part-take min_frame 13 6 f (omega arith),
      part-take min_frame 20 9 f (omega arith),
      part-take min_frame 30 9 f (omega arith),
      part-take min_frame 40 9 f (omega arith),
      part-take min_frame 50 9 f (omega arith),
    )

module _ (f : List ℕ) (x : ℕ) (e : take min_frame f ≡ bits min_frame x) where
  pub data_of : number (data_in f) ≡ number (data_in (bits min_frame x))
  data_of = ap number (sym (data-front f) ∙ ap data_in e)

  pub notice-of : get_or f 49 0 ≡ x / 2 ^ 9 % 2
  notice-of = sym (get_or-take min_frame f 49 0 (omega arith)) ∙ ap (λ (l : List ℕ). get_or l 49 0) e ∙ notice-bit x

  pub echo_of : get_or f 19 0 ≡ get_or (bits min_frame x) 19 0
  echo_of = sym (get_or-take min_frame f 19 0 (omega arith)) ∙ ap (λ (l : List ℕ). get_or l 19 0) e
