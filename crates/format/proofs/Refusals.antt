-- A frame is refused by the first of its questions that is answered no.
-- Assumes nothing.
use Prim.Native.Nat.{ℕ, ◌<◌}
use mathlib.Core.Bool.{Bool, true, false}
use mathlib.Core.List.{List, ◌∷◌, ◌++◌}
use mathlib.Core.Logic.{◌⊎◌, inl, inr}
use mathlib.Core.Path.{◌≡◌, refl, sym, ap, ◌∙◌}
use native.Mathlib.Omega.{arith}
use lib.ListN.{length, take, drop}
use Rattle.questions.specs.Questions.{Question, asked, refusal_of, numbers_of, one_of}
use Rattle.bits.specs.Bits.{pick}
use Rattle.questions.proofs.Laws.{asked-map, Verdict, verdict, all_yes, first-no, accepted-when, refused-when, answers-in, zero-when, number-when, number_in, listed, yes-after}
use Rattle.format.specs.Entry.{Entry, entry_size, entry_bytes}
use Rattle.format.specs.Message.{is_message}
use Rattle.format.specs.Questions.{start, after, follows, entry_next, question5, question6, question7, question8}
use Rattle.format.specs.Questions.{time_questions, message_questions, next_questions, entry_questions}
use Rattle.format.specs.Next.{Answer, refused, entry, read_next, read_entry, one_outcome, read_one}
use Rattle.format.specs.Refusals.{next_numbers, entry_numbers, FrameOrder, FrameAccepted, FrameRefused, FrameAnswers, OrderAsked, LeapAfter}
use Rattle.format.specs.Refusals.{OneAccepted, OneRefused, OneAnswers, first_numbers, FirstAnswers, OneBuffer}
use Rattle.format.specs.declared.Due.{Due}

-- the numbers of the questions of a message (true) or of a time frame (false)
module _ (due : Due) (alone : Bool) (f : List ℕ) (e : Entry) where
  ordered : (b : Bool)
      → numbers_of ((6, question6 f) ∷ (7, question7 f) ∷ (8, question8 f) ∷ pick b (message_questions due alone f e) (time_questions due alone f e))
      ≡ next_numbers b
  unfolding time_questions message_questions numbers_of
  ordered true = refl
  ordered false = refl

pub frame-order : FrameOrder
unfolding next_questions entry_questions
frame-order due alone free f =
    let h = ordered due alone f (entry_next due f) (is_message f) in
    (h, (unfold numbers_of in ap {B = List ℕ} (λ l. 5 ∷ l) h))

pub refused-injective : (n m : ℕ) → refused n ≡ refused m → n ≡ m
refused-injective n m h = cc

pub not-refused : (n : ℕ) (e : Entry) → refused n ≡ entry e → ⊥
not-refused n e h = let z : ◌≡◌ {A = ℕ} 0 1 = cc in omega arith

pub frame-accepted : FrameAccepted
unfolding read_next
frame-accepted due alone f =
    accepted-when refused (entry (entry_next due f)) (next_questions due alone f) (λ n p. not-refused n (entry_next due f))

pub frame_refused : FrameRefused
unfolding read_next
frame_refused due alone f n =
    refused-when refused (entry (entry_next due f)) (next_questions due alone f) refused-injective n (not-refused n (entry_next due f))

pub frame-answers : FrameAnswers
unfolding read_next
frame-answers due alone f = rw (frame-order due alone 0 f).0 at (answers-in refused (entry (entry_next due f)) (next_questions due alone f))

pub order-asked : OrderAsked
unfolding follows after
order-asked = (λ m. refl, λ due e m. refl)

pub leap-after : LeapAfter
unfolding after
leap-after due e = record { new-month = λ h. rw h; time-frame = λ h m. rw (h, m); message-frame = λ h m. rw (h, m) }

-- ---- reading one frame into an entry buffer

module _ (due : Due) (buffer f : List ℕ) where
  refusal_is : (read_one due buffer f).refusal ≡ refusal_of (entry_questions due true (length buffer) f)
  unfolding read_one read_entry one_outcome refusal_of
  refusal_is = asked-map (λ (a : Answer). (one_outcome buffer a).refusal) refused (entry (entry_next due f)) (entry_questions due true (length buffer) f)

  one-above : one_of (numbers_of (entry_questions due true (length buffer) f)) 0 ≡ false
  one-above = rw (frame-order due true (length buffer) f).1 (go (is_message f))
    where
      go : (b : Bool) → one_of (entry_numbers b) 0 ≡ false
      go true = unfold one_of in refl
      go false = unfold one_of in refl

pub one-accepted : OneAccepted
one-accepted due buffer f = rw (refusal_is due buffer f) (zero-when (entry_questions due true (length buffer) f) (one-above due buffer f))

pub one-refused : OneRefused
one-refused due buffer f n l = rw (refusal_is due buffer f) (number-when (entry_questions due true (length buffer) f) n l)

pub one-answers : OneAnswers
one-answers due buffer f = rw (refusal_is due buffer f) (rw (frame-order due true (length buffer) f).1 at (number_in (entry_questions due true (length buffer) f)))

-- ---- with no frame before it

-- of a message, 19 is answered no
up-to-19 : (q5 q6 q7 q8 : Bool) → one_of (first_numbers true) (pick q5 (pick q6 (pick q7 (pick q8 19 8) 7) 6) 5) ≡ true
unfolding one_of
up-to-19 false q6 q7 q8 = refl
up-to-19 true false q7 q8 = refl
up-to-19 true true false q8 = refl
up-to-19 true true true false = refl
up-to-19 true true true true = refl

module _ (buffer f : List ℕ) (e : Entry) where
  -- the questions of a message (true) or of a time frame (false)
  first_questions : Bool → List Question
  first_questions b =
      (5, question5 (length buffer)) ∷ (6, question6 f) ∷ (7, question7 f) ∷ (8, question8 f)
      ∷ pick b (message_questions start true f e) (time_questions start true f e)

  -- of a time frame the last question, 14, is answered yes
  before-14 : refusal_of (first_questions false) ≡ refusal_of (take 8 (first_questions false))
  unfolding first_questions time_questions follows
  before-14 = yes-after 8 (first_questions false) (refl, tt)

  time-listed : numbers_of (take 8 (first_questions false)) ≡ first_numbers false
  unfolding first_questions time_questions numbers_of
  time-listed = refl

  first_by : (b : Bool) → ((b ≡ false) × (refusal_of (first_questions b) ≡ 0)) ⊎ (one_of (first_numbers b) (refusal_of (first_questions b)) ≡ true)
  first_by true =
      inr (unfold first_questions message_questions refusal_of asked in up-to-19 (question5 (length buffer)) (question6 f) (question7 f) (question8 f))
  first_by false = rw before-14 (go (rw time-listed at (number_in (take 8 (first_questions false)))))
    where
      go : {n : ℕ} → (n ≡ 0) ⊎ (one_of (first_numbers false) n ≡ true) → ((◌≡◌ {A = Bool} false false) × (n ≡ 0)) ⊎ (one_of (first_numbers false) n ≡ true)
      go (inl z) = inl (refl, z)
      go (inr h) = inr h

pub first-answers : FirstAnswers
first-answers buffer f =
    rw (refusal_is start buffer f)
    (unfold entry_questions next_questions in (unfold first_questions in first_by buffer f (entry_next start f) (is_message f)))

pub one-buffer : OneBuffer
unfolding read_one read_entry one_outcome one_of
one-buffer due buffer f = go (verdict refused (entry (entry_next due f)) (entry_questions due true (length buffer) f))
  where
    go : Verdict refused (entry (entry_next due f)) (entry_questions due true (length buffer) f)
        → ((read_one due buffer f).refusal ≡ 0 → (read_one due buffer f).buffer ≡ entry_bytes (entry_next due f) ++ drop entry_size buffer)
        × (0 < (read_one due buffer f).refusal → (read_one due buffer f).buffer ≡ buffer)
    go (all_yes p e) = rw e (λ h. refl, λ h. absurd (omega arith))
    go (first-no n p e) =
        rw e (
          λ h.
              let z : ◌≡◌ {A = ℕ} 0 1 = (let t = sym (rw h at (listed (entry_questions due true (length buffer) f) n p)) ∙ one-above due buffer f in cc) in
              absurd (omega arith),
          λ h. refl,
        )
