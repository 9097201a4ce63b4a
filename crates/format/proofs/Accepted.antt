-- What an accepted frame satisfies.
-- Assumes nothing.
use Prim.Native.Nat.{ℕ, ◌%◌, ◌≤◌, ◌<◌}
use mathlib.Core.Bool.{Bool, true, false}
use mathlib.Core.List.{List}
use mathlib.Core.Logic.{◌⊎◌, inl, inr}
use mathlib.Core.Path.{◌≡◌, refl, sym, subst, ◌∙◌}
use native.Mathlib.Omega.{arith}
use lib.ListN.{length, get_or}
use borrow.Author.Tests.{leb-true, eqb-true}
use Rattle.questions.specs.Questions.{AllYes, one_of}
use Rattle.bits.specs.Bits.{pick}
use Rattle.bits.proofs.Tests.{head-true}
use Rattle.calendar.specs.Calendar.{minute_count, max_minute}
use Rattle.format.specs.Frame.{min_frame}
use Rattle.format.specs.Entry.{Entry}
use Rattle.format.specs.Reading.{entry_of}
use Rattle.format.specs.Message.{is_message, message_entry}
use Rattle.format.specs.Questions.{message_in, entry_next, enough, question11, question13, follows, time_questions, message_questions, next_questions}
use Rattle.format.specs.Next.{refused, entry, read_next}
use Rattle.format.specs.Refusals.{next_numbers}
use Rattle.format.specs.declared.Due.{Due}
use Rattle.format.specs.declared.Due.TheVariants.{Minute}
use Rattle.format.proofs.Legal.{seconds-long}
use Rattle.format.proofs.Refusals.{not-refused, frame-accepted, frame-answers}

pub record Accepted (f : List ℕ) (e : Entry) : Type 0 where
  pub minute-in : e.minute < minute_count
  pub enough-left : e.seconds ≤ length f
  pub long : min_frame ≤ e.seconds

-- the entry of an accepted frame is that of its bits
pub entry-only : (due : Due) (alone : Bool) (f : List ℕ) (e : Entry) → read_next due alone f ≡ entry e → e ≡ entry_next due f
entry-only due alone f e h = go (frame-answers due alone f)
  where
    go : (read_next due alone f ≡ entry (entry_next due f)) ⊎ ((n : ℕ) × (one_of (next_numbers (is_message f)) n ≡ true) × (read_next due alone f ≡ refused n)) → e ≡ entry_next due f
    go (inl q) = cc
    go (inr q) = absurd (not-refused q.0 e (sym q.2 ∙ h))

pub seconds-59 : (f : List ℕ) → min_frame ≤ (entry_of f).seconds
unfolding entry_of
seconds-59 f = seconds-long _ _

pub message-59 : (due : Due) (f : List ℕ) → min_frame ≤ (message_in due f).seconds
unfolding message_in message_entry
message-59 due f = seconds-long _ _

pub next-59 : (due : Due) (f : List ℕ) → min_frame ≤ (entry_next due f).seconds
unfolding entry_next
next-59 due f = go (is_message f)
  where
    go : (b : Bool) → min_frame ≤ (pick b (message_in due f) (entry_of f)).seconds
    go true = message-59 due f
    go false = seconds-59 f

-- ---- the two kinds of frames

pub entry-time : (due : Due) (f : List ℕ) → is_message f ≡ false → entry_next due f ≡ entry_of f
unfolding entry_next
entry-time due f h = rw h

pub entry-message : (due : Due) (f : List ℕ) → is_message f ≡ true → entry_next due f ≡ message_in due f
unfolding entry_next
entry-message due f h = rw h

-- an entry of time is not that of a message
pub kind-time : (due : Due) (f : List ℕ) → (entry_next due f).message ≡ 0 → is_message f ≡ false
unfolding entry_next message_in message_entry
kind-time due f h = go (is_message f) h
  where
    go : (b : Bool) → (pick b (message_in due f) (entry_of f)).message ≡ 0 → b ≡ false
    go true h = absurd (omega arith)
    go false h = refl

pub kind-message : (due : Due) (f : List ℕ) → (entry_next due f).message ≡ 1 → is_message f ≡ true
unfolding entry_next entry_of
kind-message due f h = go (is_message f) h
  where
    go : (b : Bool) → (pick b (message_in due f) (entry_of f)).message ≡ 1 → b ≡ true
    go true h = refl
    go false h = absurd (omega arith)

-- ---- what the questions say

enough-le : (alone : Bool) (n l : ℕ) → enough alone n l ≡ true → n ≤ l
unfolding enough
enough-le true n l h = omega (arith, eqb-true n l h)
enough-le false n l h = leb-true n l h

-- 11 and 13 are asked of both kinds
both-asked : (due : Due) (alone : Bool) (f : List ℕ) (e : Entry) (b : Bool)
    → AllYes (pick b (message_questions due alone f e) (time_questions due alone f e))
    → (question11 e ≡ true) × (question13 alone f e ≡ true)
unfolding time_questions message_questions
both-asked due alone f e true a = (a.1.1.0, a.1.1.1.0)
both-asked due alone f e false a = (a.1.1.0, a.1.1.1.0)

pub by-answers : (due : Due) (alone : Bool) (f : List ℕ) → AllYes (next_questions due alone f) → Accepted f (entry_next due f)
unfolding next_questions
by-answers due alone f a =
    let q = both-asked due alone f (entry_next due f) (is_message f) a.1.1.1 in
    record {
      minute-in = omega (arith, leb-true (entry_next due f).minute max_minute q.0);
      enough-left = enough-le alone _ (length f) (head-true _ _ q.1);
      long = next-59 due f;
    }

-- a message has time[0] of its minute
pub message-echo : (due : Due) (alone : Bool) (f : List ℕ) → AllYes (next_questions due alone f) → is_message f ≡ true → get_or f 19 0 ≡ (entry_next due f).minute % 2
unfolding next_questions message_questions
message-echo due alone f a m = let q = rw m at a.1.1.1 in eqb-true (get_or f 19 0) ((entry_next due f).minute % 2) q.1.1.1.1.0

-- after a frame the entry has the counted minute
pub next-counted : (m l : ℕ) (alone : Bool) (f : List ℕ) → AllYes (next_questions (Minute m l) alone f) → (entry_next (Minute m l) f).minute ≡ m
unfolding next_questions entry_next
next-counted m l alone f a = go (is_message f) a.1.1.1
  where
    d : Due
    d = Minute m l

    next : Bool → Entry
    next b = pick b (message_in d f) (entry_of f)

    go : (b : Bool) → AllYes (pick b (message_questions d alone f (next b)) (time_questions d alone f (next b))) → (next b).minute ≡ m
    go true a = unfold message_in message_entry in refl
    go false a = unfold time_questions follows in eqb-true (entry_of f).minute m a.1.1.1.1.0

pub accepted : (due : Due) (alone : Bool) (f : List ℕ) (e : Entry) → read_next due alone f ≡ entry e → Accepted f e
accepted due alone f e h =
    let s = entry-only due alone f e h in
    subst (Accepted f) (sym s) (by-answers due alone f ((frame-accepted due alone f).0 (subst (λ (d : Entry). read_next due alone f ≡ entry d) s h)))
