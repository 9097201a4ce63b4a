-- Reading one frame into an entry buffer: question 5, then the next frame's answer.
-- Assumes nothing.
use Prim.Native.Nat.{ℕ, ◌≤◌, ◌<◌}
use mathlib.Core.Bool.{Bool, true}
use mathlib.Core.List.{List, ◌++◌}
use mathlib.Core.Path.{◌≡◌, sym, ap, ◌∙◌}
use native.Mathlib.Decide.{dec_le}
use native.Mathlib.Omega.{arith}
use lib.ListN.{length, drop}
use borrow.Author.Tests.{le-leb, lt-leb}
use Rattle.questions.specs.Questions.{asked}
use Rattle.format.specs.Entry.{Entry, entry_size, entry_bytes}
use Rattle.format.specs.Questions.{after, entry_questions}
use Rattle.format.specs.Next.{refused, entry, read_next, read_entry, due_after_answer, OneOutcome, one_outcome, read_one, one_due}
use Rattle.format.specs.Refusals.{SpaceFirst}
use Rattle.format.specs.declared.Due.{Due}

-- question 5, of a frame alone or of a recording
module _ (due : Due) (alone : Bool) (free : ℕ) (f : List ℕ) where
  pub no-5 : free < entry_size → read_entry due alone free f ≡ refused 5
  unfolding read_entry entry_questions asked
  no-5 h = rw (lt-leb entry_size free h)

  pub yes-5 : entry_size ≤ free → read_entry due alone free f ≡ read_next due alone f
  unfolding read_entry entry_questions asked read_next
  yes-5 h = rw (le-leb entry_size free h)

pub space-first : SpaceFirst
space-first due alone free f = (no-5 due alone free f, yes-5 due alone free f)

module _ (due : Due) (buffer f : List ℕ) where
  -- the number, the buffer after the call, and the state
  abbrev Gives : ℕ → List ℕ → Due → Type 0
  Gives n later next = (◌≡◌ {A = OneOutcome} (record { refusal = n; buffer = later }) (read_one due buffer f)) × (next ≡ one_due due buffer f)

  pub one-read : (e : Entry) (later : List ℕ) (next : Due) → entry_size ≤ length buffer → read_next due true f ≡ entry e
      → later ≡ entry_bytes e ++ drop entry_size buffer → next ≡ after due e → Gives 0 later next
  unfolding read_one one_outcome one_due due_after_answer
  one-read e later next h r a d = (rw (yes-5 due true (length buffer) f h, r, a), rw (yes-5 due true (length buffer) f h, r, d))

-- bits whose frame has the same answer
pub one_same : (due : Due) (buffer f g : List ℕ) → read_next due true f ≡ read_next due true g → read_one due buffer f ≡ read_one due buffer g
unfolding read_one
one_same due buffer f g e =
    elim (dec_le entry_size (length buffer)) [
      | yes l ↦ ap (one_outcome buffer) (yes-5 due true (length buffer) f l ∙ e ∙ sym (yes-5 due true (length buffer) g l))
      | no l ↦ ap (one_outcome buffer) (no-5 due true (length buffer) f (omega arith) ∙ sym (no-5 due true (length buffer) g (omega arith)))
    ]
