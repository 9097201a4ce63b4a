-- Reading the next frame in the reader's state: one frame alone, a frame of a recording, a frame after others
-- (document 01, "Recordings and entries" and "Questions in order"; document 02, 7).
-- Assumes nothing.
use Rattle.std.specs.Prelude.{ℕ, Bool, true, List, ◌++◌, length, drop}
use Rattle.questions.specs.Questions.{asked}
use Rattle.format.specs.Entry.{Entry, entry_size, entry_bytes}
use Rattle.format.specs.Questions.{after, entry_next, next_questions, entry_questions}
use Rattle.format.specs.declared.Due.{Due}

-- the answer to one frame ("Recordings and entries"): one entry, or the refusal alone
pub data Answer : Type 0 where
  refused : ℕ → Answer
  entry : Entry → Answer

-- what the bits of the next frame give, alone (true) or of a recording (false): its entry, or the refusal of the first question answered no
unfoldable pub read_next : Due → Bool → List ℕ → Answer
read_next due alone f = asked refused (next_questions due alone f) (entry (entry_next due f))

-- the step of reading: the next frame, read into so many free entry bytes, so that question 5 comes first
unfoldable pub read_entry : Due → Bool → ℕ → List ℕ → Answer
read_entry due alone free f = asked refused (entry_questions due alone free f) (entry (entry_next due f))

-- the state after an answer: a refused frame keeps it
unfoldable pub due_after_answer : Due → Answer → Due
due_after_answer due (refused n) = due
due_after_answer due (entry e) = after due e

-- ---- one frame alone, read into an entry buffer

-- what reading one frame gives ("Recordings and entries"): the refusal or 0, and the entry buffer after it
pub record OneOutcome : Type 0 where
  pub refusal : ℕ
  pub buffer : List ℕ

-- a refused frame writes no entry ("Questions in order"); an entry takes the buffer's first 18 bytes
unfoldable pub one_outcome : List ℕ → Answer → OneOutcome
one_outcome buffer (refused n) = record { refusal = n; buffer = buffer }
one_outcome buffer (entry e) = record { refusal = 0; buffer = entry_bytes e ++ drop entry_size buffer }

-- reading one frame alone in a state ("Recordings and entries")
unfoldable pub read_one : Due → List ℕ → List ℕ → OneOutcome
read_one due buffer f = one_outcome buffer (read_entry due true (length buffer) f)

-- the state after it
unfoldable pub one_due : Due → List ℕ → List ℕ → Due
one_due due buffer f = due_after_answer due (read_entry due true (length buffer) f)
