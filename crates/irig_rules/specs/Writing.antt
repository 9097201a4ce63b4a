-- Writing a second of IRIG 200 format B: questions 1, 3, 21 and 4, in this order, and the elements (document 02, 9, "Feeding recorders that take IRIG B"; the
-- plan with messages of document 02, 7).
-- Assumes nothing.
use Rattle.std.specs.Prelude.{ℕ, List, [], ◌∷◌, ◌++◌, leb, ltb, eqb, length, drop}
use Rattle.bits.specs.Bits.{pick}
use Rattle.bits.specs.Numbers.{Numbers, found, refused}
use Rattle.questions.specs.Questions.{Question, asked}
use Rattle.calendar.specs.Calendar.{max_minute}
use Rattle.plan.specs.Plan.{length_at}
use Rattle.messages.specs.Message.{Schedule, legal_schedule}
use Rattle.irig_rules.specs.Irig.{element_count, elements}

-- the questions, in their order: the plan and its messages are legal; the minute is at most the last; the second is below the minute's length; the buffer of
-- so many bytes holds the elements
unfoldable pub write_questions : Schedule → ℕ → ℕ → ℕ → List Question
write_questions p t x space =
    (1, legal_schedule p) ∷ (3, leb t max_minute) ∷ (21, ltb x (length_at p.plan t)) ∷ (4, leb element_count space) ∷ []

-- what writing gives: 0 and the number of elements, or the refusal alone
unfoldable pub write_irig : Schedule → ℕ → ℕ → ℕ → Numbers
write_irig p t x space = asked refused (write_questions p t x space) (found (element_count ∷ []))

-- the buffer after writing: the elements and what stood after them, or the buffer as it was
unfoldable pub elements_written : Schedule → ℕ → ℕ → List ℕ → List ℕ
elements_written p t x buffer =
    pick (eqb (write_irig p t x (length buffer)).number 0) (elements t x ++ drop element_count buffer) buffer
