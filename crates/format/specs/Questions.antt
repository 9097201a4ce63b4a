-- The questions of reading a frame in the reader's state, in the order in which they are asked (document 01, "Questions in order";
-- document 02, 7).
-- Assumes nothing.
use Rattle.std.specs.Prelude.{ℕ, ◌+◌, ◌-◌, ◌%◌, Bool, true, false, not, ◌||◌, ◌&&◌, List, [], ◌∷◌, leb, ltb, eqb, length, take, drop, get_or}
use Rattle.questions.specs.Questions.{Question}
use Rattle.bits.specs.Bits.{pick, number, is_bit, is_zero, all}
use Rattle.calendar.specs.Calendar.{max_minute, last_of_month}
use Rattle.codewords.specs.CodeWords.{legal_state, assigned_row}
use Rattle.format.specs.Frame.{min_frame, sync_word, state_in}
use Rattle.format.specs.Entry.{Entry, entry_size}
use Rattle.format.specs.Message.{is_message, data_in, message_entry}
use Rattle.format.specs.Reading.{seconds_for, entry_of}
use Rattle.format.specs.declared.Due.{Due}
use Rattle.format.specs.declared.Due.TheVariants.{Any, Minute}

-- ---- the reader's state: the minute that is due, and the leap state last read in its month

-- before the first frame any minute is due
abbrev pub start : Due
start = Any

-- the leap state where none was read in the month: "no time frame of that month read" (document 02, 7)
abbrev pub unknown : ℕ
unknown = 3

-- the counted minute
abbrev pub counted : Due → ℕ
counted Any = 0
counted (Minute m l) = m

-- "the leap state last read in that month" (document 02, 7), the month of the counted minute
abbrev pub leap_read : Due → ℕ
leap_read Any = unknown
leap_read (Minute m l) = l

-- after a frame, one more than its minute; where a new month begins no leap state of it was read, else the last was that of a time frame,
-- and a message keeps the one before it
unfoldable pub after : Due → Entry → Due
after due e = Minute (e.minute + 1) (pick (last_of_month e.minute) unknown (pick (eqb e.message 0) e.leap (leap_read due)))

-- the minute is due
unfoldable pub follows : Due → ℕ → Bool
follows Any m = true
follows (Minute n l) m = eqb m n

-- a frame was read before
abbrev pub begun : Due → Bool
begun Any = false
begun (Minute m l) = true

-- the entry that a message's bits give in a state: "the counted minute"; "Its length follows the leap state last read in that month"
unfoldable pub message_in : Due → List ℕ → Entry
message_in due f =
    message_entry (counted due) (seconds_for (leap_read due) (last_of_month (counted due))) (get_or f 49 0) (number (data_in f))

-- the entry that the next frame's bits give in a state: a message's where they have its sync word, else a time frame's
unfoldable pub entry_next : Due → List ℕ → Entry
entry_next due f = pick (is_message f) (message_in due f) (entry_of f)

-- ---- each question, of a frame's bits f and the entry e that they give

-- 5. Are 18 entry bytes free?
abbrev pub question5 : ℕ → Bool
question5 free = leb entry_size free

-- 6. Are 59 bytes left?
abbrev pub question6 : List ℕ → Bool
question6 f = leb min_frame (length f)

-- 7. Are the first 59 all 0 or 1?
abbrev pub question7 : List ℕ → Bool
question7 f = all is_bit (take min_frame f)

-- 8. Is the sync word right, a time frame's or a message's?
abbrev pub question8 : List ℕ → Bool
question8 f = eqb (number (take 13 f)) sync_word || is_message f

-- 9. Is the state word legal?
abbrev pub question9 : List ℕ → Bool
question9 f = legal_state (number (state_in f))

-- 10. Is the next-change word assigned?
abbrev pub question10 : Entry → Bool
question10 e = assigned_row e.row

-- 11. Is the chosen minute at most 52,595,999? Of a message it "is put of the counted minute".
abbrev pub question11 : Entry → Bool
question11 e = leb e.minute max_minute

-- of l bytes, are the n called for left (13)? One frame alone: are exactly so many given?
unfoldable pub enough : Bool → ℕ → ℕ → Bool
enough true n l = eqb n l
enough false n l = leb n l

-- 13. Are as many bytes left as called for (one frame alone: exactly so many given), and those after byte 58 all 0?
abbrev pub question13 : Bool → List ℕ → Entry → Bool
question13 alone f e = enough alone e.seconds (length f) && all is_zero (take (e.seconds - min_frame) (drop min_frame f))

-- 14. After the first frame, is the minute one more than before?
abbrev pub question14 : Due → Entry → Bool
question14 due e = follows due e.minute

-- 14 of a message: "a wrong time[0] gives 14"
abbrev pub question14_message : List ℕ → Entry → Bool
question14_message f e = eqb (get_or f 19 0) (e.minute % 2)

-- "19: the first frame is a message, after 8"
abbrev pub question19 : Due → Bool
question19 due = begun due

-- "20: a message in a month's last minute with no time frame of that month read, after 19"
abbrev pub question20 : Due → Bool
question20 Any = false
question20 (Minute m l) = ltb l unknown || not (last_of_month m)

-- ---- the questions of a call, in order; there is no 12 (document 02, 2)

-- of a time frame, alone (true) or of a recording (false), whose sync word is right
unfoldable pub time_questions : Due → Bool → List ℕ → Entry → List Question
time_questions due alone f e =
    (9, question9 f) ∷ (10, question10 e) ∷ (11, question11 e) ∷ (13, question13 alone f e) ∷ (14, question14 due e) ∷ []

-- of a message: "Questions 9 and 10 are skipped for it"
unfoldable pub message_questions : Due → Bool → List ℕ → Entry → List Question
message_questions due alone f e =
    (19, question19 due) ∷ (20, question20 due) ∷ (11, question11 e) ∷ (13, question13 alone f e) ∷ (14, question14_message f e) ∷ []

-- of the next frame, whose sync word says whether it is a message
unfoldable pub next_questions : Due → Bool → List ℕ → List Question
next_questions due alone f =
    (6, question6 f) ∷ (7, question7 f) ∷ (8, question8 f)
    ∷ pick (is_message f) (message_questions due alone f (entry_next due f)) (time_questions due alone f (entry_next due f))

-- of the next frame, read into so many free entry bytes
unfoldable pub entry_questions : Due → Bool → ℕ → List ℕ → List Question
entry_questions due alone free f = (5, question5 free) ∷ next_questions due alone f
