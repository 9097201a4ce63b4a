-- The theorems on the refusals of reading one frame, by the lists of questions that reading asks (document 01, "Questions in order";
-- document 02, 7).
-- Assumes nothing.
use Rattle.std.specs.Prelude.{ℕ, ◌+◌, ◌%◌, ◌≤◌, ◌<◌, Bool, true, false, List, [], ◌∷◌, ◌++◌, ◌⊎◌, ◌↔◌, ◌≢◌, ◌≡◌, eqb, length, take, drop, get_or}
use Rattle.questions.specs.Questions.{AllYes, FirstNo, numbers_of, one_of}
use Rattle.bits.specs.Bits.{is_bit, all}
use Rattle.calendar.specs.Calendar.{last_of_month}
use Rattle.format.specs.Entry.{Entry, entry_size, entry_bytes}
use Rattle.format.specs.Message.{is_message}
use Rattle.format.specs.Questions.{start, leap_read, after, follows, next_questions, entry_questions, entry_next}
use Rattle.format.specs.Next.{refused, entry, read_next, read_entry, read_one}
use Rattle.format.specs.declared.Due.{Due}
use Rattle.format.specs.declared.Due.TheVariants.{Minute}

-- the numbers of the next frame's questions, in order, of a message (true) or of a time frame (false); there is no 12 (document 02, 2)
abbrev pub next_numbers : Bool → List ℕ
next_numbers true = 6 ∷ 7 ∷ 8 ∷ 19 ∷ 20 ∷ 11 ∷ 13 ∷ 14 ∷ []
next_numbers false = 6 ∷ 7 ∷ 8 ∷ 9 ∷ 10 ∷ 11 ∷ 13 ∷ 14 ∷ []

-- read into an entry, 5 comes before them
abbrev pub entry_numbers : Bool → List ℕ
entry_numbers message = 5 ∷ next_numbers message

-- the questions have these numbers, in this order
abbrev pub FrameOrder : Type 0
FrameOrder =
    (due : Due) (alone : Bool) (free : ℕ) (f : List ℕ)
    → (numbers_of (next_questions due alone f) ≡ next_numbers (is_message f)) × (numbers_of (entry_questions due alone free f) ≡ entry_numbers (is_message f))

-- 5 first: with fewer than 18 bytes free the answer is 5, else it is what the bits give
abbrev pub SpaceFirst : Type 0
SpaceFirst =
    (due : Due) (alone : Bool) (free : ℕ) (f : List ℕ)
    → (free < entry_size → read_entry due alone free f ≡ refused 5)
    × (entry_size ≤ free → read_entry due alone free f ≡ read_next due alone f)

-- a frame is accepted, with its entry, exactly when every question is answered yes
abbrev pub FrameAccepted : Type 0
FrameAccepted = (due : Due) (alone : Bool) (f : List ℕ) → read_next due alone f ≡ entry (entry_next due f) ↔ AllYes (next_questions due alone f)

-- it is refused with n exactly when the questions before n are answered yes and question n is not
abbrev pub FrameRefused : Type 0
FrameRefused = (due : Due) (alone : Bool) (f : List ℕ) (n : ℕ) → read_next due alone f ≡ refused n ↔ FirstNo (next_questions due alone f) n

-- there is no other answer, and a refusal is one of their numbers
abbrev pub FrameAnswers : Type 0
FrameAnswers =
    (due : Due) (alone : Bool) (f : List ℕ)
    → (read_next due alone f ≡ entry (entry_next due f)) ⊎ ((n : ℕ) × (one_of (next_numbers (is_message f)) n ≡ true) × (read_next due alone f ≡ refused n))

-- some of them without the list, in the papers' numbers: fewer than 59 bytes give 6; a byte above 1 among the first 59 gives 7; the minute of an
-- accepted frame lies in the range, and that of one refused with 11 does not; as first frame every message gives 19; in a month's last minute
-- with no leap state of that month read every message gives 20; an accepted message has time[0] of its minute at bit 19
pub record FrameFacts : Type 0 where
  pub too_short : (due : Due) (alone : Bool) (f : List ℕ) → length f < 59 → read_next due alone f ≡ refused 6
  pub not-bits : (due : Due) (alone : Bool) (f : List ℕ) (k : ℕ) → 59 ≤ length f → k < 59 → 1 < get_or f k 0 → read_next due alone f ≡ refused 7
  pub in-range : (due : Due) (alone : Bool) (f : List ℕ) (e : Entry) → read_next due alone f ≡ entry e → e.minute ≤ 52_595_999
  pub past-range : (due : Due) (alone : Bool) (f : List ℕ) → read_next due alone f ≡ refused 11 → 52_595_999 < (entry_next due f).minute
  pub first-message : (alone : Bool) (f : List ℕ) → 59 ≤ length f → all is_bit (take 59 f) ≡ true → is_message f ≡ true → read_next start alone f ≡ refused 19
  pub leap-unknown : (m : ℕ) (alone : Bool) (f : List ℕ) → 59 ≤ length f → all is_bit (take 59 f) ≡ true → is_message f ≡ true → last_of_month m ≡ true
      → read_next (Minute m 3) alone f ≡ refused 20
  pub message-time0 : (due : Due) (alone : Bool) (f : List ℕ) (e : Entry) → read_next due alone f ≡ entry e → e.message ≡ 1 → get_or f 19 0 ≡ e.minute % 2

-- 59 bits with a message's sync word
abbrev pub MessageBits : List ℕ → Type 0
MessageBits f = (59 ≤ length f) × (all is_bit (take 59 f) ≡ true) × (is_message f ≡ true)

-- the length of a message in minute m, with l the leap state last read in its month
pub record MessageLength (m l seconds : ℕ) : Type 0 where
  pub usual : last_of_month m ≡ false → seconds ≡ 60
  pub no-leap : last_of_month m ≡ true → l ≡ 0 → seconds ≡ 60
  pub negative : last_of_month m ≡ true → l ≡ 1 → seconds ≡ 59
  pub positive : last_of_month m ≡ true → l ≡ 2 → seconds ≡ 61

-- theorem, of messages in the papers' numbers (document 02, 7): 19 exactly with no frame before it; 20 exactly in a month's last minute with no
-- leap state read; after the last minute of the range 11; 14 only with a wrong time[0]; and the minute and length of an accepted one
pub record MessageFacts : Type 0 where
  pub first19 : (due : Due) (alone : Bool) (f : List ℕ) → MessageBits f → read_next due alone f ≡ refused 19 ↔ (due ≡ start)
  pub unknown20 : (m l : ℕ) (alone : Bool) (f : List ℕ) → MessageBits f → read_next (Minute m l) alone f ≡ refused 20 ↔ ((3 ≤ l) × (last_of_month m ≡ true))
  pub past11 : (l : ℕ) (alone : Bool) (f : List ℕ) → MessageBits f → read_next (Minute 52_596_000 l) alone f ≡ refused 11
  pub time14 : (m l : ℕ) (alone : Bool) (f : List ℕ) → MessageBits f → read_next (Minute m l) alone f ≡ refused 14 → get_or f 19 0 ≢ m % 2
  pub accepted : (m l : ℕ) (alone : Bool) (f : List ℕ) (e : Entry) → MessageBits f → read_next (Minute m l) alone f ≡ entry e
      → (e.minute ≡ m) × MessageLength m l e.seconds

-- 14 in other words: before the first frame every minute is in order, after a frame only the one after its minute
abbrev pub OrderAsked : Type 0
OrderAsked =
    ((m : ℕ) → follows start m ≡ true)
    × ((due : Due) (e : Entry) (m : ℕ) → follows (after due e) m ≡ eqb m (e.minute + 1))

-- the leap state after a frame, case by case (document 02, 7): where a new month begins it is not known, 3; else a time frame's own is the
-- last read, and a message keeps the one before it
pub record LeapCarried (due : Due) (e : Entry) : Type 0 where
  pub new-month : last_of_month e.minute ≡ true → leap_read (after due e) ≡ 3
  pub time-frame : last_of_month e.minute ≡ false → e.message ≡ 0 → leap_read (after due e) ≡ e.leap
  pub message-frame : last_of_month e.minute ≡ false → e.message ≡ 1 → leap_read (after due e) ≡ leap_read due

abbrev pub LeapAfter : Type 0
LeapAfter = (due : Due) (e : Entry) → LeapCarried due e

-- reading one frame gives 0 exactly when every question is answered yes
abbrev pub OneAccepted : Type 0
OneAccepted = (due : Due) (buffer f : List ℕ) → (read_one due buffer f).refusal ≡ 0 ↔ AllYes (entry_questions due true (length buffer) f)

-- it gives n exactly when the questions before n are answered yes and question n is not
abbrev pub OneRefused : Type 0
OneRefused = (due : Due) (buffer f : List ℕ) (n : ℕ) → 0 < n → (read_one due buffer f).refusal ≡ n ↔ FirstNo (entry_questions due true (length buffer) f) n

-- it gives 0 or one of their numbers
abbrev pub OneAnswers : Type 0
OneAnswers = (due : Due) (buffer f : List ℕ) → ((read_one due buffer f).refusal ≡ 0) ⊎ (one_of (entry_numbers (is_message f)) (read_one due buffer f).refusal ≡ true)

-- the numbers that a frame with none before it can have: not 14, and of a message none after 19
abbrev pub first_numbers : Bool → List ℕ
first_numbers true = 5 ∷ 6 ∷ 7 ∷ 8 ∷ 19 ∷ []
first_numbers false = 5 ∷ 6 ∷ 7 ∷ 8 ∷ 9 ∷ 10 ∷ 11 ∷ 13 ∷ []

-- with no frame before it, a time frame gives 0 or one of these, and a message one of these
abbrev pub FirstAnswers : Type 0
FirstAnswers =
    (buffer f : List ℕ)
    → ((is_message f ≡ false) × ((read_one start buffer f).refusal ≡ 0))
    ⊎ (one_of (first_numbers (is_message f)) (read_one start buffer f).refusal ≡ true)

-- the entry buffer after it: the entry's 18 bytes and then the rest as before; refused, as it was
abbrev pub OneBuffer : Type 0
OneBuffer =
    (due : Due) (buffer f : List ℕ)
    → ((read_one due buffer f).refusal ≡ 0 → (read_one due buffer f).buffer ≡ entry_bytes (entry_next due f) ++ drop entry_size buffer)
    × (0 < (read_one due buffer f).refusal → (read_one due buffer f).buffer ≡ buffer)
