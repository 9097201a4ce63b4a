-- What is proved of pages and of printing a recording (document 02, 8).
-- Assumes nothing.
use Rattle.std.specs.Prelude.{ℕ, ◌+◌, ◌*◌, ◌/◌, ◌%◌, ◌≤◌, ◌<◌, true, false, List, [], ◌∷◌, ◌++◌, map, ◌⊎◌, ◌↔◌, ◌≢◌, ◌≡◌, eqb, length, get_or, take, drop, replicate}
use Rattle.questions.specs.Questions.{one_of}
use Rattle.bits.specs.Bits.{pick}
use Rattle.calendar.specs.Calendar.{minute_count}
use Rattle.messages.specs.Message.{Schedule, legal_schedule}
use Rattle.format.specs.Entry.{Entry}
use Rattle.format.specs.Received.{Reception}
use Rattle.sequence.specs.Reading.{read_recording}
use Rattle.sequence.specs.Demand.{are_receptions, received_bits, received_entries, message_first}
use Rattle.page_rules.specs.Page.{line_width, lines_per_page, blanks, aligned, line, feed, page, pages}
use Rattle.page_rules.specs.Printing.{read_all, entries_of, pages_of, unprinted, print_pages}

-- ---- the entries of a recording

-- each entry of a list is so
abbrev pub Each : (Entry → Type 0) → List Entry → Type 0
Each P [] = Unit {0}
Each P (e ∷ es) = P e × Each P es

-- an entry whose numbers fit their columns
pub record Fits (e : Entry) : Type 0 where
  pub minute : e.minute < minute_count
  pub seconds : e.seconds < 100
  pub daylight : e.daylight < 4
  pub leap : e.leap < 3
  pub row : e.row < 100
  pub place : e.place < 100
  pub echo : e.echo < 10
  pub message : e.message < 2

-- every entry of every recording is so, and there are at most as many as minutes in the range: so a page number fits its line
pub record EntriesFit : Type 0 where
  pub fit : (f : List ℕ) → Each Fits (entries_of f)
  pub few : (f : List ℕ) → length (entries_of f) ≤ minute_count

-- "question 5 isn't put": 5 is never given, and reading a recording into any entry space gives the same, unless that space gives 5
pub record SpaceAside : Type 0 where
  pub never : (f : List ℕ) → (read_all f).refusal ≢ 5
  pub same : (space : ℕ) (f : List ℕ) → (read_recording space f).refusal ≢ 5 → read_recording space f ≡ read_all f

-- ---- the text

-- each line has 41 characters
abbrev pub LineSize : Type 0
LineSize = (f : List ℕ) → Each (λ e. length (line e) ≡ line_width) (entries_of f)

-- the pages of a recording: 2,184 bytes a page, and as many pages as entries over 50, rounded up; page k, counted from 0, begins with the
-- number k + 1 and 41 dashes, and has the lines of the entries from 50 * k on; every 42nd byte is a line feed, and no other is
pub record LaidOut (f : List ℕ) : Type 0 where
  pub size : length (pages_of f) ≡ 2184 * ((length (entries_of f) + 49) / 50)
  pub head_at : (k : ℕ) → k < (length (entries_of f) + 49) / 50
      → take 84 (drop (2184 * k) (pages_of f)) ≡ feed (aligned line_width (k + 1)) ++ feed (replicate line_width 45)
  pub page-at : (k : ℕ) → k < (length (entries_of f) + 49) / 50
      → take 2184 (drop (2184 * k) (pages_of f)) ≡ page (k + 1) (take lines_per_page (drop (lines_per_page * k) (map line (entries_of f))))
  pub line-feeds : (i : ℕ) → i < length (pages_of f) → get_or (pages_of f) i 0 ≡ 10 ↔ (i % 42 ≡ 41)

-- so it is with every recording
abbrev pub PagesLaidOut : Type 0
PagesLaidOut = (f : List ℕ) → LaidOut f

-- line i of those for entries, counted from 0 over all pages, stands after the pages before its own and the two lines above the entries: it is
-- that of entry i, and 41 blanks where there is none
abbrev pub EntryLines : Type 0
EntryLines =
    (f : List ℕ) (i : ℕ) → i < 50 * ((length (entries_of f) + 49) / 50)
    → take line_width (drop (2184 * (i / 50) + 42 * (i % 50 + 2)) (pages_of f)) ≡ get_or (map line (entries_of f)) i (blanks line_width)

-- what a line shows of an entry: minute and length, and of a time frame daylight state, leap, row, repaired place and echo
unfoldable pub shown : Entry → List ℕ
shown e =
    e.minute ∷ e.seconds
    ∷ pick (eqb e.message 0) (e.daylight ∷ e.leap ∷ e.row ∷ e.place ∷ e.echo ∷ []) []

-- the entries can be read back from the text: recordings with equal pages have equally many entries, which show the same
abbrev pub PagesApart : Type 0
PagesApart = (f g : List ℕ) → pages_of f ≡ pages_of g → map shown (entries_of f) ≡ map shown (entries_of g)

-- ---- the call

-- the numbers of the reader's questions without 5
abbrev pub page_numbers : List ℕ
page_numbers = 6 ∷ 7 ∷ 8 ∷ 9 ∷ 10 ∷ 11 ∷ 13 ∷ 14 ∷ 19 ∷ 20 ∷ []

-- the answer to printing: 0 where the recording is accepted and its pages fit; 4 where it is accepted and they do not; else the recording's
-- refusal, whatever the buffer
pub record PrintAnswers : Type 0 where
  pub done : (buffer f : List ℕ) → (print_pages buffer f).refusal ≡ 0 ↔ (((read_all f).refusal ≡ 0) × (length (pages_of f) ≤ length buffer))
  pub short : (buffer f : List ℕ) → (print_pages buffer f).refusal ≡ 4 ↔ (((read_all f).refusal ≡ 0) × (length buffer < length (pages_of f)))
  pub refused : (buffer f : List ℕ) (n : ℕ) → one_of page_numbers n ≡ true → (print_pages buffer f).refusal ≡ n ↔ ((read_all f).refusal ≡ n)
  pub others : (buffer f : List ℕ) → ((print_pages buffer f).refusal ≡ 0) ⊎ (one_of (page_numbers ++ (4 ∷ [])) (print_pages buffer f).refusal ≡ true)

-- accepted: the bytes are those of the pages, which stand first in the buffer, and the bytes after them are as before
abbrev pub PrintDone : Type 0
PrintDone =
    (buffer f : List ℕ) → (print_pages buffer f).refusal ≡ 0
    → ((print_pages buffer f).bytes ≡ 2184 * ((length (entries_of f) + 49) / 50))
    × ((print_pages buffer f).buffer ≡ pages_of f ++ drop (length (pages_of f)) buffer)
    × (length (print_pages buffer f).buffer ≡ length buffer)

-- refused: no byte is written, and the buffer is as it was
abbrev pub PrintUndone : Type 0
PrintUndone = (buffer f : List ℕ) → 0 < (print_pages buffer f).refusal → print_pages buffer f ≡ unprinted buffer (print_pages buffer f).refusal

-- "No entries give no page.": a recording without bits, and no other that is accepted, gives 0 and no byte, whatever the buffer
pub record NothingPrinted : Type 0 where
  pub no_bits : (buffer : List ℕ) → print_pages buffer [] ≡ unprinted buffer 0
  pub only : (buffer f : List ℕ) → (print_pages buffer f).refusal ≡ 0 → (print_pages buffer f).bytes ≡ 0 → f ≡ []

-- the pages of what the sender writes, received in any way that document 02, 2 and 7, allow, are those of the entries as received
abbrev pub PagesSent : Type 0
PagesSent =
    (p : Schedule) (m n : ℕ) (rs : List Reception)
    → legal_schedule p ≡ true → m + n ≤ minute_count → length rs ≡ n → are_receptions p m rs ≡ true → message_first p m n ≡ false
    → ((read_all (received_bits p m n rs)).refusal ≡ 0) × (pages_of (received_bits p m n rs) ≡ pages (received_entries p m rs))

-- ---- worked examples: a text line for the minute, one for the date, one for the time, and one for the other columns

-- 2012-07-04 17:30 by rows 10 and 37, place 31 repaired, with a wrong echo
abbrev pub ExampleLine : Type 0
ExampleLine =
    line (record { minute = 6_578_970; seconds = 60; daylight = 0b11; leap = 0; row = 37; notice = 0; place = 31; echo = 0; message = 0; payload = 0 })
    ≡ 32 ∷ 54 ∷ 53 ∷ 55 ∷ 56 ∷ 57 ∷ 55 ∷ 48 ∷ 32
    ∷ 50 ∷ 48 ∷ 49 ∷ 50 ∷ 45 ∷ 48 ∷ 55 ∷ 45 ∷ 48 ∷ 52 ∷ 32
    ∷ 49 ∷ 55 ∷ 58 ∷ 51 ∷ 48 ∷ 32
    ∷ 54 ∷ 48 ∷ 32 ∷ 49 ∷ 49 ∷ 32 ∷ 32 ∷ 32 ∷ 51 ∷ 55 ∷ 32 ∷ 51 ∷ 49 ∷ 32 ∷ 48 ∷ []

-- 2012-06-30 23:59, a minute of 61 seconds, with place 0: a state that ends today, +, row 5
abbrev pub ExampleLeap : Type 0
ExampleLeap =
    line (record { minute = 6_573_599; seconds = 61; daylight = 0b01; leap = 2; row = 5; notice = 1; place = 0; echo = 1; message = 0; payload = 0 })
    ≡ 32 ∷ 54 ∷ 53 ∷ 55 ∷ 51 ∷ 53 ∷ 57 ∷ 57 ∷ 32
    ∷ 50 ∷ 48 ∷ 49 ∷ 50 ∷ 45 ∷ 48 ∷ 54 ∷ 45 ∷ 51 ∷ 48 ∷ 32
    ∷ 50 ∷ 51 ∷ 58 ∷ 53 ∷ 57 ∷ 32
    ∷ 54 ∷ 49 ∷ 32 ∷ 48 ∷ 49 ∷ 32 ∷ 43 ∷ 32 ∷ 32 ∷ 53 ∷ 32 ∷ 32 ∷ 48 ∷ 32 ∷ 49 ∷ []

-- the same minute with 59 seconds: a state that begins today, -, place 12 repaired
abbrev pub ExampleShort : Type 0
ExampleShort =
    line (record { minute = 6_573_599; seconds = 59; daylight = 0b10; leap = 1; row = 5; notice = 1; place = 12; echo = 1; message = 0; payload = 0 })
    ≡ 32 ∷ 54 ∷ 53 ∷ 55 ∷ 51 ∷ 53 ∷ 57 ∷ 57 ∷ 32
    ∷ 50 ∷ 48 ∷ 49 ∷ 50 ∷ 45 ∷ 48 ∷ 54 ∷ 45 ∷ 51 ∷ 48 ∷ 32
    ∷ 50 ∷ 51 ∷ 58 ∷ 53 ∷ 57 ∷ 32
    ∷ 53 ∷ 57 ∷ 32 ∷ 49 ∷ 48 ∷ 32 ∷ 45 ∷ 32 ∷ 32 ∷ 53 ∷ 32 ∷ 49 ∷ 50 ∷ 32 ∷ 49 ∷ []

-- 2000-01-01 00:09, a minute of one digit
abbrev pub ExampleFirst : Type 0
ExampleFirst =
    line (record { minute = 9; seconds = 60; daylight = 0b00; leap = 0; row = 10; notice = 0; place = 3; echo = 1; message = 0; payload = 0 })
    ≡ blanks 7 ++ (57 ∷ 32 ∷ 50 ∷ 48 ∷ 48 ∷ 48 ∷ 45 ∷ 48 ∷ 49 ∷ 45 ∷ 48 ∷ 49 ∷ 32 ∷ 48 ∷ 48 ∷ 58 ∷ 48 ∷ 57 ∷ 32
    ∷ 54 ∷ 48 ∷ 32 ∷ 48 ∷ 48 ∷ 32 ∷ 32 ∷ 32 ∷ 49 ∷ 48 ∷ 32 ∷ 32 ∷ 51 ∷ 32 ∷ 49 ∷ [])

-- a message in 2012-07-04 17:31
abbrev pub ExampleMessage : Type 0
ExampleMessage =
    line (record { minute = 6_578_971; seconds = 60; daylight = 0; leap = 0; row = 0; notice = 0; place = 0; echo = 1; message = 1; payload = 5 })
    ≡ 32 ∷ 54 ∷ 53 ∷ 55 ∷ 56 ∷ 57 ∷ 55 ∷ 49 ∷ 32
    ∷ 50 ∷ 48 ∷ 49 ∷ 50 ∷ 45 ∷ 48 ∷ 55 ∷ 45 ∷ 48 ∷ 52 ∷ 32
    ∷ 49 ∷ 55 ∷ 58 ∷ 51 ∷ 49 ∷ 32
    ∷ 54 ∷ 48 ∷ 32 ∷ 32 ∷ 32 ∷ 32 ∷ 77 ∷ blanks 8

-- a page of no lines: its number, dashes and the last of 50 blank lines; and the number of page 893
abbrev pub ExamplePage : Type 0
ExamplePage =
    (take 84 (page 1 []) ≡ blanks 40 ++ (49 ∷ 10 ∷ []) ++ replicate 41 45 ++ (10 ∷ []))
    × (take 42 (drop 2142 (page 1 [])) ≡ blanks 41 ++ (10 ∷ []))
    × (take 42 (page 893 []) ≡ blanks 38 ++ (56 ∷ 57 ∷ 51 ∷ 10 ∷ []))
