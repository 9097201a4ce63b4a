-- The text of pages of the shift book, from entries to bytes, by columns, lines and pages (document 02, 8). A byte is a character's ASCII code.
-- Assumes nothing.
use Rattle.std.specs.Prelude.{ℕ, zero, suc, ◌+◌, ◌-◌, ◌/◌, List, [], ◌∷◌, ◌++◌, map, eqb, length, take, drop, replicate}
use Rattle.bits.specs.Bits.{pick, bits, concat}
use Rattle.decimal.specs.Decimal.{width, digits, decimal}
use Rattle.calendar.specs.Calendar.{date_at}
use Rattle.calendar.specs.declared.Date.{Date}
use Rattle.format.specs.Entry.{Entry}

-- "52 lines, each 41 characters and a line feed"
abbrev pub line_width : ℕ
line_width = 41

-- "50 lines" for entries
abbrev pub lines_per_page : ℕ
lines_per_page = 50

-- ---- columns

-- n blanks
unfoldable pub blanks : ℕ → List ℕ
blanks n = replicate n 32

-- "Numbers are right-aligned": a number in so many columns
unfoldable pub aligned : ℕ → ℕ → List ℕ
aligned columns n = blanks (columns - width n) ++ decimal n

-- "zero-filled only in date and time": "date 10 (2012-07-04)"
unfoldable pub date_text : Date → List ℕ
date_text d = digits 4 d.year ++ (45 ∷ []) ++ digits 2 d.month ++ (45 ∷ []) ++ digits 2 d.day

-- "time 5 (17:30)"
unfoldable pub time_text : Date → List ℕ
time_text d = digits 2 d.hour ++ (58 ∷ []) ++ digits 2 d.minute

-- "daylight 2 as its two bits"
unfoldable pub bits_text : ℕ → List ℕ
bits_text n = map (λ b. 48 + b) (bits 2 n)

-- "leap 1 (blank, - or +)": none, negative, positive
unfoldable pub leap_text : ℕ → List ℕ
leap_text zero = 32 ∷ []
leap_text (suc zero) = 45 ∷ []
leap_text (suc (suc n)) = 43 ∷ []

-- "daylight 2 as its two bits, leap 1 (blank, - or +), row 2, repair 2, echo 1"
unfoldable pub time_columns : Entry → List (List ℕ)
time_columns e = bits_text e.daylight ∷ leap_text e.leap ∷ aligned 2 e.row ∷ aligned 2 e.place ∷ aligned 1 e.echo ∷ []

-- "A message shows M under leap, else blanks"
unfoldable pub message_columns : List (List ℕ)
message_columns = blanks 2 ∷ (77 ∷ []) ∷ blanks 2 ∷ blanks 2 ∷ blanks 1 ∷ []

-- "minute 8, date 10 (2012-07-04), time 5 (17:30), length 2", then those of a time frame or of a message
unfoldable pub columns_of : Entry → List (List ℕ)
columns_of e =
    aligned 8 e.minute ∷ date_text (date_at e.minute) ∷ time_text (date_at e.minute) ∷ aligned 2 e.seconds
    ∷ pick (eqb e.message 0) (time_columns e) message_columns

-- ---- lines

-- "Columns with one space between"
unfoldable pub spaced : List (List ℕ) → List ℕ
spaced [] = []
spaced (c ∷ []) = c
spaced (c ∷ d ∷ cs) = c ++ (32 ∷ []) ++ spaced (d ∷ cs)

-- the line of an entry
unfoldable pub line : Entry → List ℕ
line e = spaced (columns_of e)

-- "the page number from 1, right-aligned, 41 dashes, then 50 lines"; "Unused lines are blanks."
unfoldable pub page_lines : ℕ → List (List ℕ) → List (List ℕ)
page_lines number ls =
    aligned line_width number ∷ replicate line_width 45 ∷ (ls ++ replicate (lines_per_page - length ls) (blanks line_width))

-- a line and its line feed
unfoldable pub feed : List ℕ → List ℕ
feed l = l ++ (10 ∷ [])

-- ---- pages

-- a page with at most 50 lines of entries
unfoldable pub page : ℕ → List (List ℕ) → List ℕ
page number ls = concat (map feed (page_lines number ls))

-- n pages, numbered from a number on, with 50 lines of entries each
unfoldable pub pages_from : ℕ → ℕ → List (List ℕ) → List ℕ
pages_from zero number ls = []
pages_from (suc n) number ls = page number (take lines_per_page ls) ++ pages_from n (suc number) (drop lines_per_page ls)

-- the pages that n entries take: n over 50, rounded up, so "No entries give no page."
abbrev pub page_count : ℕ → ℕ
page_count n = (n + 49) / lines_per_page

-- the pages of entries, "the page number from 1"
unfoldable pub pages : List Entry → List ℕ
pages es = pages_from (page_count (length es)) 1 (map line es)
