-- Printing a recording as pages (document 02, 8): "The input is a recording; a refused one gives its number and prints nothing".
-- Assumes nothing.
use Rattle.std.specs.Prelude.{ℕ, List, [], ◌∷◌, ◌++◌, leb, eqb, length, drop}
use Rattle.questions.specs.Questions.{asked}
use Rattle.bits.specs.Bits.{pick}
use Rattle.format.specs.Entry.{Entry}
use Rattle.format.specs.Questions.{start}
use Rattle.format.specs.declared.Due.{Due}
use Rattle.sequence.specs.Reading.{Found, read_frames}
use Rattle.page_rules.specs.Page.{pages}

-- "question 5 isn't put": reading with space for an entry a bit, so never for fewer entries than there are frames
unfoldable pub read_on : Due → List ℕ → Found
read_on due f = read_frames (length f) due f

-- reading a whole recording so
unfoldable pub read_all : List ℕ → Found
read_all f = read_on start f

-- the entries that it gives
abbrev pub entries_of : List ℕ → List Entry
entries_of f = (read_all f).entries

-- the pages of these entries
abbrev pub pages_of : List ℕ → List ℕ
pages_of f = pages (entries_of f)

-- what printing gives: the refusal or 0, the number of bytes written, and the buffer after it
pub record Printed : Type 0 where
  pub refusal : ℕ
  pub bytes : ℕ
  pub buffer : List ℕ

-- a refusal: its number, no byte, and the buffer as it was
unfoldable pub unprinted : List ℕ → ℕ → Printed
unprinted buffer n = record { refusal = n; bytes = 0; buffer = buffer }

-- a text in the buffer: "a buffer too short gives 4, untouched; else the answer is 0 and the number of bytes written"
unfoldable pub print_text : List ℕ → List ℕ → Printed
print_text buffer text =
    asked (unprinted buffer) ((4, leb (length text) (length buffer)) ∷ [])
    (record { refusal = 0; bytes = length text; buffer = text ++ drop (length text) buffer })

-- what was read of a recording: its refusal, or the pages of its entries; 4 comes "After all these"
unfoldable pub print_found : List ℕ → Found → Printed
print_found buffer r = let t = print_text buffer (pages r.entries) in pick (eqb r.refusal 0) t (unprinted buffer r.refusal)

-- printing a recording
unfoldable pub print_pages : List ℕ → List ℕ → Printed
print_pages buffer f = print_found buffer (read_all f)
