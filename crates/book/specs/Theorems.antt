-- What holds of the text that `shiftbook` prints. No section of the papers: the space that it takes, and the frames that `station` prints.
-- Assumes nothing.
use Rattle.std.specs.Prelude.{ℕ, ◌≤◌, List, [], map, ◌≡◌, length, take}
use Rattle.bits.specs.Bits.{Binary, concat}
use Rattle.listing.specs.Listing.{bits_text}
use Rattle.book.specs.Book.{bits_in, book_limit, printed}

-- one byte more than the limit
abbrev pub input_space : ℕ
input_space = 2_745_001

-- the first bytes of the input decide
abbrev pub FirstBytesDecide : Type 0
FirstBytesDecide = (input : List ℕ) (n : ℕ) → input_space ≤ n → printed (take n input) ≡ printed input

-- the bytes of the most pages: a frame has 59 bits or more, so 2,745,000 digits are at most 46,525 entries, on 931 pages of 2,184 bytes
abbrev pub book_space : ℕ
book_space = 2_033_304

-- nothing that is printed takes more
abbrev pub SpaceIsEnough : Type 0
SpaceIsEnough = (input : List ℕ) → length (printed input) ≤ book_space

-- an input of blanks and line feeds alone, or of nothing, prints nothing
abbrev pub NothingFromGaps : Type 0
NothingFromGaps = (input : List ℕ) → length input ≤ book_limit → bits_in input ≡ [] → printed input ≡ []

-- frames as `station` prints them, each with its line feed, are the bits of a recording of these frames
abbrev pub FramesAsPrinted : Type 0
FramesAsPrinted = (fs : List (List ℕ)) → Binary (concat fs) → bits_in (concat (map bits_text fs)) ≡ concat fs
