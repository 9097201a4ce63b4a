-- What `shiftbook` prints for its input: the digits of a recording in, its pages (document 02, 8) or its refusal out. No section of the papers:
-- the program, its limit and the text of a refusal are our own, after those of `station`.
-- Assumes nothing.
use Rattle.std.specs.Prelude.{ℕ, Bool, ◌||◌, List, [], ◌∷◌, ◌++◌, leb, eqb, length, drop}
use Rattle.bits.specs.Bits.{pick}
use Rattle.page_rules.specs.Printing.{read_all, pages_of}
use Rattle.listing.specs.Listing.{refused_text}

-- blanks and line feeds are passed over
unfoldable pub is_gap : ℕ → Bool
is_gap b = eqb b 32 || eqb b 10

-- the bit of a digit, 0 or 1; any other byte stands for 2, which is no bit, so that reading refuses it
unfoldable pub bit_in : ℕ → ℕ
bit_in b = pick (eqb b 48) 0 (pick (eqb b 49) 1 2)

-- the bits of a text
unfoldable pub bits_in : List ℕ → List ℕ
bits_in [] = []
bits_in (b ∷ bs) = let r = bits_in bs in pick (is_gap b) r (bit_in b ∷ r)

-- the pages of a recording, or its refusal
unfoldable pub recording_text : List ℕ → List ℕ
recording_text f = let r = (read_all f).refusal in pick (eqb r 0) (pages_of f) (refused_text r)

-- the pages of a text's recording, or its refusal
unfoldable pub book_text : List ℕ → List ℕ
book_text input = recording_text (bits_in input)

-- the bytes for which there is space: a month of frames, each with a space or a line feed
abbrev pub book_limit : ℕ
book_limit = 2_745_000

-- the bytes printed for the bytes of standard input; more than there is space for get the number of too little space
unfoldable pub printed : List ℕ → List ℕ
printed input = pick (leb (length input) book_limit) (book_text input) (refused_text 4)

-- a text whose bits were gathered at its front
unfoldable pub gathered : List ℕ → List ℕ
gathered input = bits_in input ++ drop (length (bits_in input)) input

-- the input after the call: gathered, but for one that is too long
unfoldable pub input_after : List ℕ → List ℕ
input_after input = pick (leb (length input) book_limit) (gathered input) input
