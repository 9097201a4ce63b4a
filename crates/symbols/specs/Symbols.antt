-- Rows of symbols, each 0, 1 or 2 (document 02, 5, "The amplitude code as well"): markers, places that are always 0, and numbers in bits.
-- Assumes nothing.
use Rattle.std.specs.Prelude.{ℕ, ◌^◌, ◌<◌, Bool, true, ◌&&◌, List, [], ◌∷◌, ◌++◌, ◌≡◌, leb, eqb, length, take, drop, get_or}
use Rattle.bits.specs.Bits.{bits, number, is_bit, all}

-- the symbol of a marker
abbrev pub marker : ℕ
marker = 2

-- a part of a row: a marker; a place that is always 0; a number of n bits, the highest first
pub data Part : Type 0 where
  mark : Part
  blank : Part
  high : ℕ → Part

-- the row of these parts, with these numbers in their order
unfoldable pub fill : List Part → List ℕ → List ℕ
fill [] vs = []
fill (mark ∷ ps) vs = marker ∷ fill ps vs
fill (blank ∷ ps) vs = 0 ∷ fill ps vs
fill (high n ∷ ps) vs = bits n (get_or vs 0 0) ++ fill ps (drop 1 vs)

-- whether a row has these parts and no more
unfoldable pub fits : List Part → List ℕ → Bool
fits [] s = eqb (length s) 0
fits (mark ∷ ps) s = eqb (get_or s 0 0) marker && fits ps (drop 1 s)
fits (blank ∷ ps) s = leb 1 (length s) && eqb (get_or s 0 0) 0 && fits ps (drop 1 s)
fits (high n ∷ ps) s = leb n (length s) && all is_bit (take n s) && fits ps (drop n s)

-- the numbers of a row of these parts, in their order
unfoldable pub numbers : List Part → List ℕ → List ℕ
numbers [] s = []
numbers (mark ∷ ps) s = numbers ps (drop 1 s)
numbers (blank ∷ ps) s = numbers ps (drop 1 s)
numbers (high n ∷ ps) s = number (take n s) ∷ numbers ps (drop n s)

-- as many numbers as there are parts for them, each within its bits
abbrev pub Within : List Part → List ℕ → Type 0
Within [] vs = vs ≡ []
Within (mark ∷ ps) vs = Within ps vs
Within (blank ∷ ps) vs = Within ps vs
Within (high n ∷ ps) [] = ⊥
Within (high n ∷ ps) (v ∷ vs) = (v < 2 ^ n) × Within ps vs

-- ---- the theorems: filling a row and taking its numbers are inverse

-- the row of numbers within their bits has these parts, and these numbers
abbrev pub FilledReads : Type 0
FilledReads = (ps : List Part) (vs : List ℕ) → Within ps vs → (fits ps (fill ps vs) ≡ true) × (numbers ps (fill ps vs) ≡ vs)

-- a row with these parts has numbers within their bits, and is the row of these
abbrev pub ReadFills : Type 0
ReadFills = (ps : List Part) (s : List ℕ) → fits ps s ≡ true → Within ps (numbers ps s) × (fill ps (numbers ps s) ≡ s)
