-- The entries in a buffer that reading filled, and their lines (document 01, "Recordings and entries"; document 02, 8).
-- Assumes nothing.
use Rattle.std.specs.Prelude.{ℕ, zero, suc, ◌-◌, ◌/◌, List, [], ◌∷◌, ◌++◌, map, length, get_or, take, drop, replicate}
use Rattle.bits.specs.Bits.{concat}
use Rattle.format.specs.Entry.{Entry, entry_size}
use Rattle.page_rules.specs.Page.{line_width, blanks, line, feed}
use Rattle.page_columns.specs.Bytes.{entry_in}

-- n entries, 18 bytes each
unfoldable pub entries_from : ℕ → List ℕ → List Entry
entries_from zero s = []
entries_from (suc n) s = entry_in (take entry_size s) ∷ entries_from n (drop entry_size s)

-- the entries that bytes hold
unfoldable pub entries_in : List ℕ → List Entry
entries_in s = entries_from (length s / entry_size) s

-- line i of entries, counted from 0: "Unused lines are blanks."
unfoldable pub line_at : ℕ → List Entry → List ℕ
line_at i es = get_or (map line es) i (blanks line_width)

-- n lines, those of at most n entries and blank ones after them, each with its line feed
unfoldable pub lines_text : ℕ → List Entry → List ℕ
lines_text n es = concat (map feed (map line es ++ replicate (n - length (map line es)) (blanks line_width)))
