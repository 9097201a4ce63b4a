-- What a page takes of an accepted recording from a state on, and what it leaves (document 02, 8).
-- Assumes nothing.
use Rattle.std.specs.Prelude.{ℕ, List, take}
use Rattle.format.specs.Entry.{Entry}
use Rattle.format.specs.declared.Due.{Due}
use Rattle.sequence.specs.Reading.{seconds_of, due_after}
use Rattle.page_rules.specs.Page.{lines_per_page}
use Rattle.page_rules.specs.Printing.{read_on}
use Rattle.page.specs.declared.Rest.{Rest}

-- the entries of the next page, "50 lines"
unfoldable pub page_entries : Due → List ℕ → List Entry
page_entries due f = take lines_per_page (read_on due f).entries

-- what is left after the next page: the bits of its entries are used, and the state is that after them
unfoldable pub rest_after : Due → List ℕ → Rest
rest_after due f = record { used = seconds_of (page_entries due f); due = due_after due (page_entries due f) }
