-- `page::put_pages` meets its contract.
-- Assumes nothing.
use Prim.Native.Nat.{◌-◌, ◌*◌, ◌≤◌}
use mathlib.Core.List.{map}
use mathlib.Core.Path.{◌≡◌}
use lib.ListN.{length, drop}
use Rattle.sequence.proofs.Putting.{Put}
use Rattle.page_rules.specs.Page.{line, pages_from}
use Rattle.page_rules.specs.Printing.{entries_of}
use Rattle.page.proofs.Pages.{Printing}
use Rattle.page.proofs.put_pages.Given as goal

-- number - 1 pages are printed
abbrev pub invariant-loop-used : goal.invariant-loop-used
invariant-loop-used l =
    (l.used ≤ length l.bits)
    × (1 ≤ l.number)
    × (l.at ≡ 2184 * (l.number - 1))
    × Printing (l.number - 1) l.due (drop l.used l.bits) (entries_of l.bits)
    × Put (pages_from (l.number - 1) 1 (map line (entries_of l.bits))) l.initial.out l.out l.at

abbrev pub decreases-loop-used : goal.decreases-loop-used
decreases-loop-used l = length l.bits - l.used
