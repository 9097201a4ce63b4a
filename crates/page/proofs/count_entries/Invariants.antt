-- `page::count_entries` meets its contract.
-- Assumes nothing.
use Prim.Native.Nat.{◌-◌, ◌≤◌}
use mathlib.Core.Path.{◌≡◌}
use lib.ListN.{length, drop}
use Rattle.page_rules.specs.Printing.{read_all}
use Rattle.page.proofs.Parts.{Counting}
use Rattle.page.proofs.count_entries.Given as goal

abbrev pub invariant-loop-used : goal.invariant-loop-used
invariant-loop-used l =
    (l.used ≤ length l.bits) × (l.count ≤ l.used) × (length l.space ≡ 180) × Counting l.count l.due (drop l.used l.bits) (read_all l.bits)

abbrev pub decreases-loop-used : goal.decreases-loop-used
decreases-loop-used l = length l.bits - l.used
