-- `page::put_parts` meets its contract.
-- Assumes nothing.
use Prim.Native.Nat.{◌*◌, ◌≤◌}
use mathlib.Core.Path.{◌≡◌}
use lib.ListN.{length, take}
use Rattle.sequence.proofs.Putting.{Put}
use Rattle.page_rules.specs.Printing.{read_on}
use Rattle.page.specs.Bytes.{lines_text}
use Rattle.page.proofs.Pages.{rest, rest_from}
use Rattle.page.proofs.put_parts.Given as goal

-- i parts are put
abbrev pub invariant-loop-i : goal.invariant-loop-i
invariant-loop-i l =
    (l.i ≤ 5)
    × (length l.space ≡ 180)
    × (rest l.used l.next ≡ rest_from (l.i * 10) l.initial.next l.bits)
    × Put (lines_text (l.i * 10) (take (l.i * 10) (read_on l.initial.next l.bits).entries)) l.initial.out l.out (l.i * 420)
