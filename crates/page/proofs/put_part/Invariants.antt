-- `page::put_part` meets its contract.
-- Assumes nothing.
use Prim.Native.Nat.{◌*◌}
use Rattle.sequence.proofs.Putting.{Put}
use Rattle.page.specs.Bytes.{entries_in}
use Rattle.page.proofs.Lines.{up_to}
use Rattle.page.proofs.put_part.Given as goal

abbrev pub invariant-loop-i : goal.invariant-loop-i
invariant-loop-i l = Put (up_to 10 (entries_in l.entries) l.i) l.initial.out l.out (l.i * 42)
