-- `book::gather_bits` meets its contract.
-- Assumes nothing.
use mathlib.Core.Path.{◌≡◌}
use lib.ListN.{length}
use Rattle.book.proofs.Gathering.{GatheredTo}
use Rattle.book.proofs.gather_bits.Given as goal

abbrev pub invariant-loop-i : goal.invariant-loop-i
invariant-loop-i l = GatheredTo l.initial.text l.text l.count l.i × (length l.text ≡ length l.initial.text)
