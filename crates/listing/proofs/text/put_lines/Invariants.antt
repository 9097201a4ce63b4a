-- `listing::text::put_lines` meets its contract.
-- Assumes nothing.
use Rattle.sequence.proofs.Putting.{Put}
use Rattle.listing.proofs.Texts.{lines_of}
use Rattle.listing.proofs.text.put_lines.Given as goal

abbrev pub invariant-loop-i : goal.invariant-loop-i
invariant-loop-i l = Put (lines_of l.plan l.first l.i) l.initial.out l.out l.at
