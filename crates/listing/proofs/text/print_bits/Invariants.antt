-- `listing::text::print_bits` meets its contract.
-- Assumes nothing.
use Rattle.listing.proofs.Putting.{PrintedTo}
use Rattle.listing.proofs.text.print_bits.Given as goal

abbrev pub invariant-loop-bit : goal.invariant-loop-bit
invariant-loop-bit l = PrintedTo l.initial.bit-items l.bit-items l.bit-index
