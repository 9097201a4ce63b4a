use native.Mathlib.Omega.{arith}
use Rattle.listing.proofs.Putting.{print-more}
use Rattle.listing.proofs.text.print_bits.Goals as goal

pub loop-bit-preserved : goal.loop-bit-preserved
loop-bit-preserved c =
    let l = c.loop-bit in
    rw c.glyph_of.ensures (print-more c.args.bits.now l.bit-items l.bit-index (omega arith) l.invariant)
