-- `listing::text::glyph_of` meets its contract.
-- Assumes nothing.
use borrow.Author.Tests.{eq-eqb, ne_eqb}
use Rattle.listing.specs.Listing.{glyph}
use Rattle.listing.proofs.text.glyph_of.Goals as goal

pub returns-then-bit-eq0 : goal.returns-then-bit-eq0
unfolding glyph
returns-then-bit-eq0 c = rw (eq-eqb _ 0 c.if-bit-eq0.true)

pub returns-else-bit-eq0 : goal.returns-else-bit-eq0
unfolding glyph
returns-else-bit-eq0 c = rw (ne_eqb _ 0 c.if-bit-eq0.false)
