-- `book::bit_in` meets its contract.
-- Assumes nothing.
use borrow.Author.Tests.{eq-eqb, ne_eqb}
use Rattle.book.specs.Book.{bit_in}
use Rattle.book.proofs.bit_in.Goals as goal

pub returns-then-byte-eq-ZERO : goal.returns-then-byte-eq-ZERO
unfolding bit_in
returns-then-byte-eq-ZERO c = rw (eq-eqb _ _ c.if-byte-eq-ZERO.true)

pub returns-then-byte-eq-ONE : goal.returns-then-byte-eq-ONE
unfolding bit_in
returns-then-byte-eq-ONE c =
    rw (ne_eqb _ _ c.if-byte-eq-ZERO.false, eq-eqb _ _ c.if-byte-eq-ONE.true)

pub returns-else-byte-eq-ONE : goal.returns-else-byte-eq-ONE
unfolding bit_in
returns-else-byte-eq-ONE c =
    rw (ne_eqb _ _ c.if-byte-eq-ZERO.false, ne_eqb _ _ c.if-byte-eq-ONE.false)
