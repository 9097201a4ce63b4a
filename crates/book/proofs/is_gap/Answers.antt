-- `book::is_gap` meets its contract.
-- Assumes nothing.
use borrow.Author.Tests.{eq-eqb, ne_eqb}
use Rattle.book.specs.Book.{is_gap}
use Rattle.book.proofs.is_gap.Goals as goal

pub returns-then-byte-eq-BLANK : goal.returns-then-byte-eq-BLANK
unfolding is_gap
returns-then-byte-eq-BLANK c = rw (eq-eqb _ _ c.if-byte-eq-BLANK.true)

pub returns-else-byte-eq-BLANK : goal.returns-else-byte-eq-BLANK
unfolding is_gap
returns-else-byte-eq-BLANK c = rw (ne_eqb _ _ c.if-byte-eq-BLANK.false)
