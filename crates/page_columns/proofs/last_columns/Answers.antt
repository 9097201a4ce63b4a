-- `page_columns::last_columns` meets its contract.
-- Assumes nothing.
use Rattle.page_columns.specs.Bytes.{entry_in}
use borrow.Author.Tests.{eq-eqb, ne_eqb}
use lib.ListN.{get_or}
use Rattle.page_columns.proofs.Texts.{message-is}
use Rattle.page_columns.proofs.last_columns.Goals as goal

pub returns-then-entry-eq0 : goal.returns-then-entry-eq0
unfolding entry_in
returns-then-entry-eq0 c =
    let a = c.args.entry.now in
    rw (eq-eqb (get_or a 11 0) 0 c.if-entry-eq0.true) c.time_columns.ensures

pub returns : goal.returns
unfolding entry_in
returns c =
    let a = c.args.entry.now in
    rw (ne_eqb (get_or a 11 0) 0 c.if-entry-eq0.false, message-is)
