-- `frame::is_due` meets its contract.
-- Assumes nothing.
use Rattle.format.specs.Questions.{follows}
use Rattle.frame.proofs.is_due.Goals as goal

pub returns-in-Any : goal.returns-in-Any
unfolding follows
returns-in-Any c = rw c.in-Any.is

pub returns-in-Minute : goal.returns-in-Minute
unfolding follows
returns-in-Minute c = rw c.in-Minute.is
