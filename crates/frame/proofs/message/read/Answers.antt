-- `frame::message::read` meets its contract.
-- Assumes nothing.
use mathlib.Core.Path.{sym}
use Rattle.format.proofs.Messages.{no-19}
use Rattle.frame.proofs.message.read.Goals as goal

pub returns-in-Any : goal.returns-in-Any
returns-in-Any c = rw c.in-Any.is (sym (no-19 _ _ _))

pub returns-in-Minute : goal.returns-in-Minute
returns-in-Minute c = rw c.in-Minute.is c.read_counted.ensures
