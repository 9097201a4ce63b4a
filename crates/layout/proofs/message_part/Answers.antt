-- `layout::message_part` meets its contract.
-- Assumes nothing.
use mathlib.Core.Path.{sym}
use Rattle.format.proofs.Words.{message-number}
use Rattle.layout.proofs.message_part.Goals as goal

pub returns : goal.returns
returns c = sym (message-number c.args.payload c.args.echo c.args.notice c.requires.0)
