-- `messages::is_legal` meets its contract. The loop's invariant: the messages from message k on rise from the minute `from` on exactly if all are legal.
-- Assumes nothing.
use mathlib.Core.Path.{◌≡◌}
use Rattle.messages.specs.Message.{rising, legal_messages}
use Rattle.messages.specs.Bytes.{messages_in}
use Rattle.messages.specs.Walk.{all_from}
use Rattle.messages.proofs.is_legal.Given as goal

abbrev pub invariant-loop-k : goal.invariant-loop-k
invariant-loop-k l =
    rising l.from (all_from l.bytes l.k) ≡ legal_messages (messages_in l.bytes)
