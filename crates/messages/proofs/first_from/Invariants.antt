-- `messages::first_from` meets its contract. The loop's invariant: of the messages from message k on the same remain as of all.
-- Assumes nothing.
use mathlib.Core.Path.{◌≡◌}
use Rattle.messages.specs.Bytes.{messages_in}
use Rattle.messages.specs.Walk.{remaining, all_from}
use Rattle.messages.proofs.first_from.Given as goal

abbrev pub invariant-loop-k : goal.invariant-loop-k
invariant-loop-k l =
    remaining l.minute (all_from l.bytes l.k) ≡ remaining l.minute (messages_in l.bytes)
