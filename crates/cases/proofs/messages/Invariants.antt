-- `cases::messages` meets its contract.
-- Assumes nothing.
use Rattle.std.proofs.Common.{◌≡◌, ◌<◌, ℕ, slice_index}
use Rattle.cases.specs.Cases.{message_byte}
use Rattle.cases.proofs.messages.Given as goal

abbrev pub invariant-loop-i : goal.invariant-loop-i
invariant-loop-i l = (j : ℕ) → j < l.i → slice_index l.byte-items j ≡ message_byte l.k l.text j
