-- `recording::write_frames` meets its contract.
-- Assumes nothing.
use Prim.Native.Nat.{◌+◌}
use mathlib.Core.Path.{◌≡◌}
use mathlib.Core.List.{◌++◌}
use lib.ListN.{length, drop}
use Rattle.messages.specs.Bytes.{schedule_of}
use Rattle.messages.specs.Walk.{NextIs}
use Rattle.format.specs.Sending.{day_word}
use Rattle.sequence.specs.Writing.{recording, seconds}
use Rattle.recording.proofs.write_frames.Given as goal

abbrev pub invariant-loop-i : goal.invariant-loop-i
invariant-loop-i l =
    (l.at ≡ seconds l.schedule.plan l.first l.i)
    × (length l.out ≡ length l.initial.out)
    × (l.out ≡ recording (schedule_of l.schedule.plan l.schedule.messages.now) l.first l.i ++ drop l.at l.initial.out)
    × (l.word ≡ day_word l.schedule.plan l.day)
    × NextIs l.schedule.messages.now (l.first + l.i) l.k l.due
