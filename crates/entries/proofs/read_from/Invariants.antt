-- `entries::read_from` meets its contract.
-- Assumes nothing.
use Prim.Native.Nat.{◌-◌, ◌*◌, ◌/◌, ◌≤◌}
use mathlib.Core.Path.{◌≡◌}
use lib.ListN.{length, drop}
use Rattle.format.specs.Entry.{entry_size}
use Rattle.sequence.specs.Reading.{read_frames, read_from, due_from}
use Rattle.sequence.proofs.Resume.{resume}
use Rattle.entries.proofs.read_from.Given as goal

abbrev pub invariant-loop-used : goal.invariant-loop-used
invariant-loop-used l =
    (l.used ≤ length l.bits)
    × (l.count * entry_size ≤ length l.initial.entries)
    × (length l.entries ≡ length l.initial.entries)
    × (resume l.count l.used l.entries (read_frames (length l.initial.entries / entry_size - l.count) l.next (drop l.used l.bits)) ≡ read_from l.initial.next l.initial.entries l.bits)
    × ((read_frames (length l.initial.entries / entry_size - l.count) l.next (drop l.used l.bits)).due ≡ due_from l.initial.next l.initial.entries l.bits)

abbrev pub decreases-loop-used : goal.decreases-loop-used
decreases-loop-used l = length l.bits - l.used
