-- `bits::number_of` meets its contract: the word so far, with the bits that are left below it, is the number.
-- Assumes nothing.
use Prim.Native.Nat.{◌+◌, ◌*◌, ◌/◌, ◌^◌, ◌<◌}
use lib.ListN.{length}
use Rattle.bits.proofs.Slices.{Sofar}
use Rattle.bits.proofs.number_of.Given as goal

abbrev pub invariant-loop-eight : goal.invariant-loop-eight
invariant-loop-eight l =
    (l.word < 2 ^ (l.eight-index * 8)) × Sofar l.s (l.eight-index * 8) l.word

abbrev pub invariant-loop-b : goal.invariant-loop-b
invariant-loop-b l =
    (l.word < 2 ^ (length l.s / 8 * 8 + l.b-index)) × Sofar l.s (length l.s / 8 * 8 + l.b-index) l.word
