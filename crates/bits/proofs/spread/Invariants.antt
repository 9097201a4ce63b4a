-- `bits::spread` meets its contract. The loop's invariant: from place i on stand the low bits of the word, and rest is what is above them.
-- Assumes nothing.
use Prim.Native.Nat.{◌-◌, ◌/◌, ◌^◌, ◌≤◌}
use mathlib.Core.Path.{◌≡◌}
use lib.ListN.{length, drop}
use Rattle.bits.specs.Bits.{bits}
use Rattle.bits.proofs.spread.Given as goal

abbrev pub invariant-loop-i : goal.invariant-loop-i
invariant-loop-i l =
    (l.i ≤ length l.initial.out) × (length l.out ≡ length l.initial.out) × (l.rest ≡ l.word / 2 ^ (length l.initial.out - l.i)) × (drop l.i l.out ≡ bits (length l.initial.out - l.i) l.word)

abbrev pub decreases-loop-i : goal.decreases-loop-i
decreases-loop-i l = l.i
