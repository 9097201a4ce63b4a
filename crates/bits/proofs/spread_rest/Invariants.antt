-- `bits::spread_rest` meets its contract. The loop's invariant: from place i on stand the low bits of the word and the rest of the slice, and rest is what is above them.
-- Assumes nothing.
use Prim.Native.Nat.{◌-◌, ◌/◌, ◌^◌, ◌≤◌}
use mathlib.Core.List.{◌++◌}
use mathlib.Core.Path.{◌≡◌}
use lib.ListN.{length, drop}
use Rattle.bits.specs.Bits.{bits}
use Rattle.bits.proofs.spread_rest.Given as goal

abbrev pub invariant-loop-i : goal.invariant-loop-i
invariant-loop-i l =
    (l.i ≤ l.n) × (length l.out ≡ length l.initial.out) × (l.rest ≡ l.word / 2 ^ (l.n - l.i)) × (drop l.i l.out ≡ bits (l.n - l.i) l.word ++ drop l.n l.initial.out)
