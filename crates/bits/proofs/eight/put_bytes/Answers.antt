-- `bits::eight::put_bytes` meets its contract.
-- Assumes nothing.
use Prim.Native.Nat.{◌+◌, ◌-◌}
use mathlib.Core.List.{append_assoc}
use mathlib.Core.Path.{◌≡◌}
use native.Mathlib.Omega.{arith}
use lib.Seq.{drop-drop}
use Rattle.bits.proofs.Slices.{eight-bytes}
use Rattle.bits.proofs.eight.put_bytes.Goals as goal

pub returns : goal.returns
returns c =
    let a = c.args in
    let e : a.i + 8 - a.i ≡ 8 = omega arith in
    rw (e, c.copy_from_slice.ensures.after, c.to_le_bytes.ensures, eight-bytes a.x, append_assoc, drop-drop 8 a.i a.out.now)
