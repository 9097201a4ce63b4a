use Prim.Native.Nat.{◌+◌, ◌-◌}
use mathlib.Core.Path.{◌≡◌, refl, sym, ap, ◌∙◌}
use native.Mathlib.Nat.{div-one, sub_self}
use native.Mathlib.Omega.{arith}
use lib.ListN.{length}
use lib.Seq.{drop-length}
use Rattle.bits.specs.Bits.{bits}
use Rattle.bits.proofs.Bits.{length-bits}
use Rattle.bits.proofs.Parts.{bits-split}
use Rattle.bits.proofs.Slices.{eight-length, eight-above, eight-done}
use Rattle.bits.proofs.spread.Goals as goal

pub loop-i-init : goal.loop-i-init
unfolding bits
loop-i-init c =
    let n = length c.args.out.now in
    (omega arith, refl, rw (sub_self n) (sym (div-one c.args.word)), rw (sub_self n) (drop-length c.args.out.now))

pub loop-i-preserved : goal.loop-i-preserved
loop-i-preserved c =
    let l = c.loop-i in
    let a = c.args in
    let n = length a.out.now in
    let new = c.spread.new.out in
    let e = c.spread.ensures in
    let g = c.loop-i-test.true in (
      omega arith,
      eight-length a.word n l.i l.rest l.out new g l.invariant.0 l.invariant.1 l.invariant.2 l.invariant.3 e,
      eight-above a.word n l.i l.rest l.out new g l.invariant.0 l.invariant.1 l.invariant.2 l.invariant.3 e,
      eight-done a.word n l.i l.rest l.out new g l.invariant.0 l.invariant.1 l.invariant.2 l.invariant.3 e,
    )

pub returns : goal.returns
returns c =
    let l = c.loop-i in
    let a = c.args in
    let n = length a.out.now in
    let e : l.i + (n - l.i) ≡ n = omega arith in
    c.spread_rest.ensures ∙ rw (l.invariant.3, l.invariant.2, ← bits-split l.i (n - l.i) a.word, e)

pub shape_of-out : goal.shape_of-out
shape_of-out c =
    let a = c.args in
    ap length (returns c) ∙ length-bits (length a.out.now) a.word
