use Prim.Native.Nat.{suc, ◌-◌, ◌%◌}
use mathlib.Core.Path.{◌≡◌, refl, sym, ◌∙◌}
use native.Mathlib.Nat.{div-one, sub_self, sub-zero}
use native.Mathlib.Omega.{arith}
use lib.ListN.{length-set}
use Rattle.bits.specs.Bits.{bit, bits}
use Rattle.bits.proofs.Slices.{drop-set}
use Rattle.bits.proofs.Bits.{half-shr}
use Rattle.bits.proofs.spread_rest.Goals as goal

pub loop-i-init : goal.loop-i-init
unfolding bits
loop-i-init c =
    let n = c.args.n in
    (omega arith, refl, rw (sub_self n) (sym (div-one c.args.word)), rw (sub_self n))

pub loop-i-preserved : goal.loop-i-preserved
unfolding bits bit
loop-i-preserved c =
    let n = c.args.n in
    let i = c.loop-i.i in
    let h = c.loop-i.invariant in
    let k : n - (i - 1) ≡ suc (n - i) = omega arith in
    let j : suc (i - 1) ≡ i = omega arith in (
      omega arith,
      length-set c.loop-i.out (i - 1) (c.loop-i.rest % 2) ∙ h.1,
      rw (k, h.2) (half-shr c.args.word (n - i)),
      rw (k, drop-set c.loop-i.out (i - 1) (c.loop-i.rest % 2) (omega arith), j, h.3, h.2),
    )

pub returns : goal.returns
returns c =
    let e : c.loop-i.i ≡ 0 = omega arith in
    rw (e, sub-zero c.args.n) at c.loop-i.invariant.3
