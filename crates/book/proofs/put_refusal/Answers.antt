-- `book::put_refusal` meets its contract.
-- Assumes nothing.
use Prim.Native.Nat.{◌≤◌}
use native.Mathlib.Omega.{arith}
use lib.ListN.{length}
use Rattle.book.proofs.Space.{refusal_told}
use Rattle.book.proofs.put_refusal.Goals as goal

pub returns : goal.returns
returns c =
    let a = c.args in
    let space : 19 ≤ length a.out.now = omega arith in
    rw c.unwrap_or.ensures (refusal_told a.refusal a.out.now c.put_refused.new.out space c.put_refused.result (rw (← c.from.ensures) c.put_refused.ensures))
