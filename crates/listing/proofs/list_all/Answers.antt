-- `listing::list_all` meets its contract.
-- Assumes nothing.
use Prim.Native.Nat.{◌≤◌}
use native.Mathlib.Omega.{arith}
use lib.ListN.{length}
use Rattle.listing.specs.Theorems.{listing_space}
use Rattle.listing.proofs.Space.{all_listed}
use Rattle.listing.proofs.list_all.Goals as goal

pub returns : goal.returns
returns c =
    let space : listing_space ≤ length c.args.out.now = omega arith in
    let a = c.args in
    rw c.unwrap_or.ensures (all_listed a.input.now a.out.now c.list.new.out space c.list.result c.list.ensures)
