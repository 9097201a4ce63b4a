use Prim.Native.Nat.{ℕ, ◌+◌}
use mathlib.Core.Path.{ap}
use Rattle.listing.proofs.Texts.{number_put}
use Rattle.listing.proofs.text.put_number.Goals as goal

-- `listing::text::put_number` meets its contract.
-- Assumes nothing.

pub returns : goal.returns
returns c =
    let w = c.write_decimal-count in
    let a = c.args in
    (ap (λ (k : ℕ). k + 1) w.ensures.0, number_put a.n a.behind w.result a.out.now w.new.out w.ensures.0 c.requires w.ensures.1)
