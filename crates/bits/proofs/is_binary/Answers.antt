-- `bits::is_binary` meets its contract: the bits of all bytes together are a bit exactly when each byte is.
-- Assumes nothing.
use Rattle.std.proofs.Common.{◌≡◌, bit_or, rules}
use Rattle.std.specs.List.{fold}
use Rattle.bits.proofs.Slices.{folded-test}
use Rattle.bits.proofs.is_binary.Goals as goal

pub returns : goal.returns
returns c =
    let s = c.args.s.now in
    let e : c.fold-seen.result ≡ fold bit_or 0 s = search rules in
    rw e (folded-test 0 s)
