-- `bits::eight::unpack` meets its contract.
-- Assumes nothing.
use Rattle.bits.proofs.Products.{unpacked-bits}
use Rattle.bits.proofs.eight.unpack.Goals as goal

pub returns : goal.returns
returns c = unpacked-bits c.args.v c.requires
