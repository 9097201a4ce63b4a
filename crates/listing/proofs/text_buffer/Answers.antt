-- `listing::text_buffer` meets its contract. Assumes nothing.
use mathlib.Core.Path.{refl}
use Rattle.listing.specs.Answer.{zeros}
use Rattle.listing.proofs.text_buffer.Goals as goal

pub returns : goal.returns
unfolding zeros
returns c = refl
