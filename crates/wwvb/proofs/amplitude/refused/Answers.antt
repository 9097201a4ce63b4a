-- `wwvb::amplitude::refused` meets its contract.
-- Assumes nothing.
use mathlib.Core.Path.{refl}
use Rattle.wwvb.specs.Amplitude.{refused_reply}
use Rattle.wwvb.proofs.amplitude.refused.Goals as goal

pub returns : goal.returns
unfolding refused_reply
returns c = refl
