-- `wwvb::amplitude::accepted` meets its contract.
-- Assumes nothing.
use Rattle.amplitude_rules.proofs.Facts.{legal, legal-through}
use Rattle.wwvb.specs.Amplitude.{accepted_reply}
use Rattle.wwvb.proofs.amplitude.accepted.Goals as goal

pub at_minute-date-requires : goal.at_minute-date-requires
at_minute-date-requires c = (legal c.args.values c.requires).minute

pub returns : goal.returns
unfolding accepted_reply
returns c =
    rw (c.at_minute-date.ensures, legal-through c.args.values.sign (legal c.args.values c.requires).sign)
