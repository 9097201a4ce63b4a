-- `wwvb::amplitude::wwvb_read_amplitude` meets its contract.
-- Assumes nothing.
use mathlib.Core.Path.{sym, ap, ◌∙◌}
use Rattle.amplitude_rules.proofs.Exact.{read-exactly}
use Rattle.amplitude_reader.specs.Answer.{answer_of}
use Rattle.wwvb.specs.Amplitude.{refused_reply, amplitude_reply}
use Rattle.wwvb.proofs.amplitude.wwvb_read_amplitude.Goals as goal

pub accepted-requires : goal.accepted-requires
accepted-requires c =
    ((read-exactly c.args.symbols.now c.in-Ok.values).0
    (sym c.read_minute.ensures ∙ ap answer_of c.in-Ok.is)).0

pub returns-in-Ok : goal.returns-in-Ok
returns-in-Ok c =
    c.accepted.ensures ∙ ap amplitude_reply (ap answer_of (sym c.in-Ok.is) ∙ c.read_minute.ensures)

pub returns-in-Err : goal.returns-in-Err
returns-in-Err c =
    c.refused.ensures
    ∙ ap refused_reply c.from.ensures
    ∙ ap amplitude_reply (ap answer_of (sym c.in-Err.is) ∙ c.read_minute.ensures)
