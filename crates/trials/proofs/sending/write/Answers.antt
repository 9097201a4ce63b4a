-- `trials::sending::write` meets its contract.
-- Assumes nothing.
use Rattle.std.proofs.Common.{◌∙◌, ap, refl}
use Rattle.cases.specs.Cases.{number_at}
use Rattle.trials.specs.Tried.{writing_gives, buffer_after}
use Rattle.trials.proofs.Given.{schedule-given}
use Rattle.trials.proofs.sending.write.Goals as goal

pub returns-clause-written : goal.returns-clause-written
unfolding writing_gives buffer_after
returns-clause-written c =
    let got = c.in-Some.ensures.lookup.0 in
    let size-is = c.size.ensures ∙ ap (λ k. number_at k c.args.text.now) c.from.ensures in
    let told = c.messages-bytes.ensures in
    let both = schedule-given c.args.k c.args.text.now c.messages-bytes.result told.0 told.1 size-is got.1 got.2 in (
      c.write_recording.ensures.0 ∙ rw (both.0, c.plan.ensures, c.number.ensures, both.1) refl,
      c.write_recording.ensures.1 ∙ rw (both.0, c.plan.ensures, c.number.ensures, both.1) refl,
    )
