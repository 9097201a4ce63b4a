-- `cases::plan` meets its contract.
-- Assumes nothing.
use Rattle.cases.specs.Cases.{plan_in}
use Rattle.cases.proofs.Laws.{signed_back}
use Rattle.cases.proofs.plan.Goals as goal

pub returns : goal.returns
unfolding plan_in
returns c =
    rw (
      c.number.ensures,
      c.number-2.ensures,
      c.number-3.ensures,
      c.number-4.ensures,
      c.signed.ensures,
      signed_back 4 c.args.text.now,
      c.number-5.ensures,
    )
