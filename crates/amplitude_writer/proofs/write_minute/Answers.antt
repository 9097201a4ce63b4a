-- `amplitude_writer::write_minute` meets its contract.
-- Assumes nothing.
use mathlib.Core.Path.{◌≡◌, sym, subst, ◌∙◌}
use mathlib.Core.Bool.{true}
use native.Mathlib.Omega.{arith}
use Rattle.std.proofs.lemmas.Result.{err_from_is_err_and}
use Rattle.amplitude_rules.specs.Amplitude.{legal_values}
use Rattle.amplitude_rules.specs.declared.Values.{Values}
use Rattle.amplitude_rules.proofs.Sent.{sent-legal}
use Rattle.amplitude_writer.proofs.Answers.{no-1, no-3, no-18, no-4, all_yes}
use Rattle.amplitude_writer.proofs.write_minute.Goals as goal

pub returns-then-not-is_legal : goal.returns-then-not-is_legal
returns-then-not-is_legal c =
    no-1 _ c.args.minute c.args.ut1.sign c.args.ut1.tenths c.args.out.now (sym c.is_legal.ensures ∙ c.if-not-is_legal.true)

pub returns-in_err-minute : goal.returns-in_err-minute
returns-in_err-minute c =
    let p = err_from_is_err_and c.from_residual.result c.from_residual.ensures.1 in
    rw (p.1, p.2, c.in_err-minute.ensures.0)
    (no-3 _ c.args.minute c.args.ut1.sign c.args.ut1.tenths c.args.out.now (sym c.is_legal.ensures ∙ c.if-not-is_legal.false)
    c.in_err-minute.ensures.1)

pub returns-then-not-is_ut1 : goal.returns-then-not-is_ut1
returns-then-not-is_ut1 c =
    no-18 _ c.args.minute c.args.ut1.sign c.args.ut1.tenths c.args.out.now (sym c.is_legal.ensures ∙ c.if-not-is_legal.false)
    (omega (arith, c.in_ok-minute.ensures)) (sym c.is_ut1.ensures ∙ c.if-not-is_ut1.true)

pub returns-then-out-needed : goal.returns-then-out-needed
returns-then-out-needed c =
    no-4 _ c.args.minute c.args.ut1.sign c.args.ut1.tenths c.args.out.now (sym c.is_legal.ensures ∙ c.if-not-is_legal.false)
    (omega (arith, c.in_ok-minute.ensures)) (sym c.is_ut1.ensures ∙ c.if-not-is_ut1.false)
    c.values_at-values.result (rw c.in_ok-minute.ensures at c.values_at-values.ensures) c.if-out-needed.true

pub put-requires : goal.put-requires
put-requires c = (
  subst (λ (r : Values). legal_values r ≡ true) (sym (rw c.in_ok-minute.ensures at c.values_at-values.ensures))
      (sent-legal c.args.schedule.plan c.args.minute c.args.ut1.sign c.args.ut1.tenths (omega (arith, c.in_ok-minute.ensures))
      (sym c.is_ut1.ensures ∙ c.if-not-is_ut1.false)),
  c.if-out-needed.false,
)

pub returns : goal.returns
returns c =
    all_yes _ c.args.minute c.args.ut1.sign c.args.ut1.tenths c.args.out.now (sym c.is_legal.ensures ∙ c.if-not-is_legal.false)
    (omega (arith, c.in_ok-minute.ensures)) (sym c.is_ut1.ensures ∙ c.if-not-is_ut1.false)
    c.values_at-values.result (rw c.in_ok-minute.ensures at c.values_at-values.ensures) c.if-out-needed.false c.put.new.out c.put.ensures
