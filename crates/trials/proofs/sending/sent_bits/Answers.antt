-- `trials::sending::sent_bits` meets its contract.
-- Assumes nothing.
use Rattle.std.proofs.Common.{◌≡◌, ◌∙◌, ℕ, Ok, Err, Result, ap, arith}
use Rattle.std.specs.Result.{result_unwrap_or}
use Rattle.recording.specs.Answer.{write_numbers}
use Rattle.sequence.specs.Writing.{WriteNumbers}
use Rattle.questions.specs.declared.Refusal.{Refusal}
use Rattle.trials.specs.Tried.{sent_bits}
use Rattle.trials.proofs.Sent.{front-sent}
use Rattle.trials.proofs.sending.sent_bits.Goals as goal

-- what is given where a refusal gives 0
bits-given : (answer : Result ℕ Refusal) (w : WriteNumbers) (n : ℕ) → n ≡ result_unwrap_or answer 0 → write_numbers answer ≡ w → n ≡ w.bits
bits-given (Ok m) w n e h = e ∙ ap (λ v. v.bits) h
bits-given (Err r) w n e h = e ∙ ap (λ v. v.bits) h

pub shared_ref_as_front-result : goal.shared_ref_as_front-result
shared_ref_as_front-result c =
    let e = bits-given c.write.result _ c.unwrap_or-n.result c.unwrap_or-n.ensures c.write.ensures.written.0 in
    omega (arith, e, (front-sent c.args.count c.args.k c.args.text.now c.args.space.now).room, c.told-space)

pub returns : goal.returns
returns c =
    let e = bits-given c.write.result _ c.unwrap_or-n.result c.unwrap_or-n.ensures c.write.ensures.written.0 in
    rw (e, c.write.ensures.written.1) (front-sent c.args.count c.args.k c.args.text.now c.args.space.now).front
    ∙ ap (λ space. sent_bits c.args.count c.args.k space c.args.text.now) c.told-space
