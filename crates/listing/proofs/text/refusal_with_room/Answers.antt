-- `listing::text::refusal_with_room` meets its contract.
-- Assumes nothing.
use mathlib.Core.Logic.{inl, inr}
use mathlib.Core.Path.{◌≡◌, refl, sym, ap}
use Rattle.messages.specs.Message.{plain}
use Rattle.sequence.specs.Writing.{write_refusal, WriteNumbers, write_result}
use Rattle.questions.specs.Refusals.{refusal_number}
use Rattle.listing.proofs.Asking.{no-refusal, a-refusal}
use Rattle.listing.proofs.Refusals.{is-space, not-space}
use Rattle.listing.proofs.text.refusal_with_room.Goals as goal
use Rattle.listing.proofs.text.refusal_with_room.Goals.{In-Err}

pub returns-in_default : goal.returns-in_default
unfolding write_result
returns-in_default c =
    let a = c.args in
    no-refusal a.plan a.first a.count 1 0 (ap (λ (x : WriteNumbers). x.refusal) (rw c.in_default.is at c.write_plain.ensures.0)) (inl refl)

-- the number of the refusal
said : (c : In-Err) → refusal_number c.in-Err.refusal ≡ write_refusal (plain c.args.plan) c.args.first c.args.count 1
unfolding write_result
said c = ap (λ (x : WriteNumbers). x.refusal) (rw c.in-Err.is at c.write_plain.ensures.0)

pub returns-then-eq : goal.returns-then-eq
returns-then-eq c =
    let a = c.args in
    let d = (goal.at.returns-then-eq c).In-Err in
    no-refusal a.plan a.first a.count 1 (refusal_number c.in-Err.refusal) (said d) (inr (is-space c.in-Err.refusal (sym c.if-eq.ensures)))

pub returns-else-eq : goal.returns-else-eq
returns-else-eq c =
    let a = c.args in
    let d = (goal.at.returns-else-eq c).In-Err in
    a-refusal a.plan a.first a.count 1 (refusal_number c.in-Err.refusal) (said d) (not-space c.in-Err.refusal (sym c.if-eq.ensures))
