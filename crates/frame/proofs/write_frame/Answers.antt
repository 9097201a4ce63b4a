-- `frame::write_frame` meets its contract.
-- Assumes nothing.
use mathlib.Core.List.{List, ◌++◌}
use mathlib.Core.Path.{refl, ap, ◌∙◌}
use Prim.Native.Nat.{ℕ, ◌≤◌}
use lib.ListN.{drop}
use Rattle.plan.specs.Plan.{length_at}
use Rattle.plan.proofs.Rows.{notice-legal}
use Rattle.format.specs.Frame.{sent_by}
use Rattle.format.proofs.Sending.{body-lt, frame-bits}
use Rattle.frame.proofs.write_frame.Goals as goal
use Rattle.frame.proofs.write_frame.Goals.{Start}

notice : (a : Start) → (sent_by a.args.plan a.args.minute).notice ≤ 1
unfolding sent_by
notice a = notice-legal a.args.plan a.requires.0

pub put_frame-requires : goal.put_frame-requires
put_frame-requires c =
    (rw c.time_frame-word.ensures (body-lt (sent_by c.args.plan c.args.minute) (notice (goal.at.put_frame-requires c).Start)), c.requires.3)

pub returns : goal.returns
returns c =
    let s = sent_by c.args.plan c.args.minute in
    let n = length_at c.args.plan c.args.minute in (
      c.put_frame.ensures.0,
      c.put_frame.ensures.1
          ∙ ap (λ (l : List ℕ). l ++ drop n c.args.out.now) (frame-bits s _ n (notice (goal.at.returns c).Start) c.time_frame-word.ensures (unfold sent_by in refl)),
    )
