-- `frame::message_frame` meets its contract.
-- Assumes nothing.
use native.Mathlib.Omega.{arith}
use Rattle.plan.proofs.Rows.{notice-legal}
use Rattle.frame.proofs.message_frame.Goals as goal

pub message_part-requires : goal.message_part-requires
message_part-requires c =
    (c.requires.1, omega arith, omega (arith, notice-legal c.args.plan c.requires.0))
