-- `listing::text::put_answer` meets its contract.
-- Assumes nothing.
use mathlib.Core.Path.{sym}
use Rattle.listing.proofs.Asking.{accepted}
use Rattle.listing.proofs.Answers.{frames-answer, refused-answer}
use Rattle.listing.proofs.text.put_answer.Goals as goal

pub put_frames-requires : goal.put_frames-requires
put_frames-requires c =
    let q = c.args.request in
    accepted q.plan q.first q.count (sym (rw c.in-None.is at c.refusal_with_room.ensures))

pub returns-in-None : goal.returns-in-None
returns-in-None c =
    let q = c.args.request in
    rw (← frames-answer q (sym (rw c.in-None.is at c.refusal_with_room.ensures))) c.put_frames.ensures

pub returns-in-Some : goal.returns-in-Some
returns-in-Some c =
    let q = c.args.request in
    rw (← refused-answer q c.in-Some.refusal (rw c.in-Some.is at c.refusal_with_room.ensures)) (rw (← c.from.ensures) c.put_refused.ensures)
