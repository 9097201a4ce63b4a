-- `listing::text::put_frames` meets its contract.
-- Assumes nothing.
use Prim.Native.Nat.{ℕ, ◌+◌}
use mathlib.Core.List.{List, ◌++◌}
use mathlib.Core.Path.{refl, ap}
use native.Mathlib.Omega.{arith}
use lib.ListN.{length, drop}
use lib.Seq.{length-take-le}
use Rattle.messages.specs.Message.{plain}
use Rattle.sequence.specs.Writing.{frames}
use Rattle.listing.specs.Listing.{heading, frames_text}
use Rattle.sequence.proofs.Putting.{put_of, put-more, rest-length}
use Rattle.listing.proofs.Putting.{put-no, put-done}
use Rattle.listing.proofs.Texts.{lines_of, lines-small, length-frames}
use Rattle.listing.proofs.text.put_frames.Goals as goal

pub overflow_add-needed : goal.overflow_add-needed
overflow_add-needed c =
    let a = c.args in
    omega (arith, c.lines_length-needed.ensures, lines-small a.plan a.first a.count c.requires.2)

pub copy_from_slice-requires : goal.copy_from_slice-requires
copy_from_slice-requires c = length-take-le _ _ (omega arith)

pub returns-then-out-needed : goal.returns-then-out-needed
returns-then-out-needed c =
    let a = c.args in
    put-no a.out.now (frames_text a.first (frames (plain a.plan) a.first a.count))
    (omega (arith, c.lines_length-needed.ensures, length-frames a.plan a.first a.count))

pub returns : goal.returns
unfolding frames_text heading
returns c =
    let a = c.args in
    let n = c.lines_length-needed in
    let k = c.copy_from_slice in
    let b = a.out.now in
    let p = c.put_lines in
    let l = lines_of a.plan a.first a.count in
    let first = put_of heading b (k.new.self ++ drop 20 b) 20 20 refl (omega arith) refl (ap (λ (w : List ℕ). w ++ drop 20 b) k.ensures.after) in
    let second = put_of l _ p.new.out (length l) n.result refl (rw (rest-length first) (omega (arith, n.ensures))) n.ensures p.ensures in
    put-done (20 + n.result) refl (put-more first second)
