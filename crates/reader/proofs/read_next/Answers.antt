-- `reader::read_next` meets its contract.
-- Assumes nothing.
use Prim.Native.Nat.{ℕ}
use mathlib.Core.Path.{◌≡◌, sym, ◌∙◌}
use mathlib.Core.Bool.{true}
use mathlib.Core.List.{List}
use native.Mathlib.Omega.{arith}
use lib.ListN.{length, take}
use lib.Seq.{length-take-le}
use Rattle.bits.specs.Bits.{number, is_bit, all}
use Rattle.bits.proofs.Gathering.{gathered-word, gathered_none}
use Rattle.format.specs.Frame.{min_frame}
use Rattle.format.proofs.Questions.{no-6, no-7}
use Rattle.reader.proofs.read_next.Goals as goal

pub returns-then-frame-lt-BODY : goal.returns-then-frame-lt-BODY
returns-then-frame-lt-BODY c =
    let a = c.args in sym (no-6 a.due a.alone a.frame.now (omega arith))

pub slice_bounds-gather-end : goal.slice_bounds-gather-end
slice_bounds-gather-end c =
    let f : List ℕ = c.args.frame.now in
    let front_length : length (take min_frame f) ≡ min_frame = length-take-le min_frame f (omega arith) in
    sym front_length

pub gather-requires : goal.gather-requires
gather-requires c =
    let f : List ℕ = c.args.frame.now in
    let front_length : length (take min_frame f) ≡ min_frame = length-take-le min_frame f (omega arith) in
    omega (arith, front_length)

pub returns-in_default : goal.returns-in_default
returns-in_default c =
    let f : List ℕ = c.args.frame.now in
    sym (no-7 c.args.due c.args.alone f (omega arith) (gathered_none (take min_frame f) (sym c.gather.ensures ∙ c.in_default.is)))

pub read_frame-requires : goal.read_frame-requires
read_frame-requires c =
    let f : List ℕ = c.args.frame.now in
    let w : ℕ = c.in-Some.word in
    let front : (all is_bit (take min_frame f) ≡ true) × (number (take min_frame f) ≡ w) = gathered-word (take min_frame f) w (sym c.gather.ensures ∙ c.in-Some.is) in
    (omega arith, front.0, front.1)

pub returns : goal.returns
returns c =
    c.read_frame.ensures
