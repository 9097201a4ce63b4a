-- `frame::put_word` meets its contract.
-- Assumes nothing.
use Prim.Native.Nat.{ℕ, ◌-◌, ◌*◌, ◌%◌, ◌^◌}
use mathlib.Core.List.{List, ◌++◌}
use mathlib.Core.Path.{◌≡◌, sym, ap, ◌∙◌}
use lib.ListN.{length, take, drop}
use lib.Seq.{length-take-le}
use Rattle.bits.specs.Bits.{bits}
use Rattle.format.specs.Frame.{min_frame}
use Rattle.format.proofs.Sending.{word-bits}
use Rattle.frame.proofs.put_word.Goals as goal
use Rattle.frame.proofs.put_word.Goals.{Start}

module _ (a : Start) where
  abbrev n : ℕ
  n = a.args.seconds

  abbrev out : List ℕ
  out = a.args.out.now

  part_length : length (take n out) ≡ n
  part_length = length-take-le n out a.requires.3

pub slice_bounds-spread-end-2 : goal.slice_bounds-spread-end-2
slice_bounds-spread-end-2 c = sym (part_length (goal.at.slice_bounds-spread-end-2 c).Start)

pub returns : goal.returns
returns c =
    let d = (goal.at.returns c).Start in
    let w = c.args.word in
    ap (λ (l : List ℕ). l ++ drop (n d) (out d))
    (c.spread.ensures ∙ ap (λ (k : ℕ). bits k ((w * 2 ^ (n d - min_frame)) % 2 ^ 64)) (part_length d) ∙ word-bits w (n d) c.requires.0 c.requires.1 c.requires.2)
