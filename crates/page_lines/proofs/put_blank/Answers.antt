-- `page_lines::put_blank` meets its contract.
-- Assumes nothing.
use Prim.Native.Nat.{ℕ}
use mathlib.Core.List.{List, ◌++◌}
use mathlib.Core.Path.{◌≡◌, sym, ap, ◌∙◌}
use native.Mathlib.Omega.{arith}
use lib.ListN.{length, drop}
use lib.Seq.{length-take-le}
use borrow.Author.Rules.{rules}
use Rattle.page_rules.specs.Page.{blanks, feed}
use Rattle.page_lines.proofs.put_blank.Goals as goal

pub copy_from_slice-requires : goal.copy_from_slice-requires
copy_from_slice-requires c =
    let size : length c.line_of.result ≡ 42 = search rules in
    length-take-le 42 c.args.out.now (omega (arith, c.requires)) ∙ sym size

pub returns : goal.returns
unfolding blanks feed
returns c =
    ap (λ (w : List ℕ). w ++ drop 42 c.args.out.now) (c.copy_from_slice.ensures.after ∙ c.line_of.ensures)
