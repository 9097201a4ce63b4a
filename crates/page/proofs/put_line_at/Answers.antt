-- `page::put_line_at` meets its contract.
-- Assumes nothing.
use Prim.Native.Nat.{ℕ, ◌*◌, ◌<◌}
use mathlib.Core.List.{List, ◌++◌}
use mathlib.Core.Path.{sym, ap, ◌∙◌}
use native.Mathlib.Omega.{arith}
use lib.ListN.{length, drop}
use Rattle.format.specs.Entry.{entry_size}
use Rattle.page_rules.specs.Page.{line, feed}
use Rattle.page_columns.specs.Bytes.{entry_in}
use Rattle.page.proofs.Lines.{entry-part, entry-line, blank-line, entry-fit, entry_whole}
use Rattle.page.proofs.put_line_at.Goals as goal

pub put_line-requires : goal.put_line-requires
put_line-requires c =
    let i = c.args.i in
    let s = c.args.entries.now in
    let l : entry_size * i < length s = omega arith in (
      ap length (entry-part i s) ∙ entry_whole i s c.requires.1 c.requires.2 l,
      rw (entry-part i s) (entry-fit i s c.requires.1 c.requires.2 l),
      c.requires.3,
    )

pub returns-then-from-entries : goal.returns-then-from-entries
returns-then-from-entries c =
    let i = c.args.i in
    let s = c.args.entries.now in
    c.put_line.ensures
    ∙ ap (λ (w : List ℕ). feed (line (entry_in w)) ++ drop 42 c.args.out.now) (entry-part i s)
    ∙ ap (λ (l : List ℕ). feed l ++ drop 42 c.args.out.now) (sym (entry-line i s c.requires.1 c.requires.2 (omega arith)))

pub returns-else-from-entries : goal.returns-else-from-entries
returns-else-from-entries c =
    c.put_blank.ensures
    ∙ ap (λ (l : List ℕ). feed l ++ drop 42 c.args.out.now) (sym (blank-line c.args.i c.args.entries.now c.requires.1 c.requires.2 (omega arith)))
