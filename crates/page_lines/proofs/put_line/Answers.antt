-- `page_lines::put_line` meets its contract.
-- Assumes nothing.
use Prim.Native.Nat.{ℕ}
use mathlib.Core.List.{List, ◌++◌}
use mathlib.Core.Path.{◌≡◌, ap, ◌∙◌}
use native.Mathlib.Omega.{arith}
use lib.ListN.{drop}
use Rattle.std.proofs.Common.{lit<, lit≤}
use Rattle.page_rules.specs.Page.{feed, line}
use Rattle.page_columns.specs.Bytes.{entry_in}
use Rattle.page_columns.proofs.Texts.{line_made}
use Rattle.page_lines.proofs.Copies.{put-first, put-next}
use borrow.Author.Rules.{rules}
use Rattle.page_lines.proofs.put_line.Goals as goal

pub column-requires : goal.column-requires
unfolding entry_in
column-requires c = (lit< tt, (lit≤ tt, omega (arith, c.requires.1.minute)))

pub at_minute-requires : goal.at_minute-requires
unfolding entry_in
at_minute-requires c = rw c.minute_in-minute.ensures c.requires.1.minute

pub column-requires-2 : goal.column-requires-2
unfolding entry_in
column-requires-2 c = (lit< tt, (lit≤ tt, rw c.from-seconds.ensures c.requires.1.seconds))

pub returns : goal.returns
unfolding entry_in
returns c =
    let room = c.requires.2 in
    let first : c.copy_from_slice.new.self ≡ c.column.result = c.copy_from_slice.ensures.after in
    let moment : c.copy_from_slice-2.new.self ≡ c.moment_columns.result = c.copy_from_slice-2.ensures.after in
    let seconds : c.copy_from_slice-3.new.self ≡ c.column-2.result = c.copy_from_slice-3.ensures.after in
    let last : c.copy_from_slice-4.new.self ≡ c.last_columns.result = c.copy_from_slice-4.ensures.after in
    let text : c.copy_from_slice.new.self ++ c.copy_from_slice-2.new.self ++ c.copy_from_slice-3.new.self ++ c.copy_from_slice-4.new.self ≡ feed (line (entry_in c.args.entry.now)) =
    line_made (entry_in c.args.entry.now) _ _ _ _ _ _ _
    c.minute_in-minute.ensures
    c.at_minute.ensures
    c.from-seconds.ensures
    (first ∙ c.column.ensures)
    (moment ∙ c.moment_columns.ensures)
    (seconds ∙ c.column-2.ensures)
    (last ∙ c.last_columns.ensures) in
    let p = put-first 9 c.args.out.now c.copy_from_slice.new.self (rw first (search rules)) (omega (arith, room)) in
    let q = put-next 17 c.copy_from_slice-2.new.self p (rw moment (search rules)) (omega (arith, room)) in
    let r = put-next 3 c.copy_from_slice-3.new.self q (rw seconds (search rules)) (omega (arith, room)) in
    let t = put-next 13 c.copy_from_slice-4.new.self r (rw last (search rules)) (omega (arith, room)) in
    t.is ∙ ap (λ (w : List ℕ). w ++ drop 42 c.args.out.now) text
