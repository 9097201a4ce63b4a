-- `page_lines::put_head` meets its contract.
-- Assumes nothing.
use Prim.Native.Nat.{ℕ}
use mathlib.Core.List.{List, ◌++◌}
use mathlib.Core.Path.{◌≡◌, sym, ap, ◌∙◌}
use native.Mathlib.Omega.{arith}
use lib.ListN.{length, replicate, take, drop}
use lib.Seq.{length-take-le}
use Rattle.page_rules.specs.Page.{blanks, feed}
use Rattle.page_columns.proofs.Texts.{head-made}
use Rattle.page_lines.proofs.Copies.{put-first, put-next}
use borrow.Author.Rules.{rules}
use Rattle.page_lines.proofs.put_head.Goals as goal

pub slice_bounds-fill-end-2 : goal.slice_bounds-fill-end-2
slice_bounds-fill-end-2 c = sym (length-take-le _ _ (omega (arith, c.requires)))

pub returns : goal.returns
unfolding blanks feed
returns c =
    let out : List ℕ = c.args.out.now in
    let part : length (take 31 out) ≡ 31 = length-take-le 31 out (omega (arith, c.requires)) in
    let blank : c.fill.new.self ≡ replicate 31 32 = rw part at (c.fill.ensures.after (λ y q. q)) in
    let size : length c.fill.new.self ≡ 31 = rw blank in
    let column : c.copy_from_slice.new.self ≡ c.column.result = c.copy_from_slice.ensures.after in
    let size-2 : length c.copy_from_slice.new.self ≡ 11 = rw column (search rules) in
    let dashes : c.copy_from_slice-2.new.self ≡ c.line_of.result = c.copy_from_slice-2.ensures.after in
    let size-3 : length c.copy_from_slice-2.new.self ≡ 42 = rw dashes (search rules) in
    let text = head-made c.args.number c.fill.new.self c.copy_from_slice.new.self c.copy_from_slice-2.new.self (omega arith) blank (column ∙ c.column.ensures) (dashes ∙ c.line_of.ensures) in
    let p = put-next 42 c.copy_from_slice-2.new.self (put-next 11 c.copy_from_slice.new.self (put-first 31 out c.fill.new.self size (omega (arith, c.requires))) size-2 (omega (arith, c.requires))) size-3 (omega (arith, c.requires)) in
    p.is ∙ ap (λ (w : List ℕ). w ++ drop 84 out) text
