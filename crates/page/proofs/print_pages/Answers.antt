-- `page::print_pages` meets its contract.
-- Assumes nothing.
use mathlib.Core.Path.{sym, ap, ◌∙◌}
use native.Mathlib.Omega.{arith}
use Rattle.std.proofs.lemmas.Result.{err_from_is_err_and}
use Rattle.page.specs.Answer.{count_numbers}
use Rattle.page.proofs.Parts.{number-above}
use Rattle.page.proofs.Answers.{print-refused, accepted, count-few, print-short, fits, print-done}
use Rattle.page.proofs.print_pages.Goals as goal

pub overflow_add-pages : goal.overflow_add-pages
overflow_add-pages c =
    let k = c.count_entries in
    omega (arith, count-few c.args.bits.now c.args.out.now c.in_ok-count.count (sym (ap count_numbers c.in_ok-count.was) ∙ k.ensures))

pub returns-then-out-pages : goal.returns-then-out-pages
returns-then-out-pages c =
    let k = c.count_entries in
    print-short c.args.bits.now c.args.out.now c.in_ok-count.count (sym (ap count_numbers c.in_ok-count.was) ∙ k.ensures) (omega arith)

pub put_pages-requires : goal.put_pages-requires
put_pages-requires c =
    let k = c.count_entries in
    let h = sym (ap count_numbers c.in_ok-count.was) ∙ k.ensures in
    (accepted c.args.bits.now c.args.out.now c.in_ok-count.count h, fits c.args.bits.now c.args.out.now c.in_ok-count.count h (omega arith))

pub returns-in_err-count : goal.returns-in_err-count
returns-in_err-count c =
    let k = c.count_entries in
    let p = err_from_is_err_and c.from_residual.result c.from_residual.ensures.1 in
    rw (p.1, p.2) (print-refused c.args.bits.now c.args.out.now _ (number-above _) (sym (ap count_numbers c.in_err-count.was) ∙ k.ensures))

pub returns : goal.returns
returns c =
    let k = c.count_entries in
    print-done c.args.bits.now c.args.out.now c.in_ok-count.count (sym (ap count_numbers c.in_ok-count.was) ∙ k.ensures) c.put_pages.new.out (omega arith)
    c.put_pages.ensures
