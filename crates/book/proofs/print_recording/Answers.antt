-- `book::print_recording` meets its contract.
-- Assumes nothing.
use Prim.Native.Nat.{◌≤◌}
use mathlib.Core.Path.{refl}
use native.Mathlib.Omega.{arith}
use lib.ListN.{length}
use Rattle.questions.specs.Refusals.{refusal_number}
use Rattle.page_rules.specs.Printing.{pages_of}
use Rattle.book.proofs.Recording.{pages-few, pages-printed, refusal-put}
use Rattle.book.proofs.print_recording.Goals as goal

pub returns-in-Ok : goal.returns-in-Ok
returns-in-Ok c =
    let a = c.args in
    let space : length (pages_of a.bits.now) ≤ length a.out.now = omega (arith, pages-few a.bits.now c.requires) in
    pages-printed a.bits.now a.out.now c.print_pages.new.out space c.in-Ok.n (rw c.in-Ok.is at c.print_pages.ensures)

pub returns-in-Err : goal.returns-in-Err
returns-in-Err c =
    let a = c.args in
    let space : length (pages_of a.bits.now) ≤ length a.out.now = omega (arith, pages-few a.bits.now c.requires) in
    let p = c.put_refusal in
    let x = c.in-Err.refusal in
    refusal-put a.bits.now a.out.now c.print_pages.new.out space x (refusal_number x) p.result p.new.out (rw c.in-Err.is at c.print_pages.ensures) refl p.ensures.0 p.ensures.1
