-- `book::print_book` meets its contract.
-- Assumes nothing.
use Prim.Native.Nat.{ℕ}
use mathlib.Core.List.{List}
use mathlib.Core.Path.{◌≡◌}
use native.Mathlib.Omega.{arith}
use lib.ListN.{length, take, length-take}
use Rattle.book.specs.Book.{bits_in}
use Rattle.book.proofs.Gathering.{bits-few}
use Rattle.book.proofs.Inputs.{too_long, bits-front, all-printed}
use Rattle.book.proofs.print_book.Goals as goal
use Rattle.book.proofs.print_book.Goals.{After-gather_bits-count}

pub returns-then-input-gt-BOOK_LIMIT : goal.returns-then-input-gt-BOOK_LIMIT
returns-then-input-gt-BOOK_LIMIT c =
    let a = c.args in
    let p = c.put_refusal in
    too_long a.input.now a.out.now p.new.out p.result (omega arith) p.ensures

-- the bits in front of what was gathered
module _ (c : After-gather_bits-count) where
  abbrev input : List ℕ
  input = c.args.input.now

  front : take c.gather_bits-count.result c.gather_bits-count.new.text ≡ bits_in input
  front = bits-front input c.gather_bits-count.new.text c.gather_bits-count.result c.gather_bits-count.ensures.0 c.gather_bits-count.ensures.1

  many : c.gather_bits-count.result ≡ length (take c.gather_bits-count.result c.gather_bits-count.new.text)
  many = rw front c.gather_bits-count.ensures.0

pub slice_bounds-print_recording-end : goal.slice_bounds-print_recording-end
slice_bounds-print_recording-end c =
    let d = (goal.at.slice_bounds-print_recording-end c).After-gather_bits-count in
    omega (arith, many d, length-take c.gather_bits-count.result c.gather_bits-count.new.text)

pub slice_bounds-print_recording-end-2 : goal.slice_bounds-print_recording-end-2
slice_bounds-print_recording-end-2 c =
    let d = (goal.at.slice_bounds-print_recording-end-2 c).After-gather_bits-count in
    (many d)

pub print_recording-requires : goal.print_recording-requires
print_recording-requires c =
    let d = (goal.at.print_recording-requires c).After-gather_bits-count in
    let input : List ℕ = c.args.input.now in
    rw (front d) (omega (arith, bits-few input))

pub returns : goal.returns
returns c =
    let a = c.args in
    let g = c.gather_bits-count in
    let p = c.print_recording in
    all-printed a.input.now a.out.now p.new.out p.result g.new.text g.result g.ensures.0 g.ensures.1 (omega arith) p.ensures
