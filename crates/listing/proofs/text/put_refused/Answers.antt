-- `listing::text::put_refused` meets its contract.
-- Assumes nothing.
use Prim.Native.Nat.{ℕ, ◌+◌, ◌≤◌, ◌<◌}
use mathlib.Core.List.{List, ◌++◌}
use mathlib.Core.Path.{refl, ap}
use native.Mathlib.Omega.{arith}
use lib.ListN.{drop}
use Rattle.decimal.proofs.Laws.{width-le}
use Rattle.decimal.specs.Decimal.{width}
use Rattle.listing.specs.Listing.{number_text, refused_word, refused_text}
use Rattle.sequence.proofs.Putting.{put_of, put-more, rest-length}
use Rattle.listing.proofs.Putting.{put-no, put-done}
use Rattle.listing.proofs.Texts.{length-number, length-refused}
use Rattle.listing.proofs.text.put_refused.Goals as goal

-- the digits are few
few : (n : ℕ) → n < 4294967296 → width n ≤ 10
few n h = width-le 9 n (omega arith)

pub overflow_add-needed : goal.overflow_add-needed
overflow_add-needed c = omega (arith, c.digit_count.ensures, few c.args.refusal (omega arith))

pub overflow_add-needed-2 : goal.overflow_add-needed-2
overflow_add-needed-2 c = omega (arith, c.digit_count.ensures, few c.args.refusal (omega arith))

pub returns-then-out-needed : goal.returns-then-out-needed
returns-then-out-needed c =
    let n = c.args.refusal in
    put-no c.args.out.now (refused_text n) (omega (arith, c.digit_count.ensures, length-refused n))

pub returns : goal.returns
unfolding refused_text refused_word
returns c =
    let n = c.args.refusal in
    let b = c.args.out.now in
    let d = c.digit_count in
    let k = c.copy_from_slice in
    let p = c.put_number in
    let first = put_of refused_word b (k.new.self ++ drop 8 b) 8 8 refl (omega arith) refl (ap (λ (w : List ℕ). w ++ drop 8 b) k.ensures.after) in
    let second = put_of (number_text n 10) _ p.new.out (width n + 1) (d.result + 1) (length-number n 10)
    (rw (rest-length first) (omega (arith, d.ensures))) (ap (λ (x : ℕ). x + 1) d.ensures) p.ensures.1 in
    put-done (8 + d.result + 1) (omega arith) (put-more first second)
