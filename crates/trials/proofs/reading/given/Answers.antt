-- `trials::reading::given` meets its contract.
-- Assumes nothing.
use Rattle.std.proofs.Common.{◌≡◌, ◌∙◌, ◌≤◌, length, arith, map, ap}
use Rattle.std.specs.List.{range_with_len}
use Rattle.std.proofs.lemmas.Bool.{le-leb}
use Rattle.cases.specs.Cases.{given_at}
use Rattle.trials.specs.Tried.{given_as, given_bits}
use Rattle.trials.proofs.Given.{all-given}
use Rattle.trials.proofs.reading.given.Goals as goal

pub returns : goal.returns
unfolding given_as given_bits
returns g c =
    let digits = c.args.digits.now in
    let bits = c.load.new.bits in
    let short : length digits ≤ 366 = omega (arith, c.in-Some.ensures.lookup) in
    let long : length bits ≡ length digits = omega (arith, c.load.auto.bits, c.in-Some.ensures.lookup) in
    let e : bits ≡ given_bits digits =
    all-given (given_at digits) bits (λ i l. c.load.ensures i (omega (arith, l, c.load.auto.bits))) ∙ ap (λ n. map (given_at digits) (range_with_len 0 n)) long in
    rw (le-leb (length digits) 366 short) (rw (e, c.size.ensures) at c.read.ensures)
