use Prim.Native.Nat.{ℕ, ◌+◌, ◌≤◌, ◌<◌}
use mathlib.Core.List.{List}
use mathlib.Core.Path.{◌≡◌, refl, sym, ap, ◌∙◌}
use native.Mathlib.Omega.{arith}
use lib.ListN.{length, drop, length-drop, drop_of_length-le}
use lib.Seq.{drop-drop}
use Rattle.sequence.proofs.Tails.{tail}
use Rattle.page_rules.specs.Printing.{read_all}
use Rattle.page_rules.proofs.Reading.{sized}
use Rattle.page.proofs.Parts.{part, Part, part-read, space-kept, counting-none, counted-complete, counted-refusal, out-of-space, counting-on, counted-all}
use Rattle.page.proofs.count_entries.Goals as goal
use Rattle.page.proofs.count_entries.Goals.{After-read_from-part}

pub loop-used-init : goal.loop-used-init
loop-used-init c =
    (omega arith, omega arith, ap length c.part_space-space.ensures ∙ refl, counting-none c.args.bits.now)

pub slice_bounds-read_from-end-in-loop-used : goal.slice_bounds-read_from-end-in-loop-used
slice_bounds-read_from-end-in-loop-used c =
    sym c.loop-used.invariant.2

-- what is known once a part was read
module _ (c : After-read_from-part) where
  abbrev bits : List ℕ
  bits = c.args.bits.now

  abbrev rest : List ℕ
  rest = drop c.loop-used.used bits

  got : Part c.loop-used.due rest c.loop-used.space c.read_from-part.new.entries c.read_from-part.result
  got = part-read c.loop-used.due rest _ c.loop-used.space c.read_from-part.new.entries c.read_from-part.result c.loop-used.invariant.2
      (tail bits c.loop-used.used)
      c.read_from-part.ensures.0 c.read_from-part.ensures.1

  few : (c.read_from-part.result.entries ≤ c.read_from-part.result.used)
      × (c.loop-used.used + c.read_from-part.result.used ≤ length bits)
  few = (let s = sized 10 c.loop-used.due rest in
      (omega (arith, got.entries, got.used, s.long), omega (arith, got.used, s.within, length-drop c.loop-used.used bits, c.loop-used.invariant.0)))

pub overflow_add-result : goal.overflow_add-result
overflow_add-result c =
    let d = (goal.at.overflow_add-result c).After-read_from-part in
    omega (arith, few d)

pub returns-in-Ok : goal.returns-in-Ok
returns-in-Ok c =
    let d = (goal.at.returns-in-Ok c).After-read_from-part in
    let bits : List ℕ = c.args.bits.now in
    let rest : List ℕ = drop c.loop-used.used bits in
    counted-complete c.loop-used.count c.loop-used.due rest _ _ c.read_from-part.result (got d) (read_all bits) c.loop-used.invariant.3
    _ c.in-Ok.is

pub returns-then-part-lt-PART_ENTRIES : goal.returns-then-part-lt-PART_ENTRIES
returns-then-part-lt-PART_ENTRIES c =
    let d = (goal.at.returns-then-part-lt-PART_ENTRIES c).After-read_from-part in
    let bits : List ℕ = c.args.bits.now in
    let rest : List ℕ = drop c.loop-used.used bits in
    counted-refusal c.loop-used.count c.loop-used.due rest _ _ c.read_from-part.result (got d) (read_all bits) c.loop-used.invariant.3 _
    c.in-Err.is (omega arith)

pub overflow_add-count : goal.overflow_add-count
overflow_add-count c =
    let d = (goal.at.overflow_add-count c).After-read_from-part in
    omega (arith, few d)

pub overflow_add-used : goal.overflow_add-used
overflow_add-used c =
    let d = (goal.at.overflow_add-used c).After-read_from-part in
    omega (arith, few d)

pub loop-used-smaller : goal.loop-used-smaller
loop-used-smaller c =
    let d = (goal.at.loop-used-smaller c).After-read_from-part in
    let bits : List ℕ = c.args.bits.now in
    let rest : List ℕ = drop c.loop-used.used bits in
    let full : (part c.loop-used.due rest).refusal ≡ 5 = out-of-space c.loop-used.count c.loop-used.due rest _ _ c.read_from-part.result (got d) (read_all bits) c.loop-used.invariant.3 _
    c.in-Err.is (omega arith) in
    let more : 0 < c.read_from-part.result.used = (let s = sized 10 c.loop-used.due rest in omega (arith, (got d).used, s.long, (s.full full).0)) in
    omega (arith, few d, more)

pub loop-used-preserved : goal.loop-used-preserved
loop-used-preserved c =
    let d = (goal.at.loop-used-preserved c).After-read_from-part in
    let bits : List ℕ = c.args.bits.now in
    let rest : List ℕ = drop c.loop-used.used bits in
    let same-space : length c.read_from-part.new.entries ≡ 180 = space-kept c.loop-used.due rest c.loop-used.space c.read_from-part.new.entries c.read_from-part.result (got d) c.loop-used.invariant.2 in
    let full : (part c.loop-used.due rest).refusal ≡ 5 = out-of-space c.loop-used.count c.loop-used.due rest _ _ c.read_from-part.result (got d) (read_all bits) c.loop-used.invariant.3 _
    c.in-Err.is (omega arith) in (
      omega (arith, few d),
      omega (arith, few d),
      same-space,
      rw (← drop-drop c.read_from-part.result.used c.loop-used.used bits)
          (counting-on c.loop-used.count c.loop-used.due rest _ _ c.read_from-part.result (got d) (read_all bits) c.loop-used.invariant.3 full),
    )

pub returns : goal.returns
returns c =
    let bits : List ℕ = c.args.bits.now in
    let rest : List ℕ = drop c.loop-used.used bits in
    counted-all c.loop-used.count c.loop-used.due rest (read_all bits) (drop_of_length-le bits {i = c.loop-used.used} c.loop-used-test.false) c.loop-used.invariant.3
