use Prim.Native.Nat.{ℕ, ◌+◌, ◌-◌, ◌*◌, ◌^◌, ◌≤◌, ◌<◌}
use mathlib.Core.Bool.{true, and-false}
use mathlib.Core.List.{List}
use mathlib.Core.Path.{◌≡◌, sym, ◌∙◌}
use native.Mathlib.Nat.{pow-le-pow_right}
use native.Mathlib.Omega.{arith}
use lib.ListN.{length, get_or}
use borrow.Author.Tests.{lt-leb, eqb-true, eqb-false}
use Rattle.decimal.specs.Decimal.{is_digit, is_whole, is_number, number_in}
use Rattle.decimal.proofs.Laws.{value-next, value-lt, digit-range, no_number, digits-on, yes-number}
use Rattle.decimal.proofs.read_number.Goals as goal
use Rattle.decimal.proofs.read_number.Goals.{Else-not-is_ascii_digit, then-is_empty-via-then-is_empty, then-is_empty-via-else-is_empty+then-s-gt-MAX_DIGITS}

-- in a turn, at a digit
module _ (c : Else-not-is_ascii_digit) where
  abbrev s : List ℕ
  s = c.args.s.now

  abbrev i : ℕ
  i = c.loop-b.b-index

  abbrev v : ℕ
  v = c.loop-b.value

  digit : is_digit (get_or s i 0) ≡ true
  unfolding is_digit
  digit = sym c.is_ascii_digit.ensures.value ∙ c.if-not-is_ascii_digit.false

  next-lt : v * 10 + (get_or s i 0 - 48) < 10 ^ (i + 1)
  next-lt = value-lt i v (get_or s i 0) c.loop-b.invariant.0 (digit-range (get_or s i 0) digit).1

  fits : 10 ^ (i + 1) ≤ 10 ^ 9
  fits = pow-le-pow_right {n = 10} (omega arith) {i = i + 1} {j = 9} (omega arith)

pub returns-then-is_empty : goal.returns-then-is_empty
unfolding number_in is_number is_whole
returns-then-is_empty c =
    let n = length c.args.s.now in
    elim c.then-is_empty.branch [
      | then-is_empty-via-then-is_empty w ↦
          let e : n < 1 = omega (arith, eqb-true n 0 (sym c.is_empty.ensures ∙ w.if-is_empty.true)) in
          rw (lt-leb 1 n e)
      | then-is_empty-via-else-is_empty+then-s-gt-MAX_DIGITS w ↦
          rw (lt-leb n 9 w.if-s-gt-MAX_DIGITS.true, and-false)
    ]

pub returns-then-not-is_ascii_digit : goal.returns-then-not-is_ascii_digit
unfolding is_digit
returns-then-not-is_ascii_digit c =
    let l = c.loop-b in
    no_number c.args.s.now l.b-index (omega arith) l.invariant.2
    (sym c.is_ascii_digit.ensures.value ∙ c.if-not-is_ascii_digit.true)

pub overflow_mul-value : goal.overflow_mul-value
overflow_mul-value c = omega (arith, next-lt c, fits c)

pub overflow_add-value : goal.overflow_add-value
overflow_add-value c =
    let d = (goal.at.overflow_add-value c).Else-not-is_ascii_digit in
    omega (arith, next-lt d, fits d, (digit-range _ (digit d)).0)

pub loop-b-preserved : goal.loop-b-preserved
loop-b-preserved c =
    let d = (goal.at.loop-b-preserved c).Else-not-is_ascii_digit in
    let l = c.loop-b in
    rw c.from.ensures (
      next-lt d,
      sym (value-next (s d) (i d) (v d) (omega arith)) ∙ l.invariant.1,
      digits-on (s d) (i d) (omega arith) l.invariant.2 (digit d),
    )

pub returns : goal.returns
returns c =
    let l = c.loop-b in
    let n = length c.args.s.now in
    let some : 1 ≤ n = omega (arith, eqb-false n 0 (sym c.is_empty.ensures ∙ c.if-is_empty.false)) in
    yes-number c.args.s.now l.b-index l.value some (omega arith) (omega arith) l.invariant.1 l.invariant.2
