use Prim.Native.Nat.{ℕ, ◌+◌, ◌-◌, ◌≤◌}
use mathlib.Core.List.{List, ◌++◌}
use mathlib.Core.Path.{◌≡◌, sym, ap, ◌∙◌}
use native.Mathlib.Omega.{arith}
use lib.ListN.{length, take, drop}
use Rattle.decimal.specs.Decimal.{width}
use Rattle.plan.specs.Plan.{length_at}
use Rattle.plan.specs.declared.Plan.{Plan}
use Rattle.format.specs.Frame.{frame, sent_by}
use Rattle.sequence.proofs.Sums.{length-time}
use Rattle.listing.specs.Listing.{number_text, bits_text}
use Rattle.sequence.proofs.Putting.{Put, put_of, put-length, put-more, rest-length}
use Rattle.listing.proofs.Texts.{line_of, length-line, line-is, length-number, length-bits}
use Rattle.listing.proofs.text.put_line.Goals as goal
use Rattle.listing.proofs.text.put_line.Goals.{After-put_number}

pub put_number-a-requires : goal.put_number-a-requires
put_number-a-requires c =
    let fits : (width c.args.minute.index + 1) +
    ((width (length_at c.args.plan c.args.minute.index) + 1) + (length_at c.args.plan c.args.minute.index + 1)) ≤ length c.args.out.now = omega (arith, c.requires.1, length-line c.args.plan c.args.minute.index) in
    omega (arith, fits)

pub slice_bounds-put_number-count : goal.slice_bounds-put_number-count
slice_bounds-put_number-count c =
    let fits : (width c.args.minute.index + 1) +
    ((width (length_at c.args.plan c.args.minute.index) + 1) + (length_at c.args.plan c.args.minute.index + 1)) ≤ length c.args.out.now = omega (arith, c.requires.1, length-line c.args.plan c.args.minute.index) in
    let out₁ : List ℕ = c.put_number-a.new.out in
    let one : Put (number_text c.args.minute.index 32) c.args.out.now out₁ c.put_number-a.result = put_of (number_text c.args.minute.index 32) c.args.out.now out₁ (width c.args.minute.index + 1) c.put_number-a.result
    (length-number c.args.minute.index 32) (omega (arith, fits)) c.put_number-a.ensures.0 c.put_number-a.ensures.1 in
    let p : Plan = c.args.plan in
    let p = one in omega (arith, p.room, put-length p)

pub slice_bounds-put_number-start : goal.slice_bounds-put_number-start
slice_bounds-put_number-start c =
    let fits : (width c.args.minute.index + 1) +
    ((width (length_at c.args.plan c.args.minute.index) + 1) + (length_at c.args.plan c.args.minute.index + 1)) ≤ length c.args.out.now = omega (arith, c.requires.1, length-line c.args.plan c.args.minute.index) in
    let out₁ : List ℕ = c.put_number-a.new.out in
    let one : Put (number_text c.args.minute.index 32) c.args.out.now out₁ c.put_number-a.result = put_of (number_text c.args.minute.index 32) c.args.out.now out₁ (width c.args.minute.index + 1) c.put_number-a.result
    (length-number c.args.minute.index 32) (omega (arith, fits)) c.put_number-a.ensures.0 c.put_number-a.ensures.1 in
    let p : Plan = c.args.plan in
    let p = one in omega (arith, p.room, put-length p)

pub put_number-requires : goal.put_number-requires
put_number-requires c =
    let fits : (width c.args.minute.index + 1) +
    ((width (length_at c.args.plan c.args.minute.index) + 1) + (length_at c.args.plan c.args.minute.index + 1)) ≤ length c.args.out.now = omega (arith, c.requires.1, length-line c.args.plan c.args.minute.index) in
    let seconds : ℕ = c.length-seconds.result in
    let seconds-is : seconds ≡ length_at c.args.plan c.args.minute.index = c.length-seconds.ensures in
    let out₁ : List ℕ = c.put_number-a.new.out in
    let one : Put (number_text c.args.minute.index 32) c.args.out.now out₁ c.put_number-a.result = put_of (number_text c.args.minute.index 32) c.args.out.now out₁ (width c.args.minute.index + 1) c.put_number-a.result
    (length-number c.args.minute.index 32) (omega (arith, fits)) c.put_number-a.ensures.0 c.put_number-a.ensures.1 in
    rw (rest-length one) (omega (arith, fits, c.put_number-a.ensures.0, seconds-is, ap width seconds-is))

-- what stands in the buffer once two numbers were put
module _ (c : After-put_number) where
  fits : (width c.args.minute.index + 1) +
      ((width (length_at c.args.plan c.args.minute.index) + 1) + (length_at c.args.plan c.args.minute.index + 1)) ≤ length c.args.out.now
  fits = omega (arith, c.requires.1, length-line c.args.plan c.args.minute.index)

  abbrev out₁ : List ℕ
  out₁ = c.put_number-a.new.out

  one : Put (number_text c.args.minute.index 32) c.args.out.now out₁ c.put_number-a.result
  one = put_of (number_text c.args.minute.index 32) c.args.out.now out₁ (width c.args.minute.index + 1) c.put_number-a.result
      (length-number c.args.minute.index 32) (omega (arith, fits)) c.put_number-a.ensures.0 c.put_number-a.ensures.1

  abbrev seconds : ℕ
  seconds = c.length-seconds.result

  seconds-is : seconds ≡ length_at c.args.plan c.args.minute.index
  seconds-is = c.length-seconds.ensures

  abbrev at₂ : ℕ
  at₂ = c.put_number-a.result + c.put_number.result

  abbrev out₂ : List ℕ
  out₂ = take c.put_number-a.result out₁
      ++ (c.put_number.new.out ++ drop (length out₁ - c.put_number-a.result) (drop c.put_number-a.result out₁))

  two : Put (number_text c.args.minute.index 32 ++ number_text seconds 32) c.args.out.now out₂ at₂
  two = put-more one
      (put_of (number_text seconds 32) _ c.put_number.new.out (width seconds + 1) c.put_number.result
      (length-number seconds 32) (rw (rest-length one) (omega (arith, fits, c.put_number-a.ensures.0, ap width seconds-is)))
      c.put_number.ensures.0 c.put_number.ensures.1)

pub overflow_add-b : goal.overflow_add-b
overflow_add-b c =
    let d = (goal.at.overflow_add-b c).After-put_number in
    omega (arith, (two d).room)

pub slice_bounds-put_frame-count : goal.slice_bounds-put_frame-count
slice_bounds-put_frame-count c =
    let d = (goal.at.slice_bounds-put_frame-count c).After-put_number in
    let p : Plan = c.args.plan in
    let p = (two d) in omega (arith, p.room, put-length p)

pub slice_bounds-put_frame-start : goal.slice_bounds-put_frame-start
slice_bounds-put_frame-start c =
    let d = (goal.at.slice_bounds-put_frame-start c).After-put_number in
    let p : Plan = c.args.plan in
    let p = (two d) in omega (arith, p.room, put-length p)

pub put_frame-requires : goal.put_frame-requires
put_frame-requires c =
    let d = (goal.at.put_frame-requires c).After-put_number in
    (c.requires.0, rw (rest-length (two d)) (omega (arith, fits d, c.put_number-a.ensures.0, c.put_number.ensures.0, ap width (seconds-is d))))

pub overflow_add-result : goal.overflow_add-result
overflow_add-result c =
    let d = (goal.at.overflow_add-result c).After-put_number in
    let seconds : ℕ = c.length-seconds.result in
    let at₂ : ℕ = c.put_number-a.result + c.put_number.result in
    let p : Plan = c.args.plan in
    let m : ℕ = c.args.minute.index in
    let three : Put (line_of p m) c.args.out.now
    (take at₂ (out₂ d) ++ (c.put_frame.new.out ++ drop (length (out₂ d) - at₂) (drop at₂ (out₂ d)))) (at₂ + c.put_frame.result) = rw (← line-is p m seconds (seconds-is d))
    (put-more (two d)
    (put_of (bits_text (frame (sent_by p m))) _ c.put_frame.new.out (length_at p m + 1) c.put_frame.result
    (length-bits (frame (sent_by p m)) ∙ ap (λ (n : ℕ). n + 1) (length-time p m))
    (rw (rest-length (two d)) (omega (arith, fits d, c.put_number-a.ensures.0, c.put_number.ensures.0, ap width (seconds-is d))))
    c.put_frame.ensures.0 c.put_frame.ensures.1)) in
    omega (arith, three.room)

pub returns : goal.returns
returns c =
    let d = (goal.at.returns c).After-put_number in
    let seconds : ℕ = c.length-seconds.result in
    let at₂ : ℕ = c.put_number-a.result + c.put_number.result in
    let p : Plan = c.args.plan in
    let m : ℕ = c.args.minute.index in
    let three : Put (line_of p m) c.args.out.now
    (take at₂ (out₂ d) ++ (c.put_frame.new.out ++ drop (length (out₂ d) - at₂) (drop at₂ (out₂ d)))) (at₂ + c.put_frame.result) = rw (← line-is p m seconds (seconds-is d))
    (put-more (two d)
    (put_of (bits_text (frame (sent_by p m))) _ c.put_frame.new.out (length_at p m + 1) c.put_frame.result
    (length-bits (frame (sent_by p m)) ∙ ap (λ (n : ℕ). n + 1) (length-time p m))
    (rw (rest-length (two d)) (omega (arith, fits d, c.put_number-a.ensures.0, c.put_number.ensures.0, ap width (seconds-is d))))
    c.put_frame.ensures.0 c.put_frame.ensures.1)) in
    let p = three in
    (sym p.size, rw p.size p.is)
