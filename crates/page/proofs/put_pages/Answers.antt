use Prim.Native.Nat.{ℕ, ◌+◌, ◌-◌, ◌^◌, ◌≤◌, ◌<◌}
use mathlib.Core.List.{List, ◌++◌, map}
use mathlib.Core.Path.{◌≡◌, refl, sym, ap, subst, ◌∙◌}
use native.Mathlib.Omega.{arith}
use lib.ListN.{length, take, drop, length-drop, drop_of_length-le}
use lib.Seq.{drop-drop}
use Rattle.sequence.proofs.Tails.{tail}
use Rattle.sequence.proofs.Putting.{Put, put-length}
use Rattle.page_rules.specs.Page.{line, page, pages_from, page_count}
use Rattle.page_rules.specs.Printing.{read_on, entries_of}
use Rattle.page.specs.Rest.{page_entries, rest_after}
use Rattle.page.proofs.Pages.{RestAfter, rest-after, Printing, printing-none, printed-all, page-within, printing-next, put-next-page, next-room, number_small}
use Rattle.page.proofs.put_pages.Goals as goal
use Rattle.page.proofs.put_pages.Goals.{In-loop-used}

pub loop-used-init : goal.loop-used-init
unfolding pages_from
loop-used-init c = (
  omega arith,
  omega arith,
  refl,
  printing-none c.args.bits.now c.requires.0,
  record { size = refl; room = omega arith; is = refl },
)

-- what is known in a turn: the pages so far, and that the next one fits
module _ (c : In-loop-used) where
  abbrev bits : List ℕ
  bits = c.args.bits.now

  abbrev buffer : List ℕ
  buffer = c.args.out.now

  abbrev done : ℕ
  done = c.loop-used.number - 1

  put : Put (pages_from done 1 (map line (entries_of bits))) buffer c.loop-used.out c.loop-used.at
  put = c.loop-used.invariant.4

  within : c.loop-used.at ≤ length c.loop-used.out
  within = omega (arith, put.room, put-length put)

  abbrev rest : List ℕ
  rest = drop c.loop-used.used bits

  so_far : Printing done c.loop-used.due rest (entries_of bits)
  so_far = c.loop-used.invariant.3

  left : c.loop-used.used < length bits
  left = omega arith

  some : (left : c.loop-used.used < length bits) → 0 < length rest
  some = λ left. omega (arith, length-drop c.loop-used.used bits)

  next-within : (left : c.loop-used.used < length bits)
      → done + 1 ≤ page_count (length (entries_of bits))
  next-within = λ left. page-within done c.loop-used.due rest (entries_of bits) so_far (some left)

  room : (left : c.loop-used.used < length bits)
      → 2184 ≤ length (take (length c.loop-used.out - c.loop-used.at) (drop c.loop-used.at c.loop-used.out))
  room = λ left. next-room done c.loop-used.at bits buffer c.loop-used.out c.requires.1 (next-within left) c.loop-used.invariant.2 put

  small : (left : c.loop-used.used < length bits)
      → c.loop-used.number < 2 ^ 31
  small = λ left. omega (arith, number_small (done + 1) bits (next-within left), c.loop-used.invariant.1)

pub slice_bounds-put_page-count-in-loop-used : goal.slice_bounds-put_page-count-in-loop-used
slice_bounds-put_page-count-in-loop-used c =
    let d = (goal.at.slice_bounds-put_page-count-in-loop-used c).In-loop-used in
    (within d)

pub slice_bounds-put_page-start-in-loop-used : goal.slice_bounds-put_page-start-in-loop-used
slice_bounds-put_page-start-in-loop-used c =
    let d = (goal.at.slice_bounds-put_page-start-in-loop-used c).In-loop-used in
    (within d)

pub put_page-rest-requires : goal.put_page-rest-requires
put_page-rest-requires c =
    let d = (goal.at.put_page-rest-requires c).In-loop-used in
    let bits : List ℕ = c.args.bits.now in
    (ap (λ (f : List ℕ). (read_on c.loop-used.due f).refusal) (tail bits c.loop-used.used) ∙ (so_far d).going.accepted, (room d) (omega arith))

pub overflow_add-used : goal.overflow_add-used
overflow_add-used c =
    let d = (goal.at.overflow_add-used c).In-loop-used in
    let bits : List ℕ = c.args.bits.now in
    let rest : List ℕ = drop c.loop-used.used bits in
    let left : c.loop-used.used < length bits = omega arith in
    let after : RestAfter 50 c.loop-used.due rest c.put_page-rest.result = subst (RestAfter 50 c.loop-used.due rest)
    (sym (c.put_page-rest.ensures.0 ∙ ap (rest_after c.loop-used.due) (tail bits c.loop-used.used)))
    (rest-after c.loop-used.due rest (so_far d).going.accepted) in
    let bits_left : (c.loop-used.used + c.put_page-rest.result.used ≤ length bits)
    × (0 < c.put_page-rest.result.used) = (omega (arith, after.within, length-drop c.loop-used.used bits, c.loop-used.invariant.0), after.some (omega arith) (some d left)) in
    omega (arith, bits_left.0)

pub overflow_add-at : goal.overflow_add-at
overflow_add-at c =
    let d = (goal.at.overflow_add-at c).In-loop-used in
    let bits : List ℕ = c.args.bits.now in
    let left : c.loop-used.used < length bits = omega arith in
    omega (arith, (small d) left, c.loop-used.invariant.2)

pub overflow_add-number : goal.overflow_add-number
overflow_add-number c =
    let d = (goal.at.overflow_add-number c).In-loop-used in
    let bits : List ℕ = c.args.bits.now in
    let left : c.loop-used.used < length bits = omega arith in
    omega (arith, (small d) left)

pub loop-used-smaller : goal.loop-used-smaller
loop-used-smaller c =
    let d = (goal.at.loop-used-smaller c).In-loop-used in
    let bits : List ℕ = c.args.bits.now in
    let rest : List ℕ = drop c.loop-used.used bits in
    let left : c.loop-used.used < length bits = omega arith in
    let after : RestAfter 50 c.loop-used.due rest c.put_page-rest.result = subst (RestAfter 50 c.loop-used.due rest)
    (sym (c.put_page-rest.ensures.0 ∙ ap (rest_after c.loop-used.due) (tail bits c.loop-used.used)))
    (rest-after c.loop-used.due rest (so_far d).going.accepted) in
    let bits_left : (c.loop-used.used + c.put_page-rest.result.used ≤ length bits)
    × (0 < c.put_page-rest.result.used) = (omega (arith, after.within, length-drop c.loop-used.used bits, c.loop-used.invariant.0), after.some (omega arith) (some d left)) in
    omega (arith, bits_left)

pub loop-used-preserved : goal.loop-used-preserved
loop-used-preserved c =
    let d = (goal.at.loop-used-preserved c).In-loop-used in
    let bits : List ℕ = c.args.bits.now in
    let buffer : List ℕ = c.args.out.now in
    let rest : List ℕ = drop c.loop-used.used bits in
    let done : ℕ = c.loop-used.number - 1 in
    let left : c.loop-used.used < length bits = omega arith in
    let after : RestAfter 50 c.loop-used.due rest c.put_page-rest.result = subst (RestAfter 50 c.loop-used.due rest)
    (sym (c.put_page-rest.ensures.0 ∙ ap (rest_after c.loop-used.due) (tail bits c.loop-used.used)))
    (rest-after c.loop-used.due rest (so_far d).going.accepted) in
    let page-is : c.put_page-rest.new.out ≡ page c.loop-used.number (map line (page_entries c.loop-used.due rest)) ++ drop 2184
    (take (length c.loop-used.out - c.loop-used.at) (drop c.loop-used.at c.loop-used.out)) = c.put_page-rest.ensures.1
    ∙ ap (λ (f : List ℕ). page c.loop-used.number (map line (page_entries c.loop-used.due f))
    ++ drop 2184 (take (length c.loop-used.out - c.loop-used.at) (drop c.loop-used.at c.loop-used.out))) (tail bits c.loop-used.used) in
    let bits_left : (c.loop-used.used + c.put_page-rest.result.used ≤ length bits)
    × (0 < c.put_page-rest.result.used) = (omega (arith, after.within, length-drop c.loop-used.used bits, c.loop-used.invariant.0), after.some (omega arith) (some d left)) in
    let next : done + 1 ≡ c.loop-used.number + 1 - 1 = omega (arith, c.loop-used.invariant.1) in
    let out-after : List ℕ = take c.loop-used.at c.loop-used.out
    ++ (c.put_page-rest.new.out ++ drop (length c.loop-used.out - c.loop-used.at) (drop c.loop-used.at c.loop-used.out)) in
    let page-put : Put (pages_from (done + 1) 1 (map line (entries_of bits))) buffer out-after (c.loop-used.at + 2184) = put-next-page done c.loop-used.due rest (entries_of bits) (so_far d)
    (some d left) c.loop-used.number c.loop-used.at buffer c.loop-used.out _
    (omega (arith, c.loop-used.invariant.1)) (omega (arith, (small d) left)) (put d) (room d left) page-is in
    let printed : Printing (done + 1) c.put_page-rest.result.due (drop (c.loop-used.used + c.put_page-rest.result.used) bits)
    (entries_of bits) = printing-next done c.loop-used.due rest (entries_of bits) (so_far d) (some d left) c.put_page-rest.result _ after
    (sym (drop-drop c.put_page-rest.result.used c.loop-used.used bits)) in (
      bits_left.0,
      omega arith,
      omega (arith, c.loop-used.invariant.2, c.loop-used.invariant.1),
      subst (λ (k : ℕ). Printing k c.put_page-rest.result.due
          (drop (c.loop-used.used + c.put_page-rest.result.used) bits) (entries_of bits)) next printed,
      subst (λ (k : ℕ). Put (pages_from k 1 (map line (entries_of bits))) buffer out-after (c.loop-used.at + 2184)) next page-put,
    )

pub shape_of-out : goal.shape_of-out
shape_of-out c =
    let bits : List ℕ = c.args.bits.now in
    let buffer : List ℕ = c.args.out.now in
    let done : ℕ = c.loop-used.number - 1 in
    let put : Put (pages_from done 1 (map line (entries_of bits))) buffer c.loop-used.out c.loop-used.at = c.loop-used.invariant.4 in
    put-length put

pub returns : goal.returns
returns c =
    let bits : List ℕ = c.args.bits.now in
    let buffer : List ℕ = c.args.out.now in
    let rest : List ℕ = drop c.loop-used.used bits in
    let done : ℕ = c.loop-used.number - 1 in
    let so_far : Printing done c.loop-used.due rest (entries_of bits) = c.loop-used.invariant.3 in
    let put : Put (pages_from done 1 (map line (entries_of bits))) buffer c.loop-used.out c.loop-used.at = c.loop-used.invariant.4 in
    let e = printed-all done c.loop-used.due rest (entries_of bits) (drop_of_length-le bits {i = c.loop-used.used} c.loop-used-test.false) so_far in
    put.is ∙ rw (← e, put.size)
