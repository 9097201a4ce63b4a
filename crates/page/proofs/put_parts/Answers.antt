use Prim.Native.Nat.{ℕ, ◌+◌, ◌-◌, ◌*◌, ◌≤◌, ◌<◌}
use mathlib.Core.List.{List}
use mathlib.Core.Path.{◌≡◌, refl, sym, ap, subst, ◌∙◌}
use native.Mathlib.Omega.{arith}
use lib.ListN.{length, take, drop, length-drop}
use lib.Seq.{length-take-le}
use Rattle.format.specs.Entry.{Entry}
use Rattle.format.specs.declared.Due.{Due}
use Rattle.sequence.specs.Reading.{seconds_of, bytes_of, due_after}
use Rattle.sequence.proofs.Tails.{tail}
use Rattle.sequence.proofs.Putting.{Put, put-length, rest-length}
use Rattle.page_rules.specs.Printing.{read_on}
use Rattle.page_rules.proofs.Reading.{sized}
use Rattle.page_rules.proofs.Entries.{each_fits}
use Rattle.page.specs.Bytes.{lines_text}
use Rattle.page.specs.Rest.{page_entries, rest_after}
use Rattle.page.proofs.Lines.{lines-zero}
use Rattle.page.proofs.Parts.{part, Part, part-read, space-kept}
use Rattle.page.proofs.Pages.{rest, rest_from, RestAfter, rest_from_lem, rest_more, put-next-part, prefix-bytes, fits_in, ten}
use Rattle.page.proofs.put_parts.Goals as goal
use Rattle.page.proofs.put_parts.Goals.{After-read_from-part}

pub loop-i-init : goal.loop-i-init
loop-i-init c =
    let z = lines-zero (read_on c.args.due c.args.bits.now).entries in (
      omega arith,
      ap length c.part_space-space.ensures ∙ refl,
      (unfold seconds_of due_after in refl),
      record { size = ap length z; room = omega arith; is = rw z },
    )

pub slice_bounds-read_from-count : goal.slice_bounds-read_from-count
slice_bounds-read_from-count c =
    let bits : List ℕ = c.args.bits.now in
    let due : Due = c.args.due in
    let so_far : RestAfter (c.loop-i.i * 10) due bits (rest c.loop-i.used c.loop-i.next) = subst (RestAfter (c.loop-i.i * 10) due bits) (sym c.loop-i.invariant.2)
    (rest_from_lem (c.loop-i.i * 10) due bits c.requires.0) in
    so_far.within

pub slice_bounds-read_from-start : goal.slice_bounds-read_from-start
slice_bounds-read_from-start c =
    let bits : List ℕ = c.args.bits.now in
    let due : Due = c.args.due in
    let so_far : RestAfter (c.loop-i.i * 10) due bits (rest c.loop-i.used c.loop-i.next) = subst (RestAfter (c.loop-i.i * 10) due bits) (sym c.loop-i.invariant.2)
    (rest_from_lem (c.loop-i.i * 10) due bits c.requires.0) in
    so_far.within

pub slice_bounds-read_from-end-in-loop-i : goal.slice_bounds-read_from-end-in-loop-i
slice_bounds-read_from-end-in-loop-i c =
    sym c.loop-i.invariant.1

-- what is known once a part was read: where the text stands, and the part's entries
module _ (c : After-read_from-part) where
  abbrev bits : List ℕ
  bits = c.args.bits.now

  abbrev due : Due
  due = c.args.due

  so_far : RestAfter (c.loop-i.i * 10) due bits (rest c.loop-i.used c.loop-i.next)
  so_far = subst (RestAfter (c.loop-i.i * 10) due bits) (sym c.loop-i.invariant.2)
      (rest_from_lem (c.loop-i.i * 10) due bits c.requires.0)

  abbrev left : List ℕ
  left = drop c.loop-i.used bits

  abbrev later : List ℕ
  later = c.read_from-part.new.entries

  got : Part c.loop-i.next left c.loop-i.space later c.read_from-part.result
  got = part-read c.loop-i.next left _ c.loop-i.space later c.read_from-part.result c.loop-i.invariant.1 (tail bits c.loop-i.used)
      c.read_from-part.ensures.0 c.read_from-part.ensures.1

  abbrev front : List ℕ
  front = take (c.read_from-part.result.entries * 18) later

  front-is : (front ≡ bytes_of (part c.loop-i.next left).entries)
      × (c.read_from-part.result.entries * 18 ≤ 180)
  front-is = prefix-bytes c.loop-i.next left c.loop-i.space later c.read_from-part.result got

  same-space : length later ≡ 180
  same-space = space-kept c.loop-i.next left c.loop-i.space later c.read_from-part.result got c.loop-i.invariant.1

  front_length : length front ≡ c.read_from-part.result.entries * 18
  front_length = length-take-le (c.read_from-part.result.entries * 18) later (omega (arith, front-is.1, same-space))

  abbrev buffer : List ℕ
  buffer = c.args.out.now

  abbrev es : List Entry
  es = (read_on due bits).entries

  put : Put (lines_text (c.loop-i.i * 10) (take (c.loop-i.i * 10) es)) buffer c.loop-i.out (c.loop-i.i * 420)
  put = c.loop-i.invariant.3

  within : c.loop-i.i * 420 ≤ length c.loop-i.out
  within = omega (arith, put.room, put-length put)

  room : c.loop-i.i < 5
      → 420 ≤ length (take (length c.loop-i.out - c.loop-i.i * 420) (drop (c.loop-i.i * 420) c.loop-i.out))
  room = λ h. omega (arith, rest-length put, c.requires.1)

pub overflow_mul-end : goal.overflow_mul-end
overflow_mul-end c =
    let d = (goal.at.overflow_mul-end c).After-read_from-part in
    omega (arith, (front-is d).1)

pub slice_bounds-space-end : goal.slice_bounds-space-end
slice_bounds-space-end c =
    let d = (goal.at.slice_bounds-space-end c).After-read_from-part in
    omega (arith, (front-is d).1, same-space d)

pub slice_bounds-put_part-end : goal.slice_bounds-put_part-end
slice_bounds-put_part-end c =
    let d = (goal.at.slice_bounds-put_part-end c).After-read_from-part in
    sym (front_length d)

pub slice_bounds-put_part-count : goal.slice_bounds-put_part-count
slice_bounds-put_part-count c =
    let d = (goal.at.slice_bounds-put_part-count c).After-read_from-part in
    (within d)

pub slice_bounds-put_part-start : goal.slice_bounds-put_part-start
slice_bounds-put_part-start c =
    let d = (goal.at.slice_bounds-put_part-start c).After-read_from-part in
    (within d)

pub put_part-requires : goal.put_part-requires
put_part-requires c =
    let d = (goal.at.put_part-requires c).After-read_from-part in
    let bits : List ℕ = c.args.bits.now in
    let left : List ℕ = drop c.loop-i.used bits in
    let later : List ℕ = c.read_from-part.new.entries in
    let front : List ℕ = take (c.read_from-part.result.entries * 18) later in (
      omega (arith, front_length d),
      omega (arith, front_length d, (front-is d).1),
      fits_in _ front (front-is d).0 (each_fits 10 c.loop-i.next left),
      (room d) (omega arith),
    )

pub overflow_add-used : goal.overflow_add-used
overflow_add-used c =
    let d = (goal.at.overflow_add-used c).After-read_from-part in
    let bits : List ℕ = c.args.bits.now in
    let left : List ℕ = drop c.loop-i.used bits in
    let bits_left : c.loop-i.used + c.read_from-part.result.used ≤ length bits = omega (arith, (got d).used, (sized 10 c.loop-i.next left).within, length-drop c.loop-i.used bits, (so_far d).within) in
    omega (arith, bits_left)

pub loop-i-preserved : goal.loop-i-preserved
loop-i-preserved c =
    let d = (goal.at.loop-i-preserved c).After-read_from-part in
    let bits : List ℕ = c.args.bits.now in
    let buffer : List ℕ = c.args.out.now in
    let due : Due = c.args.due in
    let left : List ℕ = drop c.loop-i.used bits in
    let es : List Entry = (read_on due bits).entries in
    let later : List ℕ = c.read_from-part.new.entries in
    let front : List ℕ = take (c.read_from-part.result.entries * 18) later in
    let i = c.loop-i.i in
    let more = rest_more (i * 10) due bits c.requires.0 10 _ _ _ _ c.loop-i.invariant.2 (got d).used (got d).due in (
      omega arith,
      (same-space d),
      more ∙ ap (λ (k : ℕ). rest_from k due bits) (ten i),
      put-next-part (i * 10) c.loop-i.next left es (so_far d).going i front buffer c.loop-i.out c.put_part.new.out
          refl (front-is d).0 (put d) (room d (omega arith)) c.put_part.ensures,
    )

pub shape_of-out : goal.shape_of-out
shape_of-out c =
    let bits : List ℕ = c.args.bits.now in
    let buffer : List ℕ = c.args.out.now in
    let due : Due = c.args.due in
    let es : List Entry = (read_on due bits).entries in
    let put : Put (lines_text (c.loop-i.i * 10) (take (c.loop-i.i * 10) es)) buffer c.loop-i.out (c.loop-i.i * 420) = c.loop-i.invariant.3 in
    put-length put

pub returns : goal.returns
unfolding page_entries rest_after
returns c =
    let bits : List ℕ = c.args.bits.now in
    let buffer : List ℕ = c.args.out.now in
    let due : Due = c.args.due in
    let es : List Entry = (read_on due bits).entries in
    let put : Put (lines_text (c.loop-i.i * 10) (take (c.loop-i.i * 10) es)) buffer c.loop-i.out (c.loop-i.i * 420) = c.loop-i.invariant.3 in
    let n : c.loop-i.i ≡ 5 = omega arith in
    let p : Put (lines_text 50 (take 50 es)) buffer c.loop-i.out 2100 = subst (λ (k : ℕ). Put (lines_text (k * 10) (take (k * 10) es)) buffer c.loop-i.out (k * 420)) n put in
    (c.loop-i.invariant.2 ∙ ap (λ (k : ℕ). rest_from (k * 10) due bits) n, p.is)
