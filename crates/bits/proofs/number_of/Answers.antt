use Prim.Native.Nat.{ℕ, ◌+◌, ◌*◌, ◌/◌, ◌^◌, ◌≤◌, ◌<◌}
use mathlib.Core.List.{List, []}
use mathlib.Core.Path.{◌≡◌, ap, ◌∙◌}
use native.Mathlib.Nat.{sub_self}
use native.Mathlib.Omega.{arith}
use lib.ListN.{length, get_or, take, drop}
use lib.Pow.{pow_mono}
use lib.Seq.{drop-length, get_or-drop}
use Rattle.bits.specs.Bits.{number}
use Rattle.std.proofs.lemmas.List.{take-take}
use Rattle.bits.proofs.Parts.{length_part}
use Rattle.bits.proofs.Slices.{chunk-at, chunk-bits, gather-part, part-lt, gather-next, next-lt}
use Rattle.bits.proofs.number_of.Goals as goal
use Rattle.bits.proofs.number_of.Goals.{In-loop-eight, In-loop-b}

-- ---- eight bits at a time

module _ (c : In-loop-eight) where
  -- the bits passed
  abbrev done : ℕ
  done = c.loop-eight.eight-index * 8

  inside : done + 8 ≤ length c.args.s.now
  inside = omega (arith, c.as_chunks.ensures.front_len)

  chunk : get_or c.as_chunks.result.0.now c.loop-eight.eight-index [] ≡ take 8 (drop done c.args.s.now)
  chunk =
      ap (λ (l : List (List ℕ)). get_or l c.loop-eight.eight-index []) c.as_chunks.ensures.front
      ∙ chunk-at (length c.args.s.now / 8) c.args.s.now c.loop-eight.eight-index (omega (arith, c.as_chunks.ensures.front_len))

  -- the eight bits that are gathered
  eight : take 8 (drop 0 (get_or c.as_chunks.result.0.now c.loop-eight.eight-index [])) ≡ take 8 (drop done c.args.s.now)
  eight = ap (λ (l : List ℕ). take 8 l) chunk ∙ take-take 8 8 (drop done c.args.s.now) (omega arith)

  pushed : c.loop-eight.word * 256 + number (take 8 (drop done c.args.s.now)) < 2 ^ (done + 8)
  pushed = part-lt c.args.s.now done 8 c.loop-eight.word c.requires.1 inside c.loop-eight.invariant.0

  room : 2 ^ (done + 8) ≤ 2 ^ 64
  room = pow_mono {j = 64} (omega (arith, inside))

pub overflow_mul-word : goal.overflow_mul-word
overflow_mul-word c =
    let d = (goal.at.overflow_mul-word c).In-loop-eight in
    omega (arith, pushed d, room d)

pub gather-requires : goal.gather-requires
gather-requires c =
    let d = (goal.at.gather-requires c).In-loop-eight in
    rw (chunk d)
    (omega (arith, length_part c.args.s.now (done d) 8 (inside d)), chunk-bits c.args.s.now (done d) c.requires.1)

pub overflow_add-word : goal.overflow_add-word
overflow_add-word c =
    let d = (goal.at.overflow_add-word c).In-loop-eight in
    omega (arith, c.gather.ensures ∙ ap number (eight d), pushed d, room d)

pub loop-eight-preserved : goal.loop-eight-preserved
loop-eight-preserved c =
    let d = (goal.at.loop-eight-preserved c).In-loop-eight in
    let e : (c.loop-eight.eight-index + 1) * 8 ≡ done d + 8 = omega arith in
    rw (e, c.gather.ensures, eight d)
    (pushed d, gather-part c.args.s.now (done d) 8 c.loop-eight.word (inside d) c.loop-eight.invariant.1)

-- ---- one bit at a time

module _ (c : In-loop-b) where
  abbrev place : ℕ
  place = length c.args.s.now / 8 * 8 + c.loop-b.b-index

  within : place < length c.args.s.now
  within = omega (arith, c.as_chunks.ensures.back_len)

  element : get_or c.as_chunks.result.1.now c.loop-b.b-index 0 ≡ get_or c.args.s.now place 0
  element =
      ap (λ (l : List ℕ). get_or l c.loop-b.b-index 0) c.as_chunks.ensures.back
      ∙ get_or-drop (length c.args.s.now / 8 * 8) c.args.s.now c.loop-b.b-index 0

  next : c.loop-b.word * 2 + get_or c.args.s.now place 0 < 2 ^ (place + 1)
  next = next-lt c.args.s.now place c.loop-b.word c.requires.1 within c.loop-b.invariant.0

  fits : 2 ^ (place + 1) ≤ 2 ^ 64
  fits = pow_mono {j = 64} (omega (arith, within))

pub overflow_add-word-in-loop-b : goal.overflow_add-word-in-loop-b
overflow_add-word-in-loop-b c =
    let d = (goal.at.overflow_add-word-in-loop-b c).In-loop-b in
    omega (arith, c.from.ensures ∙ element d, next d, fits d)

pub loop-b-preserved : goal.loop-b-preserved
loop-b-preserved c =
    let d = (goal.at.loop-b-preserved c).In-loop-b in
    let e : length c.args.s.now / 8 * 8 + (c.loop-b.b-index + 1) ≡ place d + 1 = omega arith in
    rw (e, c.from.ensures, element d)
    (next d, gather-next c.args.s.now (place d) c.loop-b.word (within d) c.loop-b.invariant.1)

pub returns : goal.returns
unfolding number
returns c =
    let s = c.args.s.now in
    let e : length s / 8 * 8 + c.loop-b.b-index ≡ length s = omega (arith, c.as_chunks.ensures.back_len) in
    omega (arith, rw (e, sub_self (length s), drop-length s) at c.loop-b.invariant.1)
