-- `listing::text::put_frame` meets its contract.
-- Assumes nothing.
use Prim.Native.Nat.{ℕ, ◌+◌}
use mathlib.Core.List.{List, ◌++◌, map}
use mathlib.Core.Path.{◌≡◌, refl, sym, ap, ◌∙◌}
use native.Mathlib.Omega.{arith}
use lib.ListN.{length, set, take, drop}
use lib.Seq.{length-take-le}
use Rattle.plan.specs.Plan.{length_at}
use Rattle.format.specs.Frame.{frame, sent_by}
use Rattle.sequence.proofs.Sums.{length-time}
use Rattle.listing.specs.Listing.{glyph, bits_text}
use Rattle.sequence.proofs.Putting.{Put, put_of, put-length}
use Rattle.listing.proofs.Texts.{bits_put, length-bits}
use Rattle.listing.proofs.text.put_frame.Goals as goal

pub slice_bounds-print_bits-end-2 : goal.slice_bounds-print_bits-end-2
slice_bounds-print_bits-end-2 c =
    let f : List ℕ = frame (sent_by c.args.plan c.args.minute.index) in
    let k : ℕ = length_at c.args.plan c.args.minute.index in
    let out₀ : List ℕ = c.args.out.now in
    let ys : List ℕ = c.write_frame-count.new.out in
    let size : length f ≡ k = length-time c.args.plan c.args.minute.index in
    let sent : Put f out₀ ys k = put_of f out₀ ys k k size (omega (arith, c.requires.1)) refl c.write_frame-count.ensures.1 in
    sym (length-take-le _ c.write_frame-count.new.out (omega (arith, put-length sent, c.write_frame-count.ensures.0, c.requires.1)))

pub shape_of-out : goal.shape_of-out
shape_of-out c =
    let f : List ℕ = frame (sent_by c.args.plan c.args.minute.index) in
    let k : ℕ = length_at c.args.plan c.args.minute.index in
    let out₀ : List ℕ = c.args.out.now in
    let ys : List ℕ = c.write_frame-count.new.out in
    let size : length f ≡ k = length-time c.args.plan c.args.minute.index in
    let printed : (zs : List ℕ) → zs ≡ map glyph (take c.write_frame-count.result ys)
    → Put (bits_text f) out₀ (set (zs ++ drop c.write_frame-count.result ys) c.write_frame-count.result 10) (k + 1) =
    λ zs e. put_of (bits_text f) out₀ _ (k + 1) (k + 1) (length-bits f ∙ ap (λ (n : ℕ). n + 1) size)
    (omega (arith, c.requires.1)) refl
    (bits_put f out₀ ys zs k c.write_frame-count.result size c.write_frame-count.ensures.0 c.requires.1 c.write_frame-count.ensures.1 e) in
    put-length (printed c.print_bits.new.bits c.print_bits.ensures)

pub returns : goal.returns
returns c =
    let f : List ℕ = frame (sent_by c.args.plan c.args.minute.index) in
    let k : ℕ = length_at c.args.plan c.args.minute.index in
    let out₀ : List ℕ = c.args.out.now in
    let ys : List ℕ = c.write_frame-count.new.out in
    let size : length f ≡ k = length-time c.args.plan c.args.minute.index in
    let printed : (zs : List ℕ) → zs ≡ map glyph (take c.write_frame-count.result ys)
    → Put (bits_text f) out₀ (set (zs ++ drop c.write_frame-count.result ys) c.write_frame-count.result 10) (k + 1) =
    λ zs e. put_of (bits_text f) out₀ _ (k + 1) (k + 1) (length-bits f ∙ ap (λ (n : ℕ). n + 1) size)
    (omega (arith, c.requires.1)) refl
    (bits_put f out₀ ys zs k c.write_frame-count.result size c.write_frame-count.ensures.0 c.requires.1 c.write_frame-count.ensures.1 e) in
    (ap (λ (n : ℕ). n + 1) c.write_frame-count.ensures.0, (printed c.print_bits.new.bits c.print_bits.ensures).is)
