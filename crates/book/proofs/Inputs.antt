-- What is printed for an input, from its length and its gathered bits.
-- Assumes nothing.
use Prim.Native.Nat.{ℕ, ◌≤◌, ◌<◌}
use mathlib.Core.Bool.{Bool, true, false}
use mathlib.Core.List.{List, ◌++◌}
use mathlib.Core.Path.{◌≡◌, refl, sym, ap, ◌∙◌}
use native.Mathlib.Omega.{arith}
use lib.Dec.{leb}
use lib.ListN.{length, take, drop}
use lib.Seq.{take_at, take_all, length-take-le}
use borrow.Author.Tests.{leb-true, leb-false, le-leb, lt-leb}
use Rattle.bits.specs.Bits.{pick}
use Rattle.listing.specs.Listing.{refused_text}
use Rattle.book.specs.Book.{bits_in, book_limit, recording_text, book_text, printed, gathered, input_after}
use Rattle.book.specs.Theorems.{book_space, FirstBytesDecide, SpaceIsEnough, NothingFromGaps}
use Rattle.book.proofs.Gathering.{bits-few}
use Rattle.book.proofs.Space.{refused-short}
use Rattle.book.proofs.Recording.{recording-short, nothing-recorded}

-- the front of the gathered text is the bits
pub bits-front : (input text : List ℕ) (count : ℕ) → count ≡ length (bits_in input) → text ≡ gathered input → take count text ≡ bits_in input
unfolding gathered
bits-front input text count e g = rw g (take_at (bits_in input) (drop (length (bits_in input)) input) count (sym e))

-- a text stands in front of a buffer, and after it what stood there before
abbrev pub Front : List ℕ → List ℕ → List ℕ → ℕ → Type 0
Front text before after n = (n ≡ length text) × (after ≡ text ++ drop (length text) before)

pub space-is-enough : SpaceIsEnough
unfolding printed book_text
space-is-enough input = go (leb (length input) book_limit) refl
  where
    go : (b : Bool) → leb (length input) book_limit ≡ b → length (pick b (recording_text (bits_in input)) (refused_text 4)) ≤ book_space
    go true t = recording-short (bits_in input) (omega (arith, bits-few input, leb-true (length input) book_limit t))
    go false t = omega (arith, refused-short 4 (omega arith))

refused-long : (input : List ℕ) → book_limit < length input → printed input ≡ refused_text 4
unfolding printed
refused-long input h = rw (lt-leb (length input) book_limit h)

pub first-bytes-decide : FirstBytesDecide
first-bytes-decide input n h = go (leb (length input) n) refl
  where
    go : (b : Bool) → leb (length input) n ≡ b → printed (take n input) ≡ printed input
    go true t = ap printed (take_all n input (leb-true (length input) n t))
    go false t =
        let l = leb-false (length input) n t in
        refused-long (take n input) (omega (arith, length-take-le n input (omega arith))) ∙ sym (refused-long input (omega arith))

pub nothing-from-gaps : NothingFromGaps
unfolding printed book_text
nothing-from-gaps input h e = rw (le-leb (length input) book_limit h, e) nothing-recorded

module _ (input before after : List ℕ) (n : ℕ) where
  pub too_long : book_limit < length input → Front (refused_text 4) before after n
      → (n ≡ length (printed input)) × (after ≡ printed input ++ drop (length (printed input)) before) × (input ≡ input_after input)
  unfolding printed input_after
  too_long h f = rw (lt-leb (length input) book_limit h) (f.0, f.1, refl)

  pub all-printed : (text : List ℕ) (count : ℕ) → count ≡ length (bits_in input) → text ≡ gathered input
      → length input ≤ book_limit → Front (recording_text (take count text)) before after n
      → (n ≡ length (printed input)) × (after ≡ printed input ++ drop (length (printed input)) before) × (text ≡ input_after input)
  unfolding printed input_after book_text
  all-printed text count e g h f =
      let p : Front (recording_text (bits_in input)) before after n = rw (bits-front input text count e g) at f in
      rw (le-leb (length input) book_limit h) (p.0, p.1, g)
