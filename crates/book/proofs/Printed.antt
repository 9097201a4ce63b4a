-- Frames as `station` prints them, read back as bits.
-- Assumes nothing.
use Prim.Native.Nat.{ℕ, zero, suc}
use mathlib.Core.List.{List, [], ◌∷◌, ◌++◌, map, append-nil}
use mathlib.Core.Path.{◌≡◌, refl, ap₂, ◌∙◌}
use native.Mathlib.Omega.{arith}
use Rattle.bits.specs.Bits.{Binary, concat}
use Rattle.listing.specs.Listing.{glyph, bits_text}
use Rattle.book.specs.Book.{is_gap, bit_in, bits_in}
use Rattle.book.specs.Theorems.{FramesAsPrinted}
use Rattle.book.proofs.Gathering.{bits-append}

-- a digit is read as its bit
bits-glyphs : (f : List ℕ) → Binary f → bits_in (map glyph f) ≡ f
unfolding bits_in is_gap bit_in glyph
bits-glyphs [] h = refl
bits-glyphs (zero ∷ f) h = rw (bits-glyphs f h.1)
bits-glyphs (suc zero ∷ f) h = rw (bits-glyphs f h.1)
bits-glyphs (suc (suc b) ∷ f) h = absurd (omega (arith, h.0))

bits-frame : (f : List ℕ) → Binary f → bits_in (bits_text f) ≡ f
unfolding bits_text bits_in is_gap
bits-frame f h = bits-append (map glyph f) (10 ∷ []) ∙ rw (bits-glyphs f h) (append-nil f)

binary-parts : (a b : List ℕ) → Binary (a ++ b) → Binary a × Binary b
binary-parts [] b h = (tt, h)
binary-parts (x ∷ a) b h = let r = binary-parts a b h.1 in ((h.0, r.0), r.1)

pub frames-as-printed : FramesAsPrinted
unfolding concat bits_in
frames-as-printed [] h = refl
frames-as-printed (f ∷ fs) h =
    let p = binary-parts f (concat fs) h in
    bits-append (bits_text f) (concat (map bits_text fs)) ∙ ap₂ ◌++◌ (bits-frame f p.0) (frames-as-printed fs p.1)
