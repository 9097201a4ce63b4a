-- The bits of a text, gathered at its front byte by byte.
-- Assumes nothing.
use Prim.Native.Nat.{ℕ, suc, ◌+◌, ◌-◌, ◌≤◌, ◌<◌}
use mathlib.Core.Bool.{Bool, true, false}
use mathlib.Core.List.{List, [], ◌∷◌, ◌++◌, append-nil}
use mathlib.Core.Path.{◌≡◌, refl, sym, ap, ◌∙◌}
use native.Mathlib.Numerals.{add-one}
use native.Mathlib.Omega.{arith}
use lib.ListN.{length, get_or, set, take, drop, length-append, length-drop}
use lib.Seq.{take-suc, take_all, get_or-append-add, get_or-drop}
use Rattle.bits.specs.Bits.{pick}
use Rattle.listing.proofs.Putting.{byte_more}
use Rattle.book.specs.Book.{is_gap, bit_in, bits_in, gathered}

pub bits-append : (a b : List ℕ) → bits_in (a ++ b) ≡ bits_in a ++ bits_in b
unfolding bits_in
bits-append [] b = refl
bits-append (x ∷ a) b = rw (bits-append a b) (go (is_gap x))
  where
    go : (t : Bool) → pick t (bits_in a ++ bits_in b) (bit_in x ∷ (bits_in a ++ bits_in b)) ≡ pick t (bits_in a) (bit_in x ∷ bits_in a) ++ bits_in b
    go true = refl
    go false = refl

-- a byte gives one bit at most
pub bits-few : (a : List ℕ) → length (bits_in a) ≤ length a
unfolding bits_in
bits-few [] = omega arith
bits-few (x ∷ a) = go (is_gap x) (bits-few a)
  where
    go : (t : Bool) → length (bits_in a) ≤ length a → length (pick t (bits_in a) (bit_in x ∷ bits_in a)) ≤ suc (length a)
    go true h = omega arith
    go false h = omega arith

-- the bits of the first i bytes stand in front, and after them what stood there before
pub record GatheredTo (text₀ text : List ℕ) (count i : ℕ) : Type 0 where
  pub within : i ≤ length text₀
  pub few : count ≤ i
  pub size : count ≡ length (bits_in (take i text₀))
  pub is : text ≡ bits_in (take i text₀) ++ drop count text₀

pub none-gathered : (text₀ : List ℕ) → GatheredTo text₀ text₀ 0 0
unfolding bits_in
none-gathered text₀ = record { within = omega arith; few = omega arith; size = refl; is = refl }

module _ (text₀ text : List ℕ) (count i : ℕ) (g : GatheredTo text₀ text count i) where
  pub gathered-length : length text ≡ length text₀
  gathered-length = omega (arith, g.within, g.few, g.size, simp (length-append, length-drop) at (ap length g.is))

  -- byte i is as it was
  pub same_byte : get_or text i 0 ≡ get_or text₀ i 0
  same_byte =
      let w = bits_in (take i text₀) in
      let k : i ≡ length w + (i - count) = omega (arith, g.few, g.size) in
      let n : count + (i - count) ≡ i = omega (arith, g.few) in
      ap (λ (l : List ℕ). get_or l i 0) g.is
      ∙ ap (λ (j : ℕ). get_or (w ++ drop count text₀) j 0) k
      ∙ get_or-append-add w (drop count text₀) (i - count) 0
      ∙ get_or-drop count text₀ (i - count) 0
      ∙ ap (λ (j : ℕ). get_or text₀ j 0) n

  one_more : i < length text₀ → bits_in (take (i + 1) text₀) ≡ bits_in (take i text₀) ++ bits_in (get_or text₀ i 0 ∷ [])
  one_more h = rw (add-one i, take-suc text₀ i 0 h) (bits-append (take i text₀) (get_or text₀ i 0 ∷ []))

  -- a gap is passed over
  gap-passed : i < length text₀ → is_gap (get_or text i 0) ≡ true → GatheredTo text₀ text count (i + 1)
  unfolding bits_in
  gap-passed h t =
      let s : is_gap (get_or text₀ i 0) ≡ true = rw same_byte at t in
      let e : bits_in (take (i + 1) text₀) ≡ bits_in (take i text₀) = one_more h ∙ rw s (append-nil (bits_in (take i text₀))) in
      record { within = omega arith; few = omega (arith, g.few); size = rw e g.size; is = rw e g.is }

  -- any other byte gives a bit
  bit-put : i < length text₀ → is_gap (get_or text i 0) ≡ false → GatheredTo text₀ (set text count (bit_in (get_or text i 0))) (count + 1) (i + 1)
  unfolding bits_in
  bit-put h t =
      let s : is_gap (get_or text₀ i 0) ≡ false = rw same_byte at t in
      let b = bit_in (get_or text₀ i 0) in
      let e : bits_in (take (i + 1) text₀) ≡ bits_in (take i text₀) ++ (b ∷ []) = one_more h ∙ rw s in
      record {
        within = omega arith;
        few = omega (arith, g.few);
        size = omega (arith, g.size, simp length-append at (ap length e));
        is =
            ap (λ (l : List ℕ). set l count (bit_in (get_or text i 0))) g.is
            ∙ ap (λ (x : ℕ). set (bits_in (take i text₀) ++ drop count text₀) count (bit_in x)) same_byte
            ∙ byte_more (bits_in (take i text₀)) text₀ count b (sym g.size) (omega (arith, g.few))
            ∙ ap (λ (l : List ℕ). l ++ drop (count + 1) text₀) (sym e);
      }

  -- the two with what the code has: the gap's test, the bit, and the text and the count after the byte
  module _ (text₁ : List ℕ) (gap : Bool) (count₁ b : ℕ) (h : i < length text₀) (t : gap ≡ is_gap (get_or text i 0)) where
    pub after-gap : gap ≡ true → text₁ ≡ text → count₁ ≡ count → GatheredTo text₀ text₁ count₁ (i + 1)
    after-gap k e n = rw (e, n) (gap-passed h (sym t ∙ k))

    pub after-bit : gap ≡ false → b ≡ bit_in (get_or text i 0) → text₁ ≡ set text count b → count₁ ≡ count + 1 → GatheredTo text₀ text₁ count₁ (i + 1)
    after-bit k d e n = rw (e, n, d) (bit-put h (sym t ∙ k))

  -- all bytes seen
  pub all-gathered : length text₀ ≤ i → (count ≡ length (bits_in text₀)) × (text ≡ gathered text₀)
  unfolding gathered
  all-gathered h =
      let e = take_all i text₀ h in
      let n : count ≡ length (bits_in text₀) = rw e at g.size in
      (n, rw (← n) (rw e at g.is))
