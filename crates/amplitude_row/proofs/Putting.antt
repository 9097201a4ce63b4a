-- The row written line by line: a line in its place, and one line after the other.
-- Assumes nothing.
use Prim.Native.Nat.{ℕ, suc, ◌+◌, ◌-◌, ◌≤◌, ◌<◌}
use mathlib.Core.List.{List, [], ◌∷◌, ◌++◌, append_assoc, append-nil}
use mathlib.Core.Path.{◌≡◌, refl, sym, ap, ◌∙◌}
use native.Mathlib.Omega.{arith}
use lib.ListN.{length, take, drop, set, length-append, length-drop, drop_of_length-le}
use lib.Seq.{drop-drop, take_at, drop_at}
use Rattle.std.proofs.Common.{take_all}
use Rattle.bits.specs.Bits.{bits}
use Rattle.bits.proofs.Bits.{length-bits}
use Rattle.bits.proofs.Parts.{length_part}
use Rattle.symbols.specs.Symbols.{marker}
use Rattle.amplitude_row.specs.Row.{line_symbols}
use Rattle.amplitude_row.specs.declared.Lines.{Lines}

-- a line: a marker, and bits after it
pub line-put : (l : List ℕ) (n : ℕ) → 0 < length l → (ys : List ℕ)
    → ys ≡ bits (length (take (length (set l 0 marker) - 1) (drop 1 (set l 0 marker)))) n
    → take 1 (set l 0 marker) ++ (ys ++ drop (length (set l 0 marker) - 1) (drop 1 (set l 0 marker))) ≡ marker ∷ bits (length l - 1) n
line-put [] n h ys e = absurd (omega arith)
line-put (x ∷ xs) n h ys e =
    let p : suc (length xs) - 1 ≡ length xs = omega arith in
    rw (
      e,
      p,
      take_all (length xs) xs (omega arith),
      drop_of_length-le xs {i = length xs} (omega arith),
      append-nil (bits (length xs) n),
    )
    refl

-- the list w stands first in out, and what was there before follows
module _ (old : List ℕ) where
  abbrev Put : ℕ → List ℕ → List ℕ → Type 0
  Put a w out = (length w ≡ a) × (out ≡ w ++ drop a old)

  -- one line more
  next-line : (w out line : List ℕ) (a k n : ℕ) → a + suc k ≤ length old → Put a w out
      → line ≡ marker ∷ bits (length (take (suc k) (drop a out)) - 1) n
      → Put (a + suc k) (w ++ (marker ∷ bits k n)) (take a out ++ (line ++ drop (suc k) (drop a out)))
  next-line w out line a k n h p e =
      let long : length out ≡ length old = ap length p.1 ∙ omega (arith, length-append w (drop a old), length-drop a old, p.0) in
      let m : length (take (suc k) (drop a out)) - 1 ≡ k = omega (arith, length_part out a (suc k) (omega arith)) in
      let f : line ≡ marker ∷ bits k n = e ∙ ap (λ (i : ℕ). marker ∷ bits i n) m in (
        omega (arith, length-append w (marker ∷ bits k n), length-bits k n, p.0),
        rw (f, p.1, take_at w (drop a old) a p.0, drop_at w (drop a old) a p.0, drop-drop (suc k) a old)
            (sym (append_assoc w (marker ∷ bits k n) (drop (a + suc k) old))),
      )

  abbrev after : ℕ → List ℕ → List ℕ → List ℕ
  after a out line = take a out ++ (line ++ drop 10 (drop a out))

  -- the six lines
  module _ (l : Lines) (h : 59 ≤ length old) (a b c d e f : List ℕ) where
    abbrev out1 : List ℕ
    out1 = a ++ drop 9 old

    abbrev out2 : List ℕ
    out2 = after 9 out1 b

    abbrev out3 : List ℕ
    out3 = after 19 out2 c

    abbrev out4 : List ℕ
    out4 = after 29 out3 d

    abbrev out5 : List ℕ
    out5 = after 39 out4 e

    pub lines-put :
        a ≡ marker ∷ bits (length (take 9 old) - 1) l.minute
        → b ≡ marker ∷ bits (length (take 10 (drop 9 out1)) - 1) l.hour
        → c ≡ marker ∷ bits (length (take 10 (drop 19 out2)) - 1) l.days
        → d ≡ marker ∷ bits (length (take 10 (drop 29 out3)) - 1) l.sign
        → e ≡ marker ∷ bits (length (take 10 (drop 39 out4)) - 1) l.tenths
        → f ≡ marker ∷ bits (length (take 10 (drop 49 out5)) - 1) l.flags
        → after 49 out5 f ≡ line_symbols l ++ drop 59 old
    unfolding line_symbols
    lines-put ea eb ec ed ee ef =
        let w1 : List ℕ = marker ∷ bits 8 l.minute in
        let w2 = w1 ++ (marker ∷ bits 9 l.hour) in
        let w3 = w2 ++ (marker ∷ bits 9 l.days) in
        let w4 = w3 ++ (marker ∷ bits 9 l.sign) in
        let w5 = w4 ++ (marker ∷ bits 9 l.tenths) in
        let p1 : Put 9 w1 out1 = next-line [] old a 0 8 l.minute (omega arith) (refl, refl) ea in
        let p2 : Put 19 w2 out2 = next-line w1 out1 b 9 9 l.hour (omega arith) p1 eb in
        let p3 : Put 29 w3 out3 = next-line w2 out2 c 19 9 l.days (omega arith) p2 ec in
        let p4 : Put 39 w4 out4 = next-line w3 out3 d 29 9 l.sign (omega arith) p3 ed in
        let p5 : Put 49 w5 out5 = next-line w4 out4 e 39 9 l.tenths (omega arith) p4 ee in
        (next-line w5 out5 f 49 9 l.flags (omega arith) p5 ef).1
