-- The row written line by line: a line in its place, and one line after the other.
-- Assumes nothing.
use Prim.Native.Nat.{ℕ, zero, suc, ◌+◌, ◌-◌, ◌*◌, ◌/◌, ◌%◌, ◌≤◌, ◌<◌}
use mathlib.Core.List.{List, [], ◌∷◌, ◌++◌, append_assoc, append-nil}
use mathlib.Core.Path.{◌≡◌, refl, sym, ap, ◌∙◌}
use native.Mathlib.Nat.{mod-add-div'}
use native.Mathlib.Numerals.{add-one}
use native.Mathlib.Omega.{arith}
use lib.ListN.{length, take, drop, get_or, set, length-append, drop_of_length-le}
use lib.Seq.{append_snoc, drop-drop, take_at, drop_at, length-take-le, drop-cons, set_at}
use Rattle.bits.specs.Bits.{concat}
use Rattle.irig_rules.specs.Irig.{low_bits, identifier}
use Rattle.irig_row.specs.Row.{line_elements, row_elements}
use Rattle.irig_rules.proofs.Low.{length-low, low-join}

-- ---- a line

-- nine low bits: eight and one
nine : (x : ℕ) → low_bits 9 x ≡ low_bits 8 (x % 256) ++ (x / 256 % 2 ∷ [])
unfolding low_bits
nine x = rw (mod-add-div' x 256) at (low-join 8 1 (x % 256) (x / 256) (omega arith))

-- two elements stored, one after the other, after the first n
set-two : (p : List ℕ) (y z a b : ℕ) (ys : List ℕ) (n : ℕ) → length p ≡ n → set (set (p ++ y ∷ z ∷ ys) n a) (n + 1) b ≡ p ++ a ∷ b ∷ ys
set-two p y z a b ys n h =
    let l : length (p ++ (a ∷ [])) ≡ n + 1 = length-append p (a ∷ []) ∙ omega arith in
    rw (set_at p y (z ∷ ys) a n h, ← append_snoc p a (z ∷ ys), set_at (p ++ (a ∷ [])) z ys b (n + 1) l, append_snoc p a (b ∷ ys))

drop-two : (l : List ℕ) (n : ℕ) → n + 2 ≤ length l → drop n l ≡ get_or l n 0 ∷ get_or l (n + 1) 0 ∷ drop (n + 2) l
drop-two l n h =
    let e : n + 2 ≡ suc (n + 1) = omega arith in
    rw (e, ← drop-cons l (n + 1) 0 (omega arith), add-one n) (drop-cons l n 0 (omega arith))

-- eight elements of a line, and the two after them
pub line-put : (old out : List ℕ) (x : ℕ) → length old ≡ 10 → out ≡ low_bits 8 (x % 256) ++ drop 8 old
    → set (set out 8 (x / 256 % 2)) 9 identifier ≡ line_elements x
unfolding line_elements
line-put old out x long eight =
    let all : drop 10 old ≡ [] = drop_of_length-le old {i = 10} (omega arith) in
    rw (
      eight,
      drop-two old 8 (omega arith),
      set-two (low_bits 8 (x % 256)) _ _ (x / 256 % 2) identifier (drop 10 old) 8 (length-low 8 (x % 256)),
      all,
      nine x,
    )
    (sym (append_assoc (low_bits 8 (x % 256)) (x / 256 % 2 ∷ []) (identifier ∷ [])))

-- ---- the lines

pub length-line : (x : ℕ) → length (line_elements x) ≡ 10
unfolding line_elements low_bits
length-line x = refl

pub length-rows : (l : List ℕ) → length (row_elements l) ≡ length l * 10
unfolding row_elements concat
length-rows [] = refl
length-rows (x ∷ l) = length-append (line_elements x) (row_elements l) ∙ omega (arith, length-line x, length-rows l)

rows-suc : (l : List ℕ) (k : ℕ) → k < length l → row_elements (take (k + 1) l) ≡ row_elements (take k l) ++ line_elements (get_or l k 0)
unfolding row_elements concat
rows-suc [] k h = absurd (omega arith)
rows-suc (x ∷ l) zero h = append-nil (line_elements x)
rows-suc (x ∷ l) (suc k) h =
    let e : suc k + 1 ≡ suc (k + 1) = omega arith in
    rw (e, rows-suc l k (omega arith)) (sym (append_assoc (line_elements x) (row_elements (take k l)) (line_elements (get_or l k 0))))

-- the first k lines stand first in out, and what was there before follows
abbrev pub Put : List ℕ → List ℕ → ℕ → List ℕ → Type 0
Put old l k out = out ≡ row_elements (take k l) ++ drop (k * 10) old

-- one line more
pub next-line : (old l out line : List ℕ) (k : ℕ) → k < length l → Put old l k out → line ≡ line_elements (get_or l k 0)
    → Put old l (k + 1) (take (k * 10) out ++ (line ++ drop ((k + 1) * 10 - k * 10) (drop (k * 10) out)))
next-line old l out line k h p e =
    let w = row_elements (take k l) in
    let n : length w ≡ k * 10 = length-rows (take k l) ∙ ap (λ (m : ℕ). m * 10) (length-take-le k l (omega arith)) in
    let ten : (k + 1) * 10 - k * 10 ≡ 10 = omega arith in
    let f : (k + 1) * 10 ≡ k * 10 + 10 = omega arith in
    rw (
      ten,
      e,
      p,
      take_at w (drop (k * 10) old) (k * 10) n,
      drop_at w (drop (k * 10) old) (k * 10) n,
      drop-drop 10 (k * 10) old,
      f,
      rows-suc l k h,
    )
    (sym (append_assoc w (line_elements (get_or l k 0)) (drop (k * 10 + 10) old)))
