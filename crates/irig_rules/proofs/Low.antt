-- Bits of a number, the lowest first, and the number that they write.
-- Assumes nothing.
use Prim.Native.Nat.{ℕ, zero, suc, ◌+◌, ◌*◌, ◌/◌, ◌%◌, ◌^◌, ◌<◌}
use mathlib.Core.List.{List, ◌∷◌, ◌++◌}
use mathlib.Core.Path.{◌≡◌, refl, sym, ap, ◌∙◌}
use native.Mathlib.Nat.{div-one, mul_assoc, pow-suc}
use native.Mathlib.Numerals.{one-add}
use native.Mathlib.Omega.{arith}
use lib.ListN.{length, take, drop, get_or, replicate}
use lib.Pow.{shr-shr}
use lib.Seq.{get_or-take, get_or-drop}
use Rattle.bits.specs.Bits.{bit}
use Rattle.irig_rules.specs.Irig.{low_bits}
use Rattle.irig_rules.specs.Reading.{low_number}

pub length-low : (n x : ℕ) → length (low_bits n x) ≡ n
unfolding low_bits
length-low zero x = refl
length-low (suc n) x = ap suc (length-low n (x / 2))

-- element i of the n low bits is bit i
pub get_or-low : (n x i : ℕ) → i < n → get_or (low_bits n x) i 0 ≡ bit x i
unfolding low_bits bit
get_or-low zero x i h = absurd (omega arith)
get_or-low (suc n) x zero h = rw (div-one x)
get_or-low (suc n) x (suc i) h =
    get_or-low n (x / 2) i (omega arith) ∙ ap (λ (y : ℕ). y % 2) (shr-shr x 1 i ∙ ap (λ (k : ℕ). x / 2 ^ k) (one-add i))

-- so are those of a list that has these bits from place k on
pub shown-at : (e : List ℕ) (k n x : ℕ) → take n (drop k e) ≡ low_bits n x → (i : ℕ) → i < n → get_or e (k + i) 0 ≡ bit x i
shown-at e k n x h i l =
    sym (get_or-drop k e i 0) ∙ sym (get_or-take n (drop k e) i 0 l) ∙ ap (λ (w : List ℕ). get_or w i 0) h ∙ get_or-low n x i l

-- those of a number with a below its place n and b from there on
pub low-join : (n m a b : ℕ) → a < 2 ^ n → low_bits (n + m) (a + b * 2 ^ n) ≡ low_bits n a ++ low_bits m b
unfolding low_bits
low-join zero m a b h =
    let e : zero + m ≡ m = omega arith in
    let f : a + b * 2 ^ zero ≡ b = omega arith in
    rw (e, f)
low-join (suc n) m a b h =
    let e : suc n + m ≡ suc (n + m) = omega arith in
    let p : b * 2 ^ suc n ≡ b * 2 ^ n * 2 = rw (pow-suc 2 n) (sym (mul_assoc b (2 ^ n) 2)) in
    let l : a / 2 < 2 ^ n = omega (arith, pow-suc 2 n) in
    let r : (a + b * 2 ^ n * 2) % 2 ≡ a % 2 = omega arith in
    let q : (a + b * 2 ^ n * 2) / 2 ≡ a / 2 + b * 2 ^ n = omega arith in
    rw (e, p, r, q) (ap (λ (w : List ℕ). a % 2 ∷ w) (low-join n m (a / 2) b l))

pub low-zero : (m : ℕ) → low_bits m 0 ≡ replicate m 0
unfolding low_bits
low-zero zero = refl
low-zero (suc m) = ap (λ (w : List ℕ). 0 ∷ w) (low-zero m)

-- a number of n bits, in more places
pub low-more : (n m a : ℕ) → a < 2 ^ n → low_bits (n + m) a ≡ low_bits n a ++ replicate m 0
low-more n m a h =
    let e : a + 0 * 2 ^ n ≡ a = omega arith in
    rw (← low-zero m) (rw e at (low-join n m a 0 h))

-- a number within its bits is the one that they write
pub low-back : (n x : ℕ) → x < 2 ^ n → low_number (low_bits n x) ≡ x
unfolding low_bits low_number
low-back zero x h = omega arith
low-back (suc n) x h =
    let k : x < 2 ^ n * 2 = rw (pow-suc 2 n) at h in
    rw (low-back n (x / 2) (omega arith)) (omega arith)
