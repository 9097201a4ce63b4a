-- The numbers that elements write, element by element.
-- Assumes nothing.
use Prim.Native.Nat.{ℕ, ◌+◌, ◌*◌, ◌≤◌, ◌<◌}
use mathlib.Core.List.{List, [], ◌∷◌}
use mathlib.Core.Path.{◌≡◌}
use native.Mathlib.Numerals.{add-one}
use native.Mathlib.Omega.{arith}
use lib.ListN.{length, drop, get_or, drop_of_length-le, length-drop}
use lib.Seq.{drop-cons, get_or-drop}
use mir.Syntax.{w8}
use mir.Val.{Fits}
use Rattle.irig_rules.specs.Reading.{low_number}

-- no element
pub low-none : (e : List ℕ) → 0 ≡ low_number (drop (length e) e)
unfolding low_number
low-none e = rw (drop_of_length-le e {i = length e} (omega arith))

-- one element more
pub low-from : (e : List ℕ) (j : ℕ) → j < length e → low_number (drop j e) ≡ get_or e j 0 + low_number (drop (j + 1) e) * 2
unfolding low_number
low-from e j h = rw (drop-cons e j 0 h, add-one j)

-- the number of at most four bytes
low_small : (w : List ℕ) → ((k : ℕ) → Fits w8 (get_or w k 0)) → length w ≤ 4 → low_number w < 3826
unfolding low_number
low_small [] f h = omega arith
low_small (a ∷ []) f h = omega (arith, f 0)
low_small (a ∷ b ∷ []) f h = omega (arith, f 0, f 1)
low_small (a ∷ b ∷ c ∷ []) f h = omega (arith, f 0, f 1, f 2)
low_small (a ∷ b ∷ c ∷ d ∷ []) f h = omega (arith, f 0, f 1, f 2, f 3)
low_small (a ∷ b ∷ c ∷ d ∷ x ∷ w) f h = absurd (omega arith)

pub small_from : (e : List ℕ) (i : ℕ) → ((k : ℕ) → Fits w8 (get_or e k 0)) → length e ≤ 4 → low_number (drop i e) < 3826
small_from e i f h =
    low_small (drop i e) (λ k. rw (get_or-drop i e k 0) (f (i + k))) (omega (arith, length-drop i e))
