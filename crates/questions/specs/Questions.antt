-- Questions asked in order until one is answered no (document 01, "Questions in order": "Later questions aren't put once one got a no").
-- Assumes nothing.
use Rattle.std.specs.Prelude.{ℕ, ◌<◌, Bool, true, false, List, [], ◌∷◌, ◌⊎◌, ◌↔◌, ◌≡◌, eqb, length, get_or}
use Rattle.bits.specs.Bits.{pick}

-- a question's number, and its answer: true is yes
abbrev pub Question : Type 0
Question = ℕ × Bool

-- the refusal of the first question that is answered no, in the order of the list and not of the numbers, or else a
unfoldable pub asked : {A : Type 0} → (ℕ → A) → List Question → A → A
asked refusal [] a = a
asked refusal (q ∷ qs) a = let r = asked refusal qs a in pick q.1 r (refusal q.0)

-- its number, or 0
unfoldable pub refusal_of : List Question → ℕ
refusal_of qs = asked (λ n. n) qs 0

-- ---- the words of the theorems on refusals

-- every question is answered yes
abbrev pub AllYes : List Question → Type 0
AllYes [] = Unit {0}
AllYes (q ∷ qs) = (q.1 ≡ true) × AllYes qs

-- question n is answered no, and those before it in the list are answered yes
abbrev pub FirstNo : List Question → ℕ → Type 0
FirstNo [] n = ⊥
FirstNo (q ∷ qs) n = ((q.0 ≡ n) × (q.1 ≡ false)) ⊎ ((q.1 ≡ true) × FirstNo qs n)

-- the numbers of the questions, in their order
unfoldable pub numbers_of : List Question → List ℕ
numbers_of [] = []
numbers_of (q ∷ qs) = q.0 ∷ numbers_of qs

-- n is one of the listed numbers
unfoldable pub one_of : List ℕ → ℕ → Bool
one_of [] n = false
one_of (k ∷ ks) n = let r = one_of ks n in pick (eqb k n) true r

-- theorem: exactly the numbers that stand in the list
abbrev pub OneOfListed : Type 0
OneOfListed = (ks : List ℕ) (n : ℕ) → one_of ks n ≡ true ↔ ((i : ℕ) × (i < length ks) × (get_or ks i 0 ≡ n))
