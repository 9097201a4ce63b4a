-- What a list of questions decides.
-- Assumes nothing.
use Prim.Native.Nat.{ℕ, zero, suc, ◌<◌}
use mathlib.Core.Bool.{Bool, true, false}
use mathlib.Core.List.{List, [], ◌∷◌}
use mathlib.Core.Logic.{◌⊎◌, inl, inr, ◌↔◌}
use mathlib.Core.Path.{◌≡◌, refl, sym, ap, ◌∙◌}
use native.Mathlib.Omega.{arith}
use lib.Dec.{eqb}
use lib.ListN.{length, take, drop, get_or}
use borrow.Author.Tests.{eq-eqb, eqb-true}
use Rattle.bits.specs.Bits.{pick}
use Rattle.questions.specs.Questions.{Question, asked, refusal_of, AllYes, FirstNo, numbers_of, one_of, OneOfListed}

-- what is made of the answer
pub asked-map : {A B : Type 0} (g : A → B) (refusal : ℕ → A) (a : A) (qs : List Question)
    → g (asked refusal qs a) ≡ asked (λ n. g (refusal n)) qs (g a)
unfolding asked
asked-map g refusal a [] = refl
asked-map {B = B} g refusal a (q ∷ qs) = go q.1 (asked-map g refusal a qs)
  where
    go : (t : Bool) {r : B} → g (asked refusal qs a) ≡ r → g (pick t (asked refusal qs a) (refusal q.0)) ≡ pick t r (g (refusal q.0))
    go true h = h
    go false h = refl

never : ◌≡◌ {A = Bool} true false → ⊥
never h = let z : ◌≡◌ {A = ℕ} 0 1 = cc in omega arith

-- one list, one verdict
pub not-both : (qs : List Question) (n : ℕ) → AllYes qs → FirstNo qs n → ⊥
not-both [] n p q = q
not-both (k ∷ qs) n p (inl q) = never (sym p.0 ∙ q.1)
not-both (k ∷ qs) n p (inr q) = not-both qs n p.1 q.1

pub first-unique : (qs : List Question) (n m : ℕ) → FirstNo qs n → FirstNo qs m → n ≡ m
first-unique [] n m p q = absurd p
first-unique (k ∷ qs) n m (inl p) (inl q) = sym p.0 ∙ q.0
first-unique (k ∷ qs) n m (inl p) (inr q) = absurd (never (sym q.0 ∙ p.1))
first-unique (k ∷ qs) n m (inr p) (inl q) = absurd (never (sym p.0 ∙ q.1))
first-unique (k ∷ qs) n m (inr p) (inr q) = first-unique qs n m p.1 q.1

-- the answer to question n; a number that is not in the list counts as yes
unfoldable pub answer : List Question → ℕ → Bool
answer [] n = true
answer (q ∷ qs) n = let r = answer qs n in pick (eqb q.0 n) q.1 r

pub yes-at : (qs : List Question) → AllYes qs → (n : ℕ) → answer qs n ≡ true
unfolding answer
yes-at [] p n = refl
yes-at (q ∷ qs) p n = go (eqb q.0 n) (yes-at qs p.1 n)
  where
    go : (t : Bool) {r : Bool} → r ≡ true → pick t q.1 r ≡ true
    go true h = p.0
    go false h = h

-- a refusal is the number of a question of the list
pub listed : (qs : List Question) (n : ℕ) → FirstNo qs n → one_of (numbers_of qs) n ≡ true
unfolding numbers_of one_of
listed [] n p = absurd p
listed (q ∷ qs) n (inl p) = rw (eq-eqb q.0 n p.0)
listed (q ∷ qs) n (inr p) = go (eqb q.0 n) (listed qs n p.1)
  where
    go : (t : Bool) {r : Bool} → r ≡ true → pick t true r ≡ true
    go true h = refl
    go false h = h

-- the verdict on a list of questions
pub data Verdict {A : Type 0} (refusal : ℕ → A) (a : A) (qs : List Question) : Type 0 where
  all_yes : AllYes qs → asked refusal qs a ≡ a → Verdict refusal a qs
  first-no : (n : ℕ) → FirstNo qs n → asked refusal qs a ≡ refusal n → Verdict refusal a qs

module _ {A : Type 0} (refusal : ℕ → A) (a : A) where
  more : (k : ℕ) (t : Bool) (qs : List Question) → Verdict refusal a qs → Verdict refusal a ((k, t) ∷ qs)
  more k false qs v = first-no k (inl (refl, refl)) (unfold asked in refl)
  more k true qs (all_yes p e) = all_yes (refl, p) (unfold asked in e)
  more k true qs (first-no n p e) = first-no n (inr (refl, p)) (unfold asked in e)

  pub verdict : (qs : List Question) → Verdict refusal a qs
  verdict [] = all_yes tt (unfold asked in refl)
  verdict (q ∷ qs) = more q.0 q.1 qs (verdict qs)

  -- what the questions of a list decide
  module _ (qs : List Question) where
    pub asked-yes : AllYes qs → asked refusal qs a ≡ a
    asked-yes p = go (verdict qs)
      where
        go : Verdict refusal a qs → asked refusal qs a ≡ a
        go (all_yes q e) = e
        go (first-no n q e) = absurd (not-both qs n p q)

    pub asked-no : (n : ℕ) → FirstNo qs n → asked refusal qs a ≡ refusal n
    asked-no n p = go (verdict qs)
      where
        go : Verdict refusal a qs → asked refusal qs a ≡ refusal n
        go (all_yes q e) = absurd (not-both qs n q p)
        go (first-no m q e) = e ∙ ap refusal (first-unique qs m n q p)

    -- an answer that no listed refusal gives comes from yes to all
    pub accepted-when : ((n : ℕ) → FirstNo qs n → refusal n ≡ a → ⊥) → asked refusal qs a ≡ a ↔ AllYes qs
    accepted-when other = (λ h. go h (verdict qs), asked-yes)
      where
        go : asked refusal qs a ≡ a → Verdict refusal a qs → AllYes qs
        go h (all_yes q e) = q
        go h (first-no n q e) = absurd (other n q (sym e ∙ h))

    -- a refusal comes from its question
    pub refused-when : ((n m : ℕ) → refusal n ≡ refusal m → n ≡ m) → (n : ℕ) → (refusal n ≡ a → ⊥) → asked refusal qs a ≡ refusal n ↔ FirstNo qs n
    refused-when injective n other = (λ h. go h (verdict qs), asked-no n)
      where
        go : asked refusal qs a ≡ refusal n → Verdict refusal a qs → FirstNo qs n
        go h (all_yes q e) = absurd (other (sym h ∙ e))
        go h (first-no m q e) = rw (injective n m (sym h ∙ e)) q

    -- there is no other answer than a and the refusals of the list's numbers
    pub answers-in : (asked refusal qs a ≡ a) ⊎ ((n : ℕ) × (one_of (numbers_of qs) n ≡ true) × (asked refusal qs a ≡ refusal n))
    answers-in = go (verdict qs)
      where
        go : Verdict refusal a qs → (asked refusal qs a ≡ a) ⊎ ((n : ℕ) × (one_of (numbers_of qs) n ≡ true) × (asked refusal qs a ≡ refusal n))
        go (all_yes q e) = inl e
        go (first-no n q e) = inr (n, listed qs n q, e)

-- ---- refusals as numbers

-- questions at the end of a list that are answered yes decide nothing
pub yes-after : (k : ℕ) (qs : List Question) → AllYes (drop k qs) → refusal_of qs ≡ refusal_of (take k qs)
unfolding refusal_of asked
yes-after zero qs p = asked-yes (λ n. n) 0 qs p
yes-after (suc k) [] p = refl
yes-after (suc k) (q ∷ qs) p = ap (λ (r : ℕ). pick q.1 r q.0) (yes-after k qs p)

module _ (qs : List Question) where
  -- where no question has the number 0, 0 says that all are answered yes
  pub zero-when : one_of (numbers_of qs) 0 ≡ false → refusal_of qs ≡ 0 ↔ AllYes qs
  unfolding refusal_of
  zero-when above = accepted-when (λ n. n) 0 qs (λ n p h. never (sym (listed qs 0 (rw h at p)) ∙ above))

  pub number-when : (n : ℕ) → 0 < n → refusal_of qs ≡ n ↔ FirstNo qs n
  unfolding refusal_of
  number-when n l = refused-when (λ n. n) 0 qs (λ n m h. h) n (λ h. omega arith)

  -- the number given is 0 or one of the list
  pub number_in : (refusal_of qs ≡ 0) ⊎ (one_of (numbers_of qs) (refusal_of qs) ≡ true)
  unfolding refusal_of
  number_in = go (verdict (λ n. n) 0 qs)
    where
      go : Verdict (λ n. n) 0 qs → (asked (λ n. n) qs 0 ≡ 0) ⊎ (one_of (numbers_of qs) (asked (λ n. n) qs 0) ≡ true)
      go (all_yes p e) = inl e
      go (first-no n p e) = inr (rw e (listed qs n p))

-- ---- numbers of a list

one-of-there : (ks : List ℕ) (n : ℕ) → one_of ks n ≡ true → (i : ℕ) × (i < length ks) × (get_or ks i 0 ≡ n)
unfolding one_of
one-of-there [] n h = absurd (never (sym h))
one-of-there (k ∷ ks) n h = go (eqb k n) refl h (one-of-there ks n)
  where
    go : (t : Bool) → eqb k n ≡ t → pick t true (one_of ks n) ≡ true → (one_of ks n ≡ true → (i : ℕ) × (i < length ks) × (get_or ks i 0 ≡ n))
        → (i : ℕ) × (i < suc (length ks)) × (get_or (k ∷ ks) i 0 ≡ n)
    go true e h later = (0, omega arith, eqb-true k n e)
    go false e h later = let r = later h in (suc r.0, omega (arith, r.1), r.2)

there-one-of : (ks : List ℕ) (n i : ℕ) → i < length ks → get_or ks i 0 ≡ n → one_of ks n ≡ true
unfolding one_of
there-one-of [] n i l e = absurd (omega arith)
there-one-of (k ∷ ks) n zero l e = rw (eq-eqb k n e)
there-one-of (k ∷ ks) n (suc i) l e = go (eqb k n) (there-one-of ks n i (omega arith) e)
  where
    go : (t : Bool) {r : Bool} → r ≡ true → pick t true r ≡ true
    go true h = refl
    go false h = h

pub one-of-listed : OneOfListed
one-of-listed ks n = (one-of-there ks n, λ r. there-one-of ks n r.0 r.1 r.2)
