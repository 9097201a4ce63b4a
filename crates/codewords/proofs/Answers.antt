-- What the answers to questions 9 and 10 say of the search for a word.
-- Assumes nothing.
use Prim.Native.Nat.{ℕ, ◌+◌, ◌/◌, ◌%◌, ◌≤◌, ◌<◌}
use mathlib.Core.Bool.{Bool, true, false, cond}
use mathlib.Core.List.{List, [], ◌∷◌}
use mathlib.Core.Path.{◌≡◌, refl, ap}
use native.Mathlib.Decide.{dec_lt}
use native.Mathlib.Omega.{arith}
use lib.Dec.{ltb}
use lib.ListN.{get_or}
use borrow.Author.Tests.{lt-ltb, le-ltb, ltb-true, ltb-false}
use Rattle.std.proofs.Common.{Option, Some, None}
use Rattle.std.specs.Option.{option_map}
use Rattle.bits.specs.Bits.{pick}
use Rattle.bits.specs.Numbers.{Numbers, found, refused}
use Rattle.questions.specs.Questions.{asked}
use Rattle.codewords.specs.CodeWords.{daylight_number, leap_number, state_number, illegal, state_of, state_answer, state_questions, state_reading, unassigned, row_of, below, row_answer, row_questions, row_reading}
use Rattle.codewords.specs.Theorems.{StateAnswered, RowAnswered}
use Rattle.codewords.specs.declared.State.{State}
use Rattle.codewords.proofs.Tables.{daylight-lt, state-lt, state_of-le, row_of-le}

-- a search that gave k, of the numbers below end: found with values, or refused with a number that is not 0
module _ (k end n : ℕ) (some : 0 < n) (values : List ℕ) where
  gave : (own : List ℕ) → found own ≡ pick (ltb k end) (found values) (refused n) → (own ≡ values) × (k < end)
  gave own e = go (ltb k end) refl e
    where
      go : (b : Bool) → ltb k end ≡ b → found own ≡ pick b (found values) (refused n) → (own ≡ values) × (k < end)
      go true p q = (ap (λ (x : Numbers). x.values) q, ltb-true k end p)
      go false p q = let z : 0 ≡ n = ap (λ (x : Numbers). x.number) q in absurd (omega arith)

  lacked : refused n ≡ pick (ltb k end) (found values) (refused n) → end ≤ k
  lacked e = go (ltb k end) refl e
    where
      go : (b : Bool) → ltb k end ≡ b → refused n ≡ pick b (found values) (refused n) → end ≤ k
      go true p q = let z : n ≡ 0 = ap (λ (x : Numbers). x.number) q in absurd (omega arith)
      go false p q = ltb-false k end p

-- what a search below end gave
pub below-some : (end n k : ℕ) → Some k ≡ below end n → (k ≡ n) × (k < end)
below-some end n k e = go (ltb n end) refl e
  where
    go : (b : Bool) → ltb n end ≡ b → Some k ≡ cond b (Some n) None → (k ≡ n) × (k < end)
    go true p q = let i : k ≡ n = cc in (i, rw i (ltb-true n end p))
    go false p q = cc

pub below-none : (end n : ℕ) → None ≡ below end n → end ≤ n
below-none end n e = go (ltb n end) refl e
  where
    go : (b : Bool) → ltb n end ≡ b → None ≡ cond b (Some n) None → end ≤ n
    go true p q = cc
    go false p q = ltb-false n end p

-- one that is counted from a number on
pub below-from : (from n len end : ℕ) → from + len ≡ end → option_map (λ k. from + k) (below len n) ≡ below end (from + n)
below-from from n len end e =
    elim (dec_lt n len) [
      | yes l ↦ rw (lt-ltb n len l, lt-ltb (from + n) end (omega arith))
      | no g ↦ rw (le-ltb n len (omega arith), le-ltb (from + n) end (omega arith))
    ]

pub option_map-same : (o : Option ℕ) → option_map (λ k. k) o ≡ o
option_map-same None = refl
option_map-same (Some k) = refl

-- ---- state words

module _ (s : State) (v : ℕ) where
  pub legal : state_number s ≡ state_of v → state_answer (Some s) ≡ state_reading v
  unfolding state_reading state_questions asked
  legal e =
      let q : state_of v % 4 ≡ daylight_number s.daylight = omega (arith, daylight-lt s.daylight) in
      let r : state_of v / 4 ≡ leap_number s.leap = omega (arith, daylight-lt s.daylight) in
      let l : state_of v < illegal = omega (arith, state-lt s) in
      rw (lt-ltb (state_of v) illegal l, q, r)

  pub legal-is : state_answer (Some s) ≡ state_reading v → state_number s ≡ state_of v
  unfolding state_reading state_questions asked
  legal-is e =
      let w = (gave (state_of v) illegal 9 (omega arith) (state_of v % 4 ∷ state_of v / 4 ∷ []) (daylight_number s.daylight ∷ leap_number s.leap ∷ []) e).0 in
      omega (arith, ap (λ (l : List ℕ). get_or l 0 0) w, ap (λ (l : List ℕ). get_or l 1 0) w)

module _ (v : ℕ) where
  pub illegal-as : illegal ≤ state_of v → state_answer None ≡ state_reading v
  unfolding state_reading state_questions asked
  illegal-as h = rw (le-ltb (state_of v) illegal h)

  pub illegal-is : state_answer None ≡ state_reading v → state_of v ≡ illegal
  unfolding state_reading state_questions asked
  illegal-is e = omega (arith, state_of-le v, lacked (state_of v) illegal 9 (omega arith) (state_of v % 4 ∷ state_of v / 4 ∷ []) e)

-- ---- next-change words

module _ (row d v : ℕ) where
  pub assigned : row < unassigned → row_of d v ≡ row → row_answer (Some row) ≡ row_reading d v
  unfolding row_reading row_questions asked
  assigned h e = rw (e, lt-ltb row unassigned h)

  -- an assigned row is the row of the word, and one of the table
  pub assigned-is : row_answer (Some row) ≡ row_reading d v → (row ≡ row_of d v) × (row < unassigned)
  unfolding row_reading row_questions asked
  assigned-is e =
      let g = gave (row_of d v) unassigned 10 (omega arith) (row_of d v ∷ []) (row ∷ []) e in
      let w : row ≡ row_of d v = ap (λ (l : List ℕ). get_or l 0 0) g.0 in
      (w, omega (arith, g.1))

module _ (d v : ℕ) where
  pub unassigned-as : unassigned ≤ row_of d v → row_answer None ≡ row_reading d v
  unfolding row_reading row_questions asked
  unassigned-as h = rw (le-ltb (row_of d v) unassigned h)

  pub unassigned-is : row_answer None ≡ row_reading d v → row_of d v ≡ unassigned
  unfolding row_reading row_questions asked
  unassigned-is e = omega (arith, row_of-le d v, lacked (row_of d v) unassigned 10 (omega arith) (row_of d v ∷ []) e)

-- ---- without their lists

pub state-answered : StateAnswered
unfolding state_reading state_questions asked
state-answered v = refl

pub row-answered : RowAnswered
unfolding row_reading row_questions asked
row-answered daylight v = refl
