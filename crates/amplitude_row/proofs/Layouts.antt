-- Question 17 of symbols: what each of its parts decides.
-- Assumes nothing.
use Prim.Native.Nat.{ℕ, ◌-◌, ◌≤◌}
use mathlib.Core.Bool.{Bool, true, false, ◌&&◌, and-false}
use mathlib.Core.List.{List}
use mathlib.Core.Path.{◌≡◌, refl, sym, ap, ◌∙◌}
use native.Mathlib.Omega.{arith}
use lib.Dec.{leb}
use lib.ListN.{length, take, drop, length-drop}
use borrow.Author.Tests.{leb-true}
use Rattle.std.proofs.Common.{take_all}
use Rattle.bits.specs.Bits.{all}
use Rattle.bits.specs.Numbers.{found, refused}
use Rattle.questions.specs.Questions.{asked}
use Rattle.plan.specs.Plan.{min_frame, max_frame}
use Rattle.symbols.specs.Symbols.{fits}
use Rattle.amplitude_rules.specs.Amplitude.{table1}
use Rattle.amplitude_rules.specs.Reading.{is_mark, layout_fits, numbers_in}
use Rattle.amplitude_rules.proofs.Facts.{layout-fits}
use Rattle.amplitude_row.specs.Row.{layout_questions, layout_reading}

module _ (s : List ℕ) where
  answered-no : layout_fits s ≡ false → refused 17 ≡ layout_reading s
  unfolding layout_reading layout_questions asked
  answered-no h = rw h

  pub outside : (min_frame ≤ length s → length s ≤ max_frame → ⊥) → refused 17 ≡ layout_reading s
  unfolding layout_fits
  outside h = answered-no (go (leb min_frame (length s)) (leb (length s) max_frame) refl refl)
    where
      go : (a b : Bool) → leb min_frame (length s) ≡ a → leb (length s) max_frame ≡ b
          → (a && b && fits table1 (take min_frame s) && all is_mark (drop min_frame s)) ≡ false
      go true true p q = absurd (h (leb-true min_frame (length s) p) (leb-true (length s) max_frame q))
      go true false p q = refl
      go false b p q = refl

  -- the seconds after second 58
  pub rest-is : (r : Bool) → r ≡ all is_mark (take (length s - min_frame) (drop min_frame s)) → all is_mark (drop min_frame s) ≡ r
  rest-is r e =
      let a : take (length s - min_frame) (drop min_frame s) ≡ drop min_frame s =
      take_all (length s - min_frame) (drop min_frame s) (omega (arith, length-drop min_frame s)) in
      sym (e ∙ ap (all is_mark) a)

  pub not-marked : all is_mark (drop min_frame s) ≡ false → refused 17 ≡ layout_reading s
  unfolding layout_fits
  not-marked h = answered-no (rw (h, and-false (leb min_frame (length s) && leb (length s) max_frame && fits table1 (take min_frame s))))

  pub no_row : fits table1 (take min_frame s) ≡ false → refused 17 ≡ layout_reading s
  unfolding layout_fits
  no_row h = answered-no (rw (h, and-false (leb min_frame (length s) && leb (length s) max_frame)))

  module _ (low : min_frame ≤ length s) (high : length s ≤ max_frame) (row : fits table1 (take min_frame s) ≡ true) (rest : all is_mark (drop min_frame s) ≡ true) where
    pub has-layout : (v : List ℕ) → v ≡ numbers_in s → found v ≡ layout_reading s
    unfolding layout_reading layout_questions asked
    has-layout v e = rw (layout-fits s (record { low = low; high = high; row = row; rest = rest })) (ap found e)
