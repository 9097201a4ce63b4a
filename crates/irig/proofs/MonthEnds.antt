-- Days that end a month, by the closed form of the days before a month.
-- Assumes nothing.
use Prim.Native.Nat.{ℕ, ◌+◌, ◌*◌, ◌/◌, ◌≤◌, ◌<◌}
use mathlib.Core.Bool.{Bool}
use mathlib.Core.Path.{◌≡◌}
use native.Mathlib.Omega.{arith}
use lib.Dec.{T, ltb, eqb}
use borrow.Author.Tests.{lt-ltb, le-ltb}
use Rattle.bits.specs.Bits.{pick}
use Rattle.bits.proofs.Tests.{upto, upto-at, same_test, same_test_lem}
use Rattle.questions.specs.Questions.{one_of}
use Rattle.gregorian.specs.Gregorian.{month_lengths, before}
use Rattle.irig_rules.specs.Reading.{ends_month}

-- from February on
abbrev late : ℕ → Bool
late d = ltb d (((d * 32 + 82) / 979 * 979 + 13) / 32)

end-right : ℕ → Bool
end-right d = same_test (pick (ltb d 32) (eqb d 31) (late d)) (ends_month d)

end-all : T (upto end-right 367)
unfolding end-right same_test ends_month one_of month_lengths before
end-all = tt

module _ (d : ℕ) (h : d ≤ 366) where
  by_form : pick (ltb d 32) (eqb d 31) (late d) ≡ ends_month d
  unfolding end-right
  by_form = same_test_lem (pick (ltb d 32) (eqb d 31) (late d)) (ends_month d) (upto-at end-right 367 end-all d (omega arith))

  pub in-january : d < 32 → eqb d 31 ≡ ends_month d
  in-january l = rw (lt-ltb d 32 l) at by_form

  pub after-january : 32 ≤ d → late d ≡ ends_month d
  after-january l = rw (le-ltb d 32 l) at by_form
