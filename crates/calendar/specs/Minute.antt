-- A number as a minute of the range (document 01, "Minutes and dates" and "Questions in order").
-- Assumes nothing.
use Rattle.std.specs.Prelude.{◌≡◌, ℕ, ◌≤◌, Result, MatchResult}
use Rattle.questions.specs.declared.Refusal.{Refusal}
use Rattle.questions.specs.declared.Refusal.TheVariants.{MinuteTooLarge}
use Rattle.calendar.specs.Calendar.{minute_count}
use Rattle.calendar.specs.declared.Minute.{Minute}

-- question 3: the minute with this number, or that the range has none
abbrev pub MinuteOrTooLarge : ℕ → Result Minute Refusal → Type 0
MinuteOrTooLarge t r = MatchResult r (λ m. m.index ≡ t) (λ e. (e ≡ MinuteTooLarge) × (minute_count ≤ t))
