-- `calendar::Date::from_minute` meets its contract. Assumes nothing.
use mathlib.Core.Path.{ap}
use native.Mathlib.Omega.{arith}
use borrow.Author.Tests.{lt-leb, le-leb}
use Rattle.std.proofs.lemmas.Grind.{common_steps}
use Rattle.questions.specs.Questions.{asked}
use Rattle.calendar.specs.Calendar.{max_minute, date_at}
use Rattle.calendar.specs.Answer.{found, date_values, date_questions, date_of_minute}
use Rattle.calendar.proofs.Date.from_minute.Goals as goal

pub returns : goal.returns
unfolding date_of_minute date_questions asked
returns c =
    rw (le-leb c.args.minute max_minute (omega arith), c.at_minute.ensures) (ap (λ t. found (date_values (date_at t))) c.in_ok-minute.ensures)

pub returns-in_err-minute : goal.returns-in_err-minute
unfolding date_of_minute date_questions asked
returns-in_err-minute c = grind (arith, common_steps, lt-leb)
