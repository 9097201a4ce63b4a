-- Writing a minute of the amplitude code: questions 1, 3, 18 and 4, in this order, and the symbols (document 02, 5, "The amplitude code as well";
-- the plan with messages of document 02, 7).
-- Assumes nothing.
use Rattle.std.specs.Prelude.{ℕ, List, [], ◌∷◌, ◌++◌, leb, eqb, ℤ, length, drop}
use Rattle.bits.specs.Bits.{pick}
use Rattle.bits.specs.Numbers.{Numbers, found, refused}
use Rattle.questions.specs.Questions.{Question, asked}
use Rattle.calendar.specs.Calendar.{max_minute}
use Rattle.codewords.specs.CodeWords.{daylight_number, leap_number}
use Rattle.plan.specs.Plan.{daylight_at, leap_at, length_at}
use Rattle.plan.specs.declared.Plan.{Plan}
use Rattle.messages.specs.Message.{Schedule, legal_schedule}
use Rattle.amplitude_rules.specs.declared.Values.{Values}
use Rattle.amplitude_rules.specs.Amplitude.{legal_ut1, symbols}

-- the leap warning of minute t: 1 while the leap state isn't none, so in every minute of the leap month
unfoldable pub warning_at : Plan → ℕ → ℕ
warning_at p t = pick (eqb (leap_number (leap_at p t)) 0) 0 1

-- the values of minute t by a plan, with the caller's UT1
unfoldable pub values_at : Plan → ℕ → ℤ → ℕ → Values
values_at p t sign tenths =
    record {
      minute = t;
      sign = sign;
      tenths = tenths;
      warning = warning_at p t;
      daylight = daylight_number (daylight_at p t);
      seconds = length_at p t;
    }

-- the questions, in their order: the plan and its messages are legal; the minute is at most the last; UT1 is legal; the buffer of so many bytes
-- holds the symbols, which are those of the plan without its messages
unfoldable pub write_questions : Schedule → ℕ → ℤ → ℕ → ℕ → List Question
write_questions p t sign tenths space =
    (1, legal_schedule p) ∷ (3, leb t max_minute) ∷ (18, legal_ut1 sign tenths) ∷ (4, leb (length_at p.plan t) space) ∷ []

-- what writing gives: 0 and the number of symbols, or the refusal alone
unfoldable pub write_amplitude : Schedule → ℕ → ℤ → ℕ → ℕ → Numbers
write_amplitude p t sign tenths space = asked refused (write_questions p t sign tenths space) (found (length_at p.plan t ∷ []))

-- the buffer after writing: the symbols and what stood after them, or the buffer as it was
unfoldable pub symbols_written : Schedule → ℕ → ℤ → ℕ → List ℕ → List ℕ
symbols_written p t sign tenths buffer =
    pick (eqb (write_amplitude p t sign tenths (length buffer)).number 0)
    (symbols (values_at p.plan t sign tenths) ++ drop (length_at p.plan t) buffer)
    buffer
