-- `amplitude_reader::has_real_day` meets its contract.
-- Assumes nothing.
use Prim.Native.Nat.{◌+◌}
use borrow.Author.Rules.{rules}
use Rattle.gregorian.specs.Gregorian.{first_year}
use Rattle.amplitude_reader.proofs.Reading.{year_days}
use Rattle.amplitude_reader.proofs.has_real_day.Goals as goal

pub returns : goal.returns
returns c = rw (year_days (first_year + c.args.x.year), ← c.leap_mark.ensures) (search rules)
