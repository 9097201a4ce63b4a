-- `trials::show::front` meets its contract.
-- Assumes nothing.
use Rattle.std.proofs.Common.{rules, [], List, ℕ, Option, None, Some, refl}
use Rattle.std.specs.Io.KnownBytes.{Appends}
use Rattle.trials.proofs.show.front.Goals as goal

nothing-appended : (known : Option (List ℕ)) → Appends known known []
nothing-appended None = tt
nothing-appended (Some xs) = search rules

pub returns-in_err-written-in-Some-clause-tried :
    goal.returns-in_err-written-in-Some-clause-tried
returns-in_err-written-in-Some-clause-tried g c h =
    (Some c.in-Some.answer, _, record { shown = _; shows = search rules; left = _; met = c.in-Some.ensures; leaves = refl }, search rules, search rules, search rules)

pub returns-in-None-clause-tried : goal.returns-in-None-clause-tried
returns-in-None-clause-tried g c h =
    (None, _, record { shown = _; shows = search rules; left = _; met = c.in-None.ensures; leaves = refl }, search rules, nothing-appended _, refl)

pub returns-in_ok-written-in-Some-clause-tried :
    goal.returns-in_ok-written-in-Some-clause-tried
returns-in_ok-written-in-Some-clause-tried g c h =
    (Some c.in-Some.answer, _, record { shown = _; shows = search rules; left = _; met = c.in-Some.ensures; leaves = refl }, search rules, search rules, search rules)
