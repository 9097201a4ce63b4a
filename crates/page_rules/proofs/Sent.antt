-- The pages of a written recording are those of its entries as received.
-- Assumes nothing.
use Prim.Native.Nat.{ℕ, ◌+◌, ◌≤◌}
use mathlib.Core.Bool.{true, false}
use mathlib.Core.List.{List}
use mathlib.Core.Path.{◌≡◌, sym, ap, subst, ◌∙◌}
use native.Mathlib.Omega.{arith}
use lib.ListN.{length}
use Rattle.calendar.specs.Calendar.{minute_count}
use Rattle.messages.specs.Message.{Schedule, legal_schedule}
use Rattle.format.specs.Questions.{start}
use Rattle.format.specs.Received.{Reception}
use Rattle.sequence.specs.Reading.{Found}
use Rattle.sequence.specs.Demand.{are_receptions, received_bits, received_entries, message_first}
use Rattle.sequence.proofs.RoundTrip.{received_found, first-trip}
use Rattle.page_rules.specs.Page.{pages}
use Rattle.page_rules.specs.Printing.{read_on, read_all, pages_of}
use Rattle.page_rules.specs.Theorems.{PagesSent}
use Rattle.page_rules.proofs.Reading.{read-on-same}

-- n minutes from m on by p, received as rs says
abbrev Goal : Schedule → ℕ → List Reception → ℕ → Type 0
Goal p m rs n =
    m + n ≤ minute_count → message_first p m n ≡ false
    → ((read_all (received_bits p m n rs)).refusal ≡ 0) × (pages_of (received_bits p m n rs) ≡ pages (received_entries p m rs))

one_each : (p : Schedule) (m : ℕ) (rs : List Reception) → legal_schedule p ≡ true → are_receptions p m rs ≡ true → Goal p m rs (length rs)
unfolding read_all received_bits received_found
one_each p m rs legal ok range first =
    let f = received_bits p m (length rs) rs in
    let q = first-trip p legal rs m (length rs) ok range (omega arith) first in
    let k : read_on start f ≡ received_found p m rs q.0 =
    sym (read-on-same (length rs) start f (λ h. omega (arith, sym (ap (λ (r : Found). r.refusal) q.1) ∙ h))) ∙ q.1 in
    (ap (λ (r : Found). r.refusal) k, ap (λ (r : Found). pages r.entries) k)

pub pages-sent : PagesSent
pages-sent p m n rs legal range each ok first = subst (Goal p m rs) each (one_each p m rs legal ok) range first
