-- What a plan gives a minute reads back, and as the phase code does.
-- Assumes nothing.
use Prim.Native.Nat.{ℕ, zero, suc, ◌≤◌, ◌<◌}
use mathlib.Core.Bool.{Bool, true, false, ◌&&◌, false≢true}
use mathlib.Core.Logic.{◌↔◌, ◌⊎◌, inl, inr, ◌≢◌}
use mathlib.Core.Path.{◌≡◌, refl}
use native.Mathlib.Omega.{arith}
use lib.Dec.{leb, eqb}
use lib.IntN.{ℤ, pos, negsuc}
use borrow.Author.Tests.{leb-true}
use Rattle.bits.specs.Bits.{pick}
use Rattle.bits.proofs.Tests.{both_true, head-true, tail-true}
use Rattle.calendar.specs.Calendar.{minute_count, month_index, last_of_month}
use Rattle.codewords.specs.CodeWords.{daylight_number, leap_number}
use Rattle.codewords.specs.declared.DaylightState.{DaylightState}
use Rattle.codewords.specs.declared.DaylightState.TheVariants.{Standard, Begins, Daylight, Ends}
use Rattle.codewords.specs.declared.LeapState.{LeapState}
use Rattle.codewords.specs.declared.LeapState.TheVariants.{None, Negative, Positive}
use Rattle.plan.specs.Plan.{usual_frame, legal_rows, legal_leap, legal_plan, daylight_at, leap_of, leap_at, leap_length, length_at}
use Rattle.plan.proofs.Laws.{leap-in-month, leap-elsewhere, in-month-or-not}
use Rattle.plan.specs.declared.Plan.{Plan}
use Rattle.messages.proofs.Schedules.{plan-legal}
use Rattle.format.specs.Frame.{sent_by}
use Rattle.format.specs.Entry.{sent_entry}
use Rattle.format.specs.Received.{with_echo, received_entry}
use Rattle.sequence.proofs.Messages.{time-at}
use Rattle.sequence.proofs.ReadBack.{single-reads-back}
use Rattle.amplitude_rules.specs.Amplitude.{legal_sign, legal_ut1, length_fits, legal_values}
use Rattle.amplitude_rules.specs.Writing.{warning_at, values_at}
use Rattle.amplitude_rules.specs.Theorems.{SentReads, WarnedMonth, BothCodes}
use Rattle.amplitude_rules.proofs.Facts.{Legal, legal-values, picked-below}
use Rattle.amplitude_rules.proofs.ReadBack.{read-values}

sent-length : (last : Bool) (l : LeapState) → length_fits last (pick (eqb (leap_number l) 0) 0 1) (pick last (leap_length l) usual_frame) ≡ true
unfolding length_fits
sent-length true None = refl
sent-length true Negative = refl
sent-length true Positive = refl
sent-length false l = refl

flag_small : (b : Bool) → pick b 0 1 ≤ 1
flag_small b = let h : pick b 0 1 < 2 = picked-below b (omega arith) (omega arith) in omega arith

daylight-small : (d : DaylightState) → daylight_number d ≤ 3
daylight-small Standard = omega arith
daylight-small Begins = omega arith
daylight-small Daylight = omega arith
daylight-small Ends = omega arith

-- the values of a minute of the range with a legal UT1 fit each other
pub values-legal : (p : Plan) (t : ℕ) (sign : ℤ) (tenths : ℕ) → t < minute_count → legal_ut1 sign tenths ≡ true → Legal (values_at p t sign tenths)
unfolding legal_ut1 values_at warning_at length_at
values-legal p t sign tenths l u =
    let b = both_true (legal_sign sign) (leb tenths 9) u in
    record {
      minute = l;
      sign = b.0;
      tenths = leb-true tenths 9 b.1;
      warning = flag_small (eqb (leap_number (leap_at p t)) 0);
      daylight = daylight-small (daylight_at p t);
      length = sent-length (last_of_month t) (leap_at p t);
    }

pub sent-legal : (p : Plan) (t : ℕ) (sign : ℤ) (tenths : ℕ) → t < minute_count → legal_ut1 sign tenths ≡ true → legal_values (values_at p t sign tenths) ≡ true
sent-legal p t sign tenths l u = legal-values (values_at p t sign tenths) (values-legal p t sign tenths l u)

pub sent-reads : SentReads
sent-reads p t sign tenths h l u = read-values (values_at p t sign tenths) (values-legal p t sign tenths l u)

-- ---- the warning

abbrev mark : LeapState → ℕ
mark l = pick (eqb (leap_number l) 0) 0 1

-- the leap state of a legal sign is none exactly where the sign is 0
signed : (z : ℤ) (m : ℕ) → legal_leap z m ≡ true → mark (leap_of z) ≡ 1 ↔ (z ≢ pos 0)
unfolding legal_leap
signed (pos zero) m l = ((λ h. absurd (omega arith)), (λ n. absurd (n refl)))
signed (pos (suc zero)) m l = ((λ h e. let z : ◌≡◌ {A = ℕ} 0 1 = cc in omega arith), (λ n. refl))
signed (pos (suc (suc n))) m l = absurd (false≢true l)
signed (negsuc zero) m l = ((λ h e. let z : ◌≡◌ {A = ℕ} 0 1 = cc in omega arith), (λ n. refl))
signed (negsuc (suc n)) m l = absurd (false≢true l)

legal-leap : (p : Plan) → legal_plan p ≡ true → legal_leap p.leap_sign p.leap_month ≡ true
unfolding legal_plan
legal-leap p h =
    let rows = legal_rows p.kind p.spring p.autumn in
    let leap = legal_leap p.leap_sign p.leap_month in
    tail-true rows leap (head-true (rows && leap) (leb p.notice 1) h)

pub warned-month : WarnedMonth
unfolding warning_at
warned-month p t legal = go (in-month-or-not p t)
  where
    sign : mark (leap_of p.leap_sign) ≡ 1 ↔ (p.leap_sign ≢ pos 0)
    sign = signed p.leap_sign p.leap_month (legal-leap p legal)

    go : (month_index t ≡ p.leap_month) ⊎ (month_index t ≡ p.leap_month → ⊥)
        → warning_at p t ≡ 1 ↔ ((p.leap_sign ≢ pos 0) × (month_index t ≡ p.leap_month))
    go (inl e) = rw (leap-in-month p t e) ((λ h. (sign.0 h, e)), (λ h. sign.1 h.0))
    go (inr n) = rw (leap-elsewhere p t n) ((λ h. absurd (omega arith)), (λ h. absurd (n h.1)))

-- ---- both codes

pub both-codes : BothCodes
both-codes p t sign tenths x buffer h k l u i space = (
  values_at p.plan t sign tenths,
  received_entry (sent_by p.plan t) x,
  sent-reads p.plan t sign tenths (plan-legal p h) l u,
  rw (time-at p h t k) (single-reads-back p.plan t x buffer (plan-legal p h) l i space),
  unfold values_at received_entry with_echo sent_entry sent_by in record { date = refl; entry_date = refl; daylight = refl; length = refl },
)
