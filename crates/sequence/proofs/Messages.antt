-- What is sent in a minute by a legal plan with messages, and what the reader knows of the leap state when it comes to a minute.
-- Assumes nothing.
use Prim.Native.Nat.{ℕ, suc, ◌+◌, ◌%◌, ◌^◌, ◌≤◌, ◌<◌}
use mathlib.Core.Bool.{Bool, true, false, not, ◌||◌}
use mathlib.Core.List.{List, [], ◌∷◌}
use mathlib.Core.Logic.{◌⊎◌, inl, inr}
use mathlib.Core.Path.{◌≡◌, refl, sym, ap, ◌∙◌}
use native.Mathlib.Decide.{dec_lt}
use native.Mathlib.Numerals.{add-one}
use native.Mathlib.Omega.{arith}
use lib.Dec.{leb, ltb, eqb}
use lib.ListN.{length}
use borrow.Author.Tests.{lt-ltb, le-ltb, leb-true, eqb-true}
use Rattle.bits.specs.Bits.{pick}
use Rattle.bits.proofs.Tests.{head-true, tail-true}
use Rattle.calendar.specs.Calendar.{month_index, last_of_month}
use Rattle.codewords.specs.CodeWords.{leap_number}
use Rattle.codewords.proofs.Tables.{leap-lt}
use Rattle.plan.specs.Plan.{leap_at, length_at}
use Rattle.plan.specs.declared.Plan.{Plan}
use Rattle.plan.proofs.Days.{not_last}
use Rattle.messages.specs.Message.{Message, message_limit, rising, legal_messages, Schedule, legal_schedule}
use Rattle.messages.proofs.Minutes.{rising-cons}
use Rattle.messages.proofs.Schedules.{messages-legal}
use Rattle.format.specs.Frame.{Sent, sent_by}
use Rattle.format.specs.Message.{Content, time, message, content_of, content_at, is_time}
use Rattle.format.specs.Reading.{seconds_for}
use Rattle.format.specs.Questions.{unknown}
use Rattle.format.specs.declared.Due.{Due}
use Rattle.format.specs.declared.Due.TheVariants.{Any, Minute}
use Rattle.format.proofs.Legal.{Legal}
use Rattle.format.proofs.AnyWord.{seconds-usual}

-- ---- the messages before a minute

unfoldable pub passed : List Message → ℕ → ℕ
passed [] t = 0
passed (c ∷ cs) t = pick (ltb c.minute t) 1 0 + passed cs t

one-few : (b : Bool) → pick b 1 0 ≤ 1
one-few true = omega arith
one-few false = omega arith

passed-few : (cs : List Message) (t : ℕ) → passed cs t ≤ length cs
unfolding passed
passed-few [] t = omega arith
passed-few (c ∷ cs) t = omega (arith, one-few (ltb c.minute t), passed-few cs t)

one_more : (m t : ℕ) → pick (ltb m t) 1 0 ≤ pick (ltb m (suc t)) 1 0
one_more m t = elim (dec_lt m t) [
  | yes h ↦ rw (lt-ltb m t h, lt-ltb m (suc t) (omega arith)) (omega arith)
  | no h ↦ rw (le-ltb m t (omega arith)) (omega arith)
]

passed-more : (cs : List Message) (t : ℕ) → passed cs t ≤ passed cs (suc t)
unfolding passed
passed-more [] t = omega arith
passed-more (c ∷ cs) t = omega (arith, one_more c.minute t, passed-more cs t)

passed-one : (c : Message) (cs : List Message) (t : ℕ) → c.minute ≡ t → passed (c ∷ cs) t < passed (c ∷ cs) (suc t)
unfolding passed
passed-one c cs t e =
    rw (le-ltb c.minute t (omega arith), lt-ltb c.minute (suc t) (omega arith)) (omega (arith, passed-more cs t))

passed-next : (c : Message) (cs : List Message) (t : ℕ) → passed cs t < passed cs (suc t) → passed (c ∷ cs) t < passed (c ∷ cs) (suc t)
unfolding passed
passed-next c cs t h = omega (arith, one_more c.minute t)

-- ---- what is sent in a minute

pub data View (cs : List Message) (s : Sent) : Type 0 where
  is-time : content_of cs s ≡ time s → View cs s
  is-message : (d : ℕ) → content_of cs s ≡ message s d → d < 2 ^ 42 → passed cs s.minute < passed cs (suc s.minute) → View cs s

module _ (c : Message) (cs : List Message) (s : Sent) where
  found : eqb c.minute s.minute ≡ true → content_of (c ∷ cs) s ≡ message s c.payload
  unfolding content_of
  found h = rw h

  passed-by : eqb c.minute s.minute ≡ false → content_of (c ∷ cs) s ≡ content_of cs s
  unfolding content_of
  passed-by h = rw h

-- the fields of a content's frame
abbrev sent_in : Content → Sent
sent_in (time s) = s
sent_in (message s d) = s

sent-in : (cs : List Message) (s : Sent) → sent_in (content_of cs s) ≡ s
unfolding content_of
sent-in [] s = refl
sent-in (c ∷ cs) s = go (eqb c.minute s.minute) (sent-in cs s)
  where
    go : (b : Bool) → sent_in (content_of cs s) ≡ s → sent_in (pick b (message s c.payload) (content_of cs s)) ≡ s
    go true h = refl
    go false h = h

content-sent : (p : Schedule) (m : ℕ) → sent_in (content_at p m) ≡ sent_by p.plan m
unfolding content_at
content-sent p m = sent-in p.messages (sent_by p.plan m)

-- its minute and its length
abbrev pub minute_of : Content → ℕ
minute_of c = (sent_in c).minute

abbrev pub seconds_in : Content → ℕ
seconds_in c = (sent_in c).seconds

pub content-minute : (p : Schedule) (m : ℕ) → minute_of (content_at p m) ≡ m
content-minute p m = ap (λ (s : Sent). s.minute) (content-sent p m) ∙ (unfold sent_by in refl)

pub content-seconds : (p : Schedule) (m : ℕ) → seconds_in (content_at p m) ≡ length_at p.plan m
content-seconds p m = ap (λ (s : Sent). s.seconds) (content-sent p m) ∙ (unfold sent_by in refl)

view : (b : ℕ) (cs : List Message) (s : Sent) → rising b cs ≡ true → View cs s
view b [] s h = is-time (unfold content_of in refl)
view b (c ∷ cs) s h = go (eqb c.minute s.minute) refl (view (c.minute + 1) cs s (rising-cons b c cs h).2)
  where
    go : (t : Bool) → eqb c.minute s.minute ≡ t → View cs s → View (c ∷ cs) s
    go true e v = is-message c.payload (found c cs s e) (rising-cons b c cs h).1 (passed-one c cs s.minute (eqb-true c.minute s.minute e))
    go false e (is-time p) = is-time (passed-by c cs s e ∙ p)
    go false e (is-message d p l q) = is-message d (passed-by c cs s e ∙ p) l (passed-next c cs s.minute q)

module _ (p : Schedule) (legal : legal_schedule p ≡ true) where
  few-rising : (length p.messages ≤ message_limit) × (rising 0 p.messages ≡ true)
  unfolding legal_messages
  few-rising =
      let m = messages-legal p legal in
      let l = leb (length p.messages) message_limit in
      (leb-true (length p.messages) message_limit (head-true l (rising 0 p.messages) m), tail-true l (rising 0 p.messages) m)

  pub view-at : (m : ℕ) → View p.messages (sent_by p.plan m)
  view-at m = view 0 p.messages (sent_by p.plan m) few-rising.1

  -- where a time frame is sent, it is the plan's
  pub time-at : (m : ℕ) → is_time (content_at p m) ≡ true → content_at p m ≡ time (sent_by p.plan m)
  unfolding content_at
  time-at m h = go (view-at m)
    where
      go : View p.messages (sent_by p.plan m) → content_of p.messages (sent_by p.plan m) ≡ time (sent_by p.plan m)
      go (is-time v) = v
      go (is-message d v l q) = let z : ◌≡◌ {A = Bool} true false = sym h ∙ ap is_time v in let y : ◌≡◌ {A = ℕ} 0 1 = cc in absurd (omega arith)

-- ---- what the reader knows at minute t: the leap state of t's month; or nothing, and each minute of the day so far had a message
abbrev pub Knows : Schedule → ℕ → ℕ → Type 0
Knows p t l = (l ≡ leap_number (leap_at p.plan t)) ⊎ ((l ≡ unknown) × (t % 1440 ≤ passed p.messages t))

last-in-day : (t : ℕ) → last_of_month t ≡ true → t % 1440 ≡ 1439
last-in-day t h = elim (dec_lt (t % 1440) 1439) [
  | no n ↦ omega arith
  | yes n ↦ let z : ◌≡◌ {A = Bool} true false = sym h ∙ not_last t (λ e. omega arith) in let y : ◌≡◌ {A = ℕ} 0 1 = cc in absurd (omega arith)
]

same-leap : (q : Plan) (t : ℕ) → last_of_month t ≡ false → leap_at q (suc t) ≡ leap_at q t
unfolding leap_at last_of_month
same-leap q t h =
    let e : eqb (month_index (t + 1)) (month_index t) ≡ true = negated (eqb (month_index (t + 1)) (month_index t)) h in
    let m : month_index (suc t) ≡ month_index t = ap month_index (sym (add-one t)) ∙ eqb-true (month_index (t + 1)) (month_index t) e in
    rw m
  where
    negated : (b : Bool) → not b ≡ false → b ≡ true
    negated true g = refl
    negated false g = let y : ◌≡◌ {A = ℕ} 0 1 = cc in absurd (omega arith)

module _ (p : Schedule) (t : ℕ) where
  -- after a time frame
  pub knows-time : Knows p (suc t) (pick (last_of_month t) unknown (leap_number (leap_at p.plan t)))
  knows-time = go (last_of_month t) refl
    where
      go : (b : Bool) → last_of_month t ≡ b → Knows p (suc t) (pick b unknown (leap_number (leap_at p.plan t)))
      go true e = inr (refl, omega (arith, last-in-day t e))
      go false e = inl (ap leap_number (sym (same-leap p.plan t e)))

  -- after a message
  pub knows-message : (l : ℕ) → Knows p t l → passed p.messages t < passed p.messages (suc t) → Knows p (suc t) (pick (last_of_month t) unknown l)
  knows-message l k h = go (last_of_month t) refl k
    where
      go : (b : Bool) → last_of_month t ≡ b → Knows p t l → Knows p (suc t) (pick b unknown l)
      go true e k = inr (refl, omega (arith, last-in-day t e))
      go false e (inl q) = inl (q ∙ ap leap_number (sym (same-leap p.plan t e)))
      go false e (inr q) = inr (q.0, omega (arith, q.1))

-- at a message it knows enough
module _ (p : Schedule) (legal : legal_schedule p ≡ true) (s : Sent) (g : Legal s) (leap-is : s.leap ≡ leap_number (leap_at p.plan s.minute)) (l : ℕ) where
  pub enough-known : Knows p s.minute l → ((ltb l unknown || not (last_of_month s.minute)) ≡ true) × (s.seconds ≡ seconds_for l (last_of_month s.minute))
  enough-known (inl e) =
      let small : l < unknown = rw e (leap-lt (leap_at p.plan s.minute)) in
      (rw (lt-ltb l unknown small), g.seconds-ok ∙ ap (λ (k : ℕ). seconds_for k (last_of_month s.minute)) (leap-is ∙ sym e))
  enough-known (inr q) =
      let f : last_of_month s.minute ≡ false =
      not_last s.minute (λ z. omega (arith, q.1, passed-few p.messages s.minute, (few-rising p legal).0)) in
      (rw (f, q.0), g.seconds-ok ∙ rw (f, seconds-usual s.leap, seconds-usual l))

-- ---- the states in which the reader is ready for minute m
pub data Ready (p : Schedule) (m : ℕ) : Due → Type 0 where
  fresh : is_time (content_at p m) ≡ true → Ready p m Any
  later : (l : ℕ) → Knows p m l → Ready p m (Minute m l)
