-- A message's refusals and its length in the papers' numbers.
-- Assumes nothing.
use Prim.Native.Nat.{ℕ, ◌%◌, ◌≤◌}
use mathlib.Core.Bool.{Bool, true, false, not, ◌||◌, false≢true}
use mathlib.Core.List.{List, [], ◌∷◌}
use mathlib.Core.Logic.{inl, inr, ◌≢◌}
use mathlib.Core.Path.{◌≡◌, refl, sym, ◌∙◌}
use native.Mathlib.Omega.{arith}
use lib.Dec.{ltb}
use lib.ListN.{get_or}
use borrow.Author.Tests.{le-ltb, ltb-false, eqb-false}
use Rattle.questions.specs.Questions.{FirstNo}
use Rattle.questions.proofs.Laws.{refused-when}
use Rattle.calendar.specs.Calendar.{minute_count, last_of_month}
use Rattle.plan.proofs.Days.{not_last}
use Rattle.format.specs.Entry.{Entry}
use Rattle.format.specs.Message.{message_entry}
use Rattle.format.specs.Reading.{seconds_for}
use Rattle.format.specs.Questions.{start, unknown, question19, message_in, message_questions}
use Rattle.format.specs.Next.{refused, entry, read_next}
use Rattle.format.specs.Refusals.{MessageBits, MessageLength, MessageFacts}
use Rattle.format.specs.declared.Due.{Due}
use Rattle.format.specs.declared.Due.TheVariants.{Any, Minute}
use Rattle.format.proofs.Questions.{message_answer, told-8}
use Rattle.format.proofs.Messages.{sync-of, no-19, no-20, no-11}
use Rattle.format.proofs.Accepted.{entry-only, entry-message}
use Rattle.format.proofs.Refusals.{refused-injective, not-refused}
use Rattle.format.proofs.AnyWord.{seconds-usual}

-- which question was answered no, by the number
module _ (a b c d g : Bool) where
  only-19 : FirstNo ((19, a) ∷ (20, b) ∷ (11, c) ∷ (13, d) ∷ (14, g) ∷ []) 19 → a ≡ false
  only-19 (inl p) = p.1
  only-19 (inr (_, inl p)) = absurd (omega (arith, p.0))
  only-19 (inr (_, inr (_, inl p))) = absurd (omega (arith, p.0))
  only-19 (inr (_, inr (_, inr (_, inl p)))) = absurd (omega (arith, p.0))
  only-19 (inr (_, inr (_, inr (_, inr (_, inl p))))) = absurd (omega (arith, p.0))
  only-19 (inr (_, inr (_, inr (_, inr (_, inr (_, p)))))) = absurd p

  only-20 : FirstNo ((19, a) ∷ (20, b) ∷ (11, c) ∷ (13, d) ∷ (14, g) ∷ []) 20 → b ≡ false
  only-20 (inl p) = absurd (omega (arith, p.0))
  only-20 (inr (_, inl p)) = p.1
  only-20 (inr (_, inr (_, inl p))) = absurd (omega (arith, p.0))
  only-20 (inr (_, inr (_, inr (_, inl p)))) = absurd (omega (arith, p.0))
  only-20 (inr (_, inr (_, inr (_, inr (_, inl p))))) = absurd (omega (arith, p.0))
  only-20 (inr (_, inr (_, inr (_, inr (_, inr (_, p)))))) = absurd p

  only-14 : FirstNo ((19, a) ∷ (20, b) ∷ (11, c) ∷ (13, d) ∷ (14, g) ∷ []) 14 → g ≡ false
  only-14 (inl p) = absurd (omega (arith, p.0))
  only-14 (inr (_, inl p)) = absurd (omega (arith, p.0))
  only-14 (inr (_, inr (_, inl p))) = absurd (omega (arith, p.0))
  only-14 (inr (_, inr (_, inr (_, inl p)))) = absurd (omega (arith, p.0))
  only-14 (inr (_, inr (_, inr (_, inr (_, inl p))))) = p.1
  only-14 (inr (_, inr (_, inr (_, inr (_, inr (_, p)))))) = absurd p

or_parts : (x y : Bool) → (x || not y) ≡ false → (x ≡ false) × (y ≡ true)
or_parts true y h = absurd (false≢true (sym h))
or_parts false true h = (refl, refl)
or_parts false false h = absurd (false≢true (sym h))

or_yes : (x y : Bool) → y ≡ false → (x || not y) ≡ true
or_yes true y h = refl
or_yes false y h = rw h

module _ (alone : Bool) (f : List ℕ) (w : MessageBits f) where
  told : (due : Due) → read_next due alone f ≡ message_answer due alone f (message_in due f)
  told due = told-8 due alone f w.0 w.1 (sync-of f w.2)

  first-no : (due : Due) (n : ℕ) → read_next due alone f ≡ refused n → FirstNo (message_questions due alone f (message_in due f)) n
  first-no due n h =
      (refused-when refused (entry (message_in due f)) (message_questions due alone f (message_in due f)) refused-injective n (not-refused n (message_in due f))).0
      (sym (told due) ∙ h)

  asked-19 : (due : Due) → read_next due alone f ≡ refused 19 → question19 due ≡ false
  unfolding message_questions
  asked-19 due h = only-19 _ _ _ _ _ (first-no due 19 h)

  no-frame : (due : Due) → question19 due ≡ false → due ≡ start
  no-frame Any h = refl
  no-frame (Minute m l) h = absurd (false≢true (sym h))

  as_first : (due : Due) → due ≡ start → read_next due alone f ≡ refused 19
  as_first due e = rw e (told start ∙ no-19 alone f (message_in start f))

  module _ (m l : ℕ) where
    abbrev d : Due
    d = Minute m l

    asked-20 : read_next d alone f ≡ refused 20 → (3 ≤ l) × (last_of_month m ≡ true)
    unfolding message_questions
    asked-20 h =
        let q = or_parts (ltb l unknown) (last_of_month m) (only-20 _ _ _ _ _ (first-no d 20 h)) in
        (ltb-false l unknown q.0, q.1)

    gives-20 : (3 ≤ l) × (last_of_month m ≡ true) → read_next d alone f ≡ refused 20
    gives-20 h = told d ∙ no-20 m l alone f (message_in d f) (rw (le-ltb l unknown h.0, h.1))

    asked-14 : read_next d alone f ≡ refused 14 → get_or f 19 0 ≢ m % 2
    unfolding message_questions message_in message_entry
    asked-14 h = eqb-false (get_or f 19 0) (m % 2) (only-14 _ _ _ _ _ (first-no d 14 h))

    of_entry : (e : Entry) → read_next d alone f ≡ entry e → e ≡ message_in d f
    of_entry e h = entry-only d alone f e h ∙ entry-message d f w.2

    seconds-of : MessageLength m l (seconds_for l (last_of_month m))
    unfolding seconds_for
    seconds-of =
        record {
          usual = λ h. rw h (seconds-usual l);
          no-leap = λ h z. rw (h, z);
          negative = λ h z. rw (h, z);
          positive = λ h z. rw (h, z);
        }

    minute-length : (e : Entry) → e ≡ message_in d f → (e.minute ≡ m) × MessageLength m l e.seconds
    unfolding message_in message_entry
    minute-length e h = rw h (refl, seconds-of)

  past : (l : ℕ) → read_next (Minute minute_count l) alone f ≡ refused 11
  unfolding message_in message_entry
  past l =
      let n : last_of_month minute_count ≡ false = not_last minute_count (λ e. omega arith) in
      told (Minute minute_count l) ∙ no-11 minute_count l alone f (message_in (Minute minute_count l) f) (or_yes (ltb l unknown) (last_of_month minute_count) n) (omega arith)

pub message-facts : MessageFacts
message-facts =
    record {
      first19 = λ due alone f w. (λ h. no-frame alone f w due (asked-19 alone f w due h), as_first alone f w due);
      unknown20 = λ m l alone f w. (asked-20 alone f w m l, gives-20 alone f w m l);
      past11 = λ l alone f w. past alone f w l;
      time14 = λ m l alone f w. asked-14 alone f w m l;
      accepted = λ m l alone f e w h. minute-length alone f w m l e (of_entry alone f w m l e h);
    }
