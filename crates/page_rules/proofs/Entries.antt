-- The entries of a recording: their numbers fit the columns of a line, and there are at most as many as minutes in the range.
-- Assumes nothing.
use Prim.Native.Nat.{ℕ, zero, suc, ◌-◌, ◌%◌, ◌≤◌, ◌<◌}
use mathlib.Core.Bool.{Bool, true, false}
use mathlib.Core.List.{List}
use mathlib.Core.Path.{◌≡◌, sym, ap, subst, ◌∙◌}
use native.Mathlib.Omega.{arith}
use lib.Dec.{eqb}
use lib.ListN.{length, get_or}
use borrow.Author.Tests.{ltb-true}
use Rattle.questions.specs.Questions.{AllYes}
use Rattle.bits.specs.Bits.{pick, number}
use Rattle.bits.proofs.Tests.{first-le}
use Rattle.calendar.specs.Calendar.{minute_count}
use Rattle.timeword.specs.TimeWord.{error_place, reading, is_code_word, invert}
use Rattle.codewords.specs.CodeWords.{state_of, illegal, unassigned}
use Rattle.format.specs.Frame.{word_in, state_in}
use Rattle.format.specs.Entry.{Entry}
use Rattle.format.specs.Message.{is_message, message_entry}
use Rattle.format.specs.Reading.{seconds_for, entry_of}
use Rattle.format.specs.Questions.{after, message_in, entry_next, time_questions, message_questions, next_questions}
use Rattle.format.specs.Next.{entry, read_next}
use Rattle.format.specs.declared.Due.{Due}
use Rattle.format.specs.declared.Due.TheVariants.{Any, Minute}
use Rattle.format.proofs.Accepted.{entry-only, by-answers, next-counted}
use Rattle.format.proofs.Refusals.{frame-accepted}
use Rattle.sequence.specs.Reading.{stop, add, read_frames}
use Rattle.page_rules.specs.Printing.{read_on, read_all}
use Rattle.page_rules.specs.Theorems.{Each, Fits, EntriesFit}
use Rattle.page_rules.proofs.Reading.{by_frames}

-- ---- one frame

seconds-short : (l : ℕ) (b : Bool) → seconds_for l b < 100
unfolding seconds_for
seconds-short zero b = omega arith
seconds-short (suc l) false = omega arith
seconds-short (suc zero) true = omega arith
seconds-short (suc (suc l)) true = omega arith

picked-bit : (b : Bool) → pick b 1 0 < 10
picked-bit true = omega arith
picked-bit false = omega arith

place-small : (w : List ℕ) → (reading w).place < 100
unfolding reading error_place
place-small w = omega (arith, first-le (λ p. is_code_word (invert p w)) 0 32)

time-fits : (due : Due) (f : List ℕ) → (entry_of f).minute < minute_count → AllYes (time_questions due false f (entry_of f)) → Fits (entry_of f)
unfolding time_questions entry_of
time-fits due f m a =
    let k = ltb-true (state_of (number (state_in f))) illegal a.0 in
    record {
      minute = m;
      seconds = seconds-short _ _;
      daylight = omega arith;
      leap = omega arith;
      row = omega (arith, ltb-true (entry_of f).row unassigned a.1.0);
      place = place-small (word_in f);
      echo = picked-bit (eqb (get_or f 19 0) ((reading (word_in f)).minute % 2));
      message = omega arith;
    }

message-fits : (due : Due) (f : List ℕ) → (message_in due f).minute < minute_count → Fits (message_in due f)
unfolding message_in message_entry
message-fits due f m =
    record {
      minute = m;
      seconds = seconds-short _ _;
      daylight = omega arith;
      leap = omega arith;
      row = omega arith;
      place = omega arith;
      echo = omega arith;
      message = omega arith;
    }

next_fits : (due : Due) (f : List ℕ) → (entry_next due f).minute < minute_count → AllYes (next_questions due false f) → Fits (entry_next due f)
unfolding entry_next next_questions
next_fits due f m a = go (is_message f) m a.1.1.1
  where
    next : Bool → Entry
    next b = pick b (message_in due f) (entry_of f)

    go : (b : Bool) → (next b).minute < minute_count → AllYes (pick b (message_questions due false f (next b)) (time_questions due false f (next b))) → Fits (next b)
    go true m a = message-fits due f m
    go false m a = time-fits due f m a

-- the questions of an accepted frame
yes : (due : Due) (f : List ℕ) (e : Entry) → read_next due false f ≡ entry e → (e ≡ entry_next due f) × AllYes (next_questions due false f)
yes due f e h =
    let s = entry-only due false f e h in
    (s, (frame-accepted due false f).0 (subst (λ (d : Entry). read_next due false f ≡ entry d) s h))

pub entry-fits : (due : Due) (f : List ℕ) (e : Entry) → read_next due false f ≡ entry e → Fits e
entry-fits due f e h =
    let y = yes due f e h in
    subst Fits (sym y.0) (next_fits due f (by-answers due false f y.1).minute-in y.1)

-- ---- a reading

pub each_fits : (n : ℕ) (due : Due) (f : List ℕ) → Each Fits (read_frames n due f).entries
each_fits =
    by_frames (λ n due f r. Each Fits r.entries)
    (λ n due. (unfold stop in tt))
    (λ due f h. (unfold stop in tt))
    (λ n due f r h q. (unfold stop in tt))
    (λ n due f e r h q i s. (unfold add in (entry-fits due f e q, s)))

-- the minutes that are left of the range, where the next is due
unfoldable minutes_left : Due → ℕ
minutes_left Any = minute_count
minutes_left (Minute m l) = minute_count - m

left_after : (due : Due) (f : List ℕ) (e : Entry) → read_next due false f ≡ entry e → suc (minutes_left (after due e)) ≤ minutes_left due
unfolding minutes_left after
left_after Any f e h = omega (arith, (entry-fits Any f e h).minute)
left_after (Minute m l) f e h =
    let y = yes (Minute m l) f e h in
    let k : e.minute ≡ m = ap (λ (d : Entry). d.minute) y.0 ∙ next-counted m l false f y.1 in
    omega (arith, (entry-fits (Minute m l) f e h).minute)

few-left : (n : ℕ) (due : Due) (f : List ℕ) → length (read_frames n due f).entries ≤ minutes_left due
few-left =
    by_frames (λ n due f r. length r.entries ≤ minutes_left due)
    (λ n due. (unfold stop in omega arith))
    (λ due f h. (unfold stop in omega arith))
    (λ n due f r h q. (unfold stop in omega arith))
    (λ n due f e r h q i s. (unfold add in omega (arith, s, left_after due f e q)))

pub entries_fit : EntriesFit
unfolding read_all read_on minutes_left
entries_fit = record { fit = λ f. each_fits (length f) Any f; few = λ f. few-left (length f) Any f }
