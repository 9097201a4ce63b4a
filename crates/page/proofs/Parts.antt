-- The entries of a part read into their space: what the call of the reader comes to, by the definitions.
-- Assumes nothing.
use Prim.Native.Nat.{ℕ, ◌+◌, ◌/◌, ◌≤◌, ◌<◌}
use mathlib.Core.List.{List, [], ◌∷◌, ◌++◌}
use mathlib.Core.Logic.{◌⊎◌, inl, inr}
use mathlib.Core.Path.{◌≡◌, refl, sym, ap, ◌∙◌}
use native.Mathlib.Nat.{zero-add}
use native.Mathlib.Omega.{arith}
use lib.ListN.{length, drop, length-append, length-drop}
use borrow.Author.Tests.{ne_eqb}
use Rattle.bits.specs.Numbers.{found, refused}
use Rattle.format.specs.Entry.{entry_size}
use Rattle.format.specs.Questions.{start}
use Rattle.format.specs.declared.Due.{Due}
use Rattle.std.specs.Prelude.{Ok, Err}
use Rattle.questions.specs.Refusals.{refusal_number}
use Rattle.questions.specs.declared.Refusal.{Refusal}
use Rattle.questions.specs.declared.Refusal.TheVariants.{IllegalPlan, BadCount, MinuteTooLarge, NoBitSpace, NoEntrySpace, TooShort, NotBits, BadSync, BadState, BadNextChange, BadMinute, BadLength, OutOfOrder, NotADate, BadSetting, BadSymbols, BadValue, FirstMessage, UnknownLength, BadSecond}
use Rattle.sequence.specs.Reading.{Found, stop, read_frames, bytes_of, Outcome, outcome, read_from, due_from}
use Rattle.sequence.proofs.Resume.{length-bytes}
use Rattle.entries.specs.Answer.{end_number, summary_outcome}
use Rattle.entries.specs.declared.Summary.{Summary}
use Rattle.page_rules.specs.Printing.{read_on, read_all}
use Rattle.page_rules.proofs.Reading.{sized, read-on-same, read-parts, before, on-end}
use Rattle.page.specs.Answer.{counted}

-- what reading ten entries from a state on finds
abbrev pub part : Due → List ℕ → Found
part due f = read_frames 10 due f

-- the answer of the reader's call, with the space before and after it
pub record Part (d : Due) (f first later : List ℕ) (s : Summary) : Type 0 where
  pub entries : s.entries ≡ length (part d f).entries
  pub used : s.used ≡ (part d f).used
  pub end : end_number s.end ≡ (part d f).refusal
  pub due : s.due ≡ (part d f).due
  pub space : later ≡ bytes_of (part d f).entries ++ drop (length (bytes_of (part d f).entries)) first

pub part-read : (d : Due) (f g space later : List ℕ) (s : Summary) → length space ≡ 180 → g ≡ f
    → summary_outcome s later ≡ read_from d space g → s.due ≡ due_from d space g → Part d f space later s
unfolding read_from due_from outcome
part-read d f g space later s l e o n =
    let slots : length space / entry_size ≡ 10 = omega arith in
    let q : read_frames (length space / entry_size) d g ≡ part d f = ap (λ (k : ℕ). read_frames k d g) slots ∙ ap (read_frames 10 d) e in
    let p : summary_outcome s later ≡ outcome space (part d f) = o ∙ ap (outcome space) q in
    record {
      entries = ap (λ (x : Outcome). x.count) p;
      used = ap (λ (x : Outcome). x.used) p;
      end = ap (λ (x : Outcome). x.refusal) p;
      due = n ∙ ap (λ (x : Found). x.due) q;
      space = ap (λ (x : Outcome). x.buffer) p;
    }

-- the space keeps its size
pub space-kept : (d : Due) (f first later : List ℕ) (s : Summary) → Part d f first later s → length first ≡ 180 → length later ≡ 180
space-kept d f first later s p l =
    let es = (part d f).entries in
    let b = length-bytes es in
    omega (arith, ap length p.space, length-append (bytes_of es) (drop (length (bytes_of es)) first), length-drop (length (bytes_of es)) first, (sized 10 d f).slots)

-- a refusal has a number above 0
pub number-above : (x : Refusal) → 0 < refusal_number x
number-above IllegalPlan = omega arith
number-above BadCount = omega arith
number-above MinuteTooLarge = omega arith
number-above NoBitSpace = omega arith
number-above NoEntrySpace = omega arith
number-above TooShort = omega arith
number-above NotBits = omega arith
number-above BadSync = omega arith
number-above BadState = omega arith
number-above BadNextChange = omega arith
number-above BadMinute = omega arith
number-above BadLength = omega arith
number-above OutOfOrder = omega arith
number-above NotADate = omega arith
number-above BadSetting = omega arith
number-above BadSymbols = omega arith
number-above BadValue = omega arith
number-above FirstMessage = omega arith
number-above UnknownLength = omega arith
number-above BadSecond = omega arith

-- ---- the first pass: what is counted, and what is left

-- count entries were found, and reading on finds the rest of the whole
pub record Counting (count : ℕ) (due : Due) (f : List ℕ) (whole : Found) : Type 0 where
  pub total : count + length (read_on due f).entries ≡ length whole.entries
  pub refusal : (read_on due f).refusal ≡ whole.refusal

pub counting-none : (f : List ℕ) → Counting 0 start f (read_all f)
unfolding read_all
counting-none f = record { total = zero-add (length (read_on start f).entries); refusal = refl }

counted-found : (n : ℕ) (r : Found) → r.refusal ≡ 0 → n ≡ length r.entries → found (n ∷ []) ≡ counted r
unfolding counted
counted-found n r z e = rw (z, e)

counted-refused : (n : ℕ) (r : Found) → 0 < n → r.refusal ≡ n → refused n ≡ counted r
unfolding counted
counted-refused n r l e = rw (e, ne_eqb n 0 (λ h. omega (arith, h)))

module _ (count : ℕ) (d : Due) (f space later : List ℕ) (s : Summary) (p : Part d f space later s) (whole : Found) (c : Counting count d f whole) where
  pub counted-complete : (u : Unit {0}) → s.end ≡ Ok u → found ((count + s.entries) ∷ []) ≡ counted whole
  counted-complete u e =
      let z : (part d f).refusal ≡ 0 = sym p.end ∙ ap end_number e in
      let k : part d f ≡ read_on d f = read-on-same 10 d f (λ h. omega arith) in
      let r : (read_on d f).refusal ≡ 0 = ap (λ (x : Found). x.refusal) (sym k) ∙ z in
      let l : length (part d f).entries ≡ length (read_on d f).entries = ap (λ (x : Found). length x.entries) k in
      counted-found (count + s.entries) whole (sym c.refusal ∙ r) (omega (arith, c.total, p.entries))

  pub counted-refusal : (x : Refusal) → s.end ≡ Err x → s.entries < 10 → refused (refusal_number x) ≡ counted whole
  counted-refusal x e l =
      let z : (part d f).refusal ≡ refusal_number x = sym p.end ∙ ap end_number e in
      let n : (part d f).refusal ≡ 5 → ⊥ = λ h. omega (arith, ((sized 10 d f).full h).0, p.entries) in
      let k : part d f ≡ read_on d f = read-on-same 10 d f n in
      counted-refused (refusal_number x) whole (number-above x) (sym c.refusal ∙ ap (λ (r : Found). r.refusal) (sym k) ∙ z)

  -- out of space: ten entries more, and bits are left
  pub out-of-space : (x : Refusal) → s.end ≡ Err x → 10 ≤ s.entries → (part d f).refusal ≡ 5
  out-of-space x e l = go ((sized 10 d f).taken (omega (arith, (sized 10 d f).slots, p.entries)))
    where
      go : ((part d f).refusal ≡ 0) ⊎ ((part d f).refusal ≡ 5) → (part d f).refusal ≡ 5
      go (inl h) = absurd (omega (arith, number-above x, p.end, ap end_number e))
      go (inr h) = h

  pub counting-on : (part d f).refusal ≡ 5 → Counting (count + s.entries) s.due (drop s.used f) whole
  unfolding before
  counting-on h =
      let k = read-parts 10 d f h in
      let g : read_on (part d f).due (drop (part d f).used f) ≡ read_on s.due (drop s.used f) = rw (p.due, p.used) in
      let a : length (read_on d f).entries ≡ length (part d f).entries + length (read_on (part d f).due (drop (part d f).used f)).entries =
      ap (λ (r : Found). length r.entries) k ∙ length-append (part d f).entries (read_on (part d f).due (drop (part d f).used f)).entries in
      let b = ap (λ (r : Found). length r.entries) g in
      record {
        total = omega (arith, c.total, p.entries);
        refusal = ap (λ (r : Found). r.refusal) (sym g) ∙ sym (ap (λ (r : Found). r.refusal) k) ∙ c.refusal;
      }

pub counted-all : (count : ℕ) (d : Due) (f : List ℕ) (whole : Found) → f ≡ [] → Counting count d f whole → found (count ∷ []) ≡ counted whole
unfolding stop
counted-all count d f whole e c =
    let k : read_on d f ≡ stop d 0 = ap (read_on d) e ∙ on-end d in
    counted-found count whole (sym c.refusal ∙ ap (λ (r : Found). r.refusal) k) (omega (arith, c.total, ap (λ (r : Found). length r.entries) k))
