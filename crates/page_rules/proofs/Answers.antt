-- The answers to printing a recording: 0 with its pages, 4, or the recording's refusal.
-- Assumes nothing.
use Prim.Native.Nat.{ℕ, ◌*◌, ◌≤◌, ◌<◌}
use mathlib.Core.Bool.{Bool, true, false}
use mathlib.Core.List.{List, [], ◌∷◌, ◌++◌}
use mathlib.Core.Logic.{◌⊎◌, inl, inr, ◌↔◌, ◌≢◌}
use mathlib.Core.Path.{◌≡◌, refl, sym, ap, ◌∙◌}
use native.Mathlib.Omega.{arith}
use lib.Dec.{leb, eqb}
use lib.ListN.{length, drop, drop_of_length-le}
use borrow.Author.Tests.{le-leb, leb-true, leb-false, eqb-true, eqb-false}
use Rattle.bits.specs.Bits.{pick}
use Rattle.questions.specs.Questions.{asked, one_of}
use Rattle.sequence.specs.Reading.{stop, read_frames}
use Rattle.sequence.proofs.Tails.{length_rest}
use Rattle.page_rules.specs.Page.{page_count, pages_from, pages}
use Rattle.page_rules.specs.Printing.{read_on, read_all, entries_of, pages_of, Printed, unprinted, print_text, print_found, print_pages}
use Rattle.page_rules.specs.Theorems.{EntriesFit, page_numbers, PrintAnswers, PrintDone, PrintUndone, NothingPrinted}
use Rattle.page_rules.proofs.Pages.{pages-length}

-- ---- what is used of reading

-- a recording is accepted, or refused by a question of the reader other than 5
abbrev pub Refusals : Type 0
Refusals = (f : List ℕ) → ((read_all f).refusal ≡ 0) ⊎ (one_of page_numbers (read_all f).refusal ≡ true)

-- of the accepted recordings only that without bits has no entries
abbrev pub SomeEntries : Type 0
SomeEntries = (f : List ℕ) → (read_all f).refusal ≡ 0 → entries_of f ≡ [] → f ≡ []

-- ---- the three answers

-- the answer where a text is printed
abbrev printed : List ℕ → List ℕ → Printed
printed buffer text = record { refusal = 0; bytes = length text; buffer = text ++ drop (length text) buffer }

-- of a recording with this refusal or 0, and the text of its pages
data Answer (buffer text : List ℕ) (n : ℕ) (p : Printed) : Type 0 where
  done : n ≡ 0 → length text ≤ length buffer → p ≡ printed buffer text → Answer buffer text n p
  short : n ≡ 0 → length buffer < length text → p ≡ unprinted buffer 4 → Answer buffer text n p
  refused : 0 < n → p ≡ unprinted buffer n → Answer buffer text n p

answer : (buffer f : List ℕ) → Answer buffer (pages_of f) (read_all f).refusal (print_pages buffer f)
unfolding print_pages print_found print_text asked
answer buffer f = go (eqb n 0) (leb (length text) (length buffer)) refl refl
  where
    n : ℕ
    n = (read_all f).refusal

    text : List ℕ
    text = pages_of f

    go : (t u : Bool) → eqb n 0 ≡ t → leb (length text) (length buffer) ≡ u → Answer buffer text n (print_pages buffer f)
    go true true e l = done (eqb-true n 0 e) (leb-true (length text) (length buffer) l) (rw (e, l))
    go true false e l = short (eqb-true n 0 e) (leb-false (length text) (length buffer) l) (rw (e, l))
    go false u e l = let z = eqb-false n 0 e in refused (omega (arith, z)) (rw e)

-- ---- numbers in the list of refusals

one-of-more : (ks js : List ℕ) (n : ℕ) → one_of ks n ≡ true → one_of (ks ++ js) n ≡ true
unfolding one_of
one-of-more [] js n h = cc
one-of-more (k ∷ ks) js n h = go (eqb k n) h (one-of-more ks js n)
  where
    go : (t : Bool) → pick t true (one_of ks n) ≡ true → (one_of ks n ≡ true → one_of (ks ++ js) n ≡ true) → pick t true (one_of (ks ++ js) n) ≡ true
    go true h r = refl
    go false h r = r h

not_listed : (k n : ℕ) → one_of page_numbers k ≡ false → one_of page_numbers n ≡ true → n ≢ k
not_listed k n h l e = let z : true ≡ false = sym l ∙ ap (one_of page_numbers) e ∙ h in let w : ◌≡◌ {A = ℕ} 0 1 = cc in omega arith

not-0 : (n : ℕ) → one_of page_numbers n ≡ true → n ≢ 0
not-0 n h = not_listed 0 n (unfold one_of in refl) h

not-4 : (n : ℕ) → one_of page_numbers n ≡ true → n ≢ 4
not-4 n h = not_listed 4 n (unfold one_of in refl) h

-- ---- the theorems, over what was read

module _ (buffer text : List ℕ) (n : ℕ) (p : Printed) where
  0-when : Answer buffer text n p → p.refusal ≡ 0 ↔ ((n ≡ 0) × (length text ≤ length buffer))
  unfolding unprinted
  0-when (done z l e) = omega (arith, ap (λ (q : Printed). q.refusal) e)
  0-when (short z l e) = omega (arith, ap (λ (q : Printed). q.refusal) e)
  0-when (refused z e) = omega (arith, ap (λ (q : Printed). q.refusal) e)

  4-when : (n ≡ 0) ⊎ (one_of page_numbers n ≡ true) → Answer buffer text n p → p.refusal ≡ 4 ↔ ((n ≡ 0) × (length buffer < length text))
  unfolding unprinted
  4-when h (done z l e) = omega (arith, ap (λ (q : Printed). q.refusal) e)
  4-when h (short z l e) = omega (arith, ap (λ (q : Printed). q.refusal) e)
  4-when (inl h) (refused z e) = omega (arith, ap (λ (q : Printed). q.refusal) e)
  4-when (inr h) (refused z e) = omega (arith, ap (λ (q : Printed). q.refusal) e, not-4 n h)

  number-when : (k : ℕ) → one_of page_numbers k ≡ true → Answer buffer text n p → p.refusal ≡ k ↔ (n ≡ k)
  unfolding unprinted
  number-when k h (done z l e) = omega (arith, ap (λ (q : Printed). q.refusal) e)
  number-when k h (short z l e) = omega (arith, ap (λ (q : Printed). q.refusal) e, not-0 k h, not-4 k h)
  number-when k h (refused z e) = omega (arith, ap (λ (q : Printed). q.refusal) e)

  numbers : (n ≡ 0) ⊎ (one_of page_numbers n ≡ true) → Answer buffer text n p → (p.refusal ≡ 0) ⊎ (one_of (page_numbers ++ (4 ∷ [])) p.refusal ≡ true)
  unfolding unprinted one_of
  numbers h (done z l e) = inl (ap (λ (q : Printed). q.refusal) e)
  numbers h (short z l e) = inr (ap (λ (q : Printed). one_of (page_numbers ++ (4 ∷ [])) q.refusal) e)
  numbers (inl h) (refused z e) = absurd (omega arith)
  numbers (inr h) (refused z e) =
      inr (ap (λ (q : Printed). one_of (page_numbers ++ (4 ∷ [])) q.refusal) e ∙ one-of-more page_numbers (4 ∷ []) n h)

  -- with 0 the text is in the buffer
  printed-when : Answer buffer text n p → p.refusal ≡ 0 → (p ≡ printed buffer text) × (length text ≤ length buffer)
  unfolding unprinted
  printed-when (done z l e) h = (e, l)
  printed-when (short z l e) h = absurd (omega (arith, ap (λ (q : Printed). q.refusal) e))
  printed-when (refused z e) h = absurd (omega (arith, ap (λ (q : Printed). q.refusal) e))

  unprinted-when : Answer buffer text n p → 0 < p.refusal → p ≡ unprinted buffer p.refusal
  unfolding unprinted
  unprinted-when (done z l e) h = absurd (omega (arith, ap (λ (q : Printed). q.refusal) e))
  unprinted-when (short z l e) h = rw e
  unprinted-when (refused z e) h = rw e

-- ---- printing a recording

pub print-answers : Refusals → PrintAnswers
print-answers r =
    record {
      done = λ buffer f. 0-when buffer (pages_of f) (read_all f).refusal (print_pages buffer f) (answer buffer f);
      short = λ buffer f. 4-when buffer (pages_of f) (read_all f).refusal (print_pages buffer f) (r f) (answer buffer f);
      refused = λ buffer f n h. number-when buffer (pages_of f) (read_all f).refusal (print_pages buffer f) n h (answer buffer f);
      others = λ buffer f. numbers buffer (pages_of f) (read_all f).refusal (print_pages buffer f) (r f) (answer buffer f);
    }

print-accepted : (buffer f : List ℕ) → (print_pages buffer f).refusal ≡ 0
    → (print_pages buffer f ≡ printed buffer (pages_of f)) × (length (pages_of f) ≤ length buffer)
print-accepted buffer f h = printed-when buffer (pages_of f) (read_all f).refusal (print_pages buffer f) (answer buffer f) h

pub print-done : EntriesFit → PrintDone
print-done r buffer f h =
    let a = print-accepted buffer f h in
    let t = pages_of f in
    let b : (print_pages buffer f).buffer ≡ t ++ drop (length t) buffer = ap (λ (q : Printed). q.buffer) a.0 in
    let n : (print_pages buffer f).bytes ≡ length t = ap (λ (q : Printed). q.bytes) a.0 in
    (n ∙ pages-length (entries_of f) (r.fit f) (r.few f), b, ap length b ∙ length_rest t buffer (length t) refl a.1)

pub print-undone : PrintUndone
print-undone buffer f h = unprinted-when buffer (pages_of f) (read_all f).refusal (print_pages buffer f) (answer buffer f) h

no_bits : (buffer : List ℕ) → print_pages buffer [] ≡ unprinted buffer 0
unfolding print_pages print_found print_text asked read_all read_on read_frames stop pages pages_from unprinted
no_bits buffer =
    let fits : leb (length (pages [])) (length buffer) ≡ true = le-leb 0 (length buffer) (omega arith) in
    rw fits

pub nothing-printed : EntriesFit → SomeEntries → NothingPrinted
nothing-printed r s = record { no_bits = no_bits; only = only }
  where
    only : (buffer f : List ℕ) → (print_pages buffer f).refusal ≡ 0 → (print_pages buffer f).bytes ≡ 0 → f ≡ []
    only buffer f h b =
        let accepted : (read_all f).refusal ≡ 0 = ((0-when buffer (pages_of f) (read_all f).refusal (print_pages buffer f) (answer buffer f)).0 h).0 in
        let n : (print_pages buffer f).bytes ≡ 2184 * page_count (length (entries_of f)) = (print-done r buffer f h).0 in
        let none : length (entries_of f) ≤ 0 = omega arith in
        s f accepted (drop_of_length-le (entries_of f) none)
