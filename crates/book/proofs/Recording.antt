-- What printing a recording's pages comes to, where there is space for the most pages of so many bits.
-- Assumes nothing.
use Prim.Native.Nat.{ℕ, ◌*◌, ◌≤◌, ◌<◌}
use mathlib.Core.Bool.{Bool, true, false, ◌&&◌}
use mathlib.Core.List.{List, [], ◌∷◌, ◌++◌}
use mathlib.Core.Logic.{◌⊎◌, inl, inr, ⊎_elim}
use mathlib.Core.Path.{◌≡◌, refl, sym, ap, ◌∙◌}
use native.Mathlib.Omega.{arith}
use lib.Dec.{leb, eqb}
use lib.ListN.{length, drop}
use borrow.Author.Tests.{eqb-true, eqb-false, ne_eqb, leb-true, le-leb}
use Rattle.questions.specs.Questions.{asked, one_of}
use Rattle.bits.specs.Bits.{pick, all}
use Rattle.bits.proofs.Tests.{both_true}
use Rattle.questions.specs.Refusals.{refusal_number}
use Rattle.questions.specs.declared.Refusal.{Refusal}
use Rattle.page.proofs.Parts.{number-above}
use Rattle.page_rules.specs.Page.{page_count, pages, pages_from}
use Rattle.page_rules.specs.Printing.{read_all, entries_of, pages_of, Printed, unprinted, print_text, print_found, print_pages, read_on}
use Rattle.page_rules.specs.Theorems.{page_numbers}
use Rattle.page_rules.proofs.Entries.{entries_fit}
use Rattle.page_rules.proofs.Pages.{pages-length}
use Rattle.page_rules.proofs.Reading.{entries-59, all-answers}
use Rattle.sequence.specs.Reading.{stop, read_frames}
use Rattle.listing.specs.Listing.{refused_text}
use Rattle.book.specs.Book.{book_limit, recording_text}
use Rattle.book.specs.Theorems.{book_space}
use Rattle.book.proofs.Space.{refused-short}

-- a page for each 50 entries begun, and an entry for 59 bits or more
pub pages-fit : (size entries bits : ℕ) → size ≡ 2184 * page_count entries → 59 * entries ≤ bits → bits ≤ book_limit → size ≤ book_space
pages-fit size entries bits e h l = omega arith

pub pages-few : (f : List ℕ) → length f ≤ book_limit → length (pages_of f) ≤ book_space
pages-few f h = pages-fit (length (pages_of f)) (length (entries_of f)) (length f) (pages-length (entries_of f) (entries_fit.fit f) (entries_fit.few f)) (entries-59 f) h

-- one of the numbers that are all between two others
between : (a b n : ℕ) (ks : List ℕ) → all (λ k. leb a k && leb k b) ks ≡ true → one_of ks n ≡ true → (a ≤ n) × (n ≤ b)
unfolding one_of
between a b n [] w h = let z : ◌≡◌ {A = ℕ} 0 1 = cc in absurd (omega arith)
between a b n (k ∷ ks) w h =
    let t = both_true (leb a k && leb k b) (all (λ k. leb a k && leb k b) ks) w in
    go (eqb k n) refl h (both_true (leb a k) (leb k b) t.0) (between a b n ks t.1)
  where
    go : (t : Bool) → eqb k n ≡ t → pick t true (one_of ks n) ≡ true → (leb a k ≡ true) × (leb k b ≡ true)
        → (one_of ks n ≡ true → (a ≤ n) × (n ≤ b)) → (a ≤ n) × (n ≤ b)
    go true t h both later = let e = eqb-true k n t in (omega (arith, leb-true a k both.0), omega (arith, leb-true k b both.1))
    go false t h both later = later h

-- a recording is accepted, or gets a number from 6 to 20
abbrev pub Answered : ℕ → Type 0
Answered r = (r ≡ 0) ⊎ ((5 < r) × (r < 21))

pub answers : (f : List ℕ) → Answered (read_all f).refusal
answers f = go (all-answers f)
  where
    go : ((read_all f).refusal ≡ 0) ⊎ (one_of page_numbers (read_all f).refusal ≡ true) → Answered (read_all f).refusal
    go (inl e) = inl e
    go (inr h) = let b = between 6 20 (read_all f).refusal page_numbers (refl) h in inr (omega arith, omega arith)

pub recording-pages : (f : List ℕ) → (read_all f).refusal ≡ 0 → recording_text f ≡ pages_of f
unfolding recording_text
recording-pages f e = rw e

pub recording-refused : (f : List ℕ) (n : ℕ) → n ≡ (read_all f).refusal → 0 < n → recording_text f ≡ refused_text n
unfolding recording_text
recording-refused f n e h = rw (← e, ne_eqb n 0 (λ z. omega arith))

-- the text of at most so many bits has space
pub recording-short : (f : List ℕ) → length f ≤ book_limit → length (recording_text f) ≤ book_space
recording-short f h = go (answers f)
  where
    go : Answered (read_all f).refusal → length (recording_text f) ≤ book_space
    go (inl e) = rw (recording-pages f e) (pages-few f h)
    go (inr b) =
        let r = (read_all f).refusal in
        omega (arith, ap length (recording-refused f r refl (omega arith)), refused-short r (omega arith))

-- no bits, no pages
pub nothing-recorded : recording_text [] ≡ []
unfolding recording_text read_all read_on read_frames stop pages pages_from
nothing-recorded = refl

module _ (f buffer after : List ℕ) (h : length (pages_of f) ≤ length buffer) where
  pages-case : eqb (read_all f).refusal 0 ≡ true
      → print_pages buffer f ≡ record { refusal = 0; bytes = length (pages_of f); buffer = pages_of f ++ drop (length (pages_of f)) buffer }
  unfolding print_pages print_found print_text asked
  pages-case t = rw (t, le-leb (length (pages_of f)) (length buffer) h)

  refused-case : eqb (read_all f).refusal 0 ≡ false → print_pages buffer f ≡ unprinted buffer (read_all f).refusal
  unfolding print_pages print_found
  refused-case t = rw t

  pub pages-printed : (n : ℕ) → ◌≡◌ {A = Printed} (record { refusal = 0; bytes = n; buffer = after }) (print_pages buffer f)
      → (n ≡ length (recording_text f)) × (after ≡ recording_text f ++ drop (length (recording_text f)) buffer)
  unfolding unprinted
  pages-printed n e = go (eqb (read_all f).refusal 0) refl
    where
      go : (b : Bool) → eqb (read_all f).refusal 0 ≡ b
          → (n ≡ length (recording_text f)) × (after ≡ recording_text f ++ drop (length (recording_text f)) buffer)
      go true t =
          let p = e ∙ pages-case t in
          rw (recording-pages f (eqb-true _ 0 t)) (ap (λ (x : Printed). x.bytes) p, ap (λ (x : Printed). x.buffer) p)
      go false t = absurd (eqb-false _ 0 t (sym (ap (λ (x : Printed). x.refusal) (e ∙ refused-case t))))

  pub refused-told : (n : ℕ) → 0 < n → unprinted after n ≡ print_pages buffer f → (recording_text f ≡ refused_text n) × (after ≡ buffer)
  unfolding unprinted
  refused-told n k e = go (eqb (read_all f).refusal 0) refl
    where
      go : (b : Bool) → eqb (read_all f).refusal 0 ≡ b → (recording_text f ≡ refused_text n) × (after ≡ buffer)
      go true t = absurd (omega (arith, ap (λ (x : Printed). x.refusal) (e ∙ pages-case t)))
      go false t =
          let p = e ∙ refused-case t in
          (recording-refused f n (ap (λ (x : Printed). x.refusal) p) k, ap (λ (x : Printed). x.buffer) p)

  -- a refusal, and its text put after it
  pub refusal-put : (x : Refusal) (number n : ℕ) (out : List ℕ) → unprinted after (refusal_number x) ≡ print_pages buffer f → number ≡ refusal_number x
      → n ≡ length (refused_text number) → out ≡ refused_text number ++ drop (length (refused_text number)) after
      → (n ≡ length (recording_text f)) × (out ≡ recording_text f ++ drop (length (recording_text f)) buffer)
  refusal-put x number n out e k size is =
      let t = refused-told (refusal_number x) (number-above x) e in
      rw (t.0, ← t.1, ← k) (size, is)
