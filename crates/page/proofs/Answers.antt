-- The answer of printing, from what was counted.
-- Assumes nothing.
use Prim.Native.Nat.{ℕ, ◌+◌, ◌*◌, ◌/◌, ◌≤◌, ◌<◌}
use mathlib.Core.Bool.{Bool, true, false}
use mathlib.Core.List.{List, [], ◌∷◌, ◌++◌}
use mathlib.Core.Path.{◌≡◌, refl, sym, ap}
use native.Mathlib.Omega.{arith}
use lib.Dec.{eqb}
use lib.ListN.{length, get_or, drop}
use borrow.Author.Tests.{eqb-true, eqb-false, le-leb, lt-leb, ne_eqb}
use Rattle.questions.specs.Questions.{asked}
use Rattle.bits.specs.Bits.{pick}
use Rattle.bits.specs.Numbers.{Numbers, found, refused}
use Rattle.sequence.specs.Reading.{Found}
use Rattle.page_rules.specs.Printing.{read_all, entries_of, pages_of, Printed, unprinted, print_text, print_found, print_pages}
use Rattle.page_rules.proofs.Entries.{entries_fit}
use Rattle.page_rules.proofs.Pages.{pages-length}
use Rattle.page.specs.Answer.{counted}

-- a count is that of an accepted reading, and a refusal that of a refused one
count_of : (n : ℕ) (r : Found) → found (n ∷ []) ≡ counted r → (r.refusal ≡ 0) × (n ≡ length r.entries)
unfolding counted
count_of n r h = go (eqb r.refusal 0) refl h
  where
    go : (b : Bool) → eqb r.refusal 0 ≡ b → found (n ∷ []) ≡ pick b (found (length r.entries ∷ [])) (refused r.refusal)
        → (r.refusal ≡ 0) × (n ≡ length r.entries)
    go true e h = (eqb-true r.refusal 0 e, ap (λ (x : Numbers). get_or x.values 0 0) h)
    go false e h = absurd (eqb-false r.refusal 0 e (sym (ap (λ (x : Numbers). x.number) h)))

refusal-of : (n : ℕ) (r : Found) → 0 < n → refused n ≡ counted r → r.refusal ≡ n
unfolding counted
refusal-of n r l h = go (eqb r.refusal 0) refl h
  where
    go : (b : Bool) → eqb r.refusal 0 ≡ b → refused n ≡ pick b (found (length r.entries ∷ [])) (refused r.refusal) → r.refusal ≡ n
    go true e h = absurd (omega (arith, ap (λ (x : Numbers). x.number) h))
    go false e h = sym (ap (λ (x : Numbers). x.number) h)

module _ (f buffer : List ℕ) where
  -- the recording is refused
  pub print-refused : (n : ℕ) → 0 < n → refused n ≡ counted (read_all f) → unprinted buffer n ≡ print_pages buffer f
  unfolding print_pages print_found
  print-refused n l h = let e = refusal-of n (read_all f) l h in rw (e, ne_eqb n 0 (λ z. omega (arith, z)))

  module _ (n : ℕ) (h : found (n ∷ []) ≡ counted (read_all f)) where
    pub accepted : (read_all f).refusal ≡ 0
    accepted = (count_of n (read_all f) h).0

    pub size : length (pages_of f) ≡ (n + 49) / 50 * 2184
    size = let e = (count_of n (read_all f) h).1 in rw e (omega (arith, pages-length (entries_of f) (entries_fit.fit f) (entries_fit.few f)))

    pub count-few : n ≤ 52_596_000
    count-few = rw (count_of n (read_all f) h).1 (entries_fit.few f)

    -- the buffer is too short
    pub print-short : length buffer / 2184 < (n + 49) / 50 → unprinted buffer 4 ≡ print_pages buffer f
    unfolding print_pages print_found print_text asked
    print-short l = rw (accepted, lt-leb (length (pages_of f)) (length buffer) (omega (arith, size)))

    pub fits : (n + 49) / 50 ≤ length buffer / 2184 → length (pages_of f) ≤ length buffer
    fits l = omega (arith, size)

    -- the pages are written
    pub print-done : (later : List ℕ) → (n + 49) / 50 ≤ length buffer / 2184 → later ≡ pages_of f ++ drop (length (pages_of f)) buffer
        → ◌≡◌ {A = Printed} (record { refusal = 0; bytes = (n + 49) / 50 * 2184; buffer = later }) (print_pages buffer f)
    unfolding print_pages print_found print_text asked
    print-done later l e = rw (accepted, le-leb (length (pages_of f)) (length buffer) (fits l), e, ← size)
