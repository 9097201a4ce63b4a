-- A text put where there is space for it.
-- Assumes nothing.
use Prim.Native.Nat.{ℕ, ◌≤◌, ◌<◌}
use mathlib.Core.List.{List, ◌++◌}
use mathlib.Core.Path.{◌≡◌, ap, ◌∙◌}
use native.Mathlib.Omega.{arith}
use lib.ListN.{length, drop}
use borrow.Author.Tests.{le-leb}
use Rattle.decimal.proofs.Laws.{width-le}
use Rattle.std.specs.Prelude.{Result, Ok, Err}
use Rattle.std.specs.Result.{result_unwrap_or}
use Rattle.questions.specs.declared.Refusal.{Refusal}
use Rattle.questions.specs.declared.Refusal.TheVariants.{IllegalPlan, BadCount, MinuteTooLarge, NoBitSpace, NoEntrySpace, TooShort, NotBits, BadSync, BadState, BadNextChange, BadMinute, BadLength, OutOfOrder, NotADate, BadSetting, BadSymbols, BadValue, FirstMessage, UnknownLength, BadSecond}
use Rattle.questions.specs.Refusals.{refusal_number}
use Rattle.listing.specs.Answer.{ListOutcome, put_into, list_outcome}
use Rattle.listing.proofs.Refusals.{refusal_some}
use Rattle.listing.specs.Listing.{refused_text}
use Rattle.listing.proofs.Putting.{text-put}
use Rattle.listing.proofs.Texts.{length-refused}

-- a refusal's text is short, as its number has at most ten digits
pub refused-short : (n : ℕ) → n < 4_294_967_296 → length (refused_text n) ≤ 19
refused-short n h = omega (arith, length-refused n, width-le 9 n (omega arith))

refusal_few : (r : Refusal) → refusal_number r < 4_294_967_296
refusal_few IllegalPlan = omega arith
refusal_few BadCount = omega arith
refusal_few MinuteTooLarge = omega arith
refusal_few NoBitSpace = omega arith
refusal_few NoEntrySpace = omega arith
refusal_few TooShort = omega arith
refusal_few NotBits = omega arith
refusal_few BadSync = omega arith
refusal_few BadState = omega arith
refusal_few BadNextChange = omega arith
refusal_few BadMinute = omega arith
refusal_few BadLength = omega arith
refusal_few OutOfOrder = omega arith
refusal_few NotADate = omega arith
refusal_few BadSetting = omega arith
refusal_few BadSymbols = omega arith
refusal_few BadValue = omega arith
refusal_few FirstMessage = omega arith
refusal_few UnknownLength = omega arith
refusal_few BadSecond = omega arith

-- where there is space for a text, it is put
module _ (text buffer after : List ℕ) (h : length text ≤ length buffer) where
  put_all : put_into buffer text ≡ record { refusal = 0; bytes = length text; buffer = text ++ drop (length text) buffer }
  put_all = text-put buffer text ∙ rw (le-leb (length text) (length buffer) h)

  text-listed : (n : ℕ) → ◌≡◌ {A = ListOutcome} (record { refusal = 0; bytes = n; buffer = after }) (put_into buffer text)
      → (n ≡ length text) × (after ≡ text ++ drop (length text) buffer)
  text-listed n e =
      let f = e ∙ put_all in
      (ap (λ (o : ListOutcome). o.bytes) f, ap (λ (o : ListOutcome). o.buffer) f)

  pub text-told : (r : Result ℕ Refusal) → list_outcome r after ≡ put_into buffer text
      → (result_unwrap_or r 0 ≡ length text) × (after ≡ text ++ drop (length text) buffer)
  text-told (Ok n) e = text-listed n e
  text-told (Err r) e = absurd (omega (arith, refusal_some r, ap (λ (o : ListOutcome). o.refusal) (e ∙ put_all)))

-- a refusal's text has space
pub refusal_told : (x : Refusal) (buffer after : List ℕ) → 19 ≤ length buffer → (r : Result ℕ Refusal)
    → list_outcome r after ≡ put_into buffer (refused_text (refusal_number x))
    → (result_unwrap_or r 0 ≡ length (refused_text (refusal_number x)))
    × (after ≡ refused_text (refusal_number x) ++ drop (length (refused_text (refusal_number x))) buffer)
refusal_told x buffer after h r e =
    text-told (refused_text (refusal_number x)) buffer after (omega (arith, refused-short (refusal_number x) (refusal_few x))) r e
