-- What a case gives, as the code has it and as the definitions have it.
-- Assumes nothing.
use Rattle.std.proofs.Common.{◌≡◌, ℕ, ◌<◌, ◌≤◌, true, List, map, length, take, slice_index, slice_range, arith, ◌∙◌, refl, ap}
use Rattle.std.specs.List.{range_with_len}
use Rattle.std.proofs.lemmas.List.{get_or-take, length-take-le}
use Rattle.std.proofs.lemmas.List.FromFn.{fill_by_all}
use Rattle.std.proofs.lemmas.Bool.{le-leb}
use Rattle.cases.specs.Cases.{number_at, plan_in, message_byte}
use Rattle.messages.specs.Bytes.{schedule_of}
use Rattle.trials.specs.Tried.{messages_fit, schedule_in}

-- bytes that are known one by one
pub all-given : (f : ℕ → ℕ) (xs : List ℕ) → ((i : ℕ) → i < length xs → slice_index xs i ≡ f i) → xs ≡ map f (range_with_len 0 (length xs))
all-given f xs h = fill_by_all f xs (length xs) 0 refl h

-- the first of them
pub front-given : (f : ℕ → ℕ) (xs : List ℕ) (n : ℕ) → n ≤ length xs → ((i : ℕ) → i < length xs → slice_index xs i ≡ f i)
    → take n xs ≡ map f (range_with_len 0 n)
front-given f xs n l h =
    fill_by_all f (take n xs) n 0 (length-take-le n xs l) (λ i less. get_or-take n xs i 0 less ∙ h i (omega (arith, less, l)))

-- a plan with the first bytes of the messages
pub schedule-given : (k : ℕ) (text bytes : List ℕ) {size : ℕ} {messages : List ℕ} → length bytes ≡ 50 → ((i : ℕ) → i < 50 → slice_index bytes i ≡ message_byte k text i)
    → size ≡ number_at k text → size ≤ length bytes → messages ≡ slice_range bytes 0 size
    → (messages_fit k text ≡ true) × (schedule_of (plan_in text) messages ≡ schedule_in k text)
unfolding messages_fit schedule_in
schedule-given k text bytes {size} {messages} long h e l m =
    let given : messages ≡ map (message_byte k text) (range_with_len 0 size) =
    m ∙ ap (λ n. take n bytes) (omega arith) ∙ front-given (message_byte k text) bytes size l (λ i less. h i (omega (arith, less, long))) in
    (le-leb (number_at k text) 50 (omega (arith, e, l, long)), ap (schedule_of (plan_in text)) (rw (← e) given))
