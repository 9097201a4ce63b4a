-- What is sent is the front of the buffer after writing.
-- Assumes nothing.
use Rattle.std.proofs.Common.{◌≡◌, ℕ, zero, suc, ◌≤◌, Bool, true, false, List, length, take, arith, refl}
use Rattle.std.proofs.lemmas.Bool.{ne_eqb}
use Rattle.messages.specs.Message.{Schedule}
use Rattle.cases.specs.Cases.{number_at}
use Rattle.sequence.specs.Writing.{write_refusal, write_result}
use Rattle.sequence.proofs.Refusals.{fits, write_done}
use Rattle.trials.specs.Tried.{schedule_in, messages_fit, writing_gives, buffer_after, sent_bits}

pub record Front (count k : ℕ) (text buffer : List ℕ) : Type 0 where
  pub room : (writing_gives count k (length buffer) text).bits ≤ length buffer
  pub front : take (writing_gives count k (length buffer) text).bits (buffer_after count k buffer text) ≡ sent_bits count k (length buffer) text

pub front-sent : (count k : ℕ) (text buffer : List ℕ) → Front count k text buffer
unfolding writing_gives buffer_after sent_bits write_result
front-sent count k text buffer = given (messages_fit k text) refl
  where
    p : Schedule
    p = schedule_in k text

    m : ℕ
    m = number_at 6 text

    answered : messages_fit k text ≡ true → (r : ℕ) → write_refusal p m count (length buffer) ≡ r → Front count k text buffer
    answered e zero a =
        let done = write_done p m count buffer a in
        record {
          room = rw (e, a) (fits p m count (length buffer) a).room;
          front = rw (e, a) done.1;
        }
    answered e (suc r) a = let no = ne_eqb (suc r) 0 (λ z. omega (arith, z)) in record { room = rw (e, a, no) (omega arith); front = rw (e, a, no) refl }

    given : (b : Bool) → messages_fit k text ≡ b → Front count k text buffer
    given true e = answered e (write_refusal p m count (length buffer)) refl
    given false e = record { room = rw e (omega arith); front = rw e refl }
