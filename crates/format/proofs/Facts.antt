-- What some of a frame's questions say without the list.
-- Assumes nothing.
use Prim.Native.Nat.{ℕ, zero, suc, ◌%◌, ◌<◌}
use mathlib.Core.Bool.{Bool, true, false, not, and-false}
use mathlib.Core.List.{List, [], ◌∷◌}
use mathlib.Core.Logic.{inl, inr}
use mathlib.Core.Path.{◌≡◌, subst, sym, ap, ◌∙◌}
use native.Mathlib.Omega.{arith}
use lib.Dec.{leb}
use lib.ListN.{length, take, get_or}
use lib.Seq.{get_or-take, length-take-le}
use borrow.Author.Tests.{lt-leb, leb-false}
use Rattle.questions.specs.Questions.{FirstNo}
use Rattle.bits.specs.Bits.{pick, is_bit, all}
use Rattle.calendar.specs.Calendar.{max_minute}
use Rattle.format.specs.Frame.{min_frame}
use Rattle.format.specs.Entry.{Entry}
use Rattle.format.specs.Message.{is_message}
use Rattle.format.specs.Questions.{start, message_in, entry_next, time_questions, message_questions, next_questions}
use Rattle.format.specs.Next.{entry, read_next}
use Rattle.format.specs.Refusals.{FrameFacts}
use Rattle.format.specs.declared.Due.{Due}
use Rattle.format.specs.declared.Due.TheVariants.{Minute}
use Rattle.format.proofs.Questions.{no-6, no-7, told-8}
use Rattle.format.proofs.Messages.{sync-of, no-19, no-20}
use Rattle.format.proofs.Accepted.{entry-only, accepted, kind-message, message-echo}
use Rattle.format.proofs.Refusals.{frame-accepted, frame_refused}

-- a number above 1 is no bit
no-bit : (l : List ℕ) (k : ℕ) → k < length l → 1 < get_or l k 0 → all is_bit l ≡ false
no-bit [] k h g = absurd (omega arith)
no-bit (b ∷ l) zero h g = rw (lt-leb b 1 g)
no-bit (b ∷ l) (suc k) h g = rw (no-bit l k (omega arith) g) (and-false (leb b 1))

-- where 11 is the first question answered no, its test fails: of the last five questions, whose first two have other numbers
past-five : (i j : ℕ) (s t u v w : Bool) → (i ≡ 11 → ⊥) → (j ≡ 11 → ⊥)
    → FirstNo ((i, s) ∷ (j, t) ∷ (11, u) ∷ (13, v) ∷ (14, w) ∷ []) 11 → u ≡ false
past-five i j s t u v w hi hj (inl p) = absurd (hi p.0)
past-five i j s t u v w hi hj (inr (a, inl p)) = absurd (hj p.0)
past-five i j s t u v w hi hj (inr (a, inr (b, inl p))) = p.1
past-five i j s t u v w hi hj (inr (a, inr (b, inr (c, inl p)))) = absurd (omega (arith, p.0))
past-five i j s t u v w hi hj (inr (a, inr (b, inr (c, inr (d, inl p))))) = absurd (omega (arith, p.0))
past-five i j s t u v w hi hj (inr (a, inr (b, inr (c, inr (d, inr (e, p)))))) = absurd p

past : (due : Due) (alone : Bool) (f : List ℕ) → FirstNo (next_questions due alone f) 11 → leb (entry_next due f).minute max_minute ≡ false
unfolding next_questions
past due alone f (inl p) = absurd (omega (arith, p.0))
past due alone f (inr (a, inl p)) = absurd (omega (arith, p.0))
past due alone f (inr (a, inr (b, inl p))) = absurd (omega (arith, p.0))
past due alone f (inr (a, inr (b, inr (c, p)))) = go (is_message f) p
  where
    go : (b : Bool)
        → FirstNo (pick b (message_questions due alone f (entry_next due f)) (time_questions due alone f (entry_next due f))) 11
        → leb (entry_next due f).minute max_minute ≡ false
    go true p = unfold message_questions in past-five 19 20 _ _ _ _ _ (λ h. omega arith) (λ h. omega arith) p
    go false p = unfold time_questions in past-five 9 10 _ _ _ _ _ (λ h. omega arith) (λ h. omega arith) p

pub frame-facts : FrameFacts
frame-facts =
    record {
      too_short = λ due alone f h. no-6 due alone f h;
      not-bits = λ due alone f k h l g.
          no-7 due alone f h (no-bit (take min_frame f) k (omega (arith, length-take-le min_frame f h)) (rw (get_or-take min_frame f k 0 l) g));
      in-range = λ due alone f e h. omega (arith, (accepted due alone f e h).minute-in);
      past-range = λ due alone f h. leb-false (entry_next due f).minute max_minute (past due alone f ((frame_refused due alone f 11).0 h));
      first-message = λ alone f h b m. told-8 start alone f h b (sync-of f m) ∙ no-19 alone f (message_in start f);
      leap-unknown = λ t alone f h b m l. told-8 (Minute t 3) alone f h b (sync-of f m) ∙ no-20 t 3 alone f (message_in (Minute t 3) f) (ap not l);
      message-time0 = λ due alone f e h m.
          let s = entry-only due alone f e h in
          let a = (frame-accepted due alone f).0 (subst (λ (d : Entry). read_next due alone f ≡ entry d) s h) in
          let k = kind-message due f (subst (λ (d : Entry). d.message ≡ 1) s m) in
          subst (λ (d : Entry). get_or f 19 0 ≡ d.minute % 2) (sym s) (message-echo due alone f a k);
    }
