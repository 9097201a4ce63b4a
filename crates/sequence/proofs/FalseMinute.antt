-- What a false minute takes, of a recording as read: each entry is that of its rank's bits, and its minute is one more than the one before.
-- Assumes nothing.
use Prim.Native.Nat.{ℕ, zero, suc, ◌+◌, ◌*◌, ◌/◌, ◌<◌}
use mathlib.Core.Bool.{false}
use mathlib.Core.List.{List, [], ◌∷◌, ◌++◌}
use mathlib.Core.Logic.{inl, inr}
use mathlib.Core.Path.{◌≡◌, refl, subst}
use native.Mathlib.Decide.{dec_le}
use native.Mathlib.Omega.{arith}
use lib.ListN.{length, take, drop}
use lib.Seq.{drop-drop}
use Rattle.bits.specs.Bits.{concat}
use Rattle.calendar.specs.Calendar.{minute_count}
use Rattle.format.specs.Entry.{Entry, entry_size, entry_bytes}
use Rattle.format.specs.Questions.{start, after}
use Rattle.format.specs.Next.{Answer, refused, entry, read_next}
use Rattle.format.specs.FalseMinute.{distance_from}
use Rattle.format.specs.declared.Due.{Due}
use Rattle.format.proofs.Accepted.{entry-only, next-counted}
use Rattle.format.proofs.Refusals.{frame-accepted}
use Rattle.format.proofs.FalseMinute.{frame-read-near}
use Rattle.sequence.specs.Reading.{Found, stop, add, read_frames, seconds_of, bytes_of, due_after, read_into}
use Rattle.sequence.specs.Refusals.{bits_after, state_after, Read, none, more, kept}
use Rattle.sequence.specs.FalseMinute.{entries_read, entry_at_rank, bits_at_rank, TimeAtRank, NearAtRank, MinutesRead, FalseMinute, FalseMinuteOfWhole}
use Rattle.sequence.proofs.Steps.{ended, no-space, frame_refused, frame-read}
use Rattle.sequence.proofs.ReadRefusals.{after-5, recording-only, recording-accepted}

-- ---- each entry is that of its frame

abbrev Chain : Due → List ℕ → List Entry → Type 0
Chain due f [] = Unit {0}
Chain due f (e ∷ es) = (read_next due false f ≡ entry e) × Chain (after due e) (drop e.seconds f) es

stop-chain : (due : Due) (f : List ℕ) (r : Found) (k : ℕ) → r ≡ stop due k → Chain due f r.entries
unfolding stop
stop-chain due f r k q = rw q tt

chain : (n : ℕ) (due : Due) (f : List ℕ) → Chain due f (read_frames n due f).entries
chain zero due [] = stop-chain due [] _ 0 (ended 0 due)
chain zero due (b ∷ f) = stop-chain due (b ∷ f) _ 5 (no-space due (b ∷ f) (omega arith))
chain (suc n) due [] = stop-chain due [] _ 0 (ended (suc n) due)
chain (suc n) due (b ∷ f) = go (read_next due false (b ∷ f)) refl (chain n)
  where
    go : (a : Answer) → read_next due false (b ∷ f) ≡ a → ((d : Due) (g : List ℕ) → Chain d g (read_frames n d g).entries)
        → Chain due (b ∷ f) (read_frames (suc n) due (b ∷ f)).entries
    go (refused k) q next = stop-chain due (b ∷ f) _ k (frame_refused n due (b ∷ f) (omega arith) k q)
    go (entry e) q next = rw (frame-read n due (b ∷ f) (omega arith) e q) (unfold add in (q, next (after due e) (drop e.seconds (b ∷ f))))

-- at a rank
read_at : (due : Due) (f : List ℕ) (es : List Entry) (k : ℕ) → k < length es → Chain due f es
    → read_next (due_after due (take k es)) false (bits_at_rank k f es) ≡ entry (entry_at_rank k es)
unfolding seconds_of due_after
read_at due f [] k h c = absurd (omega arith)
read_at due f (e ∷ es) zero h c = c.0
read_at due f (e ∷ es) (suc k) h c =
    rw (← drop-drop (seconds_of (take k es)) e.seconds f) (read_at (after due e) (drop e.seconds f) es k (omega arith) c.1)

-- ---- each minute is one more than the one before

-- question 14 after an entry
next-minute : (due : Due) (d : Entry) (f : List ℕ) (e : Entry) → read_next (after due d) false f ≡ entry e → e.minute ≡ d.minute + 1
unfolding after
next-minute due d f e h =
    let s = entry-only (after due d) false f e h in
    let a = (frame-accepted (after due d) false f).0 (subst (λ (c : Entry). read_next (after due d) false f ≡ entry c) s h) in
    rw s (next-counted (d.minute + 1) _ false f a)

counted : (due : Due) (d : Entry) (f : List ℕ) (es : List Entry) (j : ℕ) → j < length es → Chain (after due d) f es → (entry_at_rank j es).minute ≡ d.minute + 1 + j
counted due d f [] j h c = absurd (omega arith)
counted due d f (e ∷ es) zero h c = omega (arith, next-minute due d f e c.0)
counted due d f (e ∷ es) (suc j) h c = omega (arith, next-minute due d f e c.0, counted (after due d) e (drop e.seconds f) es j (omega arith) c.1)

-- from the first on
from_first : (due : Due) (f : List ℕ) (es : List Entry) → Chain due f es → (j k : ℕ) → j < length es → k < length es → (entry_at_rank j es).minute + k ≡ (entry_at_rank k es).minute + j
from_first due f [] c j k hj hk = absurd (omega arith)
from_first due f (e ∷ es) c j k hj hk = omega (arith, go j hj, go k hk)
  where
    go : (i : ℕ) → i < length (e ∷ es) → (entry_at_rank i (e ∷ es)).minute ≡ e.minute + i
    go zero h = omega arith
    go (suc i) h = omega (arith, counted due e (drop e.seconds f) es i (omega arith) c.1)

-- ---- what a false minute takes

module _ (due : Due) (f : List ℕ) (es : List Entry) (c : Chain due f es) where
  near-read : (m k : ℕ) → k < length es → TimeAtRank k es → m < minute_count → NearAtRank k f es m → (entry_at_rank k es).minute ≡ m
  near-read m k h t l (inl d) = (frame-read-near _ false _ _ m (read_at due f es k h c) t l).within-one d
  near-read m k h t l (inr d) = (frame-read-near _ false _ _ m (read_at due f es k h c) t l).within-two d.0 d.1

  decides : (m k : ℕ) → k < length es → TimeAtRank k es → m + k < minute_count → NearAtRank k f es (m + k) → (j : ℕ) → j < length es → (entry_at_rank j es).minute ≡ m + j
  decides m k h t l n j hj = omega (arith, near-read (m + k) k h t l n, from_first due f es c j k hj h)

  minutes-read : MinutesRead f es
  minutes-read =
      record {
        one-rank-decides = decides;
        false-minute-takes = λ m j hj ne k h t l. (
          elim (dec_le 2 (distance_from (m + k) (bits_at_rank k f es))) [
            | yes g ↦ g
            | no g ↦ absurd (ne (decides m k h t l (inl (omega arith)) j hj))
          ],
          λ z. elim (dec_le 3 (distance_from (m + k) (bits_at_rank k f es))) [
            | yes g ↦ g
            | no g ↦ absurd (ne (decides m k h t l (inr (omega arith, z)) j hj))
          ],
        );
      }

pub false-minute : FalseMinute
false-minute due buffer f = minutes-read due f (entries_read due buffer f) (chain (length buffer / entry_size) due f)

-- ---- a reading that ends with 0

-- one entry more
chain_more : (due : Due) (f : List ℕ) (es : List Entry) (e : Entry) → Chain due f es → read_next (due_after due es) false (bits_after f es) ≡ entry e → Chain due f (es ++ (e ∷ []))
unfolding seconds_of due_after
chain_more due f [] e c h = (h, tt)
chain_more due f (d ∷ es) e c h =
    (c.0, chain_more (after due d) (drop d.seconds f) es e c.1 (rw (← drop-drop (seconds_of es) d.seconds f) at h))

-- entries whose questions are answered yes are those of their frames
chain-read : (space : ℕ) (f : List ℕ) {es : List Entry} → Read space f es → Chain start f es
chain-read space f none = tt
chain-read space f (more es r l a) =
    chain_more start f es _ (chain-read space f r) ((frame-accepted (state_after es) false (bits_after f es)).1 (after-5 space f es a))

-- the bytes of the entry at a rank
bytes-at : (es : List Entry) (k : ℕ) (rest : List ℕ) → k < length es → take entry_size (drop (entry_size * k) (bytes_of es ++ rest)) ≡ entry_bytes (entry_at_rank k es)
unfolding bytes_of concat entry_bytes
bytes-at [] k rest h = absurd (omega arith)
bytes-at (e ∷ es) zero rest h = refl
bytes-at (e ∷ es) (suc k) rest h =
    let n : entry_size * suc k ≡ entry_size + entry_size * k = omega arith in
    rw (n, ← drop-drop (entry_size * k) entry_size (bytes_of (e ∷ es) ++ rest)) (bytes-at es k rest (omega arith))

pub false-minute-of-whole : FalseMinuteOfWhole
false-minute-of-whole buffer f z =
    let (es, r, whole) = (recording-accepted buffer f).0 z in
    let q : read_into buffer f ≡ kept buffer es 0 = recording-only buffer f es 0 r (inl (whole, refl)) in (
      es,
      record {
        every-frame = r;
        all-bits = rw q whole;
        as_many = rw q;
        in_buffer = λ k h. rw q (bytes-at es k (drop (entry_size * length es) buffer) h);
        minutes = minutes-read start f es (chain-read (length buffer) f r);
      },
    )
