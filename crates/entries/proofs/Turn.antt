-- One turn of reading a recording: an accepted frame's entry is put after the entries so far.
-- Assumes nothing.
use Prim.Native.Nat.{ℕ, suc, ◌+◌, ◌-◌, ◌*◌, ◌≤◌, ◌<◌}
use mathlib.Core.Bool.{false}
use mathlib.Core.List.{List, ◌++◌}
use mathlib.Core.Path.{◌≡◌, refl, sym, ap, ◌∙◌}
use native.Mathlib.Omega.{arith}
use lib.ListN.{length, take, drop, length-append, length-drop, take-append-drop}
use lib.Seq.{length-take-le, drop-drop}
use Rattle.bits.specs.Bits.{pick}
use Rattle.calendar.specs.Calendar.{last_of_month}
use Rattle.codewords.specs.CodeWords.{leap_number}
use Rattle.codewords.specs.declared.State.{State}
use Rattle.format.specs.Entry.{Entry, entry_size, entry_bytes}
use Rattle.format.specs.Message.{message_entry}
use Rattle.format.specs.Questions.{unknown, leap_read, after}
use Rattle.format.specs.Next.{entry, read_next}
use Rattle.format.specs.declared.Due.{Due}
use Rattle.format.specs.declared.Due.TheVariants.{Minute}
use Rattle.frame.specs.Answer.{entry_from}
use Rattle.frame.specs.declared.Fields.{Fields}
use Rattle.frame.specs.declared.Told.{Told}
use Rattle.sequence.specs.Reading.{add, read_frames, Outcome}
use Rattle.sequence.proofs.Resume.{resume, resume-add}
use Rattle.sequence.proofs.Steps.{frame-read}
use Rattle.sequence.proofs.Tails.{tail, tail-back}

length-entry : (e : Entry) → length (entry_bytes e) ≡ entry_size
unfolding entry_bytes
length-entry e = refl

-- the buffer, whose part from k on is lent and comes back as it was
pub same_back : (buffer ys : List ℕ) (k : ℕ) → ys ≡ take (length buffer - k) (drop k buffer)
    → take k buffer ++ (ys ++ drop (length buffer - k) (drop k buffer)) ≡ buffer
same_back buffer ys k h = tail-back buffer k ys ∙ rw (h, tail buffer k) (take-append-drop k buffer)

-- the buffer, whose part from k on is lent and comes back as ys
module _ (buffer ys : List ℕ) (k : ℕ) (e : Entry) (room : k + entry_size ≤ length buffer) (h : ys ≡ entry_bytes e ++ drop entry_size (take (length buffer - k) (drop k buffer))) where
  pub put_back : take k buffer ++ (ys ++ drop (length buffer - k) (drop k buffer)) ≡ take k buffer ++ (entry_bytes e ++ drop entry_size (drop k buffer))
  put_back = tail-back buffer k ys ∙ rw (h, tail buffer k)

  pub put-length : length (take k buffer ++ (ys ++ drop (length buffer - k) (drop k buffer))) ≡ length buffer
  put-length =
      ap length put_back
      ∙ omega (
        arith,
        length-append (take k buffer) (entry_bytes e ++ drop entry_size (drop k buffer)),
        length-append (entry_bytes e) (drop entry_size (drop k buffer)),
        length-take-le k buffer (omega arith),
        length-entry e,
        length-drop entry_size (drop k buffer),
        length-drop k buffer,
      )

pub turn : (fewer count used n : ℕ) (due d : Due) (bits buffer ys : List ℕ) (e : Entry) (o : Outcome) → n ≡ e.seconds → d ≡ after due e
    → 0 < length (drop used bits) → read_next due false (drop used bits) ≡ entry e
    → count * entry_size + entry_size ≤ length buffer → ys ≡ entry_bytes e ++ drop entry_size (take (length buffer - count * entry_size) (drop (count * entry_size) buffer))
    → resume count used buffer (read_frames (suc fewer) due (drop used bits)) ≡ o
    → resume (count + 1) (used + n) (take (count * entry_size) buffer ++ (ys ++ drop (length buffer - count * entry_size) (drop (count * entry_size) buffer)))
    (read_frames fewer d (drop (used + n) bits))
    ≡ o
turn fewer count used n due d bits buffer ys e o en ed some r room h inv =
    rw (en, ed, put_back buffer ys (count * entry_size) e room h, ← drop-drop e.seconds used bits)
    (sym (resume-add count used buffer e (read_frames fewer (after due e) (drop e.seconds (drop used bits))) room)
    ∙ ap (resume count used buffer) (sym (frame-read fewer due (drop used bits) some e r))
    ∙ inv)

-- and the state at the end
pub turn-due : (fewer used n : ℕ) (due d last : Due) (bits : List ℕ) (e : Entry) → n ≡ e.seconds → d ≡ after due e
    → 0 < length (drop used bits) → read_next due false (drop used bits) ≡ entry e
    → (read_frames (suc fewer) due (drop used bits)).due ≡ last → (read_frames fewer d (drop (used + n) bits)).due ≡ last
unfolding add
turn-due fewer used n due d last bits e en ed some r h = rw (en, ed, ← drop-drop e.seconds used bits) (rw (frame-read fewer due (drop used bits) some e r) at h)

-- the state after a time frame and after a message, as the code makes it
pub after-time : (due : Due) (s : State) (f : Fields) (l : ℕ) → l ≡ pick (last_of_month f.minute) unknown (leap_number s.leap)
    → Minute (f.minute + 1) l ≡ after due (entry_from s f)
unfolding after
after-time due s f l h = rw h

pub after-message : (due : Due) (t : Told) (l : ℕ) → l ≡ pick (last_of_month t.minute) unknown (leap_read due)
    → Minute (t.minute + 1) l ≡ after due (message_entry t.minute t.length t.notice t.payload)
unfolding after message_entry
after-message due t l h = rw h
