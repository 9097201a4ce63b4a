-- What the cases of a recording come to: what is written for them, and what is read. No section of the papers: the form of stored cases is the
-- test programs' own.
-- Assumes nothing.
use Rattle.std.specs.Prelude.{ℕ, ◌+◌, ◌*◌, ◌%◌, Bool, true, false, ◌&&◌, List, [], ◌∷◌, ◌++◌, map, length, replicate, codes, eqb, nat_le}
use Rattle.std.specs.List.{range_with_len}
use Rattle.bits.specs.Bits.{pick}
use Rattle.cases.specs.Cases.{number_at, plan_in, count_in, message_byte, given_at}
use Rattle.messages.specs.Message.{Schedule}
use Rattle.messages.specs.Bytes.{schedule_of}
use Rattle.format.specs.Entry.{entry_size}
use Rattle.format.specs.Questions.{start}
use Rattle.format.specs.Next.{read_one, one_due}
use Rattle.format.specs.declared.Due.{Due}
use Rattle.format.specs.declared.Due.TheVariants.{Any, Minute}
use Rattle.sequence.specs.Writing.{WriteNumbers, max_count, write_refusal, write_result, buffer_written, recording}
use Rattle.sequence.specs.Reading.{Outcome, read_from, due_from, read_into}
use Rattle.trials.specs.declared.reading.As.{As}
use Rattle.trials.specs.declared.reading.As.TheVariants.{Frame, FrameIn, Recording, RecordingIn, LongRecording}
use Rattle.trials.specs.Shown.{spaced, in_digits, barred}

-- ---- what a text says

-- the plan with its messages: number k is how many bytes of messages there are, and the numbers after it are the minute and the data of each
unfoldable pub schedule_in : ℕ → List ℕ → Schedule
schedule_in k text = schedule_of (plan_in text) (map (message_byte k text) (range_with_len 0 (number_at k text)))

-- whether they are 50 bytes at most, for which there is space; with more, nothing is written and nothing refused
unfoldable pub messages_fit : ℕ → List ℕ → Bool
messages_fit k text = nat_le (number_at k text) 50

-- the state that numbers 1 and 2 are
unfoldable pub due_in : List ℕ → Due
due_in text = Minute (number_at 1 text) (number_at 2 text % 256)

-- the bits that digits stand for
unfoldable pub given_bits : List ℕ → List ℕ
given_bits digits = map (given_at digits) (range_with_len 0 (length digits))

-- ---- writing so many minutes, from the minute on that is number 6

-- the refusal or 0, and the number of bits
unfoldable pub writing_gives : ℕ → ℕ → ℕ → List ℕ → WriteNumbers
writing_gives count k space text =
    pick (messages_fit k text) (write_result (schedule_in k text) (number_at 6 text) count space)
    (record { refusal = 0; bits = 0 })

-- the buffer after it
unfoldable pub buffer_after : ℕ → ℕ → List ℕ → List ℕ → List ℕ
buffer_after count k buffer text =
    pick (messages_fit k text) (buffer_written (schedule_in k text) (number_at 6 text) count buffer) buffer

-- the bits that are sent, written into so many bytes: none where writing is refused, or the messages don't fit
unfoldable pub sent_bits : ℕ → ℕ → ℕ → List ℕ → List ℕ
sent_bits count k space text =
    let p = schedule_in k text in
    let m = number_at 6 text in
    pick (messages_fit k text && eqb (write_refusal p m count space) 0) (recording p m count) []

-- the space for what is sent
abbrev pub sent_space : ℕ
sent_space = 65_536

-- ---- reading

-- how many entries, the bits used, and the refusal or 0
abbrev pub told_outcome : Outcome → List ℕ
told_outcome o = spaced (o.count ∷ o.used ∷ o.refusal ∷ [])

-- the state after a reading
abbrev pub told_due : Due → List ℕ
told_due Any = codes ", then any"
told_due (Minute m leap) = codes ", then" ++ spaced (m ∷ leap ∷ [])

-- what is told of reading into an entry buffer: of a frame the refusal or 0; in a state, the state after it too
abbrev pub told : As → List ℕ → List ℕ → List ℕ
told Frame buffer f = spaced ((read_one start buffer f).refusal ∷ [])
told (FrameIn due) buffer f = spaced ((read_one due buffer f).refusal ∷ []) ++ told_due (one_due due buffer f)
told Recording buffer f = told_outcome (read_into buffer f)
told (RecordingIn due) buffer f = told_outcome (read_from due buffer f) ++ told_due (due_from due buffer f)
told LongRecording buffer f = told_outcome (read_into buffer f)

-- the entry buffer after it
abbrev pub entries_after : As → List ℕ → List ℕ → List ℕ
entries_after Frame buffer f = (read_one start buffer f).buffer
entries_after (FrameIn due) buffer f = (read_one due buffer f).buffer
entries_after Recording buffer f = (read_into buffer f).buffer
entries_after (RecordingIn due) buffer f = (read_from due buffer f).buffer
entries_after LongRecording buffer f = (read_into buffer f).buffer

-- whether entry bytes are shown: not those of a long recording
abbrev pub shows_entries : As → Bool
shows_entries LongRecording = false
shows_entries how = true

-- the entry bytes of the most frames
abbrev pub entry_space : ℕ
entry_space = entry_size * max_count

-- what reading with so many entry bytes shows: a colon, what is told, and the entry bytes with two more. There is space for the two too, so
-- with more entry bytes than both nothing is told, and with more than the most frames have no entry bytes are shown.
unfoldable pub read_as : As → ℕ → List ℕ → List ℕ
read_as how space f =
    let buffer = replicate space 7 in
    58 ∷ pick (nat_le space (entry_space + 2)) (told how buffer f) []
    ++ pick (shows_entries how && nat_le space entry_space) (barred (entries_after how buffer f ++ 7 ∷ 7 ∷ [])) []

-- the same of given bits, where number 0 is how many entry bytes: there is space for 366 bits, and of more nothing is shown
unfoldable pub given_as : As → List ℕ → List ℕ → List ℕ
given_as how text digits = pick (nat_le (length digits) 366) (read_as how (number_at 0 text) (given_bits digits)) []

-- ---- cases

-- bits in a state, as one frame and then as a recording
unfoldable pub resumed_twice : List ℕ → List ℕ → List ℕ
resumed_twice text digits = given_as (FrameIn (due_in text)) text digits ++ given_as (RecordingIn (due_in text)) text digits

-- a frame, of letter s: its bits, and what reading them shows
unfoldable pub frame_sent : List ℕ → List ℕ
frame_sent text =
    let f = sent_bits (count_in 115 text) 7 sent_space text in
    in_digits f ++ read_as Frame entry_size f

-- a recording, of letter c: what reading its bits shows, with space for all its entries
unfoldable pub recording_sent : List ℕ → List ℕ
recording_sent text =
    let n = count_in 99 text in
    read_as Recording (n * entry_size) (sent_bits n 8 sent_space text)

-- a long one, of letter l: the number of its bits, and what reading them shows
unfoldable pub long_sent : List ℕ → List ℕ
long_sent text =
    let n = count_in 108 text in
    let f = sent_bits n 8 sent_space text in
    spaced (length f ∷ []) ++ read_as LongRecording (n * entry_size) f
