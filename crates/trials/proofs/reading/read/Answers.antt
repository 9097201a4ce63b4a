-- `trials::reading::read` meets its contract.
-- Assumes nothing.
use Rattle.std.proofs.KnownBytes.{Appends-nil, Appends-trans}
use Rattle.std.proofs.lemmas.Bool.{le-leb}
use Rattle.trials.specs.Tried.{read_as}
use Rattle.trials.proofs.Read.{told-front, entries-front, none-shown}
use Rattle.trials.proofs.reading.read.Goals as goal

pub returns-in_ok-bytes : goal.returns-in_ok-bytes
unfolding read_as
returns-in_ok-bytes g c =
    let how = c.args.how in
    let space = c.args.space in
    let f = c.args.bits.now in
    let le = le-leb space 18000 c.if-space-le-ENTRY_SPACE.true in
    let e = entries-front how space f c.read_front.new.entries c.if-space-le-ENTRY_SPACE.true c.read_front.auto.entries c.read_front.ensures.entries in
    rw (le, ← c.shows_entries.ensures, c.if-shows_entries.true, ← told-front how space f, ← e)
    (Appends-trans _ _ _ _ _ c.in_ok-mark.ensures (Appends-trans _ _ _ _ _ c.in_ok-read_front.ensures.shown c.in_ok-bytes.ensures))

pub returns-else-shows_entries : goal.returns-else-shows_entries
unfolding read_as
returns-else-shows_entries g c =
    let how = c.args.how in
    let space = c.args.space in
    let f = c.args.bits.now in
    rw (← c.shows_entries.ensures, none-shown space c.else-shows_entries.either, ← told-front how space f)
    (Appends-trans _ _ _ _ _ c.in_ok-mark.ensures (Appends-trans _ _ _ _ _ c.in_ok-read_front.ensures.shown (Appends-nil (g.W.Write.contents c.read_front.new.to))))
