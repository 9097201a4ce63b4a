-- An entry taken from its own bytes prints as it is.
-- Assumes nothing.
use Prim.Native.Nat.{ℕ, ◌^◌, ◌<◌}
use mathlib.Core.Path.{◌≡◌, refl, ap}
use native.Mathlib.Omega.{arith}
use Rattle.format.specs.Entry.{Entry, entry_bytes}
use Rattle.format.proofs.Entry.{entry-laid-out}
use Rattle.page_rules.specs.Page.{columns_of, time_columns, line}
use Rattle.page_rules.specs.Theorems.{Fits}
use Rattle.page_columns.specs.Bytes.{entry_in}

-- an entry of another minute, without its notice and its data
unfoldable shown_at : Entry → ℕ → Entry
shown_at e m =
    record {
      minute = m;
      seconds = e.seconds;
      daylight = e.daylight;
      leap = e.leap;
      row = e.row;
      notice = 0;
      place = e.place;
      echo = e.echo;
      message = e.message;
      payload = 0;
    }

entry_kept : (e : Entry) → e.minute < 2 ^ 32 → entry_in (entry_bytes e) ≡ shown_at e e.minute
unfolding entry_in shown_at entry_bytes
entry_kept e h =
    ap (shown_at e) (entry-laid-out.minute-first e h)

line-shown : (e : Entry) → line (shown_at e e.minute) ≡ line e
unfolding line columns_of time_columns shown_at
line-shown e = refl

pub line_kept : (e : Entry) → e.minute < 2 ^ 32 → line (entry_in (entry_bytes e)) ≡ line e
line_kept e h = rw (entry_kept e h) (line-shown e)

fits-shown : (e : Entry) → Fits e → Fits (shown_at e e.minute)
unfolding shown_at
fits-shown e f =
    record {
      minute = f.minute;
      seconds = f.seconds;
      daylight = f.daylight;
      leap = f.leap;
      row = f.row;
      place = f.place;
      echo = f.echo;
      message = f.message;
    }

pub fits_kept : (e : Entry) → Fits e → Fits (entry_in (entry_bytes e))
fits_kept e f = rw (entry_kept e (omega (arith, f.minute))) (fits-shown e f)
