-- The entry that a line shows, taken from the bytes that reading wrote (document 01, "Recordings and entries"; document 02, 7).
-- Assumes nothing.
use Rattle.std.specs.Prelude.{ℕ, List, get_or}
use Rattle.messages.specs.Bytes.{big_endian}
use Rattle.format.specs.Entry.{Entry}

-- the inverse of entry_bytes, but for the notice and the data, which no line shows (document 02, 8)
unfoldable pub entry_in : List ℕ → Entry
entry_in s =
    record {
      minute = big_endian s 0 4;
      seconds = get_or s 4 0;
      daylight = get_or s 5 0;
      leap = get_or s 6 0;
      row = get_or s 7 0;
      notice = 0;
      place = get_or s 9 0;
      echo = get_or s 10 0;
      message = get_or s 11 0;
      payload = 0;
    }
