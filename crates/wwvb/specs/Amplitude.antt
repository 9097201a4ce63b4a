-- The replies of the amplitude code's calls as the answers of the library (document 02, 5, "The amplitude code as well").
-- Assumes nothing.
use Rattle.std.specs.Prelude.{ℕ, List, [], ◌∷◌, pos}
use Rattle.calendar.specs.Calendar.{date_at}
use Rattle.amplitude_rules.specs.Reading.{Answer, accepted, refused}
use Rattle.amplitude_rules.specs.declared.Values.{Values}
use Rattle.wwvb.specs.declared.WriteReply.{WriteReply}
use Rattle.wwvb.specs.declared.amplitude.AmplitudeReply.{AmplitudeReply}

-- the reply of writing a minute: the refusal or 0, and the number of symbols
abbrev pub symbols_reply : WriteReply → List ℕ
symbols_reply r = r.refusal ∷ r.bits ∷ []

-- the reply to values: 0, the date of their minute, and the others
unfoldable pub accepted_reply : Values → AmplitudeReply
accepted_reply v =
    let d = date_at v.minute in
    record {
      refusal = 0;
      year = d.year;
      month = d.month;
      day = d.day;
      hour = d.hour;
      minute = d.minute;
      weekday = d.weekday;
      ut1_sign = v.sign;
      ut1_tenths = v.tenths;
      warning = v.warning;
      daylight = v.daylight;
      length = v.seconds;
    }

-- the reply of a refusal: its number, and every other field 0
unfoldable pub refused_reply : ℕ → AmplitudeReply
refused_reply n =
    record {
      refusal = n;
      year = 0;
      month = 0;
      day = 0;
      hour = 0;
      minute = 0;
      weekday = 0;
      ut1_sign = pos 0;
      ut1_tenths = 0;
      warning = 0;
      daylight = 0;
      length = 0;
    }

-- the reply of reading a minute
abbrev pub amplitude_reply : Answer → AmplitudeReply
amplitude_reply (refused n) = refused_reply n
amplitude_reply (accepted v) = accepted_reply v
