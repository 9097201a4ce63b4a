-- The replies of the calls of IRIG B as the answers of the library (document 02, 9, "Feeding recorders that take IRIG B").
-- Assumes nothing.
use Rattle.std.specs.Prelude.{ℕ, List, [], ◌∷◌}
use Rattle.wwvb.specs.declared.irig_b.IrigWriteReply.{IrigWriteReply}
use Rattle.wwvb.specs.declared.irig_b.IrigReply.{IrigReply}

-- the reply of writing a second: the refusal or 0, and the number of elements
abbrev pub elements_reply : IrigWriteReply → List ℕ
elements_reply r = r.refusal ∷ r.elements ∷ []

-- the reply of reading one: the refusal or 0, the day of the year and the second of the day
abbrev pub irig_reply : IrigReply → List ℕ
irig_reply r = r.refusal ∷ r.day_of_year ∷ r.second_of_day ∷ []
