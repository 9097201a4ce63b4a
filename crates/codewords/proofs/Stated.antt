-- Every statement of specs with its proof: where a proof is missing, this module is not proved.
-- Assumes nothing.
use Rattle.codewords.specs.Theorems.{StatesReadBack, OtherStatesIllegal, TwentyIllegal, RowsReadBack, OtherRowsUnassigned, ThirtySevenUnassigned, ReservedUnassigned, RowOne, StatesTwoApart, RowsTwoApart, InvertedIllegal, InvertedUnassigned, AnyListReadsBack, AnyListRefusesOthers, OneRowList, StateAnswered, RowAnswered}
use Rattle.codewords.proofs.Answers.{state-answered, row-answered}
use Rattle.codewords.proofs.RowList.{any-list-reads-back, any-list-refuses-others, one-row-list}
use Rattle.codewords.proofs.ReadBack.{states-read-back, other-states-illegal, twenty-illegal, rows-read-back, other-rows-unassigned, thirty-seven-unassigned, reserved-unassigned, row_one}
use Rattle.codewords.proofs.Apart.{states-two-apart, rows-two-apart, inverted-illegal, inverted-unassigned}

states-read-back' : StatesReadBack
states-read-back' = states-read-back

other-states-illegal' : OtherStatesIllegal
other-states-illegal' = other-states-illegal

twenty-illegal' : TwentyIllegal
twenty-illegal' = twenty-illegal

rows-read-back' : RowsReadBack
rows-read-back' = rows-read-back

other-rows-unassigned' : OtherRowsUnassigned
other-rows-unassigned' = other-rows-unassigned

thirty-seven-unassigned' : ThirtySevenUnassigned
thirty-seven-unassigned' = thirty-seven-unassigned

reserved-unassigned' : ReservedUnassigned
reserved-unassigned' = reserved-unassigned

row-one' : RowOne
row-one' = row_one

states-two-apart' : StatesTwoApart
states-two-apart' = states-two-apart

rows-two-apart' : RowsTwoApart
rows-two-apart' = rows-two-apart

inverted-illegal' : InvertedIllegal
inverted-illegal' = inverted-illegal

inverted-unassigned' : InvertedUnassigned
inverted-unassigned' = inverted-unassigned

any-list-reads-back' : AnyListReadsBack
any-list-reads-back' = any-list-reads-back

any-list-refuses-others' : AnyListRefusesOthers
any-list-refuses-others' = any-list-refuses-others

one-row-list' : OneRowList
one-row-list' = one-row-list

state-answered' : StateAnswered
state-answered' = state-answered

row-answered' : RowAnswered
row-answered' = row-answered
