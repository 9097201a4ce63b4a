-- Every statement of specs with its proof: where a proof is missing, this module is not proved.
-- Assumes nothing.
use Rattle.localtime.specs.Theorems.{LocalOrder, LocalAccepted, LocalRefused, LocalAnswers, LocalDates, AddedMinutes, SpringForward, AutumnBack, OtherwiseByOne, NoChanges}
use Rattle.localtime.proofs.Answers.{local-order, local-accepted, local-refused, local-answers, local-dates, added-minutes}
use Rattle.localtime.proofs.Clock.{spring-forward, autumn-back, otherwise-by-one, no-changes}

local-order' : LocalOrder
local-order' = local-order

local-accepted' : LocalAccepted
local-accepted' = local-accepted

local-refused' : LocalRefused
local-refused' = local-refused

local-answers' : LocalAnswers
local-answers' = local-answers

local-dates' : LocalDates
local-dates' = local-dates

added-minutes' : AddedMinutes
added-minutes' = added-minutes

spring-forward' : SpringForward
spring-forward' = spring-forward

autumn-back' : AutumnBack
autumn-back' = autumn-back

otherwise-by-one' : OtherwiseByOne
otherwise-by-one' = otherwise-by-one

no-changes' : NoChanges
no-changes' = no-changes
