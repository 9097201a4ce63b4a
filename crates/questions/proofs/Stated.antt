-- Every statement of specs with its proof: where a proof is missing, this module is not proved.
-- Assumes nothing.
use Rattle.questions.specs.Questions.{OneOfListed}
use Rattle.questions.proofs.Laws.{one-of-listed}

one-of-listed' : OneOfListed
one-of-listed' = one-of-listed
