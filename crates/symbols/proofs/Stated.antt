-- Every statement of specs with its proof: where a proof is missing, this module is not proved.
-- Assumes nothing.
use Rattle.symbols.specs.Symbols.{FilledReads, ReadFills}
use Rattle.symbols.proofs.Laws.{filled-reads, read-fills}

filled-reads' : FilledReads
filled-reads' = filled-reads

read-fills' : ReadFills
read-fills' = read-fills
