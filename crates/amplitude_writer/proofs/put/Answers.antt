-- `amplitude_writer::put` meets its contract.
-- Assumes nothing.
use native.Mathlib.Omega.{arith}
use Rattle.amplitude_writer.proofs.Written.{fields_within, values_length, symbols-are}
use borrow.Author.Rules.{rules}
use Rattle.amplitude_writer.proofs.put.Goals as goal

pub put_row-requires : goal.put_row-requires
put_row-requires c = (
  fields_within c.args.r c.fields_of.result c.requires.0 c.fields_of.ensures,
  omega (arith, values_length c.args.r c.requires.0, c.requires.1),
)

pub put_ends-requires : goal.put_ends-requires
put_ends-requires c = let l = values_length c.args.r c.requires.0 in (l.0, l.1, search rules)

pub returns : goal.returns
returns c =
    let f = c.fields_of in
    symbols-are c.args.r f.result _ _ c.args.out.now (values_length c.args.r c.requires.0).0 f.ensures c.put_row.ensures
    c.put_ends.ensures
