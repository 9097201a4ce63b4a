-- `amplitude_reader::read_minute` meets its contract.
-- Assumes nothing.
use mathlib.Core.Path.{◌≡◌, ◌∙◌}
use Rattle.std.specs.Prelude.{Err}
use native.Mathlib.Omega.{arith}
use Rattle.std.proofs.lemmas.Result.{err_from_is_err_and}
use Rattle.amplitude_reader.proofs.Reading.{no-layout, short-enough, by-numbers}
use Rattle.amplitude_reader.proofs.read_minute.Goals as goal

pub returns-in_err-row : goal.returns-in_err-row
returns-in_err-row c =
    let p = err_from_is_err_and c.from_residual.result c.from_residual.ensures.1 in
    let was : c.read_layout.result ≡ Err c.in_err-row.field-0.0 = cc in
    rw (p.1, p.2) (no-layout c.args.symbols.now c.read_layout.result c.read_layout.ensures _ was)

pub overflow_cast-symbols : goal.overflow_cast-symbols
overflow_cast-symbols c =
    omega (arith, short-enough c.args.symbols.now c.read_layout.result c.read_layout.ensures c.in_ok-row.row c.in_ok-row.was)

pub returns : goal.returns
returns c =
    c.read_numbers.ensures ∙ by-numbers c.args.symbols.now c.read_layout.result c.read_layout.ensures c.in_ok-row.row c.in_ok-row.was
