-- `amplitude_reader::read_numbers` meets its contract.
-- Assumes nothing.
use mathlib.Core.Path.{sym, ◌∙◌}
use Rattle.amplitude_row.specs.Row.{row_numbers}
use Rattle.amplitude_rules.proofs.Facts.{year-small}
use Rattle.amplitude_reader.proofs.Reading.{not-decimal, no_fields, no_length, all_fit}
use Rattle.amplitude_reader.proofs.read_numbers.Goals as goal

pub returns-then-not-has_decimal_digits : goal.returns-then-not-has_decimal_digits
returns-then-not-has_decimal_digits c =
    not-decimal (row_numbers c.args.d) c.args.seconds (sym c.has_decimal_digits.ensures ∙ c.if-not-has_decimal_digits.true)

pub returns-then-not-has_real_fields : goal.returns-then-not-has_real_fields
returns-then-not-has_real_fields c =
    no_fields (row_numbers c.args.d) c.args.seconds c.fields_from-x.result
    (sym c.has_decimal_digits.ensures ∙ c.if-not-has_decimal_digits.false)
    c.fields_from-x.ensures (sym c.has_real_fields.ensures ∙ c.if-not-has_real_fields.true)

pub values_of-values-requires : goal.values_of-values-requires
values_of-values-requires c =
    let decimal = sym c.has_decimal_digits.ensures ∙ c.if-not-has_decimal_digits.false in (
      rw c.fields_from-x.ensures (year-small (row_numbers c.args.d) decimal),
      sym c.has_real_fields.ensures ∙ c.if-not-has_real_fields.false,
    )

pub returns-then-length_fits : goal.returns-then-length_fits
returns-then-length_fits c =
    all_fit (row_numbers c.args.d) c.args.seconds c.fields_from-x.result
    (sym c.has_decimal_digits.ensures ∙ c.if-not-has_decimal_digits.false)
    c.fields_from-x.ensures c.values_of-values.result
    (sym c.has_real_fields.ensures ∙ c.if-not-has_real_fields.false)
    c.values_of-values.ensures (sym c.length_fits.ensures ∙ c.if-length_fits.true)

pub returns-else-length_fits : goal.returns-else-length_fits
returns-else-length_fits c =
    no_length (row_numbers c.args.d) c.args.seconds c.fields_from-x.result
    (sym c.has_decimal_digits.ensures ∙ c.if-not-has_decimal_digits.false)
    c.fields_from-x.ensures c.values_of-values.result
    (sym c.has_real_fields.ensures ∙ c.if-not-has_real_fields.false)
    c.values_of-values.ensures (sym c.length_fits.ensures ∙ c.if-length_fits.false)
