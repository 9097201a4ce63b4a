-- `page_columns::time_columns` meets its contract.
-- Assumes nothing.
use Rattle.page_columns.specs.Bytes.{entry_in}
use Rattle.page_columns.proofs.Texts.{next, time-is}
use mathlib.Core.Path.{refl, ◌∙◌}
use Rattle.page_columns.proofs.time_columns.Goals as goal

pub returns : goal.returns
unfolding entry_in
returns c =
    let a = c.args.entry.now in
    next c.bit.ensures (next c.bit-2.ensures (next refl (next refl (next refl
    (next c.digit_or_blank.ensures (next c.digit.ensures (next refl
    (next c.digit_or_blank-2.ensures (next c.digit-2.ensures (next refl (next c.digit-3.ensures refl)))))))))))
    ∙ time-is (entry_in a) c.leap_sign.result _ _ _ c.requires.1 c.leap_sign.ensures
    c.from-row.ensures c.from-place.ensures c.from-echo.ensures
