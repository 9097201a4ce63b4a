-- Two code words three places apart, and two inverted places that read as another minute, by computing.
-- Assumes nothing.
use mathlib.Core.Path.{refl}
use Rattle.bits.specs.Bits.{first, bit, bits, number, distance}
use Rattle.timeword.specs.TimeWord.{par0, par1, par2, par3, par4, sum_of, parity, parities, code_word, invert, minute_of, same, is_code_word, error_place, reading}
use Rattle.timeword.specs.Theorems.{ThreeIsTheMost, TwoPlacesMistaken}

pub three-is-the-most : ThreeIsTheMost
unfolding distance code_word parities parity sum_of bits bit par0 par1 par2 par3 par4
three-is-the-most = refl

pub two-places-mistaken : TwoPlacesMistaken
unfolding reading error_place first is_code_word same minute_of invert code_word parities parity sum_of number bits bit par0 par1 par2 par3 par4
two-places-mistaken = (refl, refl)
