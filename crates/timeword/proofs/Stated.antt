-- Every statement of specs with its proof: where a proof is missing, this module is not proved.
-- Assumes nothing.
use Rattle.timeword.specs.Theorems.{OnePlaceCorrected, ThreePlacesApart, ThreeIsTheMost, OneCodeWordNear, ReadsTheNear, ReadWithin, NearReadAs, TwoInvertedNeverPlace0, PlaceZero, TwoPlacesMistaken}
use Rattle.timeword.proofs.Correct.{one-place-corrected, place-zero}
use Rattle.timeword.proofs.Distance.{three-places-apart, one-code-word-near, reads-the-near, read-within, near-read-as, two-inverted-never-place-0}
use Rattle.timeword.proofs.Computed.{three-is-the-most, two-places-mistaken}

one-place-corrected' : OnePlaceCorrected
one-place-corrected' = one-place-corrected

three-places-apart' : ThreePlacesApart
three-places-apart' = three-places-apart

three-is-the-most' : ThreeIsTheMost
three-is-the-most' = three-is-the-most

one-code-word-near' : OneCodeWordNear
one-code-word-near' = one-code-word-near

reads-the-near' : ReadsTheNear
reads-the-near' = reads-the-near

read-within' : ReadWithin
read-within' = read-within

near-read-as' : NearReadAs
near-read-as' = near-read-as

two-inverted-never-place-0' : TwoInvertedNeverPlace0
two-inverted-never-place-0' = two-inverted-never-place-0

place-zero' : PlaceZero
place-zero' = place-zero

two-places-mistaken' : TwoPlacesMistaken
two-places-mistaken' = two-places-mistaken
