use Rattle.std.proofs.Common.{refl}
use Rattle.vg_place.proofs.Glue.{are_few}
use Rattle.vg_fits.proofs.fitting.place_live.Goals as goal

pub number-requires-clause-few : goal.number-requires-clause-few
number-requires-clause-few c = are_few _ _ refl c.requires.values
