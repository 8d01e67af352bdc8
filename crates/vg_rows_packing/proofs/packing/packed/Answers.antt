use Rattle.vg_fits_given.proofs.Given.{given}
use Rattle.vg_rows_packing.proofs.packing.packed.Goals as goal

pub pack_fitted-requires : goal.pack_fitted-requires
pack_fitted-requires c = given _ _ _ c.in-Ok.ensures c.requires
