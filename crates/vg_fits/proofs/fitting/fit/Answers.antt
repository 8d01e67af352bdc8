use Rattle.vg_fits.proofs.Answering.{can_place, fitted_is, refused_by}
use Rattle.vg_fits.proofs.fitting.fit.Goals as goal

pub place_live-requires : goal.place_live-requires
place_live-requires c = can_place _ _ _ c.in-Ok.ensures c.requires

pub returns-in-Ok-place_live : goal.returns-in-Ok-place_live
returns-in-Ok-place_live c = fitted_is _ _ _ c.in-Ok.ensures _ c.in-Ok-place_live.ensures

pub returns-in-Err-place_live : goal.returns-in-Err-place_live
returns-in-Err-place_live c = refused_by _ _ _ c.in-Ok.ensures _ c.in-Err-place_live.ensures
