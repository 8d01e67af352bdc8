use Rattle.std.proofs.Common.{refl}
use Rattle.vg_flash.proofs.writes.flash_of_writes.Goals as goal

pub returns : goal.returns
returns c = (record { agrees = c.in_ok-image.ensures.agrees; never = c.in_ok-image.ensures.never }, refl)
