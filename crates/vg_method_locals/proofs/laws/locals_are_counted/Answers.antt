use Rattle.vg_method_locals.proofs.Methods.{locals_sized}
use Rattle.vg_method_locals.proofs.laws.locals_are_counted.Goals as goal

pub returns : goal.returns
returns c = locals_sized
