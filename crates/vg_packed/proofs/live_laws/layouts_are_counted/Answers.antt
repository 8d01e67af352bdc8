use Rattle.vg_packed.proofs.CountedLayouts.{counted}
use Rattle.vg_packed.proofs.live_laws.layouts_are_counted.Goals as goal

pub returns : goal.returns
returns c = λ p κ kept n x is. counted p κ kept n is x
