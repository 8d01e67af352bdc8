use Rattle.vg_types_declared.proofs.Picking.{agree}
use Rattle.vg_types_declared.proofs.Listing.{lists}
use Rattle.vg_types_heads.specs.Heads.{no_heads, with_heads}
use Rattle.vg_types_declared.proofs.Chaining.{chained}
use Rattle.vg_types_declared.proofs.laws.chains_agree.Goals as goal

pub returns : goal.returns
returns c ds e a r = chained ds (with_heads ds no_heads) (agree ds e a) (lists ds (agree ds e a)) r
