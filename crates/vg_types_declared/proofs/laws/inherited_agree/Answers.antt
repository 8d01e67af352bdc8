use Rattle.vg_types_heads.specs.Heads.{no_heads, with_heads}
use Rattle.vg_types_homes.specs.Homes.{no_view, with_declarations}
use Rattle.vg_types_declared.proofs.Picking.{agree}
use Rattle.vg_types_declared.proofs.Listing.{lists}
use Rattle.vg_types_declared.proofs.Homes.{all_found}
use Rattle.vg_types_declared.proofs.Inheriting.{inherits}
use Rattle.vg_types_declared.proofs.laws.inherited_agree.Goals as goal

pub returns : goal.returns
returns c ds e a r =
    inherits ds (with_heads ds no_heads) (with_declarations ds no_view) (agree ds e a) (lists ds (agree ds e a)) r (all_found ds)
