use Rattle.vg_types_declared.proofs.Picking.{agree}
use Rattle.vg_types_declared.proofs.Listing.{lists}
use Rattle.vg_types_declared.proofs.laws.heads_agree.Goals as goal

pub returns-clause-found : goal.returns-clause-found
returns-clause-found c = agree

pub returns-clause-places : goal.returns-clause-places
returns-clause-places c ds e a = lists ds (agree ds e a)
