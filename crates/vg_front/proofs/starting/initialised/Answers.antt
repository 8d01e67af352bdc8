use Rattle.std.proofs.Common.{Some, subst, ◌≡◌}
use Rattle.vg_tree_walks.specs.Whole.{tree_at}
use Rattle.vg_session.specs.Initialises.{why_of}
use Rattle.vg_faults.specs.Starting.{failure_of}
use Rattle.vg_front.proofs.Starts.{fails_by}
use Rattle.vg_front.proofs.starting.initialised.Goals as goal

pub returns-in-Err-Fault : goal.returns-in-Err-Fault
returns-in-Err-Fault c =
    fails_by _ _ _ _ _ _ _ c.in-Err-Fault.field-0-is c.requires.typed c.requires.legal c.in-Err-Fault.ensures.gives
    (subst (λ why. failure_of (tree_at c.args.names c.args.tree) (why_of why) ≡ Some c.init_fault.result) c.in-Err-Fault.why-is
    (c.init_fault.ensures c.args.names))
