use Rattle.std.proofs.Common.{subst}
use Rattle.vg_bound.specs.Graph.{IsSameGraph}
use Rattle.vg_call_need.proofs.Needs.{bytes_need, cycle_need}
use Rattle.vg_call_need.proofs.bounding.stack_need.Goals as goal

pub returns-in-Bytes : goal.returns-in-Bytes
returns-in-Bytes c =
    bytes_need c.args.extra c.args.firm.now c.args.frames.now c.requires.main c.bound.new.graph
    (subst (λ z. IsSameGraph z c.bound.new.graph) c.in_ok-graph.ensures c.in-Bytes.ensures.stays) c.in-Bytes.bytes c.in-Bytes.ensures.gives.0
    c.in-Bytes.ensures.gives.1

pub returns : goal.returns
returns c =
    cycle_need c.args.extra c.args.firm.now c.args.frames.now c.requires.main c.bound.new.graph
    (subst (λ z. IsSameGraph z c.bound.new.graph) c.in_ok-graph.ensures c.in-Cycle.ensures.stays) _ c.in-Cycle.ensures.gives.0 _
    c.in-Cycle.ensures.gives.1 c.in_ok-cycle-in-Cycle.ensures
