use Rattle.vg_bound.specs.Kept.{graph}
use Rattle.vg_bound.proofs.Cycles.{has_cycle}
use Rattle.vg_bound.proofs.Begun.{begins, keeps, closed_within}
use Rattle.vg_bound.proofs.graph.bound.Goals as goal

pub largest-requires-clause-searching : goal.largest-requires-clause-searching
largest-requires-clause-searching c =
    begins c.graph.inside.frames c.as_slice.result.now c.graph.inside.calls.items c.as_slice-2.result.now c.graph.inside.roots c.graph.inside.search
    c.reset.new.self c.graph.invariant c.as_slice.ensures c.as_slice-2.ensures.value c.reset.ensures

pub node_at-requires : goal.node_at-requires
node_at-requires c =
    closed_within c.as_slice.result.now c.as_slice-2.result.now c.as_slice-3.result.now c.largest.new.search c.in-Closed.place c.in-Closed.ensures.outcome

pub returns-in-Closed-clause-gives : goal.returns-in-Closed-clause-gives
returns-in-Closed-clause-gives c =
    keeps c.graph.inside.frames c.as_slice.result.now c.graph.inside.calls.items c.as_slice-2.result.now c.graph.inside.roots c.as_slice-3.result.now
    c.largest.new.search c.in-Closed.place c.node_at.result c.as_slice.ensures c.as_slice-2.ensures.value c.as_slice-3.ensures
    c.in-Closed.ensures.searching c.in-Closed.ensures.outcome c.node_at.ensures

pub returns-in-Closed-clause-exactly : goal.returns-in-Closed-clause-exactly
returns-in-Closed-clause-exactly c =
    let k = keeps c.graph.inside.frames c.as_slice.result.now c.graph.inside.calls.items c.as_slice-2.result.now c.graph.inside.roots c.as_slice-3.result.now
    c.largest.new.search c.in-Closed.place c.node_at.result c.as_slice.ensures c.as_slice-2.ensures.value c.as_slice-3.ensures
    c.in-Closed.ensures.searching c.in-Closed.ensures.outcome c.node_at.ensures in (
      λ _. has_cycle (graph c.graph.inside.frames c.graph.inside.calls.items c.graph.inside.roots c.largest.new.search c.in-Closed.place) c.node_at.result k.0 k.1,
      λ _. tt,
    )
