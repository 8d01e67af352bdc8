use Rattle.std.proofs.Common.{ap, arith, length}
use Rattle.vg_bound.proofs.Edges.{sound_edge}
use Rattle.vg_bound.proofs.graph.CallGraph.edge.Goals as goal

pub invariant_of-self : goal.invariant_of-self
invariant_of-self c =
    let same = ap (λ g. length g.frames) c.self.view_is in
    sound_edge c.self.inside.frames c.self.inside.calls.items c.self.inside.roots c.self.inside.search c.push.result c.from.result c.args.to
    c.index_mut.result.now c.push.new.self c.self.invariant (omega (arith, c.requires.from, same, c.from.ensures)) (omega (arith, c.requires.to, same))
    c.index_mut.ensures.value c.push.ensures.ok c.push.ensures.err
