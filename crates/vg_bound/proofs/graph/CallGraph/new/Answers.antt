use Rattle.std.proofs.Common.{◌∙◌}
use Rattle.vg_bound.proofs.Begun.{sound_begun}
use Rattle.vg_bound.proofs.graph.CallGraph.new.Goals as goal

pub invariant_of-result : goal.invariant_of-result
invariant_of-result c =
    sound_begun c.args.frames.now c.from_vec.result c.in_ok-calls.calls.items c.new-2.result c.in_ok-search.search
    (c.from_vec.ensures ∙ c.in_ok-from_slice.ensures.items) c.in_ok-calls.ensures c.new-2.ensures c.in_ok-search.ensures c.requires.few c.requires.small
