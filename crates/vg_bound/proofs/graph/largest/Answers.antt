use Rattle.std.proofs.Common.{◌+◌, max, sym, subst}
use Rattle.std.proofs.lemmas.Option.{slice_get-get_or}
use Rattle.vg_bound.proofs.Roots.{SoFar, so_far_more, largest_is, no_cycle_is}
use Rattle.vg_bound.proofs.graph.largest.Goals as goal

pub loop-root-preserved : goal.loop-root-preserved
loop-root-preserved c =
    let found = c.in-Cost.ensures.found in
    let at = slice_get-get_or c.args.roots.now c.loop-root.root-index _ c.loop-root-test.true in
    let more = so_far_more c.args.frames.now c.args.calls.now c.args.roots.now c.loop-root.root-index c.loop-root.most c.in-Cost.cost _ at found.1
    c.loop-root.invariant.2 in (
      c.search_from.ensures.searching,
      found.0,
      subst (SoFar c.args.frames.now c.args.calls.now c.args.roots.now (c.loop-root.root-index + 1)) (sym c.max-most.ensures)
          (subst (λ z. SoFar c.args.frames.now c.args.calls.now c.args.roots.now (c.loop-root.root-index + 1) (max c.loop-root.most (z + c.in-Cost.cost)))
          (sym c.from.ensures) more),
    )

pub returns-clause-outcome : goal.returns-clause-outcome
returns-clause-outcome c = (
  largest_is c.args.frames.now c.args.calls.now c.args.roots.now c.loop-root.search c.loop-root.root-index c.loop-root.most c.loop-root-test.false
      c.loop-root.invariant.2,
  no_cycle_is c.args.frames.now c.args.calls.now c.args.roots.now c.loop-root.search c.loop-root.root-index c.loop-root.most c.loop-root-test.false
      c.loop-root.invariant.2,
  c.loop-root.invariant.1,
)
