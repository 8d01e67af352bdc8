use Rattle.std.proofs.Common.{◌≡◌, []}
use Rattle.vg_bound.specs.Searching.{IsSearching}
use Rattle.vg_bound.proofs.Roots.{SoFar}
use Rattle.vg_bound.proofs.graph.largest.Given as goal

abbrev pub invariant-loop-root : goal.invariant-loop-root
invariant-loop-root l = IsSearching l.frames l.calls l.search × (l.search.stack ≡ []) × SoFar l.frames l.calls l.roots l.root-index l.most
