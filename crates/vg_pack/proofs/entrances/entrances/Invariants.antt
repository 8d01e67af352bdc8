use Rattle.std.proofs.Common.{◌≡◌, ◌++◌, drop, map}
use Rattle.vg_pack.specs.Entrances.{entrance}
use Rattle.vg_pack.proofs.entrances.entrances.Given as goal

abbrev pub invariant-loop-handler : goal.invariant-loop-handler
invariant-loop-handler l = l.row ++ map (entrance l.plan) (drop l.handler-index l.handlers) ≡ map (entrance l.plan) l.handlers
