use Rattle.std.proofs.Common.{◌≡◌, ◌++◌, drop}
use Rattle.vg_pack_calls.specs.Receivers.{receivers_from}
use Rattle.vg_pack_calls.proofs.receiving.receivers.Given as goal

abbrev pub invariant-loop-index : goal.invariant-loop-index
invariant-loop-index l = l.rows ++ receivers_from l.bindable l.index (drop l.index l.methods) ≡ receivers_from l.bindable 0 l.methods
