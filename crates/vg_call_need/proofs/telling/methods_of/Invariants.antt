use Rattle.std.specs.Prelude.{◌≡◌, ◌++◌, drop, map}
use Rattle.vg_calls_packed.specs.Ways.{method_at}
use Rattle.vg_call_need.proofs.telling.methods_of.Given as goal

abbrev pub invariant-loop-place : goal.invariant-loop-place
invariant-loop-place l = l.methods ++ map (method_at l.all) (drop l.place-index l.procedures) ≡ map (method_at l.all) l.procedures
