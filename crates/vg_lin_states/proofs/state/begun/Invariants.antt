use Rattle.std.proofs.Common.{◌≡◌, ◌++◌, drop}
use Rattle.vg_lin.specs.Meaning.{begun, values_of}
use Rattle.vg_lin_states.proofs.state.begun.Given as goal

abbrev pub invariant-loop-place : goal.invariant-loop-place
invariant-loop-place l = l.locals.items ++ begun (drop l.place l.widths) (values_of (drop l.place l.arguments)) ≡ begun l.widths (values_of l.arguments)
