use Rattle.std.proofs.Common.{◌≡◌, ◌++◌, drop}
use Rattle.vg_flatten_shapes.specs.Blocks.{call_code}
use Rattle.vg_flatten_steps.proofs.calls.call_behind.Given as goal

abbrev pub invariant-loop-arg : goal.invariant-loop-arg
invariant-loop-arg l = l.code ++ call_code (drop l.arg-index l.pushed) l.call ≡ l.fn.code ++ call_code l.pushed l.call
