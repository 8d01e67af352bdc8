use Rattle.std.proofs.Common.{drop}
use Rattle.vg_reader.proofs.Building.{Built}
use Rattle.vg_reader.proofs.builder.build.Given as goal

abbrev pub invariant-loop-step : goal.invariant-loop-step
invariant-loop-step l = Built l.bytes l.step-items l.tokens l.fn.names (drop l.step-index l.step-items) l.at l.values.items l.names
