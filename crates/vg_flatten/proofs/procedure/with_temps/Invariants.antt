use Rattle.std.proofs.Common.{◌≡◌, ◌-◌, ◌++◌, replicate}
use Rattle.vg_flatten.proofs.procedure.with_temps.Given as goal

abbrev pub invariant-loop-temp : goal.invariant-loop-temp
invariant-loop-temp l = l.row ++ replicate (l.fn.temps - l._temp) 4 ≡ l.fn.widths ++ replicate l.fn.temps 4
