use Rattle.std.proofs.Common.{◌≡◌, ◌++◌, drop}
use Rattle.vg_place.proofs.placing.append.Given as goal

abbrev pub invariant-loop-column : goal.invariant-loop-column
invariant-loop-column l = l.rows ++ drop l.column-index l.more ≡ l.fn.rows ++ l.more
