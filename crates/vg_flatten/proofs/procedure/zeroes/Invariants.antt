use Rattle.std.proofs.Common.{◌≡◌, ◌+◌, ◌-◌, ◌++◌}
use Rattle.vg_flatten.specs.Flattened.{zero_list}
use Rattle.vg_flatten.proofs.procedure.zeroes.Given as goal

abbrev pub invariant-loop-local : goal.invariant-loop-local
invariant-loop-local l = l.code ++ zero_list (l.fn.from + l.fn.count - l.local) l.local ≡ zero_list l.fn.count l.fn.from
