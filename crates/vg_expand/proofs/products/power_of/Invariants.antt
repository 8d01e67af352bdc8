use Rattle.std.proofs.Common.{◌≡◌, ◌≤◌, ◌-◌, ◌^◌}
use Rattle.vg_expand.specs.Code.{power_from}
use Rattle.vg_expand.proofs.products.power_of.Given as goal

abbrev pub invariant-loop-n : goal.invariant-loop-n
invariant-loop-n l = (l.power ≡ 2 ^ l.n) × (l.n ≤ 32) × (power_from (32 - l.n) l.n l.k ≡ power_from 32 0 l.k)
