use Rattle.std.proofs.Common.{◌≡◌, ◌-◌, ◌++◌, Some}
use Rattle.vg_types_chains.specs.Chains.{chain_up}
use Rattle.vg_types_chains.proofs.walk.chain.Given as goal

abbrev pub invariant-up : goal.invariant-up
invariant-up l = l.row ++ chain_up (l.most - l._step) l.above l.next ≡ chain_up l.most l.above (Some l.fn.class)
