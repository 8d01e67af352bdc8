use Rattle.std.proofs.Common.{◌≡◌, ◌++◌, drop}
use Rattle.vg_types_hierarchy.specs.Inherited.{methods_on}
use Rattle.vg_types_hierarchy.proofs.inherited.methods_on.Given as goal

abbrev pub invariant-chain : goal.invariant-chain
invariant-chain l = l.row ++ methods_on l.own (drop l.class-index l.chain) ≡ methods_on l.own l.chain
