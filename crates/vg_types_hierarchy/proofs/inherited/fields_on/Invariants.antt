use Rattle.std.proofs.Common.{◌≡◌, drop}
use Rattle.vg_types_hierarchy.specs.Inherited.{fields_on}
use Rattle.vg_types_hierarchy.proofs.inherited.fields_on.Given as goal

abbrev pub invariant-chain : goal.invariant-chain
invariant-chain l = l.row ≡ fields_on l.own (drop l.index l.chain)
