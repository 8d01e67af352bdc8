use Rattle.std.proofs.Common.{◌≡◌, ◌++◌, map, take}
use Rattle.vg_core.specs.declared.program.Target.TheVariants.{Run}
use Rattle.vg_types_homes.proofs.homes.run_all.Given as goal

abbrev pub invariant-methods : goal.invariant-methods
invariant-methods l = l.targets ≡ l.fn.targets ++ map Run (take l.method-index l.methods)
