use Rattle.std.proofs.Common.{◌≡◌, ◌<◌, ℕ, Some, false, slice_get}
use Rattle.vg_core.specs.declared.program.Target.TheVariants.{Run}
use Rattle.vg_lookup.specs.Mirrors.{method_has}
use Rattle.vg_lookup.proofs.finding.find_method.Given as goal

abbrev pub invariant-loop-target : goal.invariant-loop-target
invariant-loop-target l =
    (i m : ℕ) → i < l.target-index → slice_get l.tables.targets i ≡ Some (Run m) → method_has l.names l.tables l.word (slice_get l.tables.methods m) ≡ false
