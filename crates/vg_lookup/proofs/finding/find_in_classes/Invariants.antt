use Rattle.std.proofs.Common.{◌≡◌, ◌<◌, ℕ, Some, None, slice_get}
use Rattle.vg_core.specs.declared.program.Class.{Class}
use Rattle.vg_lookup.specs.Mirrors.{FindsFieldIn}
use Rattle.vg_lookup.proofs.finding.find_in_classes.Given as goal

abbrev pub invariant-loop-class : goal.invariant-loop-class
invariant-loop-class l =
    (c : ℕ) (k : Class) → c < l.class-index → slice_get l.tables.classes c ≡ Some k → FindsFieldIn l.names l.tables l.word k.fields None
