use Rattle.std.proofs.Common.{◌≡◌, ◌++◌, drop}
use Rattle.vg_core.specs.Meaning.{defaults}
use Rattle.vg_shape.proofs.store.defaults_of.Given as goal

abbrev pub invariant-loop-field : goal.invariant-loop-field
invariant-loop-field l = l.values.items ++ defaults l.tables (drop l.field-index l.fields) ≡ defaults l.tables l.fields
