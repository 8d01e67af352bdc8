use Rattle.std.proofs.Common.{◌≡◌, drop}
use Rattle.vg_core.specs.Tables.{is_in}
use Rattle.vg_types_tables.proofs.lookups.is_among.Given as goal

abbrev pub invariant-loop-class : goal.invariant-loop-class
invariant-loop-class l = is_in (drop l.class-index l.classes) l.other ≡ is_in l.classes l.other
