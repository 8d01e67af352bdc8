use Rattle.std.proofs.Common.{◌≡◌, drop}
use Rattle.vg_core.specs.Members.{first_field}
use Rattle.vg_core.proofs.member.find_field.Given as goal

abbrev pub invariant-loop-field : goal.invariant-loop-field
invariant-loop-field l =
    (l.number ≡ l.field-index)
    × (first_field l.tables l.class l.member l.number (drop l.field-index l.tables.fields) ≡ first_field l.tables l.class l.member 0 l.tables.fields)
