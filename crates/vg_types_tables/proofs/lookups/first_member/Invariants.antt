use Rattle.std.proofs.Common.{◌≡◌, drop}
use Rattle.vg_types_tables.specs.Declares.{member_of}
use Rattle.vg_types_tables.proofs.lookups.first_member.Given as goal

abbrev pub invariant-loop-class : goal.invariant-loop-class
invariant-loop-class l = member_of l.declared (drop l.class-index l.chain) l.text ≡ member_of l.declared l.chain l.text
