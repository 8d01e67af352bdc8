use Rattle.std.proofs.Common.{◌≡◌, drop}
use Rattle.vg_core.specs.Members.{first_method}
use Rattle.vg_core.proofs.member.find_method.Given as goal

abbrev pub invariant-loop-method : goal.invariant-loop-method
invariant-loop-method l =
    (l.number ≡ l.method-index)
    × (first_method l.tables l.class l.member l.number (drop l.method-index l.tables.methods) ≡ first_method l.tables l.class l.member 0 l.tables.methods)
