use Rattle.std.proofs.Common.{◌≡◌, ◌++◌, drop}
use Rattle.vg_pack_calls.specs.Cases.{cases_from}
use Rattle.vg_pack_calls.proofs.cases.cases.Given as goal

abbrev pub invariant-loop-class : goal.invariant-loop-class
invariant-loop-class l =
    l.row ++ cases_from l.tables l.numbers l.plan l.own l.asked l.class (drop l.class l.tables.classes)
    ≡ cases_from l.tables l.numbers l.plan l.own l.asked 0 l.tables.classes
