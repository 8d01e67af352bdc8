use Rattle.std.proofs.Common.{◌≡◌, ◌++◌, drop, map}
use Rattle.vg_pack_calls.specs.Cases.{cases_of}
use Rattle.vg_pack_calls.proofs.cases.dispatches.Given as goal

abbrev pub invariant-loop-asked : goal.invariant-loop-asked
invariant-loop-asked l =
    l.rows ++ map (cases_of l.tables l.numbers l.plan l.own) (drop l.asked-index l.plan.asked) ≡ map (cases_of l.tables l.numbers l.plan l.own) l.plan.asked
