use Rattle.std.proofs.Common.{◌≡◌, ◌≤◌, ◌++◌, drop}
use Rattle.vg_pack_calls.specs.Procedures.{procedures_from}
use Rattle.vg_pack_calls.proofs.numbering.procedure_numbers.Given as goal

abbrev pub invariant-loop-reason : goal.invariant-loop-reason
invariant-loop-reason l =
    (l.rows ++ procedures_from l.next (drop l.reason-index l.live) ≡ procedures_from 0 l.live) × (l.next ≤ l.reason-index)
