use Rattle.std.proofs.Common.{◌≡◌, drop, length, map}
use Rattle.vg_plan_uses.specs.Sets.{procedure_in, with_all, IsSet}
use Rattle.vg_plan_uses.proofs.set.ProcedureSet.note_cases.Given as goal

abbrev pub invariant-loop-case : goal.invariant-loop-case
invariant-loop-case l =
    IsSet l.self
    × (length l.self.marks ≡ length l.fn.self.marks)
    × (with_all (length l.fn.self.marks) l.self.list (map procedure_in (drop l.case-index l.cases))
    ≡ with_all (length l.fn.self.marks) l.fn.self.list (map procedure_in l.cases))
