use Rattle.std.proofs.Common.{ap, ◌∙◌}
use Rattle.std.specs.Prelude.{slice_get}
use Rattle.vg_lin_states.proofs.Narrows.{narrow_found}
use Rattle.vg_lin_states.proofs.procedure.AnyProc.instr.Goals as goal

pub returns-clause-narrow : goal.returns-clause-narrow
returns-clause-narrow c =
    narrow_found c.self.inside.code c.args.place c.instr_at.result c.self.invariant (c.instr_at.ensures.is ∙ ap (λ code. slice_get code c.args.place) c.as_slice.ensures)
