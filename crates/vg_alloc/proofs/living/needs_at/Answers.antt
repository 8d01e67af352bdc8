use Rattle.std.proofs.Common.{ap, ap₂, ◌∙◌, arith}
use Rattle.vg_templates.specs.Living.{mark, needs}
use Rattle.vg_alloc.proofs.living.needs_at.Goals as goal

pub returns : goal.returns
returns c =
    c.needs.ensures
    ∙ ap₂ (λ b t. needs b t c.args.local c.args.instr.now) (c.mark-behind.ensures ∙ ap (mark c.args.marks.now) (omega arith))
    (c.mark-there.ensures ∙ ap (mark c.args.marks.now) c.leads_to.ensures)
