use Rattle.std.proofs.Common.{subst}
use Rattle.vg_core.specs.HeldProgram.{program_at}
use Rattle.vg_lookup.specs.Lookup.{Finds}
use Rattle.vg_lookup.proofs.Found.{found}
use Rattle.vg_lookup.proofs.finding.find_member.Goals as goal

pub returns : goal.returns
returns c = λ tell good. subst (λ w. Finds c.args.names.now (program_at c.args.program.now) w c.find_any.result) c.as_bytes.ensures.value
    (found c.args.names.now (program_at c.args.program.now) c.as_bytes.result.now tell good _ c.find_any.ensures)
