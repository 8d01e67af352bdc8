use Rattle.std.proofs.Common.{sym, ◌∙◌}
use Rattle.vg_lin_states.proofs.Fetching.{fetch_there, fetch_nowhere}
use Rattle.vg_lin_states.proofs.program.LinProgram.instr.Goals as goal

pub returns-in-Some-clause-is : goal.returns-in-Some-clause-is
returns-in-Some-clause-is c =
    c.instr.ensures.is ∙ fetch_there c.args.self.now.procedures c.args.procedure c.args.place c.in-Some.found.now (sym c.in-Some.ensures)

pub returns-in-None-clause-is : goal.returns-in-None-clause-is
returns-in-None-clause-is c = fetch_nowhere c.args.self.now.procedures c.args.procedure c.args.place (sym c.in-None.ensures)
