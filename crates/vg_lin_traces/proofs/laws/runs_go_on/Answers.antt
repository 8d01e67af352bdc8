use Rattle.vg_lin_traces.proofs.Growing.{in_parts, run_extends, ended_stays}
use Rattle.vg_lin_traces.proofs.laws.runs_go_on.Goals as goal

pub returns-clause-parts : goal.returns-clause-parts
returns-clause-parts c = in_parts

pub returns-clause-grows : goal.returns-clause-grows
returns-clause-grows c = run_extends

pub returns-clause-ended : goal.returns-clause-ended
returns-clause-ended c = ended_stays
