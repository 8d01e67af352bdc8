use Rattle.vg_core.specs.Meaning.{call_bound, from_below}
use Rattle.vg_interp_run.specs.Run.{state, world}
use Rattle.vg_interp_run.proofs.calling.value_call.Goals as goal

pub returns-in-Err-clause-calls : goal.returns-in-Err-clause-calls
returns-in-Err-clause-calls c = λ call.
    c.exit.ensures.exits (from_below c.args.count (call_bound c.args.tables.now call c.args.at c.args.count c.args.type_) (state c.args.run.now) (world c.args.run.now))
    (c.in-Err.ensures.calls call)
