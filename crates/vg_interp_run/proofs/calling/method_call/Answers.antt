use Rattle.vg_core.specs.Meaning as meaning
use Rattle.vg_interp_run.specs.Run.{state, world}
use Rattle.vg_interp_run.proofs.calling.method_call.Goals as goal

pub returns-in-Err-clause-calls : goal.returns-in-Err-clause-calls
returns-in-Err-clause-calls c = λ call.
    c.exit.ensures.exits (meaning.call_method c.args.tables.now call c.args.at c.args.class c.args.selector c.args.count (state c.args.run.now) (world c.args.run.now))
    (c.in-Err.ensures.calls call)
