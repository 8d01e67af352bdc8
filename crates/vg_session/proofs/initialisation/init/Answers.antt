use Rattle.vg_core.specs.HeldProgram.{program_at}
use Rattle.vg_session.proofs.Ending.{heap_given, heap_typed, fault_can, fault_given}
use Rattle.vg_session.proofs.initialisation.init.Goals as goal

pub refusal_of-requires : goal.refusal_of-requires
refusal_of-requires c = fault_can (program_at c.args.program.now) c.requires c.args.steps c.in-Err.why c.in-Err.ensures

pub returns-in-Ok-clause-gives : goal.returns-in-Ok-clause-gives
returns-in-Ok-clause-gives c = heap_given (program_at c.args.program.now) c.requires c.args.steps c.in-Ok.store c.in-Ok.ensures

pub returns-in-Ok-clause-typed : goal.returns-in-Ok-clause-typed
returns-in-Ok-clause-typed c = heap_typed (program_at c.args.program.now) c.requires c.args.steps c.in-Ok.store c.in-Ok.ensures

pub returns-in-Err-clause-gives : goal.returns-in-Err-clause-gives
returns-in-Err-clause-gives c =
    fault_given (program_at c.args.program.now) c.requires c.args.steps c.in-Err.why c.refusal_of.result c.in-Err.ensures c.refusal_of.ensures
