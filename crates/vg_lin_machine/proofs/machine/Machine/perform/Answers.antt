use Rattle.vg_lin_states.specs.Programs.{program_of}
use Rattle.vg_lin_machine.proofs.machine.Machine.perform.Goals as goal

pub returns-in-When : goal.returns-in-When
returns-in-When c = rw c.in-When.is (c.branch-self.ensures (program_of c.args.program.now))

pub returns-in-Unless : goal.returns-in-Unless
returns-in-Unless c = rw c.in-Unless.is (c.branch-self-in-Unless.ensures (program_of c.args.program.now))

pub returns-in-Return : goal.returns-in-Return
returns-in-Return c = rw c.in-Return.is (c.give_back.ensures (program_of c.args.program.now))
