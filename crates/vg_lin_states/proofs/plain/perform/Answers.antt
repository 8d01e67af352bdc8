use Rattle.vg_lin_states.specs.Programs.{program_of}
use Rattle.vg_lin_states.proofs.plain.perform.Goals as goal

pub returns-in-Copy : goal.returns-in-Copy
returns-in-Copy c = rw c.in-Copy.is (c.copy.ensures (program_of c.args.program.now) c.args.environment.now)

pub returns-in-Compute : goal.returns-in-Compute
returns-in-Compute c = rw c.in-Compute.is (c.compute.ensures (program_of c.args.program.now) c.args.environment.now)

pub returns-in-Product : goal.returns-in-Product
returns-in-Product c = rw c.in-Product.is (c.multiply.ensures (program_of c.args.program.now) c.args.environment.now)

pub returns-in-DivideSteps : goal.returns-in-DivideSteps
returns-in-DivideSteps c = rw c.in-DivideSteps.is (c.divide.ensures (program_of c.args.program.now) c.args.environment.now)

pub returns-in-Store : goal.returns-in-Store
returns-in-Store c = rw c.in-Store.is (c.store.ensures (program_of c.args.program.now) c.args.environment.now)

pub returns-in-Pop : goal.returns-in-Pop
returns-in-Pop c = rw c.in-Pop.is (c.pop.ensures (program_of c.args.program.now) c.args.environment.now)

pub returns-in-ReadDevice : goal.returns-in-ReadDevice
returns-in-ReadDevice c = rw c.in-ReadDevice.is (c.read_device.ensures (program_of c.args.program.now))

pub returns-in-WriteDevice : goal.returns-in-WriteDevice
returns-in-WriteDevice c = rw c.in-WriteDevice.is (c.write_device.ensures (program_of c.args.program.now))

pub returns-in-Push : goal.returns-in-Push
returns-in-Push c = rw c.in-Push.is (c.push.ensures (program_of c.args.program.now) c.args.environment.now)
