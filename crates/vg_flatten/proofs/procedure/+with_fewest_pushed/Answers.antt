use Rattle.vg_firm.specs.Held.{procedure_of}
use Rattle.vg_flatten.proofs.Searching.{found_pushed}
use Rattle.vg_flatten.proofs.procedure.+with_fewest_pushed.Goals as goal

pub returns-then-low-high-clause-flat : goal.returns-then-low-high-clause-flat
returns-then-low-high-clause-flat t c =
    found_pushed c.args.layout.now (procedure_of c.args.procedure.now) 65535 c.args.low c.args.high c.args.best
    c.if-low-high.true c.requires.low c.requires.best
