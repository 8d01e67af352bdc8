use Rattle.std.proofs.Common.{length}
use Rattle.vg_firm.specs.Held.{procedure_of}
use Rattle.vg_flatten.specs.Flattened.{temps_for}
use Rattle.vg_flatten.proofs.Searching.{found}
use Rattle.vg_flatten.proofs.procedure.+with_fewest.Goals as goal

pub returns-then-low-high-clause-flat : goal.returns-then-low-high-clause-flat
returns-then-low-high-clause-flat t c =
    found c.args.layout.now (procedure_of c.args.procedure.now) (temps_for (length c.args.own.now)) c.args.low c.args.high c.args.best
    c.if-low-high.true c.requires.low c.requires.best
