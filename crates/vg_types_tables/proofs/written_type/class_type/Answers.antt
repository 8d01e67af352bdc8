use Rattle.std.proofs.Common.{ap, sym}
use Rattle.vg_source.specs.Types as source
use Rattle.vg_types_tables.proofs.written_type.class_type.Goals as goal

pub returns-in-Some : goal.returns-in-Some
returns-in-Some c =
    let named = c.requires.declares.class_names c.args.name.now c.in-Some.class (sym c.in-Some.ensures) in
    (ap source.ClassType named.1, named.0)
