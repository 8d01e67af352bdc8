use Rattle.std.proofs.Common.{sym}
use Rattle.vg_types_classes.specs.Classes.{declarations_in}
use Rattle.vg_types_classes.proofs.Asking.{other_keeps}
use Rattle.vg_types_classes.proofs.extends.class_keeps.Goals as goal

pub returns-in-None : goal.returns-in-None
returns-in-None c =
    other_keeps (declarations_in c.args.names.now c.args.nodes.now) c.args.names.now c.args.declaration.now (sym c.in-None.ensures.some)
