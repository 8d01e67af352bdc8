use Rattle.vg_read_declarations.proofs.OtherShapes.{not_field}
use Rattle.vg_read_declarations.proofs.declarations.field_or_constructor.Goals as goal

pub returns-in-Field : goal.returns-in-Field
returns-in-Field c texts h = rw (c.in-Field.is, ← c.param_in.ensures texts h, ← c.node_in.ensures texts) (c.field.ensures texts)

pub returns-in_default : goal.returns-in_default
returns-in_default c texts h = rw (not_field _ _ _ _ _ c.in_default.not-Field) (c.constructor.ensures texts)
