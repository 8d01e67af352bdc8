use Rattle.std.proofs.Common.{sym, refl}
use Rattle.vg_read_declarations.proofs.OtherShapes.{not_declared}
use Rattle.vg_read_declarations.proofs.declarations.declared.Goals as goal

pub returns-in-Component : goal.returns-in-Component
returns-in-Component c texts = rw (c.in-Component.is, c.in_ok-body.ensures.ok) refl

pub returns-in-Device : goal.returns-in-Device
returns-in-Device c texts = rw (c.in-Device.is, c.in_ok-body.ensures.ok) refl

pub returns-in_default : goal.returns-in_default
returns-in_default c texts = rw c.in_ok-body.ensures.ok (sym (not_declared _ _ _ _ c.in_default.not-Component c.in_default.not-Device))
