use Rattle.std.proofs.Common.{Err, ap, inl, inr, refl, ◌∙◌, arith}
use Rattle.vg_base.specs.declared.refusal.Refusal.TheVariants as refusal
use Rattle.vg_build.proofs.flash.compiled.Goals as goal

pub returns-in-Err-Fault-StackFull : goal.returns-in-Err-Fault-StackFull
returns-in-Err-Fault-StackFull c =
    let same = ap Err (c.in-Err-Fault-StackFull.field-0-is ∙ ap refusal.Fault c.in-Err-Fault-StackFull.field-0-0-is) in
    let deep = c.in-Err-Fault-StackFull.ensures.deep c.in-Err-Fault-StackFull.need same in
    let from = c.from.ensures in
    (from, omega (arith, deep, from), c.in-Err-Fault-StackFull.ensures.calls c.in-Err-Fault-StackFull.need same)

pub returns-in-Err-Fault-NotLinear : goal.returns-in-Err-Fault-NotLinear
returns-in-Err-Fault-NotLinear c = (
  refl,
  inl (c.in-Err-Fault-NotLinear.ensures.linear (ap Err (c.in-Err-Fault-NotLinear.field-0-is ∙ ap refusal.Fault c.in-Err-Fault-NotLinear.field-0-0-is))),
)

pub returns-in-Err-Fault-NotBuilt : goal.returns-in-Err-Fault-NotBuilt
returns-in-Err-Fault-NotBuilt c = (
  refl,
  inr (c.in-Err-Fault-NotBuilt.ensures.built (ap Err (c.in-Err-Fault-NotBuilt.field-0-is ∙ ap refusal.Fault c.in-Err-Fault-NotBuilt.field-0-0-is))),
)
