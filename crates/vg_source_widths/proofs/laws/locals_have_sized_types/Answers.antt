use Rattle.vg_source_widths.proofs.Methods.{locals_sized}
use Rattle.vg_source_widths.proofs.laws.locals_have_sized_types.Goals as goal

pub returns : goal.returns
returns c = λ text legal have w m ts e. locals_sized text legal have w m ts e
