use Rattle.vg_packed_widths.proofs.Sizes.{take_bytes}
use Rattle.vg_packed_widths.proofs.laws.locals_take_bytes.Goals as goal

pub returns : goal.returns
returns c = λ bytes texts text p reads legal have are small. take_bytes bytes texts text p reads legal have are small
