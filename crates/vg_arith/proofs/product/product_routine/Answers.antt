use Rattle.vg_arith.proofs.Keeping.{mul_sound_as}
use Rattle.vg_arith.proofs.product.product_routine.Goals as goal

pub new-requires : goal.new-requires
new-requires c = mul_sound_as c.in_ok-widths.widths c.in_ok-code.code c.in_ok-widths.ensures c.in_ok-code.ensures
