use Rattle.vg_arith.proofs.Keeping.{divide_sound_as}
use Rattle.vg_arith.proofs.division.division_routine.Goals as goal

pub new-requires : goal.new-requires
new-requires c = divide_sound_as c.in_ok-widths.widths c.in_ok-code.code c.in_ok-widths.ensures c.in_ok-code.ensures
