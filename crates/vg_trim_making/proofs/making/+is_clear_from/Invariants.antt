use Rattle.vg_trim_making.proofs.making.+is_clear_from.Given as goal

abbrev pub decreases-is_clear_from : goal.decreases-is_clear_from
decreases-is_clear_from l = l.steps
