use Rattle.std.proofs.Common.{◌≡◌, ◌+◌, drop}
use Rattle.vg_firm.specs.Held.{list_of}
use Rattle.vg_flatten_control.specs.Weights.{weight, weights}
use Rattle.vg_flatten_pushed.specs.Stacked.{is_calm}
use Rattle.vg_flatten_stacked.proofs.calm.+calm.Given as goal

abbrev pub decreases-is_calm : goal.decreases-is_calm
decreases-is_calm l = weight l.code.now

abbrev pub decreases-row_is_calm : goal.decreases-row_is_calm
decreases-row_is_calm l = weights l.codes.now

abbrev pub decreases-arms_are_calm : goal.decreases-arms_are_calm
decreases-arms_are_calm l = weights l.all.now + weight l.last.now

abbrev pub invariant-row_is_calm-parts : goal.invariant-row_is_calm-parts
invariant-row_is_calm-parts l = is_calm (list_of (drop l.part-index l.codes)) ≡ is_calm (list_of l.fn.codes)
