use Rattle.std.proofs.Common.{ℕ, ◌+◌, ◌*◌, drop}
use Rattle.vg_firm.specs.Held.{list_of}
use Rattle.vg_flatten_control.specs.Flat.{flat}
use Rattle.vg_flatten_control.proofs.Along.{Along}
use Rattle.vg_flatten_control.specs.Weights.{weight, weights}
use Rattle.vg_flatten_control.proofs.flat.+flat.Given as goal

abbrev pub decreases-flat : goal.decreases-flat
decreases-flat l = 4 * weight l.code.now

abbrev pub decreases-landed : goal.decreases-landed
decreases-landed l = 4 * weight l.code.now + 1

abbrev pub decreases-chosen : goal.decreases-chosen
decreases-chosen l = 4 * (weight l.first.now + weight l.rest.now) + 2

abbrev pub decreases-repeated : goal.decreases-repeated
decreases-repeated l = 4 * (weight l.condition.now + weight l.body.now + weight l.next.now) + 1

abbrev pub decreases-row : goal.decreases-row
decreases-row l = 4 * weights l.codes.now

abbrev pub decreases-arms : goal.decreases-arms
decreases-arms l = 4 * (weights l.all.now + weight l.last.now)

abbrev pub decreases-arm_or : goal.decreases-arm_or
decreases-arm_or l = 4 * (weight l.block.now + weights l.more.now + weight l.last.now) + 2

abbrev pub decreases-arm : goal.decreases-arm
decreases-arm l = 4 * (weight l.condition.now + weight l.block.now) + 3

abbrev pub decreases-arm_or_nothing : goal.decreases-arm_or_nothing
decreases-arm_or_nothing l = 4 * weight l.block.now + 2

abbrev pub decreases-arm_first : goal.decreases-arm_first
decreases-arm_first l = 4 * (weight l.code.now + weights l.more.now + weight l.last.now) + 2

abbrev pub decreases-arm_more : goal.decreases-arm_more
decreases-arm_more l = 4 * (weight l.condition.now + weight l.block.now + weights l.more.now + weight l.last.now) + 3

abbrev pub decreases-landed_arms : goal.decreases-landed_arms
decreases-landed_arms l = 4 * (weights l.all.now + weight l.last.now) + 1

abbrev pub decreases-code_and_arms : goal.decreases-code_and_arms
decreases-code_and_arms l = 4 * (weight l.code.now + weights l.more.now + weight l.last.now) + 1

abbrev pub decreases-repeated_parts : goal.decreases-repeated_parts
decreases-repeated_parts l = 4 * (weight l.body.now + weight l.next.now) + 1

abbrev pub invariant-row-parts : goal.invariant-row-parts
invariant-row-parts l =
    Along l.at (flat l.layout l.room (list_of l.fn.codes) l.fn.homes) (flat l.layout l.room (list_of (drop l.part-index l.codes)) l.homes) l.code
