use Rattle.std.proofs.Common.{◌+◌, ◌*◌, drop}
use Rattle.vg_firm.specs.Held.{list_of}
use Rattle.vg_flatten_pushed.specs.Stacked.{stacked}
use Rattle.vg_flatten_control.proofs.Along.{Along}
use Rattle.vg_flatten_control.specs.Weights.{weight, weights}
use Rattle.vg_flatten_stacked.proofs.stack.+stacked.Given as goal

abbrev pub decreases-stacked : goal.decreases-stacked
decreases-stacked l = 8 * weight l.code.now

abbrev pub decreases-levelled : goal.decreases-levelled
decreases-levelled l = 8 * weight l.code.now + 1

abbrev pub decreases-levelled_arms : goal.decreases-levelled_arms
decreases-levelled_arms l = 8 * (weights l.all.now + weight l.last.now) + 1

abbrev pub decreases-chosen : goal.decreases-chosen
decreases-chosen l = 8 * (weight l.first.now + weight l.rest.now) + 5

abbrev pub decreases-chosen_pushed : goal.decreases-chosen_pushed
decreases-chosen_pushed l = 8 * (weight l.first.now + weight l.rest.now) + 4

abbrev pub decreases-raised_way : goal.decreases-raised_way
decreases-raised_way l = 8 * (weight l.first.now + weight l.rest.now) + 3

abbrev pub decreases-by_way : goal.decreases-by_way
decreases-by_way l = 8 * (weight l.first.now + weight l.rest.now) + 2

abbrev pub decreases-condition_of : goal.decreases-condition_of
decreases-condition_of l = 8 * weight l.code.now + 1

abbrev pub decreases-repeated : goal.decreases-repeated
decreases-repeated l = 8 * (weight l.condition.now + weight l.body.now + weight l.next.now) + 2

abbrev pub decreases-repeated_parts : goal.decreases-repeated_parts
decreases-repeated_parts l = 8 * (weight l.body.now + weight l.next.now) + 1

abbrev pub decreases-row : goal.decreases-row
decreases-row l = 8 * weights l.codes.now

abbrev pub decreases-arms : goal.decreases-arms
decreases-arms l = 8 * (weights l.all.now + weight l.last.now)

abbrev pub decreases-arm_first : goal.decreases-arm_first
decreases-arm_first l = 8 * (weight l.code.now + weights l.more.now + weight l.last.now) + 7

abbrev pub decreases-arm_more : goal.decreases-arm_more
decreases-arm_more l = 8 * (weight l.condition.now + weight l.block.now + weights l.more.now + weight l.last.now) + 6

abbrev pub decreases-code_and_arms : goal.decreases-code_and_arms
decreases-code_and_arms l = 8 * (weight l.code.now + weights l.more.now + weight l.last.now) + 1

abbrev pub decreases-arm : goal.decreases-arm
decreases-arm l = 8 * (weight l.condition.now + weight l.block.now) + 6

abbrev pub decreases-arm_or : goal.decreases-arm_or
decreases-arm_or l = 8 * (weight l.block.now + weights l.more.now + weight l.last.now) + 5

abbrev pub decreases-arm_or_pushed : goal.decreases-arm_or_pushed
decreases-arm_or_pushed l = 8 * (weight l.block.now + weights l.more.now + weight l.last.now) + 4

abbrev pub decreases-arm_raised_way : goal.decreases-arm_raised_way
decreases-arm_raised_way l = 8 * (weight l.block.now + weights l.more.now + weight l.last.now) + 3

abbrev pub decreases-arm_by_way : goal.decreases-arm_by_way
decreases-arm_by_way l = 8 * (weight l.block.now + weights l.more.now + weight l.last.now) + 2

abbrev pub decreases-arm_or_nothing : goal.decreases-arm_or_nothing
decreases-arm_or_nothing l = 8 * weight l.block.now + 5

abbrev pub decreases-arm_or_nothing_pushed : goal.decreases-arm_or_nothing_pushed
decreases-arm_or_nothing_pushed l = 8 * weight l.block.now + 4

abbrev pub decreases-nothing_raised_way : goal.decreases-nothing_raised_way
decreases-nothing_raised_way l = 8 * weight l.block.now + 3

abbrev pub decreases-nothing_by_way : goal.decreases-nothing_by_way
decreases-nothing_by_way l = 8 * weight l.block.now + 2

abbrev pub invariant-row-parts : goal.invariant-row-parts
invariant-row-parts l =
    Along l.at (stacked l.layout l.room l.most (list_of l.fn.codes) l.fn.homes)
    (stacked l.layout l.room l.most (list_of (drop l.part-index l.codes)) l.homes) l.code
