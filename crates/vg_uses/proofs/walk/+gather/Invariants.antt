use Rattle.std.proofs.Common.{◌≡◌, ◌+◌, ◌*◌, ◌++◌, drop}
use Rattle.vg_uses.specs.Walks.{all_uses, all_depth, depth_of}
use Rattle.vg_uses.proofs.walk.+gather.Given as goal

abbrev pub decreases-gather : goal.decreases-gather
decreases-gather l = 2 * depth_of l.code.now

abbrev pub decreases-gather_two : goal.decreases-gather_two
decreases-gather_two l = 2 * (depth_of l.first.now + depth_of l.rest.now) + 1

abbrev pub decreases-gather_all : goal.decreases-gather_all
decreases-gather_all l = 2 * all_depth l.codes.now

-- the steps so far, and those of the codes that are left
abbrev pub invariant-gather_all-loop-code : goal.invariant-gather_all-loop-code
invariant-gather_all-loop-code l = l.steps.items ++ all_uses (drop l.code-index l.codes) ≡ l.fn.steps.items ++ all_uses l.codes
