use Rattle.std.proofs.Common.{◌≡◌, ◌+◌, ◌-◌, ◌*◌, drop}
use Rattle.vg_meaning.specs.History.{depth_alone}
use Rattle.vg_meaning.specs.Loops.{turns, where_holds}
use Rattle.vg_core.specs.HeldProgram.{code_of, code_chain, code_row, program_at}
use Rattle.vg_core.specs.Meaning.{truth}
use Rattle.vg_interp_run.specs.Run.{state, world}
use Rattle.vg_interp.specs.Running.{does, Shows}
use Rattle.vg_interp.specs.Weights.{arms_list, weight, weights, whole}
use Rattle.vg_interp.proofs.execution.+exec.Given as goal

abbrev pub decreases-exec : goal.decreases-exec
decreases-exec g l = l.most * whole l.program.now + 8 * weight l.code.now + 2

abbrev pub decreases-row : goal.decreases-row
decreases-row g l = l.most * whole l.program.now + 8 * weights l.codes.now

abbrev pub decreases-chain : goal.decreases-chain
decreases-chain g l = l.most * whole l.program.now + 8 * weights l.codes.now

abbrev pub decreases-part : goal.decreases-part
decreases-part g l = l.most * whole l.program.now + 8 * weight l.code.now + 3

abbrev pub decreases-arms : goal.decreases-arms
decreases-arms g l = l.most * whole l.program.now + 8 * (weights l.all.now + weight l.last.now) + 2

abbrev pub decreases-fails : goal.decreases-fails
decreases-fails g l = l.most * whole l.program.now + 8 * weight l.code.now + 3

abbrev pub decreases-arm_fails : goal.decreases-arm_fails
decreases-arm_fails g l = l.most * whole l.program.now + 8 * (weight l.condition.now + weight l.block.now) + 3

abbrev pub decreases-arm : goal.decreases-arm
decreases-arm g l = l.most * whole l.program.now + 8 * (weight l.condition.now + weight l.block.now) + 4

abbrev pub decreases-repeat : goal.decreases-repeat
decreases-repeat g l = l.most * whole l.program.now + 8 * (weight l.condition.now + weight l.body.now + weight l.next.now) + 5

abbrev pub decreases-holds : goal.decreases-holds
decreases-holds g l = l.most * whole l.program.now + 8 * weight l.condition.now + 3

abbrev pub decreases-turn : goal.decreases-turn
decreases-turn g l = l.most * whole l.program.now + 8 * (weight l.body.now + weight l.next.now) + 4

abbrev pub decreases-onward : goal.decreases-onward
decreases-onward g l = l.most * whole l.program.now + 8 * weight l.next.now + 3

abbrev pub decreases-perform : goal.decreases-perform
decreases-perform g l = l.most * whole l.program.now + 9

abbrev pub decreases-perform_call : goal.decreases-perform_call
decreases-perform_call g l = l.most * whole l.program.now + 8

abbrev pub decreases-construct : goal.decreases-construct
decreases-construct g l = l.most * whole l.program.now + 7

abbrev pub decreases-build : goal.decreases-build
decreases-build g l = l.most * whole l.program.now + 6

abbrev pub decreases-construct_above : goal.decreases-construct_above
decreases-construct_above g l = l.most * whole l.program.now + 6

abbrev pub decreases-call_target : goal.decreases-call_target
decreases-call_target g l = l.most * whole l.program.now + 5

abbrev pub decreases-find : goal.decreases-find
decreases-find g l = l.most * whole l.program.now + 4

abbrev pub decreases-find_method : goal.decreases-find_method
decreases-find_method g l = l.most * whole l.program.now + 3

abbrev pub decreases-find_making : goal.decreases-find_making
decreases-find_making g l = l.most * whole l.program.now + 3

abbrev pub decreases-find_start : goal.decreases-find_start
decreases-find_start g l = l.most * whole l.program.now + 3

abbrev pub decreases-open : goal.decreases-open
decreases-open g l = l.most * whole l.program.now + 2

abbrev pub decreases-run_body : goal.decreases-run_body
decreases-run_body g l = l.most * whole l.program.now + 1

abbrev pub decreases-value_of : goal.decreases-value_of
decreases-value_of g l = l.most * whole l.program.now

-- the codes that are left do what all do
abbrev pub invariant-row-loop-code : goal.invariant-row-loop-code
invariant-row-loop-code g l =
    let p = program_at l.program in
    (does p l.most (code_row l.codes) (state l.fn.play.run) (world l.fn.play.run) ≡ does p l.most (code_row (drop l.code-index l.codes)) (state l.play.run) (world l.play.run))
    × (l.play.run.frames.below ≡ l.fn.play.run.frames.below)
    × Shows (g.O.Sink.told l.fn.out) (g.O.Sink.faults l.fn.out) l.fn.play (g.O.Sink.told l.out) (g.O.Sink.faults l.out) l.play
    (does p l.most (code_row l.codes) (state l.fn.play.run) (world l.fn.play.run))

abbrev pub invariant-chain-loop-code : goal.invariant-chain-loop-code
invariant-chain-loop-code g l =
    let p = program_at l.program in
    (does p l.most (code_chain l.codes) (state l.fn.play.run) (world l.fn.play.run) ≡ does p l.most (code_chain (drop l.code-index l.codes)) (state l.play.run) (world l.play.run))
    × (l.play.run.frames.below ≡ l.fn.play.run.frames.below)
    × Shows (g.O.Sink.told l.fn.out) (g.O.Sink.faults l.fn.out) l.fn.play (g.O.Sink.told l.out) (g.O.Sink.faults l.out) l.play
    (does p l.most (code_chain l.codes) (state l.fn.play.run) (world l.fn.play.run))

abbrev pub invariant-arms-loop-code : goal.invariant-arms-loop-code
invariant-arms-loop-code g l =
    let p = program_at l.program in
    (does p l.most (arms_list l.all (code_of l.last)) (state l.fn.play.run) (world l.fn.play.run)
    ≡ does p l.most (arms_list (drop l.code-index l.all) (code_of l.last)) (state l.play.run) (world l.play.run))
    × (l.play.run.frames.below ≡ l.fn.play.run.frames.below)
    × Shows (g.O.Sink.told l.fn.out) (g.O.Sink.faults l.fn.out) l.fn.play (g.O.Sink.told l.out) (g.O.Sink.faults l.out) l.play
    (does p l.most (arms_list l.all (code_of l.last)) (state l.fn.play.run) (world l.fn.play.run))

-- the turns that are left do what all do
abbrev pub invariant-repeat-loop-turn : goal.invariant-repeat-loop-turn
invariant-repeat-loop-turn g l =
    let p = program_at l.program in
    let test = where_holds (does p l.most (code_of l.condition)) truth in
    let body = does p l.most (code_of l.body) in
    let next = does p l.most (code_of l.next) in
    (turns depth_alone l.all test body next (state l.fn.play.run) (world l.fn.play.run) ≡ turns depth_alone (l.all - l._turn) test body next (state l.play.run) (world l.play.run))
    × (l.play.run.frames.below ≡ l.fn.play.run.frames.below)
    × Shows (g.O.Sink.told l.fn.out) (g.O.Sink.faults l.fn.out) l.fn.play (g.O.Sink.told l.out) (g.O.Sink.faults l.out) l.play
    (turns depth_alone l.all test body next (state l.fn.play.run) (world l.fn.play.run))
