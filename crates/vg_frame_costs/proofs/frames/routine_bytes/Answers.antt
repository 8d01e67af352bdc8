use Rattle.std.proofs.Common.{◌≤◌, arith}
use Rattle.vg_frame_costs.specs.Fitting.{IsRoutineWithin}
use Rattle.vg_frame_costs.specs.Payable.{IsRoutineShort}
use Rattle.vg_frame_costs.proofs.Grown.{left_at, none_and, one_of, routine_raised, some_and, some_is}
use Rattle.vg_frame_costs.proofs.frames.routine_bytes.Goals as goal

pub returns-in-None-clause-there : goal.returns-in-None-clause-there
returns-in-None-clause-there c = λ above small all.
    let routine = one_of (IsRoutineShort above) c.args.routines.now c.loop-routine.routine-index c.routine-item.result c.loop-routine-test.true
    c.routine-item.is all in
    none_and (λ b. b ≤ above) _ c.in-None.is (c.in_ok-bytes.ensures.there above small routine)

pub loop-routine-preserved : goal.loop-routine-preserved
loop-routine-preserved c =
    let larger = c.larger-most.ensures in (
      λ above le rest.
          let routine = some_is (λ a. IsRoutineWithin a c.routine-item.result) _ c.in-Some.bytes c.in-Some.is c.in_ok-bytes.ensures.within in
          c.loop-routine.invariant.0 above (omega (arith, larger, le))
          (left_at (IsRoutineWithin above) c.args.routines.now c.loop-routine.routine-index c.routine-item.result c.loop-routine-test.true c.routine-item.is
          (routine_raised c.in-Some.bytes above c.routine-item.result (omega (arith, larger, le)) routine) rest),
      λ above small all.
          let before = c.loop-routine.invariant.1 above small all in
          let routine = one_of (IsRoutineShort above) c.args.routines.now c.loop-routine.routine-index c.routine-item.result c.loop-routine-test.true
          c.routine-item.is all in
          let one = some_and (λ b. b ≤ above) _ c.in-Some.bytes c.in-Some.is (c.in_ok-bytes.ensures.there above small routine) in
          omega (arith, larger, before, one),
    )
