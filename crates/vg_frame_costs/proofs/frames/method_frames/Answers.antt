use Rattle.std.proofs.Common.{◌≡◌, ◌+◌, ◌≤◌, sym, subst, ◌∙◌, arith, true, false, drop, slice_get}
use Rattle.std.specs.List.{AllByRecursion}
use Rattle.vg_frame_costs.specs.Fitting.{IsRoutineWithin, IsStartIn, IsStartWithin}
use Rattle.vg_frame_costs.proofs.Grown.{none_and, some_and, some_is}
use Rattle.vg_frame_costs.proofs.Paid.{above_small, has_paid, holds_all, nothing_noted, routines_short, start_in}
use Rattle.vg_frame_costs.proofs.frames.method_frames.Goals as goal

pub returns-in-None-2-clause-paid : goal.returns-in-None-2-clause-paid
returns-in-None-2-clause-paid c = λ costs each can.
    let small = above_small c.args.procedures.now c.args.start costs can in
    none_and (λ b. b ≤ can.above) _ c.in-None-2.is
    (c.in_ok-routines.ensures.there can.above (omega (arith, small)) (routines_short c.args.procedures.now c.args.start costs can))

pub returns-then-not-branch-clause-paid : goal.returns-then-not-branch-clause-paid
returns-then-not-branch-clause-paid c = λ costs each can.
    let none = nothing_noted c.args.procedures.now c.args.start c.args.methods costs c.in_ok-frames.frames.items can each c.in_ok-frames.ensures in
    let noted = (c.in_ok-note_before.ensures.paid can.above costs none can.methods).0 in
    let missing = c.if-not-branch.true in let clash : true ≡ false = sym noted ∙ missing in cc

pub returns-clause-within : goal.returns-clause-within
returns-clause-within c =
    let few = some_is (λ b. b ≤ 6) _ c.in-Some.below c.in-Some.is c.in_ok-below.ensures.few in
    let first = some_is (λ b. IsStartWithin c.args.start b c.index-procedures-at.result) _ c.in-Some.below c.in-Some.is c.in_ok-below.ensures.start in
    let inside = c.if-at-procedures.false in
    holds_all c.args.procedures.now c.args.start c.frames_with.result c.note_before.new.frames.items c.in-Some.below c.in-Some-2.routines
    c.frames_with.ensures.frames (c.in_ok-note_before.ensures.within c.if-not-branch.false)
    (subst (λ n. IsStartIn c.args.start c.in-Some.below (slice_get c.args.procedures.now n)) c.from-at.ensures
    (start_in c.args.start c.in-Some.below c.args.procedures.now c.from-at.result c.index-procedures-at.result (omega (arith, inside))
    c.index-procedures-at.is first))
    (some_is (λ above. AllByRecursion (IsRoutineWithin above) (drop (c.args.start + 1) c.args.procedures.now)) _ c.in-Some-2.routines c.in-Some-2.is
    c.in_ok-routines.ensures.within) few

pub returns-clause-paid : goal.returns-clause-paid
returns-clause-paid c = λ costs each can.
    let small = above_small c.args.procedures.now c.args.start costs can in
    let few = some_is (λ b. b ≤ 6) _ c.in-Some.below c.in-Some.is c.in_ok-below.ensures.few in
    let high =
    some_and (λ b. b ≤ can.above) _ c.in-Some-2.routines c.in-Some-2.is
    (c.in_ok-routines.ensures.there can.above (omega (arith, small)) (routines_short c.args.procedures.now c.args.start costs can)) in
    let none = nothing_noted c.args.procedures.now c.args.start c.args.methods costs c.in_ok-frames.frames.items can each c.in_ok-frames.ensures in
    has_paid c.frames_with.result c.note_before.new.frames.items costs c.in-Some.below c.in-Some-2.routines can.above c.frames_with.ensures.frames
    c.frames_with.ensures.there few high small (c.in_ok-note_before.ensures.paid can.above costs none can.methods).1
