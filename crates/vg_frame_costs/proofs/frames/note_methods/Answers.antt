use Rattle.std.proofs.Common.{arith}
use Rattle.vg_frame_costs.specs.Fitting.{IsMethodWithin}
use Rattle.vg_frame_costs.specs.Payable.{IsMethodPaid}
use Rattle.vg_frame_costs.proofs.Grown.{grown_then, left_at, method_raised, none_left, one_of, same_frames}
use Rattle.vg_frame_costs.proofs.frames.note_methods.Goals as goal

pub loop-method-preserved : goal.loop-method-preserved
loop-method-preserved c = (
  λ frames grown rest.
      let method = c.in_ok-note_method.ensures.within c.if-not-branch.false in
      c.loop-method.invariant.0 frames
      (grown_then c.loop-method.frames.items c.note_method.new.frames.items frames c.in_ok-note_method.ensures.grows grown)
      (left_at (IsMethodWithin c.args.start frames) c.args.methods.now c.loop-method.method-index c.method-item.result c.loop-method-test.true
      c.method-item.is (method_raised c.args.start c.note_method.new.frames.items frames c.method-item.result grown method) rest),
  λ above costs pays all.
      (c.in_ok-note_method.ensures.paid above costs (c.loop-method.invariant.1 above costs pays all)
      (one_of (IsMethodPaid c.args.start above costs) c.args.methods.now c.loop-method.method-index c.method-item.result c.loop-method-test.true
      c.method-item.is all)).1,
)

pub returns-clause-within : goal.returns-clause-within
returns-clause-within c = λ noted.
    let gone = c.loop-method-test.false in
    c.loop-method.invariant.0 c.loop-method.frames.items (same_frames c.loop-method.frames.items)
    (none_left (IsMethodWithin c.args.start c.loop-method.frames.items) c.args.methods.now c.loop-method.method-index (omega (arith, gone)))
