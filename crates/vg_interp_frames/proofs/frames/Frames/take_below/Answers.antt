use Rattle.std.proofs.Common.{rules, ◌-◌, ap, sym, subst}
use Rattle.vg_interp_frames.specs.Frame.{frame_of}
use Rattle.vg_interp_frames.proofs.Places.{IsTaken, removed}
use Rattle.vg_interp_frames.proofs.frames.Frames.take_below.Goals as goal

pub returns : goal.returns
returns c =
    let items = c.self.inside.items.items in
    let gone = removed items c.self.inside.start c.self.inside.base c.args.count (c.len-2.result - 1 - c.from-2.result) c.remove.result c.self.invariant.0 c.self.invariant.1 (search rules) (search rules) c.remove.ensures.value in
    let now = ap (λ l. frame_of l c.self.inside.start c.self.inside.base) (sym c.remove.ensures.items) in
    subst (λ f. IsTaken c.args.count c.remove.result f (frame_of c.remove.new.self.items c.self.inside.start c.self.inside.base)) c.self.view_is
    (subst (IsTaken c.args.count c.remove.result (frame_of items c.self.inside.start c.self.inside.base)) now gone)
