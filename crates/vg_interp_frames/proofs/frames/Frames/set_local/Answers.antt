use Rattle.std.proofs.Common.{rules, ◌≡◌, ◌+◌, ◌<◌, ◌∙◌, set, ap, sym}
use Rattle.vg_interp_frames.specs.Frame.{Frame, frame_of}
use Rattle.vg_interp_frames.proofs.Places.{made, set_there}
use Rattle.vg_interp_frames.proofs.frames.Frames.set_local.Goals as goal

pub returns-then-place-self : goal.returns-then-place-self
returns-then-place-self c =
    let place = ap (λ n. frame_of (set c.self.inside.items.items (c.self.inside.start + n) c.args.value) c.self.inside.start c.self.inside.base) c.from.ensures in
    let set_at = set_there c.self.inside.items.items c.args.number c.args.value c.self.inside.start c.self.inside.base (search rules) in
    let changed : Frame → Frame = λ f. made f.below (set f.locals c.args.number c.args.value) f.values in
    place ∙ set_at ∙ ap changed c.self.view_is
