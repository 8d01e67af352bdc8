use Rattle.std.proofs.Common.{rules, ◌≡◌, ◌-◌, ◌≤◌, length, drop, ap, sym, ◌∙◌, arith}
use Rattle.std.proofs.lemmas.List.{length-reverse, length-drop}
use Rattle.vg_interp_frames.specs.Frame.{entering, frame_of}
use Rattle.vg_interp_frames.proofs.Places.{entered_at}
use Rattle.vg_interp_frames.proofs.frames.Frames.enter.Goals as goal

pub returns : goal.returns
returns c =
    let items = c.self.inside.items.items in
    let waiting : length c.args.self.now.values ≡ length items - c.self.inside.base =
    sym (ap (λ f. length f.values) c.self.view_is) ∙ length-reverse (drop c.self.inside.base items) ∙ length-drop c.self.inside.base items in
    let few : c.args.count ≤ length items - c.self.inside.base = omega (arith, waiting, c.requires) in
    let long : c.len.result ≡ length items = search rules in
    let long_too : c.len-self-inside.result ≡ length items = search rules in
    let start : c.len.result - c.from.result ≡ length items - c.args.count = omega (arith, long, c.from.ensures) in
    ap (λ n. frame_of items n c.len-self-inside.result) start ∙ ap (frame_of items (length items - c.args.count)) long_too
    ∙ entered_at items c.self.inside.start c.self.inside.base c.args.count c.self.invariant.0 c.self.invariant.1 few
    ∙ ap (entering c.args.count) c.self.view_is
