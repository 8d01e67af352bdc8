use Rattle.std.proofs.Common.{rules, ◌≡◌, ◌-◌, ◌≤◌, length, reverse, take, drop, ap, sym, ◌∙◌, arith}
use Rattle.std.proofs.lemmas.List.{length-reverse, length-drop}
use Rattle.vg_interp_frames.proofs.Places.{last_ones}
use Rattle.vg_interp_frames.proofs.frames.Frames.newest.Goals as goal

pub returns : goal.returns
returns c =
    let items = c.self.inside.items.items in
    let waiting : length c.args.self.now.values ≡ length items - c.self.inside.base =
    sym (ap (λ f. length f.values) c.self.view_is) ∙ length-reverse (drop c.self.inside.base items) ∙ length-drop c.self.inside.base items in
    let few : c.args.count ≤ length items - c.self.inside.base = search rules in (
      omega (arith, waiting, few),
      search (rules, c.deref.ensures.value, last_ones items c.self.inside.base c.args.count c.self.invariant.1 few),
    )
