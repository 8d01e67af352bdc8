use Rattle.std.proofs.Common.{◌-◌, ◌∙◌, ap, sym, arith, length, take, reverse}
use Rattle.vg_flatten_shapes.specs.Shapes.{taken}
use Rattle.vg_flatten_shapes.proofs.Taking.{taken_cut}
use Rattle.vg_flatten_shapes.proofs.shape.Homes.take_newest.Goals as goal

pub returns : goal.returns
returns c =
    let first = c.as_slice-size.ensures.value in
    let all = c.as_slice.ensures.value in (
      ap (λ z. taken c.args.count z.homes) (sym c.self.view_is) ∙ ap (λ z. taken c.args.count (reverse z)) (sym first)
          ∙ taken_cut c.as_slice-size.result.now c.as_slice.result.now c.from_vec.result c.truncate.new.self.items c.args.count (all ∙ sym first) (let f = c.if-size-count.false in grind arith)
          (c.from_vec.ensures ∙ c.in_ok-newest.ensures.items) (c.truncate.ensures.items ∙ ap (take (length c.as_slice-size.result.now - c.args.count)) (sym first)),
      ap (λ z. z.truth) c.self.view_is,
    )
