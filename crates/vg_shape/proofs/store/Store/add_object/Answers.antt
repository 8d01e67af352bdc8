use Rattle.std.proofs.Common.{◌+◌, length, ap, ◌∙◌}
use Rattle.vg_shape.proofs.Cells.{length_defaults}
use Rattle.vg_shape.proofs.store.Store.add_object.Goals as goal

pub add-requires : goal.add-requires
add-requires c = ap (λ vs. 1 + length vs) (c.from_vec.ensures ∙ c.in_ok-values.ensures) ∙ ap (λ n. 1 + n) (length_defaults c.args.tables.now c.args.fields.now)
