use Rattle.std.proofs.Common.{◌+◌, length, map, sum, sym, ap, ◌∙◌}
use Rattle.vg_core.specs.Heap.{size_of}
use Rattle.vg_shape.proofs.Cells.{sizes_with_field}
use Rattle.vg_shape.proofs.store.Store.set_field.Goals as goal

pub invariant_of-self : goal.invariant_of-self
invariant_of-self c =
    c.self.invariant
    ∙ ap (λ n. length c.self.inside.globals.items + n)
    (sym (ap (λ cells. sum (map size_of cells)) c.set_field_at.ensures ∙ sizes_with_field c.args.tables.now c.args.field c.args.value c.self.inside.cells.items c.args.k))
