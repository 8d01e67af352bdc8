use Rattle.std.proofs.Common.{◌≡◌, IfSome, sym, subst, ap, ◌∙◌}
use Rattle.vg_tree.specs.Held.{type_at, type_row}
use Rattle.vg_tree.proofs.TypeLists.{type_of_row}
use Rattle.vg_source.specs.Declared.{written_type}
use Rattle.vg_types_interned.specs.Types.{type_view}
use Rattle.vg_types_interned.specs.Rows.{array_over}
use Rattle.vg_types_interned.proofs.Views.{arrays_written}
use Rattle.vg_types_interned.proofs.found.+found.Goals as goal

pub written-returns-in_ok-element-in-Array-clause-view : goal.written-returns-in_ok-element-in-Array-clause-view
written-returns-in_ok-element-in-Array-clause-view t c =
    subst (λ z. IfSome c.array_over.result (λ u. type_view c.args.types.now.classes c.args.types.now.numbers.keys u ≡ z))
    (ap (array_over c.in-Array.levels) c.in_ok-element-in-Array.ensures.view
    ∙ ap (λ e. array_over c.in-Array.levels (written_type (type_at c.args.names.now e))) c.deref.ensures
    ∙ sym (arrays_written c.in-Array.levels (type_at c.args.names.now c.in-Array.element.value))
    ∙ ap (λ x. written_type (type_at c.args.names.now x)) (sym c.in-Array.is))
    c.array_over.ensures.view

pub written-returns-in-Row-clause-view : goal.written-returns-in-Row-clause-view
written-returns-in-Row-clause-view t c =
    subst (λ z. IfSome c.written_row.result (λ u. type_view c.args.types.now.classes c.args.types.now.numbers.keys u ≡ z))
    (ap (λ r. written_type (type_row c.args.names.now r)) c.as_slice.ensures.value
    ∙ ap written_type (sym (type_of_row c.args.names.now c.in-Row.row))
    ∙ ap (λ x. written_type (type_at c.args.names.now x)) (sym c.in-Row.is))
    c.written_row.ensures.view
