use Rattle.std.proofs.Common.{◌≡◌, ◌+◌, ap, sym, ◌∙◌, arith}
use Rattle.vg_tree.specs.Held.{type_at}
use Rattle.vg_tree.proofs.TypeLists.{type_of_row}
use Rattle.vg_rules.specs.Written.{levels}
use Rattle.vg_types_signatures.proofs.Written.{levels_over, row_levels}
use Rattle.vg_types_signatures.proofs.types.+levels.Goals as goal

pub returns-in-Array : goal.returns-in-Array
returns-in-Array t c texts =
    let s = c.saturating_add.ensures in
    let l = c.levels.ensures texts in
    let e : levels (type_at texts c.args.type_.now) ≡ c.in-Array.count + levels (type_at texts c.deref.result.now) =
    ap (λ z. levels (type_at texts z)) c.in-Array.is ∙ levels_over c.in-Array.count _
    ∙ ap (λ z. c.in-Array.count + levels (type_at texts z)) (sym c.deref.ensures) in
    omega (arith, s, l, e)

pub returns-in-Row : goal.returns-in-Row
returns-in-Row t c texts =
    let e = ap (λ z. levels (type_at texts z)) c.in-Row.is ∙ ap levels (type_of_row texts c.in-Row.field-0) ∙ row_levels texts c.in-Row.field-0.items in
    omega (arith, e)
