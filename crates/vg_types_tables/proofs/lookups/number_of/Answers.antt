use Rattle.std.proofs.Common.{◌≡◌, Some, sym, ap, subst, ◌∙◌}
use Rattle.std.specs.List.{slice_get}
use Rattle.std.proofs.lemmas.Option.{IfSome_then}
use Rattle.vg_types_tables.proofs.Found.{same, found_at}
use Rattle.vg_types_tables.proofs.lookups.number_of.Goals as goal

pub returns-in-Some : goal.returns-in-Some
returns-in-Some c =
    let at = found_at _ c.args.type_ (same c.args.type_) c.args.declared.now.type_numbers.keys c.in-Some.index
    (sym c.get_index_of.ensures.index ∙ c.in-Some.is) in
    IfSome_then c.in_range.result c.in_range.ensures
    (λ n e. ap (slice_get c.args.declared.now.tables.types) e ∙ subst (λ ts. slice_get ts c.in-Some.index ≡ Some c.args.type_) c.requires.numbers at)
