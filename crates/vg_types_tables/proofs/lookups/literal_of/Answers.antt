use Rattle.std.proofs.Common.{◌<◌, length, sym, ap, subst, ◌∙◌}
use Rattle.std.proofs.lemmas.Option.{IfSome_then}
use Rattle.vg_source.specs.Nodes.{place_in}
use Rattle.vg_types_tables.specs.Views.{declarations_at}
use Rattle.vg_types_tables.proofs.Found.{place_is, literal_within}
use Rattle.vg_types_tables.proofs.lookups.literal_of.Goals as goal

pub returns-in-Some : goal.returns-in-Some
returns-in-Some c =
    let at = place_is c.args.id c.args.declared.now.literal_nodes.keys c.in-Some.index (sym c.get_index_of.ensures.index ∙ c.in-Some.is) in
    let within = literal_within (declarations_at c.args.names.now c.args.root.now) c.args.declared.now.literal_nodes.keys
    c.args.declared.now.tables.literals c.requires.declares.literal_nodes c.requires.declares.literals c.in-Some.index c.in-Some.ensures.within in
    IfSome_then c.in_range.result c.in_range.ensures
    (λ k e. (
      e ∙ at ∙ ap (λ ids. place_in ids c.args.id) c.requires.declares.literal_nodes,
      subst (λ k. k < length c.args.declared.now.tables.literals) (sym e) within,
    ))
