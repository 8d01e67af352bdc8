use Rattle.std.proofs.Common.{sym, ap, ◌∙◌}
use Rattle.vg_types_classes.specs.Walk.{class_at}
use Rattle.vg_types_classes.proofs.Lookups.{place_in, got, class_found}
use Rattle.vg_types_classes.proofs.class.class_of.Goals as goal

pub returns-in-Some : goal.returns-in-Some
returns-in-Some c texts h =
    c.class_at.ensures texts
    ∙ ap (class_at texts) (got _ c.args.nodes.now c.in-Some.declaration.now.place c.get-in-Some.result c.get-in-Some.ensures.lookup.3
    c.get-in-Some.ensures.lookup.1
    ∙ ap (place_in c.args.nodes.now) c.in-Some.ensures)
    ∙ sym (class_found texts c.args.nodes.now c.args.declarations.now c.args.text.now h)

pub returns-in-None : goal.returns-in-None
returns-in-None c texts h =
    sym (class_found texts c.args.nodes.now c.args.declarations.now c.args.text.now h
    ∙ ap (λ o. class_at texts (place_in c.args.nodes.now o)) (sym c.in-None.ensures))
