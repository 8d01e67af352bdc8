use Rattle.std.proofs.Common.{sym, refl, ◌∙◌, ◌+◌}
use Rattle.vg_syntax.specs.Reads.{spot}
use Rattle.vg_syntax.specs.Numbering.{with_id}
use Rattle.vg_tree.specs.Held.{text_at}
use Rattle.vg_types_tables.specs.declared.judged.Head.TheVariants.{Component}
use Rattle.vg_types_leaves.proofs.NameLaws.{front_is_component}
use Rattle.vg_types_leaves.proofs.name.name_in_front.Goals as goal

pub returns-in-Some-component_of-clause-judged : goal.returns-in-Some-component_of-clause-judged
returns-in-Some-component_of-clause-judged c =
    front_is_component c.args.names.now c.args.root.now c.args.declared.now c.requires.declares c.args.body c.args.locals.now c.args.id
    c.in-Some-component_of.component (with_id c.args.id (spot c.args.place)) (text_at c.args.names.now c.args.name) c.text_of-text.result.now
    (record { head = Component c.in-Some-component_of.component; code = c.no_code.result; next = c.args.id + 1 }) c.text_of-text.ensures
    c.in-None.ensures.0 c.in-None.ensures.1 (sym c.component_of.ensures ∙ c.in-Some-component_of.is) refl c.no_code.ensures
