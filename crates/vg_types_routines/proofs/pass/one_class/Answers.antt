use Rattle.std.proofs.Common.{refl, sym, ap, ◌∙◌}
use Rattle.std.specs.Option.{option_map}
use Rattle.vg_syntax.specs.Numbering.{numbered}
use Rattle.vg_tree.specs.Held.{text_at, node_at}
use Rattle.vg_source.specs.Resolved.{InClass}
use Rattle.vg_rules.specs.Legal.{bodies_breach}
use Rattle.vg_types_tables.specs.Views.{declarations_at, naming}
use Rattle.vg_types_routines.proofs.pass.one_class.Goals as goal

pub class_home-requires-clause-there : goal.class_home-requires-clause-there
class_home-requires-clause-there c = (c.requires.declares.class_names c.args.class.now c.in-Some.number (sym c.in-Some.ensures)).0

pub returns : goal.returns
returns c =
    let named = c.requires.declares.class_names c.args.class.now c.in-Some.number (sym c.in-Some.ensures) in (
      ap (λ z. bodies_breach (declarations_at c.args.names.now c.args.root.now) (InClass z) (option_map (text_at c.args.names.now) c.args.above)
          (numbered c.args.first (node_at c.args.names.now c.args.members.now))) (sym named.1)
          ∙ ap (λ z. bodies_breach (declarations_at c.args.names.now c.args.root.now)
          (InClass ((naming c.args.names.now c.args.declared.now).class c.in-Some.number)) z
          (numbered c.args.first (node_at c.args.names.now c.args.members.now))) (sym c.in_ok-class_above.ensures.name)
          ∙ c.in-Ok.ensures.0,
      record {
        own = c.in-Ok.ensures.1.own;
        methods = c.in-Ok.ensures.1.methods;
        making = c.in-Ok.home.body;
        makings = c.in_ok-push.ensures.items;
        starts = refl;
        are = record {
          class = c.in-Some.number;
          there = named.0;
          name = named.1;
          class_above = c.in_ok-class_above.class_above;
          above_is = c.in_ok-class_above.ensures.name;
          methods_are = c.in-Ok.ensures.1.are;
          making_is = c.in-Ok.ensures.1.making;
        };
      },
    )
