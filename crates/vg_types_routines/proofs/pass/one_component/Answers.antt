use Rattle.std.proofs.Common.{None, refl, sym, ap, ◌∙◌}
use Rattle.vg_syntax.specs.Numbering.{numbered}
use Rattle.vg_tree.specs.Held.{node_at}
use Rattle.vg_source.specs.Resolved.{InComponent}
use Rattle.vg_rules.specs.Legal.{bodies_breach}
use Rattle.vg_types_tables.specs.Views.{declarations_at}
use Rattle.vg_types_routines.proofs.pass.one_component.Goals as goal

pub component_home-requires-clause-there : goal.component_home-requires-clause-there
component_home-requires-clause-there c =
    (c.requires.declares.component_names c.args.component.now c.in-Some.number (sym c.in-Some.ensures)).0

pub returns : goal.returns
returns c =
    let named = c.requires.declares.component_names c.args.component.now c.in-Some.number (sym c.in-Some.ensures) in (
      ap (λ z. bodies_breach (declarations_at c.args.names.now c.args.root.now) (InComponent z) None
          (numbered c.args.first (node_at c.args.names.now c.args.members.now))) (sym named.1)
          ∙ c.in-Ok.ensures.0,
      record {
        own = c.in-Ok.ensures.1.own;
        methods = c.in-Ok.ensures.1.methods;
        start = c.in-Ok.home.body;
        starts = c.in_ok-push.ensures.items;
        makings = refl;
        are = record {
          component = c.in-Some.number;
          there = named.0;
          name = named.1;
          methods_are = c.in-Ok.ensures.1.are;
          start_is = c.in-Ok.ensures.1.start;
        };
      },
    )
