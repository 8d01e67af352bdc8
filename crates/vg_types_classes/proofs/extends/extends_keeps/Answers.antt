use Rattle.std.proofs.Common.{length, ap, sym, ◌∙◌}
use Rattle.std.specs.Option.{option_map}
use Rattle.vg_tree.specs.Held.{text_at}
use Rattle.vg_rules.specs.Names.{extends_keeps}
use Rattle.vg_types_classes.specs.Classes.{declarations_in, class_view}
use Rattle.vg_types_classes.proofs.Chains.{kept_above}
use Rattle.vg_types_classes.proofs.Asking.{as_many}
use Rattle.vg_types_classes.proofs.extends.extends_keeps.Goals as goal

pub returns-then-is_some : goal.returns-then-is_some
returns-then-is_some c =
    kept_above (class_view c.args.names.now) c.class_of.result (declarations_in c.args.names.now c.args.nodes.now) (length c.args.nodes.now)
    (text_at c.args.names.now c.args.class) (text_at c.args.names.now c.in-Some.above) c.text_of.result.now c.text_of-then-is_some.result.now c.is_above.result
    (c.class_of.ensures c.args.names.now c.requires) c.text_of.ensures (sym c.is_some.ensures
    ∙ c.if-is_some.true) c.is_above.ensures c.text_of-then-is_some.ensures
    (as_many c.args.names.now 1 c.args.nodes.now)
    ∙ ap (λ o. extends_keeps (declarations_in c.args.names.now c.args.nodes.now) (text_at c.args.names.now c.args.class) (option_map (text_at
    c.args.names.now) o)) (sym c.in-Some.is)
