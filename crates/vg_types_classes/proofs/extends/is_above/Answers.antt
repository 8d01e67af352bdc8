use Rattle.std.proofs.Common.{Some, length, ap, sym, ◌∙◌}
use Rattle.std.specs.Option.{option_map}
use Rattle.vg_tree.specs.Held.{text_at}
use Rattle.vg_types_classes.specs.Classes.{declarations_in}
use Rattle.vg_types_classes.proofs.Chains.{chain_on}
use Rattle.vg_types_classes.proofs.extends.is_above.Goals as goal

pub chain-preserved : goal.chain-preserved
chain-preserved c = record {
  turns = c.chain.invariant.turns;
  left = chain_on (length c.args.nodes.now) c.chain._turn (declarations_in c.args.names.now c.args.nodes.now)
      (option_map (text_at c.args.names.now) c.chain.next) (option_map (text_at c.args.names.now) c.above_of-next.result)
      c.text_of-name.result.now c.args.class.now _ c.chain-test.true
      (ap (option_map (text_at c.args.names.now)) c.in-Some.is ∙ ap Some (sym c.text_of-name.ensures)) (sym c.if-eq.ensures)
      (c.above_of-next.ensures c.args.names.now c.requires) c.chain.invariant.left;
}
