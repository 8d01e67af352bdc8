use Rattle.std.proofs.Common.{[], ◌≡◌, IfOk, sym, subst, ◌∙◌}
use Rattle.vg_tree.specs.Held.{node_at}
use Rattle.vg_tree_walks.specs.Whole.{tree_at}
use Rattle.vg_types_counts.proofs.Counting.{no_text}
use Rattle.vg_costs.specs.Small.{AreSmall}
use Rattle.vg_costs.proofs.Numbered.{costs_of_text, costs_of_none}
use Rattle.vg_costs.proofs.costs.method_costs.Goals as goal

pub declared_costs-requires : goal.declared_costs-requires
declared_costs-requires c = record {
  small =
      subst AreSmall (costs_of_text (tree_at [] c.args.tree.now) (node_at [] c.in-Some.declarations.now) (c.in-Some.ensures.declarations []))
      c.requires.small;
}

pub returns-in-Some : goal.returns-in-Some
returns-in-Some c = record {
  costs = λ texts.
      subst (λ z. IfOk c.declared_costs.result (λ row. row ≡ z))
      (sym (costs_of_text (tree_at texts c.args.tree.now) (node_at texts c.in-Some.declarations.now) (c.in-Some.ensures.declarations texts)))
      (c.declared_costs.ensures.costs texts);
}

pub returns-in-None : goal.returns-in-None
returns-in-None c = record {
  costs = λ texts. c.new.ensures ∙ sym (costs_of_none (tree_at texts c.args.tree.now) (no_text texts c.args.tree.now.root (sym c.in-None.ensures.some)));
}
