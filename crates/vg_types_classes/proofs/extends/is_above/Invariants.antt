use Rattle.std.proofs.Common.{◌≡◌, ◌-◌, length, Some}
use Rattle.std.specs.Option.{option_map}
use Rattle.vg_tree.specs.Held.{text_at}
use Rattle.vg_source.specs.Names.{is_among}
use Rattle.vg_source.specs.Declared.{chain_from}
use Rattle.vg_types_classes.specs.Classes.{declarations_in}
use Rattle.vg_types_classes.proofs.extends.is_above.Given as goal

-- the class is on what is left of the chain exactly where it is on the whole
abbrev pub invariant-chain : goal.invariant-chain
invariant-chain l = record {
  turns : l._turn-end ≡ length l.fn.nodes;
  left : is_among (chain_from (l._turn-end - l._turn) (declarations_in l.fn.names l.fn.nodes) (option_map (text_at l.fn.names) l.next)) l.fn.class
      ≡ is_among (chain_from (length l.fn.nodes) (declarations_in l.fn.names l.fn.nodes) (Some (text_at l.fn.names l.fn.lowest))) l.fn.class;
}
