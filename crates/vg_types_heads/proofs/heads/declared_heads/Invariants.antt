use Rattle.std.proofs.Common.{◌≡◌, drop}
use Rattle.vg_tree.specs.Held.{row_at}
use Rattle.vg_types_heads.specs.Heads.{heads_view, no_heads, with_heads}
use Rattle.vg_types_heads.proofs.heads.declared_heads.Given as goal

abbrev pub invariant-declarations : goal.invariant-declarations
invariant-declarations l =
    with_heads (row_at l.names (drop l.declaration-index l.declarations)) (heads_view l.names l.heads) ≡ with_heads (row_at l.names l.declarations) no_heads
