use Rattle.std.proofs.Common.{◌≡◌, ◌≤◌, length, map, reverse, take}
use Rattle.vg_source.specs.Resolved.{find_local}
use Rattle.vg_types_tables.specs.Views.{typed_view}
use Rattle.vg_types_tables.proofs.scope.find_local.Given as goal

abbrev pub invariant-loop-count : goal.invariant-loop-count
invariant-loop-count l =
    (l.count ≤ length l.in_scope)
    × (find_local (reverse (map (typed_view l.names l.declared) (take l.count l.in_scope))) l.text
    ≡ find_local (reverse (map (typed_view l.names l.declared) l.in_scope)) l.text)

abbrev pub decreases-loop-count : goal.decreases-loop-count
decreases-loop-count l = l.count
