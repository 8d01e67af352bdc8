use Rattle.std.proofs.Common.{◌≡◌, drop}
use Rattle.vg_tree.specs.Held.{row_at}
use Rattle.vg_types_homes.specs.Homes.{AreHomes, homes_view, no_view, with_declarations}
use Rattle.vg_types_homes.proofs.pass.declared_homes.Given as goal

abbrev pub invariant-declarations : goal.invariant-declarations
invariant-declarations l =
    (with_declarations (row_at l.names (drop l.declaration-index l.declarations)) (homes_view l.names l.types l.homes)
    ≡ with_declarations (row_at l.names l.declarations) no_view)
    × AreHomes l.names l.types l.homes
