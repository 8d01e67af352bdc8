use Rattle.std.proofs.Common.{◌≡◌, drop}
use Rattle.vg_tree.specs.Held.{row_at}
use Rattle.vg_types_members.specs.Members.{IsMaking, home_view, with_members, no_own}
use Rattle.vg_types_members.proofs.home.add_members.Given as goal

abbrev pub invariant-members : goal.invariant-members
invariant-members l =
    (with_members l.home (row_at l.names (drop l.member-index l.members)) (home_view l.names l.types l.making l.own)
    ≡ with_members l.home (row_at l.names l.members) (home_view l.names l.types l.fn.making no_own))
    × IsMaking l.names l.types l.making
