use Rattle.std.proofs.Common.{◌≡◌, drop}
use Rattle.vg_tree.specs.Held.{row_at}
use Rattle.vg_source.specs.Program.{constructor_in}
use Rattle.vg_types_members.proofs.home.class_params.Given as goal

abbrev pub invariant-members : goal.invariant-members
invariant-members l = constructor_in (row_at l.names (drop l.member-index l.members)) ≡ constructor_in (row_at l.names l.members)
