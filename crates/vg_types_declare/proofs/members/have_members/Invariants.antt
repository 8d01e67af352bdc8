use Rattle.std.proofs.Common.{◌≡◌, true, ℕ, List, drop}
use Rattle.vg_tree.specs.Held.{row_at}
use Rattle.vg_types_declared.specs.Apart.{have_members}
use Rattle.vg_types_declare.proofs.members.have_members.Given as goal

abbrev pub invariant-declarations : goal.invariant-declarations
invariant-declarations l =
    (texts : List (List ℕ)) → have_members (row_at texts (drop l.declaration-index l.declarations)) ≡ true
    → have_members (row_at texts l.declarations) ≡ true
