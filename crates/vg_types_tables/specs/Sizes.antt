-- How many types a written type is made of, itself among them. It is the measure of the walks over it; no public clause cites it.
use Rattle.std.specs.Prelude.{ℕ, suc, ◌+◌, List, [], ◌∷◌}
use Rattle.vg_tree.specs.declared.type_tree.TypeTree as held

abbrev mutual
  pub size_of : held.TypeTree → ℕ
  size_of (held.Array' n p t) = suc (size_of t)
  size_of (held.Function' p a q r) = suc (size_of a + size_of r)
  size_of (held.Row' shape all) = suc (size_in all)
  size_of _ = 1

  pub size_in : {m : _} → held.Row_of-TypeTree m → ℕ
  size_in held.end_of-TypeTree = 0
  size_in (held.more_of-TypeTree t rest) = suc (size_of t + size_in rest)

abbrev pub size_row : List held.TypeTree → ℕ
size_row [] = 0
size_row (t ∷ ts) = suc (size_of t + size_row ts)
