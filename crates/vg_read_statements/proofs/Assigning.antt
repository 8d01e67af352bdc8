-- An expression with a right side, and one without.
use Rattle.std.proofs.Common.{◌≡◌, true, false, refl}
use Rattle.vg_base.specs.declared.place.Place.{Place}
use Rattle.vg_syntax.specs.Tree.{Node, Nothing, Eval, Assign}
use Rattle.vg_syntax.specs.Reads.{spot, assigned}
use Rattle.vg_tree.specs.Nothing.{is_nothing}

pub evaluated : (place : Place) (e n : Node) → is_nothing n ≡ true → assigned place e n ≡ Eval (spot place) e
evaluated place e Nothing h = refl
evaluated place e _ h = cc

pub assigned_to : (place : Place) (e n : Node) → is_nothing n ≡ false → assigned place e n ≡ Assign (spot place) e n
assigned_to place e Nothing h = cc
assigned_to place e _ h = refl
