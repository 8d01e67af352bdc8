-- The rules on the names of declarations, and on classes above one another.
use Rattle.std.specs.Prelude.{ℕ, zero, suc, ◌&&◌, not, Bool, true, List, ◌∷◌, Option, Some, None, is_some}
use Rattle.vg_syntax.specs.Tree.{Spot, Node, Then, ClassDecl, ComponentDecl, DeviceDecl, ProgramDecl}
use Rattle.vg_source.specs.Names.{Name, is_among}
use Rattle.vg_syntax.specs.Classes.{class_named}
use Rattle.vg_source.specs.Declared.{chain_from, length_of}
use Rattle.vg_rules.specs.Breach.{Breach, asks, ◌or◌}

-- Rule 1 for one declaration, behind declarations of these names.
abbrev pub is_new : List Name → Name → Spot → Option Breach
is_new seen x at = asks (not (is_among seen x)) 1 at

-- Rule 1, behind declarations of these names: no two have one name.
abbrev pub names_breach : List Name → Node → Option Breach
names_breach seen (Then (ClassDecl at c above members) rest) = is_new seen c at or names_breach (c ∷ seen) rest
names_breach seen (Then (ComponentDecl at c members) rest) = is_new seen c at or names_breach (c ∷ seen) rest
names_breach seen (Then (DeviceDecl at d registers) rest) = is_new seen d at or names_breach (d ∷ seen) rest
names_breach seen (Then (ProgramDecl at p entries) rest) = is_new seen p at or names_breach (p ∷ seen) rest
names_breach seen _ = None

-- How many program declarations there are: by rule 2 there is one.
abbrev pub programs : Node → ℕ
programs (Then (ProgramDecl at p entries) rest) = suc (programs rest)
programs (Then d rest) = programs rest
programs _ = zero

-- Rule 5: what stands behind `extends` is a class, and this class is not above itself.
abbrev pub extends_keeps : Node → Name → Option Name → Bool
extends_keeps ds c None = true
extends_keeps ds c (Some above) = is_some (class_named ds above) && not (is_among (chain_from (length_of ds) ds (Some above)) c)

-- Rule 5 for all classes.
abbrev pub classes_breach : Node → Node → Option Breach
classes_breach ds (Then (ClassDecl at c above members) rest) = asks (extends_keeps ds c above) 5 at or classes_breach ds rest
classes_breach ds (Then d rest) = classes_breach ds rest
classes_breach ds _ = None
