-- Ranges of what runs in a source program.
use Rattle.std.specs.Prelude.{List, [], ◌∷◌}
use Rattle.vg_syntax.specs.Tree.{Node, Then, ClassDecl, ComponentDecl, FieldDecl, MethodDecl, ConstructorDecl}
use Rattle.vg_source.specs.Values.{Value}
use Rattle.vg_source.specs.Steps.{Routine, Target, Method, Construct, Start}
use Rattle.vg_source_ranges.specs.Ranges.{IsConstant, AreRanged}

abbrev pub AreConstants : List Value → Type 0
AreConstants [] = Unit {0}
AreConstants (v ∷ vs) = IsConstant v × AreConstants vs

-- Its code is ranged, and the defaults of its locals and the value of an end without return are constants.
pub record IsRangedRoutine (above : Type 0) (r : Routine) : Type 0 where
  pub code : AreRanged above r.body
  pub others : AreConstants r.others
  pub missing : IsConstant r.missing

-- A construction may run that of the class above.
abbrev pub MayRunAbove : Target → Type 0
MayRunAbove (Method c m) = ⊥
MayRunAbove (Construct c) = Unit {0}
MayRunAbove (Start c) = ⊥

-- A row of fields, methods and constructors.
abbrev pub AreMembers : Node → Type 0
AreMembers (Then (FieldDecl at x t e) rest) = AreMembers rest
AreMembers (Then (MethodDecl at x ps t body) rest) = AreMembers rest
AreMembers (Then (ConstructorDecl at ps calls args body) rest) = AreMembers rest
AreMembers (Then m rest) = ⊥
AreMembers _ = Unit {0}

-- Classes and components have such members.
abbrev pub HaveMembers : Node → Type 0
HaveMembers (Then (ClassDecl at c above members) rest) = AreMembers members × HaveMembers rest
HaveMembers (Then (ComponentDecl at c members) rest) = AreMembers members × HaveMembers rest
HaveMembers (Then d rest) = HaveMembers rest
HaveMembers _ = Unit {0}
