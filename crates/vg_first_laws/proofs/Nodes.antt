-- The nodes of a program of constants, wherever they stand, before they are numbered.
use Rattle.std.proofs.Common.{◌≡◌, ℕ, List, [], ◌∷◌}
use Rattle.vg_base.specs.declared.place.Place.{Place}
use Rattle.vg_syntax.specs.Tree.{Node, Nothing, Then, Text, ComponentDecl, DeviceDecl, RegisterDecl, ProgramDecl, EntryDecl, MethodDecl, Block, Assign}
use Rattle.vg_syntax.specs.Tree.{Number, Name, Postfix, Member, NoType}
use Rattle.vg_syntax.specs.Made.{Tree, Row, Value}
use Rattle.vg_syntax.specs.Reads.{spot}
use Rattle.vg_first_text.specs.FirstText.{First, FirstAssignment, FirstRegister}

abbrev pub IsTree : (Node → Type 0) → Value → Type 0
IsTree Shape v = (n : Node) × (v.made ≡ Tree n) × Shape n

abbrev pub IsRow : (Node → Type 0) → Value → Type 0
IsRow Shape v = (n : Node) × (v.made ≡ Row n) × Shape n

abbrev pub IsNumber : (digits : List ℕ) → Node → Type 0
IsNumber digits n = (p : Place) × (n ≡ Number (spot p) digits)

abbrev pub IsName : (name : List ℕ) → Node → Type 0
IsName name n = (p : Place) × (n ≡ Name (spot p) name)

abbrev pub IsSuffix : (register : List ℕ) → Node → Type 0
IsSuffix register n = (p : Place) × (n ≡ Then (Member (spot p) register) Nothing)

abbrev pub IsRegister : (device register : List ℕ) → Node → Type 0
IsRegister device register n = (p q r : Place) × (n ≡ Postfix (spot p) (Name (spot q) device) (Then (Member (spot r) register) Nothing))

abbrev pub IsAssign : FirstAssignment → Node → Type 0
IsAssign a n =
    (p q r s t : Place)
    × (n ≡ Assign (spot p) (Postfix (spot q) (Name (spot r) a.device) (Then (Member (spot s) a.register) Nothing)) (Number (spot t) a.digits))

abbrev pub AreAssigns : List FirstAssignment → Node → Type 0
AreAssigns [] n = n ≡ Nothing
AreAssigns (a ∷ rest) n = (m others : Node) × (n ≡ Then m others) × IsAssign a m × AreAssigns rest others

abbrev pub IsRegisterDecl : FirstRegister → Node → Type 0
IsRegisterDecl r n = (p : Place) × (n ≡ RegisterDecl (spot p) r.name r.digits)

abbrev pub AreRegisterDecls : List FirstRegister → Node → Type 0
AreRegisterDecls [] n = n ≡ Nothing
AreRegisterDecls (r ∷ rest) n = (m others : Node) × (n ≡ Then m others) × IsRegisterDecl r m × AreRegisterDecls rest others

abbrev pub IsBlock : List FirstAssignment → Node → Type 0
IsBlock xs n = (p : Place) × (row : Node) × (n ≡ Block (spot p) row) × AreAssigns xs row

abbrev pub IsMethod : (name : List ℕ) → List FirstAssignment → Node → Type 0
IsMethod name xs n = (p q : Place) × (row : Node) × (n ≡ MethodDecl (spot p) name [] NoType (Block (spot q) row)) × AreAssigns xs row

-- one node as a row
abbrev pub IsOnly : (Node → Type 0) → Node → Type 0
IsOnly Shape n = (m : Node) × (n ≡ Then m Nothing) × Shape m

abbrev pub IsComponent : (name method : List ℕ) → List FirstAssignment → Node → Type 0
IsComponent name method xs n =
    (p q r : Place) × (row : Node)
    × (n ≡ ComponentDecl (spot p) name (Then (MethodDecl (spot q) method [] NoType (Block (spot r) row)) Nothing)) × AreAssigns xs row

abbrev pub IsDevice : (name : List ℕ) → List FirstRegister → Node → Type 0
IsDevice name rs n = (p : Place) × (row : Node) × (n ≡ DeviceDecl (spot p) name row) × AreRegisterDecls rs row

abbrev pub IsEntry : (key component method : List ℕ) → Node → Type 0
IsEntry key component method n = (p : Place) × (n ≡ EntryDecl (spot p) key component method)

abbrev pub IsProgram : (name key component method : List ℕ) → Node → Type 0
IsProgram name key component method n = (p q : Place) × (n ≡ ProgramDecl (spot p) name (Then (EntryDecl (spot q) key component method) Nothing))

-- a first node, and a row behind it
abbrev pub IsMore : (P R : Node → Type 0) → Node → Type 0
IsMore P R n = (a rest : Node) × (n ≡ Then a rest) × P a × R rest

-- a whole text
abbrev pub IsFirstNode : First → Node → Type 0
IsFirstNode f n =
    (p : Place) × (c d g : Node) × (n ≡ Text (spot p) (Then c (Then d (Then g Nothing))))
    × IsComponent f.component f.method f.assignments c × IsDevice f.device f.registers d
    × IsProgram f.program f.key f.entry_component f.entry_method g
