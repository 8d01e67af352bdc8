-- What the live methods of a text make: nothing, or something at a place.
use Rattle.std.specs.Prelude.{ℕ, ◌≡◌, List, ◌++◌, codes, decimal}
use Rattle.vg_base.specs.declared.place.Place.{Place}
use Rattle.vg_syntax.specs.Tree.{Node}
use Rattle.vg_source.specs.Names.{Name}
use Rattle.vg_source.specs.Values.{Heap}
use Rattle.vg_source.specs.Program.{source_of}
use Rattle.vg_source.specs.Session.{Started, started}
use Rattle.vg_live_source.specs.Making.{IsFirstMaker, MakesNothing}
use Rattle.vg_faults.specs.declared.fault.Fault.{Fault}
use Rattle.vg_faults.specs.declared.fault.Fault.TheVariants.{Allocates}
use Rattle.vg_faults.specs.Judged.{IsLegal, place_in}
use Rattle.vg_faults.specs.Faults.{HasFault}

-- a place: its line, a colon and its column
abbrev pub place_text : Place → List ℕ
place_text place = decimal place.line ++ codes ":" ++ decimal place.col

-- the name of a member behind that of the class or component that declares it, with a point between them
abbrev pub key_text : (owner name : Name) → List ℕ
key_text owner name = owner ++ codes "." ++ name

-- the line of a method that makes something at a place
abbrev pub allocates_line : (names : List ℕ) → Place → List ℕ
allocates_line names place = codes "allocates " ++ names ++ codes " at " ++ place_text place ++ codes "\n"

-- The bytes are a legal text, which is initialised to a heap with this clock, and the first of its live methods, in order of the text, that makes an object or
-- an array does so first at this place; the line names both.
pub record AllocatesIn (bytes : List ℕ) (clock : ℕ) (place : Place) (line : List ℕ) : Type 0 where
  pub tree : Node
  pub legal : IsLegal bytes tree
  pub heap : Heap
  pub starts : started (source_of tree) clock ≡ Started heap
  pub owner : Name
  pub method : Name
  pub node : ℕ
  pub maker : IsFirstMaker (source_of tree) heap owner method node
  pub place_is : place ≡ place_in node tree
  pub line_is : line ≡ allocates_line (key_text owner method) place

-- The bytes are a legal text with this tree, which is initialised with this clock to this heap, and no live method makes anything.
pub record IsFirm (bytes : List ℕ) (clock : ℕ) (tree : Node) (heap : Heap) : Type 0 where
  pub legal : IsLegal bytes tree
  pub starts : started (source_of tree) clock ≡ Started heap
  pub nothing : MakesNothing (source_of tree) heap

-- so for some tree and heap
abbrev pub IsFirmIn : List ℕ → (clock : ℕ) → Type 0
IsFirmIn bytes clock = (tree : Node) × (heap : Heap) × IsFirm bytes clock tree heap

-- the bytes have this fault, where initialisation has this clock; what is asked of them further, and what is not built, is no fault of theirs
abbrev pub HasLiveFault : Fault → List ℕ → (clock : ℕ) → Type 0
HasLiveFault (Allocates place line) bytes clock = AllocatesIn bytes clock place line
HasLiveFault why bytes clock = HasFault why bytes clock
