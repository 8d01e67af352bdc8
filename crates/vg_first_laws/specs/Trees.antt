-- The tree of a program of constants, and the heap that it is initialised to.
use Rattle.std.specs.Prelude.{ℕ, ◌+◌, List, [], ◌∷◌}
use Rattle.vg_first_text.specs.FirstText.{FirstAssignment, FirstRegister, First}
use Rattle.vg_syntax.specs.Tree.{Spot, Node, Nothing, Then, NoType, Text, ComponentDecl, DeviceDecl, RegisterDecl, ProgramDecl, EntryDecl, MethodDecl}
use Rattle.vg_syntax.specs.Tree.{Block, Assign, Postfix, Name, Member, Number}
use Rattle.vg_source.specs.Values.{Heap}

-- An assignment, whose nodes have the spots from this one on.
abbrev pub assignment_node : (ℕ → Spot) → ℕ → FirstAssignment → Node
assignment_node at n a =
    Assign (at n) (Postfix (at (n + 1)) (Name (at (n + 2)) a.device) (Then (Member (at (n + 3)) a.register) Nothing)) (Number (at (n + 4)) a.digits)

-- The assignments as a row of statements.
abbrev pub assignment_row : (ℕ → Spot) → ℕ → List FirstAssignment → Node
assignment_row at n [] = Nothing
assignment_row at n (a ∷ rest) = Then (assignment_node at n a) (assignment_row at (n + 5) rest)

-- The registers as a row of declarations.
abbrev pub register_row : (ℕ → Spot) → ℕ → List FirstRegister → Node
register_row at n [] = Nothing
register_row at n (r ∷ rest) = Then (RegisterDecl (at n) r.name r.digits) (register_row at (n + 1) rest)

-- The declarations: the component with its one method, the device, and the program with its one entry. A row of spots says where the nodes stand.
abbrev pub first_declarations : (ℕ → Spot) → (device program : ℕ) → First → Node
first_declarations at device program f =
    Then (ComponentDecl (at 1) f.component (Then (MethodDecl (at 2) f.method [] NoType (Block (at 3) (assignment_row at 4 f.assignments))) Nothing))
    (Then (DeviceDecl (at device) f.device (register_row at (device + 1) f.registers))
    (Then (ProgramDecl (at program) f.program (Then (EntryDecl (at (program + 1)) f.key f.entry_component f.entry_method) Nothing)) Nothing))

-- The tree of such a text.
abbrev pub first_tree : (ℕ → Spot) → (device program : ℕ) → First → Node
first_tree at device program f = Text (at 0) (first_declarations at device program f)

-- No object is made, and no component has a field.
abbrev pub empty_heap : Heap
empty_heap = record { cells = []; globals = [] }
