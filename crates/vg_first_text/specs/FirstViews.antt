-- Mirrors: the code's records of a program of constants, as the definition has them.
use Rattle.std.specs.Prelude.{ℕ, List, map, ◌≡◌, ◌++◌, Bool, Option, bytes_eq}
use Rattle.std.specs.List.{AllByRecursion}
use denote.Bor.{Bor}
use Rattle.vg_first_text.specs.declared.first_text.parts.Assignment.{Assignment}
use Rattle.vg_first_text.specs.declared.first_text.parts.Register.{Register}
use Rattle.vg_first_text.specs.declared.first_text.parts.Program.{Program}
use Rattle.vg_first_text.specs.FirstText.{First, FirstAssignment, FirstRegister, assignment_pieces, register_pieces, register_address, IsAssignment}
use Rattle.vg_first_text.specs.Pieces.{Piece}

abbrev pub assignment_view : Assignment → FirstAssignment
assignment_view a = record { device = a.device.now; register = a.register.now; digits = a.digits.now }

abbrev pub register_view : Register → FirstRegister
register_view r = record { name = r.name.now; digits = r.digits.now }

abbrev pub program_view : Program → First
program_view p = record {
  component = p.head.component.now;
  method = p.head.method.now;
  assignments = map assignment_view p.assignments.items;
  device = p.device.now;
  registers = map register_view p.registers.items;
  program = p.tail.program.now;
  key = p.tail.key.now;
  entry_component = p.tail.component.now;
  entry_method = p.tail.method.now;
}

-- no assignment stands in front
abbrev pub IsBehindAssignments : List Piece → Type 0
IsBehindAssignments ps = (a : FirstAssignment) (more : List Piece) → ps ≡ assignment_pieces a ++ more → ⊥

-- no register stands in front
abbrev pub IsBehindRegisters : List Piece → Type 0
IsBehindRegisters ps = (r : FirstRegister) (more : List Piece) → ps ≡ register_pieces r ++ more → ⊥

-- equality of names behind references
abbrev pub same_name : Bor (List ℕ) → Bor (List ℕ) → Bool
same_name a b = bytes_eq a.now b.now

-- a look-up gives the address of each register
abbrev pub TellsAddresses : (Bor (List ℕ) → Option ℕ) → List FirstRegister → Type 0
TellsAddresses found registers = (name : Bor (List ℕ)) → found name ≡ register_address registers name.now

-- each assignment writes a byte to a register of the device
abbrev pub AreAssignments : First → Type 0
AreAssignments f = AllByRecursion (IsAssignment f.device f.registers) f.assignments
