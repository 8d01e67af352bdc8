-- Texts of one component whose main writes constants to the registers of one device.
use Rattle.std.specs.Prelude.{ℕ, ◌≡◌, ◌≢◌, ◌≤◌, true, List, [], ◌∷◌, ◌++◌, length, map, Option, Some, None, codes, bytes_eq, unwrap_or, flat_map, if◌then◌else◌}
use Rattle.std.specs.List.{AllByRecursion}
use Rattle.vg_meaning.specs.Device.{IsDeviceAddress}
use Rattle.vg_first_text.specs.declared.device_write.DeviceWrite.{DeviceWrite}
use Rattle.vg_syntax.specs.declared.kind.Kind.TheVariants as kind
use Rattle.vg_syntax.specs.declared.token.Token.{Token}
use Rattle.vg_syntax.specs.Hexadecimal.{hex_value}
use Rattle.vg_syntax.specs.Lexemes.{is_hexadecimal}
use Rattle.vg_first_text.specs.Pieces.{Piece, Named, Digits, Plain, pieces}
use Rattle.vg_syntax.specs.Tokens.{IsTokens}

-- device . register = digits ;
pub record FirstAssignment : Type 0 where
  pub device : List ℕ
  pub register : List ℕ
  pub digits : List ℕ

-- register name = digits ;
pub record FirstRegister : Type 0 where
  pub name : List ℕ
  pub digits : List ℕ

-- the names and numbers of such a text, as they are written
pub record First : Type 0 where
  pub component : List ℕ
  pub method : List ℕ
  pub assignments : List FirstAssignment
  pub device : List ℕ
  pub registers : List FirstRegister
  pub program : List ℕ
  pub key : List ℕ
  pub entry_component : List ℕ
  pub entry_method : List ℕ

-- component C { method m ( ) {
abbrev pub head_pieces : (component method : List ℕ) → List Piece
head_pieces component method =
    Plain kind.Component ∷ Named component ∷ Plain kind.LeftBrace
    ∷ Plain kind.Method ∷ Named method ∷ Plain kind.LeftParen ∷ Plain kind.RightParen ∷ Plain kind.LeftBrace ∷ []

-- D . R = H ;
abbrev pub assignment_pieces : FirstAssignment → List Piece
assignment_pieces a =
    Named a.device ∷ Plain kind.Dot ∷ Named a.register ∷ Plain kind.Assign ∷ Digits a.digits ∷ Plain kind.Semicolon ∷ []

-- } } device D {
abbrev pub middle_pieces : (device : List ℕ) → List Piece
middle_pieces device =
    Plain kind.RightBrace ∷ Plain kind.RightBrace ∷ Plain kind.Device ∷ Named device ∷ Plain kind.LeftBrace ∷ []

-- register R = N ;
abbrev pub register_pieces : FirstRegister → List Piece
register_pieces r =
    Plain kind.Register ∷ Named r.name ∷ Plain kind.Assign ∷ Digits r.digits ∷ Plain kind.Semicolon ∷ []

-- } program P { entry main = C . m ; }
abbrev pub tail_pieces : (program key component method : List ℕ) → List Piece
tail_pieces program key component method =
    Plain kind.RightBrace ∷ Plain kind.Program ∷ Named program ∷ Plain kind.LeftBrace
    ∷ Plain kind.Entry ∷ Named key ∷ Plain kind.Assign ∷ Named component ∷ Plain kind.Dot ∷ Named method ∷ Plain kind.Semicolon
    ∷ Plain kind.RightBrace ∷ []

-- how such a text is spelled
abbrev pub first_pieces : First → List Piece
first_pieces f =
    head_pieces f.component f.method
    ++ (flat_map assignment_pieces f.assignments
    ++ (middle_pieces f.device
    ++ (flat_map register_pieces f.registers
    ++ tail_pieces f.program f.key f.entry_component f.entry_method)))

-- the number of a register is hexadecimal, and the address of a device register
pub record IsRegisterNumber (digits : List ℕ) : Type 0 where
  pub hexadecimal : is_hexadecimal digits ≡ true
  pub address : IsDeviceAddress (hex_value digits)

-- a value is written as 0x and two hexadecimal digits
pub record IsByteNumber (digits : List ℕ) : Type 0 where
  pub hexadecimal : is_hexadecimal digits ≡ true
  pub two : length digits ≡ 4

-- the address of the register of this name, where there is one
abbrev pub register_address : List FirstRegister → List ℕ → Option ℕ
register_address [] name = None
register_address (r ∷ rs) name = if bytes_eq r.name name then Some (hex_value r.digits) else register_address rs name

-- each register has a number of a device register, and a name that no later one has
abbrev pub AreRegisters : List FirstRegister → Type 0
AreRegisters [] = Unit {0}
AreRegisters (r ∷ rs) = IsRegisterNumber r.digits × (register_address rs r.name ≡ None) × AreRegisters rs

-- an assignment writes a byte to a register of the device
pub record IsAssignment (declared : List ℕ) (registers : List FirstRegister) (a : FirstAssignment) : Type 0 where
  pub device : a.device ≡ declared
  pub register : register_address registers a.register ≢ None
  pub value : IsByteNumber a.digits

-- which names are equal, and which differ
pub record AreFirstNames (f : First) : Type 0 where
  pub key : f.key ≡ codes "main"
  pub component : f.entry_component ≡ f.component
  pub method : f.entry_method ≡ f.method
  pub device_component : f.device ≢ f.component
  pub program_component : f.program ≢ f.component
  pub program_device : f.program ≢ f.device
  pub device_method : f.device ≢ f.method

-- a program of constants: its names, registers and assignments, of which there are at most 100
pub record FirstFits (f : First) : Type 0 where
  pub names : AreFirstNames f
  pub short : length f.assignments ≤ 100
  pub registers : AreRegisters f.registers
  pub assignments : AllByRecursion (IsAssignment f.device f.registers) f.assignments

-- the write of an assignment
abbrev pub write_of : List FirstRegister → FirstAssignment → DeviceWrite
write_of registers a = record { address = unwrap_or (register_address registers a.register) 0; value = hex_value a.digits }

-- the writes of the main method, in order
abbrev pub writes_of : First → List DeviceWrite
writes_of f = map (write_of f.registers) f.assignments

-- the tokens of a text spell one component that writes constants, and these are its writes
pub record IsFirst (bytes : List ℕ) (writes : List DeviceWrite) : Type 0 where
  pub tokens : List Token
  pub first : First
  pub are_tokens : IsTokens bytes tokens
  pub spelled : pieces bytes tokens ≡ first_pieces first
  pub fits : FirstFits first
  pub written : writes ≡ writes_of first
