-- How a layout is written.
use Rattle.std.specs.Prelude.{ℕ, ◌/◌, ◌%◌, Bool, true, false, List, [], ◌∷◌, ◌++◌, codes, decimal}
use Rattle.std.specs.List.{flat_map}
use Rattle.hex.specs.Hex.{encode_lower}
use Rattle.vg_layout.specs.declared.layout.Area.{Area}
use Rattle.vg_layout.specs.declared.layout.Bound.{Bound}
use Rattle.vg_layout.specs.declared.layout.Bound.TheVariants.{Bytes, Cycle}
use Rattle.vg_layout.specs.declared.layout.Kept.{Kept}
use Rattle.vg_layout.specs.declared.layout.Layout.{Layout}
use Rattle.vg_layout.specs.declared.layout.Piece.{Piece}

-- an address in four hexadecimal digits
abbrev pub address_text : ℕ → List ℕ
address_text address = encode_lower (address / 256 ∷ address % 256 ∷ [])

-- the line of the static area, and that of the stack
abbrev pub static_line : (bytes : ℕ) → List ℕ
static_line bytes = codes "static 0100 " ++ decimal bytes ++ codes "\n"

abbrev pub stack_line : (floor bytes : ℕ) → List ℕ
stack_line floor bytes = codes "stack " ++ address_text floor ++ codes " " ++ decimal bytes ++ codes "\n"

-- how many bytes of stack are enough, or the methods of a cycle of calls
abbrev pub name_behind : List ℕ → List ℕ
name_behind name = codes " " ++ name

abbrev pub bound_line : Bound → List ℕ
bound_line (Bytes bytes) = codes "bound " ++ decimal bytes ++ codes "\n"
bound_line (Cycle names) = codes "cycle" ++ flat_map name_behind names ++ codes "\n"

-- where the program waits for interrupts
abbrev pub idle_line : (word : ℕ) → List ℕ
idle_line word = codes "idle " ++ address_text word ++ codes "\n"

-- the columns
abbrev pub home_text : (is_ram : Bool) → List ℕ
home_text true = codes "ram "
home_text false = codes "flash "

abbrev pub area_line : Area → List ℕ
area_line a = home_text a.is_ram ++ address_text a.at ++ codes " " ++ decimal a.bytes ++ codes " " ++ a.what ++ codes "\n"

-- the objects of a class
abbrev pub kept_line : Kept → List ℕ
kept_line k = codes "objects " ++ k.class ++ codes " " ++ decimal k.count ++ codes "\n"

-- a live field or method
abbrev pub live_line : List ℕ → List ℕ
live_line name = codes "live " ++ name ++ codes "\n"

-- a piece of code
abbrev pub piece_line : Piece → List ℕ
piece_line p = codes "code " ++ address_text p.word ++ codes " " ++ decimal p.words ++ codes " " ++ p.name ++ codes "\n"

-- the lines that say how SRAM is used, and where the program waits; and those of columns, objects, live members and code
abbrev pub stack_text : Layout → List ℕ
stack_text l = static_line l.static_bytes ++ stack_line l.floor l.stack ++ bound_line l.bound ++ idle_line l.idle

abbrev pub parts_text : Layout → List ℕ
parts_text l = flat_map area_line l.areas ++ flat_map kept_line l.objects ++ flat_map live_line l.live ++ flat_map piece_line l.pieces

abbrev pub layout_text : Layout → List ℕ
layout_text l = stack_text l ++ parts_text l
