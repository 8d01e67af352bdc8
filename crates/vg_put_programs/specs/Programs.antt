-- The code of all procedures of a program, one behind the other from the start procedure on, and where it stands.
use Rattle.std.specs.Prelude.{ℕ, zero, suc, ◌≡◌, ◌+◌, ◌-◌, ◌%◌, ◌==◌, nat_lt, Bool, ◌&&◌, if◌then◌else◌}
use Rattle.std.specs.Prelude.{List, [], ◌∷◌, ◌++◌, length, get_or, Option, Some, None, slice_get}
use Rattle.avr_instr.specs.declared.instr.Instr.{Instr as Avr}
use Rattle.avr_isa.specs.Standing.{widths}
use Rattle.vg_codes.specs.declared.case.Case.{Case}
use Rattle.vg_lin.specs.declared.instr.Callee.{Callee}
use Rattle.vg_lin.specs.declared.instr.Callee.TheVariants.{Procedure as ByNumber, Code as ByCode}
use Rattle.vg_lin.specs.declared.instr.Instr.{Instr}
use Rattle.vg_lin.specs.declared.instr.Instr.TheVariants.{When, Unless, Jump, Call}
use Rattle.vg_lin.specs.Program.{Procedure}
use Rattle.vg_templates.specs.Layouts.{Layout}
use Rattle.vg_templates.specs.Linkage.{prologue}
use Rattle.vg_templates.specs.Whole.{call_front}
use Rattle.vg_templates.specs.Framed.{framed}
use Rattle.vg_put_operations.specs.Coded.{code_from}
use Rattle.vg_put_flow.specs.declared.ways.Hop.{Hop}
use Rattle.vg_put_flow.specs.declared.ways.Hop.TheVariants.{Near, Far}
use Rattle.vg_put_flow.specs.declared.ways.Turn.{Turn}
use Rattle.vg_put_flow.specs.declared.ways.Turn.TheVariants.{Direct, Past}
use Rattle.vg_put_flow.specs.declared.ways.Way.{Way}
use Rattle.vg_put_flow.specs.declared.ways.Way.TheVariants.{Near as NearBy, Far as FarOff}
use Rattle.vg_select.specs.declared.leading.Leading.{Leading as Held}
use Rattle.vg_select.specs.Selected.{Leading, with_codes}
use Rattle.vg_select.specs.Within.{IsWithin}
use Rattle.vg_put_procedures.specs.Emitted.{leading_in, body_code, places_upto}
use Rattle.vg_put_programs.specs.declared.placed.Placed.{Placed}
use Rattle.vg_put_programs.specs.declared.reach.Reach.{Reach}
use Rattle.vg_put_programs.specs.declared.reach.Reach.TheVariants.{Short as Within7, Near as Within12, Far as Beyond}

-- ---- turns

-- Procedures stand in turn: the start procedure and those behind it, and then those before it. The procedure at a place in turn, where there are so many,
-- and the place in turn of a procedure.
abbrev pub in_turn : (start count k : ℕ) → ℕ
in_turn s n k = if nat_lt (s + k) n then s + k else s + k - n

abbrev pub turn_of : (start count procedure : ℕ) → ℕ
turn_of s n m = if nat_lt m s then n - s + m else m - s

abbrev pub entry_of : Option Placed → ℕ
entry_of (Some placed) = placed.entry
entry_of None = 0

abbrev pub places_of : Option Placed → List ℕ
places_of (Some placed) = placed.places
places_of None = []

-- by the place in turn
abbrev pub entry_in : List Placed → (k : ℕ) → ℕ
entry_in placed k = entry_of (slice_get placed k)

abbrev pub places_at : List Placed → (k : ℕ) → List ℕ
places_at placed k = places_of (slice_get placed k)

-- The entries of the first procedures, so many; and their code numbers.
abbrev pub entries_upto : List Placed → (start count upto : ℕ) → List ℕ
entries_upto placed s n zero = []
entries_upto placed s n (suc m) = entries_upto placed s n m ++ entry_in placed (turn_of s n m) ∷ []

abbrev pub codes_upto : List Placed → (start count upto : ℕ) → List ℕ
codes_upto placed s n zero = []
codes_upto placed s n (suc m) = codes_upto placed s n m ++ entry_in placed (turn_of s n m) % 65536 ∷ []

-- ---- where instructions lead

abbrev pub callee_in : (entries : List ℕ) → Callee → ℕ
callee_in entries (ByNumber q) = code_from entries q
callee_in entries (ByCode a) = 0

-- the word address to which a jump, a branch or a call leads, where instructions stand at these places and procedures have these entries
abbrev pub aim_in : (entries places : List ℕ) → Instr → ℕ
aim_in entries places (When t to) = get_or places to 0
aim_in entries places (Unless t to) = get_or places to 0
aim_in entries places (Jump to) = get_or places to 0
aim_in entries places (Call c) = callee_in entries c.callee
aim_in entries places i = 0

-- The word address from which its distance is counted, where it is not a far one: that behind it. A jump or a call is one word then, and a branch, with what it
-- goes past, is the last of the code of its instruction.
abbrev pub behind_in : Layout → (places : List ℕ) (place : ℕ) → Instr → ℕ
behind_in l places pc (When t to) = get_or places (suc pc) 0
behind_in l places pc (Unless t to) = get_or places (suc pc) 0
behind_in l places pc (Jump to) = get_or places pc 0 + 1
behind_in l places pc (Call c) = get_or places pc 0 + widths (call_front l c) + 1
behind_in l places pc i = 0

-- whether a signed distance leads from one word address to another, where it has so many values below 0, and as many others
abbrev pub is_within : (half behind aim : ℕ) → Bool
is_within half behind aim = nat_lt behind (aim + half + 1) && nat_lt aim (behind + half)

abbrev pub reach_for : (behind aim : ℕ) → Reach
reach_for behind aim = if is_within 64 behind aim then Within7 else if is_within 2048 behind aim then Within12 else Beyond

-- How far off the instruction at a place leads, where the instructions stand at these places and procedures have these entries. Where they stand nowhere, it is a
-- far one.
abbrev pub reach_in : Layout → (entries places : List ℕ) (place : ℕ) → Instr → Reach
reach_in l entries places pc i = if length places == 0 then Beyond else reach_for (behind_in l places pc i) (aim_in entries places i)

-- the signed distance from one word address to another, of so many values
abbrev pub offset_to : (values behind aim : ℕ) → ℕ
offset_to values behind aim = (aim % values + (values - behind % values)) % values

abbrev pub hop_for : Reach → (behind aim : ℕ) → Hop
hop_for Within7 behind aim = Near (offset_to 4096 behind aim)
hop_for Within12 behind aim = Near (offset_to 4096 behind aim)
hop_for Beyond behind aim = Far (aim % 65536)

abbrev pub turn_for : Reach → (behind aim : ℕ) → Turn
turn_for Within7 behind aim = Direct (offset_to 128 behind aim)
turn_for Within12 behind aim = Past (Near (offset_to 4096 behind aim))
turn_for Beyond behind aim = Past (Far (aim % 65536))

abbrev pub way_for : Reach → (behind aim : ℕ) → Way
way_for Within7 behind aim = NearBy (offset_to 4096 behind aim)
way_for Within12 behind aim = NearBy (offset_to 4096 behind aim)
way_for Beyond behind aim = FarOff (aim % 65536)

abbrev pub held_for : Reach → (behind aim idle : ℕ) → Held
held_for reach behind aim idle =
    record { jump = hop_for reach behind aim; branch = turn_for reach behind aim; call = way_for reach behind aim; idle = idle }

-- What is taken to be known of where a procedure stands and leads: the places of its instructions, and the code numbers of all procedures; and the places and
-- entries by which it is guessed how far off it leads.
pub record Sites : Type 0 where
  pub entries : List ℕ
  pub guessed : List ℕ
  pub codes : List ℕ
  pub places : List ℕ
  pub idle : ℕ

abbrev pub sites : (entries guessed codes places : List ℕ) (idle : ℕ) → Sites
sites entries guessed codes places idle = record { entries = entries; guessed = guessed; codes = codes; places = places; idle = idle }

abbrev pub held_of : Layout → Sites → (place : ℕ) → Option Instr → Held
held_of l x pc (Some i) = held_for (reach_in l x.entries x.guessed pc i) (behind_in l x.places pc i) (aim_in x.codes x.places i) x.idle
held_of l x pc None = held_for Beyond 0 0 x.idle

abbrev pub held_at : Layout → Sites → List Instr → (place : ℕ) → Held
held_at l x is pc = held_of l x pc (slice_get is pc)

-- of the first instructions, so many
abbrev pub helds_upto : Layout → Sites → List Instr → (count : ℕ) → List Held
helds_upto l x is zero = []
helds_upto l x is (suc n) = helds_upto l x is n ++ held_at l x is n ∷ []

abbrev pub leads_by : Layout → Sites → List Instr → ℕ → Leading
leads_by l x is = leading_in (helds_upto l x is (length is))

-- ---- the code

-- What is put: all procedures, and what is taken to be known of where they stand, by their places in turn, with their code numbers. How far off their
-- instructions lead is guessed: as far as they would if the procedures stood elsewhere, and had other entries.
pub record Emission : Type 0 where
  pub procedures : List Procedure
  pub start : ℕ
  pub dispatches : List (List Case)
  pub guess : List Placed
  pub entries : List ℕ
  pub known : List Placed
  pub codes : List ℕ
  pub idle : ℕ

abbrev pub emission : List Procedure → (start : ℕ) → List (List Case) → (guess : List Placed) (entries : List ℕ) (known : List Placed) (codes : List ℕ)
    → (idle : ℕ) → Emission
emission ms s ds guess entries known codes idle =
    record { procedures = ms; start = s; dispatches = ds; guess = guess; entries = entries; known = known; codes = codes; idle = idle }

abbrev pub procedure_code : (codes : ℕ → ℕ) → List (List Case) → (leads : ℕ → Leading) → Procedure → List Avr
procedure_code codes ds leads m =
    prologue (framed m) ++ body_code (framed m) (with_codes codes ds) leads m.code

abbrev pub piece_of : Sites → List (List Case) → Option Procedure → List Avr
piece_of x ds (Some m) = procedure_code (code_from x.codes) ds (leads_by (framed m) x m.code) m
piece_of x ds None = []

-- where it stands, from its entry on
abbrev pub placed_of : (entry : ℕ) → Sites → List (List Case) → Option Procedure → Placed
placed_of entry x ds (Some m) =
    record {
      entry = entry;
      places =
          places_upto (framed m) (with_codes (code_from x.codes) ds) (leads_by (framed m) x m.code) m.code
          (entry + widths (prologue (framed m))) (length m.code);
      end = entry + widths (procedure_code (code_from x.codes) ds (leads_by (framed m) x m.code) m);
    }
placed_of entry x ds None = record { entry = entry; places = []; end = entry }

-- by the place in turn
abbrev pub procedure_in : Emission → (k : ℕ) → Option Procedure
procedure_in e k = slice_get e.procedures (in_turn e.start (length e.procedures) k)

abbrev pub sites_at : Emission → (k : ℕ) → Sites
sites_at e k = sites e.entries (places_at e.guess k) e.codes (places_at e.known k) e.idle

abbrev pub piece_at : Emission → (k : ℕ) → List Avr
piece_at e k = piece_of (sites_at e k) e.dispatches (procedure_in e k)

-- that of the first procedures in turn, so many, and where they stand
abbrev pub pieces_upto : Emission → (count : ℕ) → List Avr
pieces_upto e zero = []
pieces_upto e (suc k) = pieces_upto e k ++ piece_at e k

abbrev pub placed_at : Emission → (first k : ℕ) → Placed
placed_at e first k = placed_of (first + widths (pieces_upto e k)) (sites_at e k) e.dispatches (procedure_in e k)

abbrev pub placed_upto : Emission → (first count : ℕ) → List Placed
placed_upto e first zero = []
placed_upto e first (suc k) = placed_upto e first k ++ placed_at e first k ∷ []

-- ---- what they need

-- There is code for each instruction of each procedure, by its layout.
abbrev pub AreWithin : List Procedure → Type 0
AreWithin ms =
    (m : ℕ) (procedure : Procedure) → slice_get ms m ≡ Some procedure → (pc : ℕ) (i : Instr) → slice_get procedure.code pc ≡ Some i
    → IsWithin (framed procedure) i
