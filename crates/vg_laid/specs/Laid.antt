-- Programs that are put three times: with far jumps, branches and calls alone, to learn how far off each of them leads; with near ones where these reach, to learn
-- where all code stands; and then so that it leads there.
use Rattle.std.specs.Prelude.{ℕ, suc, ◌≡◌, ◌+◌, ◌*◌, ◌%◌, ◌<◌, ◌==◌, if◌then◌else◌, Bool, List, [], ◌∷◌, ◌++◌, length, Option, Some, None, slice_get}
use Rattle.avr_instr.specs.declared.instr.Instr.{Instr as Avr}
use Rattle.avr_isa.specs.Standing.{widths}
use Rattle.vg_codes.specs.declared.case.Case.{Case}
use Rattle.vg_codes.specs.Codes.{Codes}
use Rattle.vg_lin.specs.declared.instr.Instr.{Instr}
use Rattle.vg_lin.specs.declared.instr.Instr.TheVariants.{Call, Idle}
use Rattle.vg_lin.specs.Program.{Procedure, Program}
use Rattle.vg_lin.specs.Sound.{IsSound, waits_in}
use Rattle.vg_templates.specs.Layouts.{Layout}
use Rattle.vg_templates.specs.Linkage.{prologue}
use Rattle.vg_templates.specs.Framed.{framed, live_in}
use Rattle.vg_templates.specs.Calls.{call_words}
use Rattle.vg_templates.specs.Calls as calls
use Rattle.vg_templates.specs.Idle.{stub}
use Rattle.vg_templates.specs.Flow.{Hop, Near, Far, Turn, Direct, Past, way_of}
use Rattle.vg_templates.specs.Whole.{Links, call_front}
use Rattle.vg_covered.specs.Fitting.{IsFit}
use Rattle.vg_put_operations.specs.Coded.{code_from}
use Rattle.vg_select.specs.Selected.{Leading, with_codes}
use Rattle.vg_put_procedures.specs.Emitted.{place_of}
use Rattle.vg_put_programs.specs.declared.placed.Placed.{Placed}
use Rattle.vg_put_programs.specs.declared.reach.Reach.{Reach}
use Rattle.vg_put_programs.specs.declared.reach.Reach.TheVariants.{Short as Within7, Near as Within12, Far as Beyond}
use Rattle.vg_put_programs.specs.Programs.{turn_of, places_at, entries_upto, codes_upto, aim_in, behind_in, reach_in, offset_to}
use Rattle.vg_put_programs.specs.Programs.{Sites, sites}
use Rattle.vg_put_programs.specs.Programs.{Emission, emission, pieces_upto, placed_upto}

-- ---- each time

abbrev pub unknown : List Procedure → (start : ℕ) → List (List Case) → Emission
unknown ms s ds = emission ms s ds [] [] [] [] 0

-- where all procedures would stand with far jumps, branches and calls alone; and their entries
abbrev pub far_from : List Procedure → (start : ℕ) → List (List Case) → (first : ℕ) → List Placed
far_from ms s ds first = placed_upto (unknown ms s ds) first (length ms)

abbrev pub entries_from : List Procedure → (start : ℕ) → List (List Case) → (first : ℕ) → List ℕ
entries_from ms s ds first = entries_upto (far_from ms s ds first) s (length ms) (length ms)

abbrev pub sized : List Procedure → (start : ℕ) → List (List Case) → (first : ℕ) → Emission
sized ms s ds first = emission ms s ds (far_from ms s ds first) (entries_from ms s ds first) [] [] 0

-- where they stand
abbrev pub placed_from : List Procedure → (start : ℕ) → List (List Case) → (first : ℕ) → List Placed
placed_from ms s ds first = placed_upto (sized ms s ds first) first (length ms)

-- the word address behind all procedures: there the program waits for interrupts
abbrev pub idle_from : List Procedure → (start : ℕ) → List (List Case) → (first : ℕ) → ℕ
idle_from ms s ds first = first + widths (pieces_upto (sized ms s ds first) (length ms))

-- the code numbers: word addresses of entries, in two bytes
abbrev pub codes_from : List Procedure → (start : ℕ) → List (List Case) → (first : ℕ) → List ℕ
codes_from ms s ds first = codes_upto (placed_from ms s ds first) s (length ms) (length ms)

abbrev pub known : List Procedure → (start : ℕ) → List (List Case) → (first : ℕ) → Emission
known ms s ds first =
    emission ms s ds (far_from ms s ds first) (entries_from ms s ds first) (placed_from ms s ds first) (codes_from ms s ds first)
    (idle_from ms s ds first)

-- ---- where instructions lead

abbrev pub hop_by : Reach → (behind aim : ℕ) → Hop
hop_by Within7 behind aim = Near (offset_to 4096 behind aim)
hop_by Within12 behind aim = Near (offset_to 4096 behind aim)
hop_by Beyond behind aim = Far (aim % 65536)

abbrev pub turn_by : Reach → (behind aim : ℕ) → Turn
turn_by Within7 behind aim = Direct (offset_to 128 behind aim)
turn_by Within12 behind aim = Past (Near (offset_to 4096 behind aim))
turn_by Beyond behind aim = Past (Far (aim % 65536))

abbrev pub way_by : Reach → (behind aim : ℕ) → calls.Way
way_by Within7 behind aim = calls.Near (offset_to 4096 behind aim)
way_by Within12 behind aim = calls.Near (offset_to 4096 behind aim)
way_by Beyond behind aim = calls.Far (aim % 65536)

abbrev pub lead_by : Reach → (behind aim idle : ℕ) → Leading
lead_by reach behind aim idle =
    record { jump = hop_by reach behind aim; branch = turn_by reach behind aim; call = way_by reach behind aim; idle = idle }

abbrev pub reach_of : Layout → Sites → (place : ℕ) → Option Instr → Reach
reach_of l x pc (Some i) = reach_in l x.entries x.guessed pc i
reach_of l x pc None = Beyond

abbrev pub behind_hop : Layout → (places : List ℕ) (place : ℕ) → Option Instr → ℕ
behind_hop l places pc (Some i) = behind_in l places pc i
behind_hop l places pc None = 0

abbrev pub aim_of : (codes places : List ℕ) → Option Instr → ℕ
aim_of codes places (Some i) = aim_in codes places i
aim_of codes places None = 0

abbrev pub lead_of : Layout → Sites → (place : ℕ) → Option Instr → Leading
lead_of l x pc o = lead_by (reach_of l x pc o) (behind_hop l x.places pc o) (aim_of x.codes x.places o) x.idle

abbrev pub lead_at : Layout → Sites → List Instr → (place : ℕ) → Leading
lead_at l x is pc = lead_of l x pc (slice_get is pc)

-- ---- where it stands

abbrev pub no_procedure : Procedure
no_procedure = record { method = None; params = 0; result = 0; widths = []; code = [] }

abbrev pub layout_of : Option Procedure → Layout
layout_of (Some m) = framed m
layout_of None = framed no_procedure

abbrev pub live_of : Option Procedure → (place local : ℕ) → Bool
live_of (Some m) = live_in m
live_of None = live_in no_procedure

abbrev pub instrs_of : Option Procedure → List Instr
instrs_of (Some m) = m.code
instrs_of None = []

-- the first place at which a number stands in a list, or its length
abbrev pub index_in : List ℕ → ℕ → ℕ
index_in [] x = 0
index_in (y ∷ ys) x = if y == x then 0 else suc (index_in ys x)

-- the stubs of these procedures stand at a word address, one behind the other
abbrev pub stub_at : (stubs : List ℕ) → (at procedure : ℕ) → ℕ
stub_at stubs at m = at + 3 * index_in stubs m

abbrev pub stubs_code : (codes stubs : List ℕ) → List Avr
stubs_code codes [] = []
stubs_code codes (m ∷ ms) = stub (code_from codes m) ++ stubs_code codes ms

-- where a call and an instruction that idles come back to
abbrev pub behind_of : Layout → (at : ℕ) → Leading → Option Instr → ℕ
behind_of l at to (Some (Call c)) = at + widths (call_front l c) + call_words (way_of c.callee to.call)
behind_of l at to (Some Idle) = at + 2
behind_of l at to _ = 0

module _ (e : Emission) (p : Program) where
  abbrev pub layout_at : (m : ℕ) → Layout
  layout_at m = layout_of (slice_get e.procedures m)

  abbrev pub instrs_at : (m : ℕ) → List Instr
  instrs_at m = instrs_of (slice_get e.procedures m)

  abbrev pub known_places : (m : ℕ) → List ℕ
  known_places m = places_at e.known (turn_of e.start (length e.procedures) m)

  abbrev pub guessed_places : (m : ℕ) → List ℕ
  guessed_places m = places_at e.guess (turn_of e.start (length e.procedures) m)

  abbrev pub sites_of : (m : ℕ) → Sites
  sites_of m = sites e.entries (guessed_places m) e.codes (known_places m) e.idle

  abbrev pub leads_at : (m pc : ℕ) → Leading
  leads_at m pc = lead_at (layout_at m) (sites_of m) (instrs_at m) pc

  abbrev pub place_at : (m pc : ℕ) → ℕ
  place_at m pc =
      place_of (layout_at m) p (leads_at m) (instrs_at m) (code_from e.codes m + widths (prologue (layout_at m))) pc

  -- The links of what is put, with the stubs of these procedures behind the piece in which the program waits.
  abbrev pub links_of : (stubs : List ℕ) → Links
  links_of stubs =
      record {
        places = record {
          layouts = layout_at;
          live = λ m. live_of (slice_get e.procedures m);
          behind = λ m pc. behind_of (layout_at m) (place_at m pc) (leads_at m pc) (slice_get (instrs_at m) pc);
          woken = e.idle + 2;
          stub_end = λ m. stub_at stubs (e.idle + 4) m + 2;
        };
        entry = λ m. code_from e.codes m;
        place = place_at;
        waits = λ m pc. waits_in [] (instrs_at m) pc;
        jump = λ m pc. (leads_at m pc).jump;
        branch = λ m pc. (leads_at m pc).branch;
        call = λ m pc. (leads_at m pc).call;
        idle = e.idle;
      }

-- ---- code numbers

-- The procedure whose code number it is, where those of all procedures from one on stand in a list.
abbrev pub found_from : (procedure : ℕ) → List ℕ → (code : ℕ) → Option ℕ
found_from q [] c = None
found_from q (x ∷ xs) c = if x == c then Some q else found_from (suc q) xs c

abbrev pub codes_by : List ℕ → Codes
codes_by codes = record { code = code_from codes; at_code = found_from 0 codes }

-- ---- what they need

-- Each procedure is sound, and there is code for each of its instructions, whatever the code numbers are, of two bytes each.
pub record AreSound (ms : List Procedure) (ds : List (List Case)) : Type 0 where
  pub sound : (m : ℕ) (procedure : Procedure) → slice_get ms m ≡ Some procedure → IsSound procedure
  pub fit : (m : ℕ) (procedure : Procedure) → slice_get ms m ≡ Some procedure → (pc : ℕ) (i : Instr) → slice_get procedure.code pc ≡ Some i
      → (codes : ℕ → ℕ) → ((q : ℕ) → codes q < 65536) → IsFit (with_codes codes ds) i
