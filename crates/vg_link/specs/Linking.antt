-- What it means that a program is linked.
use Rattle.std.specs.Prelude.{ℕ, zero, suc, ◌≡◌, ◌+◌, ◌*◌, ◌<◌, ◌≤◌, nat_lt, ◌==◌, if◌then◌else◌, List, [], ◌∷◌, ◌++◌, map, take, length, Option, Some, None, slice_get, Result, Ok, Err}
use Rattle.std.specs.List.{AllByRecursion}
use Rattle.avr_instr.specs.Spelled.{InRange}
use Rattle.avr_isa.specs.Standing.{widths}
use Rattle.vg_base.specs.declared.refusal.Refusal.{Refusal}
use Rattle.vg_base.specs.declared.refusal.Refusal.TheVariants.{Fault, NoMemory}
use Rattle.vg_meaning.specs.Outside.{IsVector}
use Rattle.vg_codes.specs.Codes.{Codes, AreCodes}
use Rattle.vg_lin.specs.Program.{Procedure, Program}
use Rattle.vg_followed.specs.Reset.{reset_code}
use Rattle.vg_followed.specs.Stands.{ReceivesNothing}
use Rattle.vg_templates.specs.Framed.{framed}
use Rattle.vg_templates.specs.Whole.{Links}
use Rattle.vg_image.specs.Image.{Parts, first_table, code_start, flash_of, words_of}
use Rattle.vg_laid.specs.Linked.{HasPiece}
use Rattle.vg_laid.specs.Images.{ProgramLinked}
use Rattle.vg_tables.specs.declared.datum.Datum.{Datum}
use Rattle.vg_tables.specs.Bytes.{byte_of}
use Rattle.vg_put_programs.specs.declared.placed.Placed.{Placed}
use Rattle.vg_put_programs.specs.Programs.{emission, entries_upto, pieces_upto, placed_upto}
pub use Rattle.vg_laid.specs.Laid.{codes_by, AreSound}
use Rattle.vg_laid.specs.Laid.{idle_from, index_in, stub_at}
pub use Rattle.vg_select.specs.Selected.{with_codes}
use Rattle.vg_link.specs.declared.linked.CodeFull.{CodeFull}
use Rattle.vg_link.specs.declared.linked.Linked.{Linked}
use Rattle.vg_link.specs.declared.unlinked.Handler.{Handler}
use Rattle.vg_link.specs.declared.unlinked.Unlinked.{Unlinked}

-- ---- handlers

-- The procedure of an interrupt.
abbrev pub handler_in : List Handler → (vector : ℕ) → Option ℕ
handler_in [] v = None
handler_in (h ∷ hs) v = if h.vector == v then Some h.procedure else handler_in hs v

-- The procedures that are handlers, each once.
abbrev pub with_new : List ℕ → ℕ → List ℕ
with_new xs x = if nat_lt (index_in xs x) (length xs) then xs else xs ++ x ∷ []

abbrev pub with_handlers : List ℕ → List Handler → List ℕ
with_handlers xs [] = xs
with_handlers xs (h ∷ hs) = with_handlers (with_new xs h.procedure) hs

abbrev pub stubs_of : List Handler → List ℕ
stubs_of hs = with_handlers [] hs

-- Where the slot of a vector leads, where the stubs stand from a word address on.
abbrev pub slot_of : (stubs : List ℕ) (at : ℕ) → Option ℕ → Option ℕ
slot_of stubs at (Some m) = Some (stub_at stubs at m)
slot_of stubs at None = None

abbrev pub slots_upto : List Handler → (stubs : List ℕ) (at count : ℕ) → List (Option ℕ)
slots_upto hs stubs at zero = []
slots_upto hs stubs at (suc v) = slots_upto hs stubs at v ++ slot_of stubs at (handler_in hs v) ∷ []

-- ---- the program

-- The bytes of its tables, by the code numbers of its procedures.
abbrev pub bytes_by : (codes : List ℕ) → List Datum → List ℕ
bytes_by codes ds = map (byte_of (codes_by codes)) ds

-- A code number leads to a procedure before the one with which a run begins, which are the methods, and to no other.
abbrev pub kept_before : (start : ℕ) → Option ℕ → Option ℕ
kept_before start (Some q) = if nat_lt q start then Some q else None
kept_before start None = None

abbrev pub codes_before : (start : ℕ) → Codes → Codes
codes_before start k = record { code = k.code; at_code = λ code. kept_before start (k.at_code code) }

abbrev pub program_of : Unlinked → (codes : List ℕ) → Program
program_of u codes =
    record {
      procedures = u.procedures;
      dispatches = u.dispatches;
      codes = codes_before u.start (codes_by codes);
      tables = bytes_by codes u.tables;
      ram = take u.static_bytes (bytes_by codes u.tables);
      handler = handler_in u.handlers;
      start = u.start;
    }

-- A procedure without parameters.
abbrev pub IsAlone : List Procedure → (m : ℕ) → Type 0
IsAlone ms m = (procedure : Procedure) × (slice_get ms m ≡ Some procedure) × (procedure.params ≡ 0)

-- A procedure that an interrupt can call: it receives nothing.
abbrev pub CanHandle : List Procedure → (m : ℕ) → Type 0
CanHandle ms m = (procedure : Procedure) × (slice_get ms m ≡ Some procedure) × ReceivesNothing (framed procedure)

-- All procedures are sound and there is code for each of their instructions; the start procedure has no parameters; the handlers are those of interrupts, and
-- receive nothing; and the tables have at most 60,000 bytes, the first of which are those of the columns in RAM, at most 4,096.
pub record CanBeLinked (u : Unlinked) : Type 0 where
  pub sound : AreSound u.procedures u.dispatches
  pub start : IsAlone u.procedures u.start
  pub handlers : (vector m : ℕ) → handler_in u.handlers vector ≡ Some m → IsVector vector × CanHandle u.procedures m
  pub few_tables : length u.tables ≤ 60000
  pub few_static : u.static_bytes ≤ 4096
  pub within : u.static_bytes ≤ length u.tables

-- ---- the image

-- The program is linked in the parts of the image that the flash is: the procedures' code numbers are the word addresses of their entries, and the code
-- begins with that of reset, behind which the start procedure stands.
pub record IsLinked (u : Unlinked) (linked : Linked) : Type 0 where
  pub links : Links
  pub parts : Parts
  pub program : ProgramLinked links (program_of u linked.codes) parts
  pub flash : linked.flash ≡ flash_of parts
  pub slots : (k at : ℕ) → parts.slots k ≡ Some at → at < 65536
  pub ranged : AllByRecursion InRange parts.code
  pub words : words_of parts < 65536
  pub idle : links.idle ≡ linked.idle
  pub codes : AreCodes (length u.procedures) (codes_by linked.codes)
  pub entries : (m : ℕ) → links.entry m ≡ (codes_by linked.codes).code m
  pub reset : HasPiece (code_start parts.tables) parts.code (code_start parts.tables) (reset_code u.static_bytes first_table)
  pub entry : links.entry u.start ≡ code_start parts.tables + widths (reset_code u.static_bytes first_table)

-- ---- how large it is

-- the word address at which the start procedure stands
abbrev pub first_of : Unlinked → ℕ
first_of u = code_start (bytes_by [] u.tables) + widths (reset_code u.static_bytes first_table)

-- where all procedures stand, and the word address behind them, where their instructions lead as far off as they would if they stood where it is guessed, and had
-- these entries: their code takes as many words then wherever it leads
abbrev pub laid_by : Unlinked → (guess : List Placed) (entries : List ℕ) → List Placed
laid_by u guess entries =
    placed_upto (emission u.procedures u.start u.dispatches guess entries [] [] 0) (first_of u) (length u.procedures)

abbrev pub end_by : Unlinked → (guess : List Placed) (entries : List ℕ) → ℕ
end_by u guess entries =
    first_of u + widths (pieces_upto (emission u.procedures u.start u.dispatches guess entries [] [] 0) (length u.procedures))

-- with far jumps, branches and calls alone; and with near ones where these reach
abbrev pub far_of : Unlinked → List Placed
far_of u = laid_by u [] []

abbrev pub far_entries : Unlinked → List ℕ
far_entries u = entries_upto (far_of u) u.start (length u.procedures) (length u.procedures)

abbrev pub laid_of : Unlinked → List Placed
laid_of u = laid_by u (far_of u) (far_entries u)

abbrev pub idle_of : Unlinked → ℕ
idle_of u = idle_from u.procedures u.start u.dispatches (first_of u)

-- how many words the image takes: up to the code behind all procedures, the piece in which the program waits, and a stub for each handler
abbrev pub words_laid : Unlinked → ℕ
words_laid u = idle_of u + 4 + 3 * length (stubs_of u.handlers)

-- The flash of the chip has 65,536 words, of which the last one stays free.
abbrev pub IsRefusedFor : Result Linked (Refusal CodeFull) → (words : ℕ) → Type 0
IsRefusedFor (Ok linked) words = words < 65536
IsRefusedFor (Err (Fault full)) words = (full.words ≡ words) × (65536 ≤ words)
IsRefusedFor (Err NoMemory) words = Unit {0}
