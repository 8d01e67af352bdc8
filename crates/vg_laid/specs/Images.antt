-- What it means that a whole program is linked in the parts of an image.
use Rattle.std.specs.Prelude.{ℕ, ◌≡◌, ◌+◌, ◌<◌, ◌≤◌, length, Some, None, slice_get}
use Rattle.vg_meaning.specs.Outside.{IsVector}
use Rattle.vg_lin.specs.Program.{Procedure, Program}
use Rattle.vg_lin.specs.Sound.{IsSound}
use Rattle.vg_templates.specs.Layouts.{IsLayout}
use Rattle.vg_templates.specs.Idle.{idle_piece, stub}
use Rattle.vg_templates.specs.Whole.{Links}
use Rattle.vg_followed.specs.Stands.{ReceivesNothing}
use Rattle.vg_image.specs.Image.{Parts, code_start}
use Rattle.vg_laid.specs.Linked.{HasPiece, ProcedureLinked}

-- The slot of a vector leads to a stub, which calls the handler: a procedure that receives nothing.
pub record HandlerLinked (x : Links) (p : Program) (parts : Parts) (vector m : ℕ) : Type 0 where
  pub is_vector : IsVector vector
  pub procedure : Procedure
  pub there : slice_get p.procedures m ≡ Some procedure
  pub receives_nothing : ReceivesNothing (x.places.layouts m)
  pub at : ℕ
  pub slot : parts.slots vector ≡ Some at
  pub stands : HasPiece (code_start parts.tables) parts.code at (stub (x.entry m))
  pub room : at + 3 < 65536
  pub ends : x.places.stub_end m ≡ at + 2

pub record ProgramLinked (x : Links) (p : Program) (parts : Parts) : Type 0 where
  pub layouts : (m : ℕ) → IsLayout (x.places.layouts m)
  pub sound : (m : ℕ) (procedure : Procedure) → slice_get p.procedures m ≡ Some procedure → IsSound procedure
  pub procedures : (m : ℕ) (procedure : Procedure) → slice_get p.procedures m ≡ Some procedure
      → ProcedureLinked x p (code_start parts.tables) parts.code m procedure
  pub idle : HasPiece (code_start parts.tables) parts.code x.idle idle_piece
  pub idle_room : x.idle + 4 < 65536
  pub woken : x.places.woken ≡ x.idle + 2
  pub handlers : (vector m : ℕ) → p.handler vector ≡ Some m → HandlerLinked x p parts vector m
  -- an interrupt without a handler has an empty slot
  pub passes : (vector : ℕ) → IsVector vector → p.handler vector ≡ None → parts.slots vector ≡ None
  -- the code number of a procedure is the word address of its entry
  pub codes : (code m : ℕ) → p.codes.at_code code ≡ Some m → x.entry m ≡ code
  pub tables : parts.tables ≡ p.tables
  pub few_tables : length p.tables ≤ 60000
