-- What it means that procedures are linked: their code stands one behind the other, and leads from one to another.
use Rattle.std.specs.Prelude.{ℕ, ◌≡◌, ◌+◌, ◌<◌, ◌≤◌, List, ◌++◌, length, Some, slice_get}
use Rattle.avr_instr.specs.declared.instr.Instr.{Instr as Avr}
use Rattle.avr_isa.specs.Standing.{widths}
use Rattle.vg_lin.specs.declared.instr.Instr.{Instr}
use Rattle.vg_lin.specs.declared.instr.Instr.TheVariants.{Plain, When, Unless, Jump, Call, Return, Idle}
use Rattle.vg_lin.specs.Program.{Procedure, Program}
use Rattle.vg_lin.specs.Sound.{waits_of}
use Rattle.vg_templates.specs.Linkage.{prologue}
use Rattle.vg_templates.specs.Framed.{framed, live_in}
use Rattle.vg_templates.specs.Branches.{tests}
use Rattle.vg_templates.specs.Calls.{call_words}
use Rattle.vg_templates.specs.Flow.{way_of}
use Rattle.vg_templates.specs.Whole.{Links, template}
use Rattle.vg_followed.specs.Stands.{HopLeads, TestLeads, CalleeLeads, call_place}
use Rattle.vg_covered.specs.Fitting.{IsFit}
use Rattle.vg_select.specs.Selected.{Leading}
use Rattle.vg_put_procedures.specs.Emitted.{body_code, place_of}

-- A piece of code that begins at a word address, where all code begins at another one.
pub record HasPiece (start : ℕ) (code : List Avr) (at : ℕ) (piece : List Avr) : Type 0 where
  pub front : List Avr
  pub rest : List Avr
  pub cut : code ≡ front ++ (piece ++ rest)
  pub place : at ≡ start + widths front

-- Where the instruction at a place of a procedure leads.
abbrev pub leading_of : Links → (m pc : ℕ) → Leading
leading_of x m pc = record { jump = x.jump m pc; branch = x.branch m pc; call = x.call m pc; idle = x.idle }

-- Jumps, branches and calls lead to the code of what they name, and behind a call stands what comes back.
abbrev pub Targets : Links → (m pc : ℕ) → Instr → Type 0
Targets x m pc (Plain q) = Unit {0}
Targets x m pc (When t to) = TestLeads x m pc to (x.place m pc + widths (tests (x.places.layouts m) t))
Targets x m pc (Unless t to) = TestLeads x m pc to (x.place m pc + widths (tests (x.places.layouts m) t))
Targets x m pc (Jump to) = HopLeads (x.jump m pc) (x.place m pc) (x.place m to)
Targets x m pc (Call c) =
    (x.places.behind m pc ≡ call_place x m pc c + call_words (way_of c.callee (x.call m pc)))
    × CalleeLeads x c.callee (x.call m pc) (call_place x m pc c)
Targets x m pc (Return w a) = Unit {0}
Targets x m pc Idle = x.places.behind m pc ≡ x.place m pc + 2

pub record InstrLinked (x : Links) (p : Program) (m pc : ℕ) (i : Instr) : Type 0 where
  pub some : 1 ≤ length (template x p m pc i)
  pub targets : Targets x m pc i
  pub fit : IsFit p i

-- Its locals lie where its layout says, and are live where its code needs them; its code stands from its entry on, and each instruction's where the code before it ends.
pub record ProcedureLinked (x : Links) (p : Program) (start : ℕ) (code : List Avr) (m : ℕ) (procedure : Procedure) : Type 0 where
  pub layout : x.places.layouts m ≡ framed procedure
  pub live : x.places.live m ≡ live_in procedure
  pub stands : HasPiece start code (x.entry m) (prologue (x.places.layouts m) ++ body_code (x.places.layouts m) p (leading_of x m) procedure.code)
  pub room : x.entry m + widths (prologue (x.places.layouts m) ++ body_code (x.places.layouts m) p (leading_of x m) procedure.code) < 65536
  pub places : (pc : ℕ) → x.place m pc
      ≡ place_of (x.places.layouts m) p (leading_of x m) procedure.code (x.entry m + widths (prologue (x.places.layouts m))) pc
  pub waits : (pc : ℕ) → x.waits m pc ≡ waits_of procedure pc
  pub each : (pc : ℕ) (i : Instr) → slice_get procedure.code pc ≡ Some i → InstrLinked x p m pc i
