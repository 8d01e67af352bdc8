-- What it means that the code of a program of linear code stands in flash.
use Rattle.std.specs.Prelude.{ℕ, suc, ◌≡◌, ◌≢◌, ◌+◌, ◌*◌, ◌<◌, ◌≤◌, false, List, [], ◌∷◌, length, drop, Some, None, slice_get}
use Rattle.std.specs.List.{AllByRecursion}
use Rattle.vg_meaning.specs.Outside.{IsVector}
use Rattle.avr_instr.specs.declared.instr.Instr.TheVariants.{Reti}
use Rattle.avr_isa.specs.Flow.{near_from, far_from}
use Rattle.avr_isa.specs.Standing.{widths, StandsAt, AllStandAt}
use Rattle.vg_lin.specs.declared.instr.Callee.{Callee}
use Rattle.vg_lin.specs.declared.instr.Callee.TheVariants.{Procedure as ByNumber, Code as ByCode}
use Rattle.vg_lin.specs.declared.instr.Call.{Call as Calling}
use Rattle.vg_lin.specs.declared.instr.Plain.{Plain as PlainInstr}
use Rattle.vg_lin.specs.declared.instr.Plain.TheVariants.{Push, Pop, Stop}
use Rattle.vg_lin.specs.declared.instr.Instr.{Instr}
use Rattle.vg_lin.specs.declared.instr.Instr.TheVariants.{Plain, When, Unless, Jump, Call, Return, Idle}
use Rattle.vg_lin.specs.Program.{Procedure, Program}
use Rattle.avr_view.specs.Run.{Run}
use Rattle.vg_templates.specs.Layouts.{Layout, IsLayout}
use Rattle.vg_templates.specs.Linkage.{prologue}
use Rattle.vg_templates.specs.Branches.{tests}
use Rattle.vg_templates.specs.Calls.{Way, Far, Near, ByZ, call_words, HasParameters}
use Rattle.vg_templates.specs.Idle.{IsIdle, IsHandled}
use Rattle.vg_templates.specs.Flow.{Hop, Near as NearHop, Far as FarHop, Turn, Direct, Past, way_of}
use Rattle.vg_templates.specs.Whole.{Links, call_front, template}
use Rattle.vg_followed.specs.Tables.{HoldsTables}
use Rattle.vg_followed.specs.Covered.{Covers}

-- ---- how instructions lead to one another

-- a jump that stands at a word address leads to another one
abbrev pub HopLeads : Hop → (pc to : ℕ) → Type 0
HopLeads (NearHop k) pc to = (far_from pc k ≡ to) × (to ≢ pc)
HopLeads (FarHop k) pc to = (k ≡ to) × (to ≢ pc)

-- and so does a branch
abbrev pub TurnLeads : Turn → (pc to : ℕ) → Type 0
TurnLeads (Direct k) pc to = near_from pc k ≡ to
TurnLeads (Past h) pc to = HopLeads h (pc + 1) to

-- and a call of a procedure with a number
abbrev pub WayLeads : Way → (pc to : ℕ) → Type 0
WayLeads (Far entry) pc to = entry ≡ to
WayLeads (Near k) pc to = far_from pc k ≡ to
WayLeads ByZ pc to = ⊥

abbrev pub CalleeLeads : Links → Callee → Way → (pc : ℕ) → Type 0
CalleeLeads x (ByNumber q) way pc = WayLeads way pc (x.entry q)
CalleeLeads x (ByCode a) way pc = Unit {0}

-- where the instruction stands that calls
abbrev pub call_place : Links → (m pc : ℕ) → Calling → ℕ
call_place x m pc c = x.place m pc + widths (call_front (x.places.layouts m) c)

-- the next instruction's code stands behind that of this one
abbrev pub LeadsOn : Links → Program → (m pc : ℕ) → Instr → Type 0
LeadsOn x p m pc i = x.place m (suc pc) ≡ x.place m pc + widths (template x p m pc i)

abbrev pub TestLeads : Links → (m pc to branch : ℕ) → Type 0
TestLeads x m pc to branch = TurnLeads (x.branch m pc) branch (x.place m to)

abbrev pub Leads : Links → Program → (m pc : ℕ) → Instr → Type 0
Leads x p m pc (Plain q) = LeadsOn x p m pc (Plain q)
Leads x p m pc (When t to) = LeadsOn x p m pc (When t to) × TestLeads x m pc to (x.place m pc + widths (tests (x.places.layouts m) t))
Leads x p m pc (Unless t to) = LeadsOn x p m pc (Unless t to) × TestLeads x m pc to (x.place m pc + widths (tests (x.places.layouts m) t))
Leads x p m pc (Jump to) = HopLeads (x.jump m pc) (x.place m pc) (x.place m to)
Leads x p m pc (Call c) =
    LeadsOn x p m pc (Call c)
    × ((x.places.behind m pc ≡ call_place x m pc c + call_words (way_of c.callee (x.call m pc)))
    × CalleeLeads x c.callee (x.call m pc) (call_place x m pc c))
Leads x p m pc (Return w a) = Unit {0}
Leads x p m pc Idle = LeadsOn x p m pc Idle × (x.places.behind m pc ≡ x.place m pc + 2)

-- ---- the widths of what waits

abbrev pub PlainWaits : (now next : List ℕ) → PlainInstr → Type 0
PlainWaits now next (Push w a) = next ≡ w ∷ now
PlainWaits now next (Pop w to) = now ≡ w ∷ next
PlainWaits now next (Stop code) = Unit {0}
PlainWaits now next q = next ≡ now

abbrev pub WaitsLead : Links → (m pc : ℕ) → Instr → Type 0
WaitsLead x m pc (Plain q) = PlainWaits (x.waits m pc) (x.waits m (suc pc)) q
WaitsLead x m pc (When t to) = (x.waits m to ≡ x.waits m pc) × (x.waits m (suc pc) ≡ x.waits m pc)
WaitsLead x m pc (Unless t to) = (x.waits m to ≡ x.waits m pc) × (x.waits m (suc pc) ≡ x.waits m pc)
WaitsLead x m pc (Jump to) = x.waits m to ≡ x.waits m pc
WaitsLead x m pc (Call c) = x.waits m (suc pc) ≡ drop c.pushed (x.waits m pc)
WaitsLead x m pc (Return w a) = Unit {0}
WaitsLead x m pc Idle = x.waits m (suc pc) ≡ x.waits m pc

-- ---- all code

-- the instruction at a place of a procedure stands, and its code has at least one instruction
pub record InstrStands (e : Run) (x : Links) (p : Program) (m : ℕ) (procedure : Procedure) (pc : ℕ) (i : Instr) : Type 0 where
  pub stands : AllStandAt e.flash (x.place m pc) (template x p m pc i)
  pub room : x.place m pc + widths (template x p m pc i) < 65536
  pub some : 1 ≤ length (template x p m pc i)
  pub leads : Leads x p m pc i
  pub waits : WaitsLead x m pc i
  pub covers : Covers (x.places.layouts m) (x.places.live m) p procedure.result pc i

-- the procedure with a number stands
pub record ProcedureStands (e : Run) (x : Links) (p : Program) (m : ℕ) (procedure : Procedure) : Type 0 where
  pub prologue_stands : AllStandAt e.flash (x.entry m) (prologue (x.places.layouts m))
  pub room : x.entry m + widths (prologue (x.places.layouts m)) < 65536
  pub begins : x.place m 0 ≡ x.entry m + widths (prologue (x.places.layouts m))
  pub locals : (x.places.layouts m).widths ≡ procedure.widths
  pub arguments : HasParameters (x.places.layouts m) (x.places.live m 0) procedure.params
  pub result : procedure.result ≤ 4
  pub waits : x.waits m 0 ≡ []
  pub each : (pc : ℕ) (i : Instr) → slice_get procedure.code pc ≡ Some i → InstrStands e x p m procedure pc i

-- A procedure with this layout receives nothing: none of its arguments is pushed, and it keeps none of those that arrive in registers. So it can be called with
-- whatever is in the registers.
pub record ReceivesNothing (l : Layout) : Type 0 where
  pub on_stack : l.pushed ≡ 0
  pub in_registers : AllByRecursion (λ kept. kept ≡ false) l.arrives

-- a handler is a procedure that receives nothing, to which its vector leads
pub record HandlerStands (e : Run) (x : Links) (p : Program) (vector m : ℕ) : Type 0 where
  pub procedure : Procedure
  pub there : slice_get p.procedures m ≡ Some procedure
  pub receives_nothing : ReceivesNothing (x.places.layouts m)
  pub stub : ℕ
  pub handled : IsHandled e x.places vector m stub (x.entry m)

-- the program stands
pub record Stands (e : Run) (x : Links) (p : Program) : Type 0 where
  pub layouts : (m : ℕ) → IsLayout (x.places.layouts m)
  pub procedures : (m : ℕ) (procedure : Procedure) → slice_get p.procedures m ≡ Some procedure → ProcedureStands e x p m procedure
  pub idle : IsIdle e x.places x.idle
  pub handlers : (vector m : ℕ) → p.handler vector ≡ Some m → HandlerStands e x p vector m
  pub passes : (vector : ℕ) → IsVector vector → p.handler vector ≡ None → StandsAt e.flash (2 * vector) Reti
  pub codes : (code m : ℕ) → p.codes.at_code code ≡ Some m → x.entry m ≡ code
  pub tables : HoldsTables e.flash p.tables
