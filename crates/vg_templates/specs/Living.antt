-- Which locals are live at a place of a procedure's code: those whose values are still needed there.
use Rattle.std.specs.Prelude.{ℕ, zero, suc, Bool, true, false, not, ◌&&◌, ◌||◌, ◌==◌, List, [], ◌∷◌, length, replicate, Option, Some, None, slice_get, slice_set}
use Rattle.vg_lin.specs.declared.instr.Operand.{Operand}
use Rattle.vg_lin.specs.declared.instr.Operand.TheVariants.{Local, Known}
use Rattle.vg_lin.specs.declared.instr.Test.{Test}
use Rattle.vg_lin.specs.declared.instr.Passed.{Passed}
use Rattle.vg_lin.specs.declared.instr.Callee.{Callee}
use Rattle.vg_lin.specs.declared.instr.Callee.TheVariants.{Procedure as ByNumber, Code as ByCode}
use Rattle.vg_lin.specs.declared.instr.Plain.{Plain as PlainInstr}
use Rattle.vg_lin.specs.declared.instr.Plain.TheVariants.{Copy, Compute, Product, DivideSteps, Load, Store, ReadDevice, WriteDevice, Push, Pop, Find, CodeOf, Stop}
use Rattle.vg_lin.specs.declared.instr.Instr.{Instr}
use Rattle.vg_lin.specs.declared.instr.Instr.TheVariants.{Plain, When, Unless, Jump, Call, Return, Idle}
use Rattle.vg_lin.specs.Meaning.{operands}
use Rattle.vg_templates.specs.Frames.{gets}

-- ---- one instruction

abbrev pub reads : Operand → (local : ℕ) → Bool
reads (Local i) k = k == i
reads (Known x) k = false

abbrev pub passes_on : List Passed → (local : ℕ) → Bool
passes_on [] k = false
passes_on (a ∷ as') k = reads a.value k || passes_on as' k

abbrev pub aims_by : Callee → (local : ℕ) → Bool
aims_by (ByNumber q) k = false
aims_by (ByCode a) k = reads a k

-- a local that an instruction sets is not needed before it
abbrev pub past : (to local : ℕ) (behind : Bool) → Bool
past to k behind = not (k == to) && behind

-- Whether an instruction needs a local before it, that reads it, or behind which it is needed.
abbrev pub plain_needs : (behind : Bool) (local : ℕ) → PlainInstr → Bool
plain_needs b k (Copy to a) = reads a k || past to k b
plain_needs b k (Compute c) = (reads c.left k || reads c.right k) || past c.to k b
plain_needs b k (Product to x y) = (reads x k || reads y k) || past to k b
plain_needs b k (DivideSteps r d a) = ((k == r) || (k == d)) || (reads a k || b)
plain_needs b k (Load m w to a) = reads a.index k || past to k b
plain_needs b k (Store w a from) = (reads a.index k || reads from k) || b
plain_needs b k (ReadDevice to address) = past to k b
plain_needs b k (WriteDevice address a) = reads a k || b
plain_needs b k (Push w a) = reads a k || b
plain_needs b k (Pop w to) = past to k b
plain_needs b k (Find place to a) = reads a k || past to k b
plain_needs b k (CodeOf q to) = past to k b
plain_needs b k (Stop code) = false

abbrev pub tests_it : Test → (local : ℕ) → Bool
tests_it t k = reads t.left k || reads t.right k

-- The same of each instruction, where the local is needed behind it, or at the place to which it leads.
abbrev pub needs : (behind there : Bool) (local : ℕ) → Instr → Bool
needs b t k (Plain q) = plain_needs b k q
needs b t k (When test to) = tests_it test k || (b || t)
needs b t k (Unless test to) = tests_it test k || (b || t)
needs b t k (Jump to) = t
needs b t k (Call c) = (passes_on (operands c.registers) k || aims_by c.callee k) || (not (gets c.to k) && b)
needs b t k (Return w a) = reads a k
needs b t k Idle = b

-- the place to which an instruction leads
abbrev pub leads_to : (place : ℕ) → Instr → ℕ
leads_to pc (When test to) = to
leads_to pc (Unless test to) = to
leads_to pc (Jump to) = to
leads_to pc i = suc pc

-- ---- all instructions

-- A mark for each place at which a local may be needed; none behind the last one.
abbrev pub is_marked : Option Bool → Bool
is_marked (Some b) = b
is_marked None = false

abbrev pub mark : List Bool → (place : ℕ) → Bool
mark marks pc = is_marked (slice_get marks pc)

abbrev pub needs_at : (marks : List Bool) (local place : ℕ) → Instr → Bool
needs_at ms k pc i = needs (mark ms (suc pc)) (mark ms (leads_to pc i)) k i

abbrev pub needs_there : (marks : List Bool) (local place : ℕ) → Option Instr → Bool
needs_there ms k pc (Some i) = needs_at ms k pc i
needs_there ms k pc None = false

-- The first places, so many, are marked by those behind them, from the last one to the first.
abbrev pub swept : List Instr → (local count : ℕ) → (marks : List Bool) → List Bool
swept is k zero ms = ms
swept is k (suc n) ms = swept is k n (slice_set ms n (needs_there ms k n (slice_get is n)))

-- Three times, so that what is needed at the begin of a loop reaches its end, and that of a loop in it.
abbrev pub swept_all : List Instr → (local : ℕ) → (marks : List Bool) → List Bool
swept_all is k ms = swept is k (length is) ms

abbrev pub marks_of : List Instr → (local : ℕ) → List Bool
marks_of is k = swept_all is k (swept_all is k (swept_all is k (replicate (length is) false)))

-- Marks serve where each place has one that needs it. Where they don't, the local counts as live everywhere.
abbrev pub serve : (marks : List Bool) (local place : ℕ) → List Instr → Bool
serve ms k pc [] = true
serve ms k pc (i ∷ is) = (mark ms pc || not (needs_at ms k pc i)) && serve ms k (suc pc) is

abbrev pub is_live_by : (serve : Bool) (marks : List Bool) (place : ℕ) → Bool
is_live_by served ms pc = not served || mark ms pc

abbrev pub is_live : List Instr → (local place : ℕ) → Bool
is_live is k pc = is_live_by (serve (marks_of is k) k 0 is) (marks_of is k) pc

-- ---- calls

-- Whether a local is wanted behind an instruction that lets other procedures run.
abbrev pub wants_back : (behind : Bool) (local : ℕ) → Instr → Bool
wants_back b k (Call c) = b && not (gets c.to k)
wants_back b k Idle = b
wants_back b k i = false

abbrev pub any_wants_back : (live : ℕ → Bool) (local place : ℕ) → List Instr → Bool
any_wants_back live k pc [] = false
any_wants_back live k pc (i ∷ is) = wants_back (live (suc pc)) k i || any_wants_back live k (suc pc) is

abbrev pub lasts : List Instr → (local : ℕ) → Bool
lasts is k = any_wants_back (is_live is k) k 0 is
