-- What it means that a procedure of linear code is another one with its arithmetic as calls of routines.
use Rattle.std.specs.Prelude.{◌≡◌, ℕ, suc, ◌+◌, ◌<◌, ◌^◌, true, false, List, [], ◌∷◌, Option, Some, None, slice_get}
use Rattle.vg_meaning.specs.History.{History}
use Rattle.vg_meaning.specs.World.{World}
use Rattle.vg_lin.specs.declared.instr.Computation.{Computation}
use Rattle.vg_lin.specs.declared.instr.Plain.TheVariants.{Compute}
use Rattle.vg_lin.specs.declared.instr.Plain.{Plain as PlainInstr}
use Rattle.vg_lin.specs.declared.instr.Instr.{Instr}
use Rattle.vg_lin.specs.declared.instr.Instr.TheVariants.{Plain, When, Unless, Jump, Call, Return, Idle}
use Rattle.vg_lin.specs.Values.{computed}
use Rattle.vg_lin.specs.Program.{Procedure, Program}
use Rattle.vg_lin.specs.State.{LocalState, State, value, sets}
use Rattle.vg_lin.specs.Meaning.{language, codes_in}
use Rattle.vg_lin.specs.Steps.{Frame}
use Rattle.vg_lin.specs.Follows.{Leads, conf}
use Rattle.vg_arith.specs.Routines.{IsRoutine}
use Rattle.vg_expand.specs.Called.{is_called}
use Rattle.vg_expand.specs.Unpushed.{is_push}

-- ---- what is done

-- Each routine that is called stands in the program: the first one has this number, and each other one the number behind.
abbrev pub HasRoutines : (first : ℕ) → Program → Type 0
HasRoutines first p =
    (which : ℕ) → which < 4 → is_called (first + which) p.procedures ≡ true
    → (m : Procedure) × (slice_get p.procedures (first + which) ≡ Some m) × IsRoutine which m

-- A local has its width, and a value that the width holds, where it has one.
abbrev pub IsHeld : (width : ℕ) → Option ℕ → Type 0
IsHeld w (Some x) = x < 256 ^ w
IsHeld w None = Unit {0}

abbrev pub Holds : (widths : List ℕ) → List LocalState → Type 0
Holds [] [] = Unit {0}
Holds (w ∷ ws) (l ∷ ls) = (l.width ≡ w) × IsHeld w l.value × Holds ws ls
Holds _ _ = ⊥

-- From one place of a procedure to another one its code does a computation, in every program that has it and the routines that are called.
abbrev pub Does : (first : ℕ) → Procedure → (from to : ℕ) → Computation → Type 0
Does first m from to c =
    (p : Program) (q : ℕ) → slice_get p.procedures q ≡ Some m → HasRoutines first p
    → (fs : List (Frame State)) (s : State) (w : World History) (x y z : ℕ) → Holds m.widths s.locals
    → value c.left s ≡ Some x → value c.right s ≡ Some y → computed c.operator c.width x y ≡ Some z
    → Leads (language p) (codes_in p.procedures) 1 (conf q from fs s w) (conf q to fs (sets c.to z s) w)

-- ---- where it stands

-- An instruction stands at its new place, and what is behind it follows.
abbrev pub Kept : Procedure → (place : ℕ → ℕ) → (at : ℕ) → Instr → Type 0
Kept m place at i = (slice_get m.code (place at) ≡ Some i) × (place (suc at) ≡ suc (place at))

-- The same for a plain instruction. In place of a computation stands code that does it, and does not begin with a push.
abbrev pub PlainStands : (first : ℕ) → Procedure → (place : ℕ → ℕ) → (at : ℕ) → PlainInstr → Type 0
PlainStands first m place at (Compute c) = (is_push (slice_get m.code (place at)) ≡ false) × Does first m (place at) (place (suc at)) c
PlainStands first m place at p = Kept m place at (Plain p)

-- What stands in a procedure for the instruction at a place of the other one, by the new places of all its places.
abbrev pub StandsFor : (first : ℕ) → Procedure → (place : ℕ → ℕ) → (at : ℕ) → Instr → Type 0
StandsFor first m place at (Plain p) = PlainStands first m place at p
StandsFor first m place at (When t to) = Kept m place at (When t (place to))
StandsFor first m place at (Unless t to) = Kept m place at (Unless t (place to))
StandsFor first m place at (Jump to) = slice_get m.code (place at) ≡ Some (Jump (place to))
StandsFor first m place at (Call c) = Kept m place at (Call c)
StandsFor first m place at (Return w a) = slice_get m.code (place at) ≡ Some (Return w a)
StandsFor first m place at Idle = Kept m place at Idle

-- The second procedure is the first one with its arithmetic as calls of routines. It has the same locals.
pub record Expands (first : ℕ) (old new : Procedure) : Type 0 where
  pub method : new.method ≡ old.method
  pub params : new.params ≡ old.params
  pub result : new.result ≡ old.result
  pub widths : new.widths ≡ old.widths
  pub place : ℕ → ℕ
  pub begins : place 0 ≡ 0
  pub each : (at : ℕ) (i : Instr) → slice_get old.code at ≡ Some i → StandsFor first new place at i
