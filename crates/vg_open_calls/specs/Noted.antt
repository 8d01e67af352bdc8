-- What a run of linear code notes of its open calls.
use Rattle.std.specs.Prelude.{ℕ, ◌≡◌, ◌⊎◌, List, [], ◌∷◌, Some, None}
use Rattle.vg_meaning.specs.History.{Active}
use Rattle.vg_lin.specs.declared.instr.Call.{Call as Calling}
use Rattle.vg_lin.specs.declared.instr.Callee.TheVariants.{Procedure as ByNumber}
use Rattle.vg_lin.specs.declared.instr.Instr.TheVariants.{Call}
use Rattle.vg_lin.specs.Meaning.{language, codes_in}
use Rattle.vg_lin.specs.Program.{Program}
use Rattle.vg_lin.specs.State.{State}
use Rattle.vg_lin.specs.Steps.{Frame, Config, open_calls, fetch}

-- these calls are one of the rows
abbrev pub IsAmong : List Active → List (List Active) → Type 0
IsAmong calls [] = ⊥
IsAmong calls (row ∷ rows) = (calls ≡ row) ⊎ IsAmong calls rows

-- the calls were noted, where there are any
abbrev pub IsNoted : List Active → List (List Active) → Type 0
IsNoted calls openings = (calls ≡ []) ⊎ IsAmong calls openings

-- those of a procedure and the frames below it, and those of each of these frames
abbrev pub AreNoted : Program → List (List Active) → (m : ℕ) → List (Frame State) → Type 0
AreNoted p openings m [] = IsNoted (open_calls (language p) m []) openings
AreNoted p openings m (f ∷ fs) = IsNoted (open_calls (language p) m (f ∷ fs)) openings × AreNoted p openings f.proc fs

-- The procedure with which a run begins is no active call, and first calls one that is, by its number.
pub record CallsFirst (p : Program) (a : Active) : Type 0 where
  pub unnamed : (language p).named p.start ≡ None
  pub call : Calling
  pub first : fetch (codes_in p.procedures) p.start 0 ≡ Some (Call call)
  pub main : ℕ
  pub callee : call.callee ≡ ByNumber main
  pub named : (language p).named main ≡ Some a

-- before the first call
pub record IsAtFirst (p : Program) (c : Config State) : Type 0 where
  pub proc : c.proc ≡ p.start
  pub pc : c.pc ≡ 0
  pub frames : c.frames ≡ []
  pub woken : c.woken ≡ None
