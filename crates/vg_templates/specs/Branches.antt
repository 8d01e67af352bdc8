-- The code for branches of linear code: a comparison, and a branch by what it tells. No flag lives on behind it.
use Rattle.std.specs.Prelude.{ℕ, ◌≡◌, ◌==◌, ◌&&◌, Bool, true, false, not, if◌then◌else◌, List, [], ◌∷◌, ◌++◌}
use Rattle.vg_meaning.specs.Outside.{Outside}
use Rattle.avr_instr.specs.declared.instr.Instr.{Instr}
use Rattle.avr_instr.specs.declared.instr.Instr.TheVariants.{Brbc, Brbs, Jmp, Or}
use Rattle.avr_isa.specs.Flags.{is_set, with_flags}
use Rattle.avr_isa.specs.Machine.{State as MachineState}
use Rattle.vg_lin.specs.declared.instr.Comparison.{Comparison}
use Rattle.vg_lin.specs.declared.instr.Comparison.TheVariants.{Below, Less, Same}
use Rattle.vg_lin.specs.declared.instr.Operand.{Operand}
use Rattle.vg_lin.specs.declared.instr.Operand.TheVariants.{Local, Known}
use Rattle.vg_lin.specs.declared.instr.Test.{Test}
use Rattle.vg_lin.specs.Steps.{Frame}
use Rattle.vg_lin.specs.State.{State}
use Rattle.avr_view.specs.Run.{Run}
use Rattle.avr_view.specs.View.{View}
use Rattle.vg_templates.specs.Layouts.{Layout}
use Rattle.vg_templates.specs.Frames.{Places}
use Rattle.vg_templates.specs.Pieces.{Sees}
use Rattle.vg_templates.specs.Chains.{compares}
use Rattle.vg_templates.specs.Operands.{finds, found_in}
use Rattle.vg_templates.specs.Outcomes.{Lies}

-- bytes are joined with the one in r22
abbrev pub joins : List ℕ → List Instr
joins [] = []
joins (r ∷ rs) = Or 22 r ∷ joins rs

-- all of several bytes are joined with the first one, which came into r22
abbrev pub joins_behind : List ℕ → List Instr
joins_behind [] = []
joins_behind (r ∷ rs) = joins rs

-- several bytes, of which the first one came into r22, where it is free
abbrev pub are_free : List ℕ → Bool
are_free [] = false
are_free (r ∷ []) = false
are_free (r ∷ (s ∷ rs)) = r == 22

-- whether a number is tested for zero
abbrev pub is_zero : Operand → Bool
is_zero (Local k) = false
is_zero (Known x) = x == 0

abbrev pub is_same : Comparison → Bool
is_same Same = true
is_same _ = false

-- the left operand is in registers: it is tested for zero by what all its bytes are together, or the right one is found and they are compared
abbrev pub compares_found : (joined : Bool) → Layout → Test → (left : List ℕ) → List Instr
compares_found true l t left = joins_behind left
compares_found false l t left = finds l t.right 18 t.width ++ compares left (found_in l t.right 18 t.width)

abbrev pub is_joined : Test → (left : List ℕ) → Bool
is_joined t left = is_same t.comparison && (is_zero t.right && are_free left)

-- both operands are found, and compared
abbrev pub tests : Layout → Test → List Instr
tests l t =
    let left = found_in l t.left 22 t.width in
    finds l t.left 22 t.width ++ compares_found (is_joined t left) l t left

-- the bit of SREG that a comparison tells by: C, S and Z
abbrev pub told_by : Comparison → ℕ
told_by Below = 0
told_by Less = 4
told_by Same = 1

-- a branch near by, to where this distance of seven bits leads, that is taken where the bit has this value
abbrev pub near_branch : (bit : ℕ) (wanted : Bool) (distance : ℕ) → List Instr
near_branch bit true k = Brbs bit k ∷ []
near_branch bit false k = Brbc bit k ∷ []

-- one to any word address: a branch past a jump
abbrev pub far_branch : (bit : ℕ) (wanted : Bool) (to : ℕ) → List Instr
far_branch bit true to = Brbc bit 2 ∷ Jmp to ∷ []
far_branch bit false to = Brbs bit 2 ∷ Jmp to ∷ []

-- behind a comparison: the procedure lies as before, and the bit tells
pub record Told (i : Places) (m : ℕ) (live : ℕ → Bool) (s : State) (frames : List (Frame State)) (o : Outside) (bit : ℕ) (truth : Bool) (v : View) : Type 0 where
  pub lies : Lies i m live s frames o v
  pub tells : is_set bit (with_flags 0 v.regs.flags) ≡ truth

-- the machine is at one of two places, where the procedure lies with the locals that are live there
abbrev pub Branched : (e : Run) (i : Places) (m : ℕ) (behind : Bool → ℕ → Bool) (s : State) (frames : List (Frame State)) (o : Outside) (taken : Bool)
    (to next : ℕ) → MachineState → Type 0
Branched e i m behind s frames o taken to next t = Sees e (Lies i m (behind taken) s frames o) (if taken then to else next) t

-- whether a branch is taken that wants this truth value
abbrev pub is_taken : (wanted truth : Bool) → Bool
is_taken true truth = truth
is_taken false truth = not truth
