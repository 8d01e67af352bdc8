-- The code for calls of linear code, whose arguments all wait on the stack or are all in registers, and where it leads.
use Rattle.std.specs.Prelude.{ℕ, zero, suc, ◌≡◌, ◌+◌, ◌<◌, Bool, true, false, ◌&&◌, nat_le, List, [], ◌∷◌, ◌++◌, length, take, drop, reverse}
use Rattle.avr_instr.specs.declared.instr.Instr.{Instr}
use Rattle.avr_instr.specs.declared.instr.Instr.TheVariants.{Call, Icall, Rcall}
use Rattle.avr_isa.specs.Flow.{far_from}
use Rattle.vg_lin.specs.State.{State, Waiting}
use Rattle.vg_lin.specs.Meaning.{begun, values_of}
use Rattle.avr_view.specs.Registers.{Regs, pair}
use Rattle.vg_templates.specs.Spots.{InFrame, number}
use Rattle.vg_templates.specs.Layouts.{Layout, link_size}

-- how a procedure is called: by its word address, by a signed distance of twelve bits, or by Z
pub data Way : Type 0 where
  Far : (entry : ℕ) → Way
  Near : (distance : ℕ) → Way
  ByZ : Way

abbrev pub call_code : Way → Instr
call_code (Far entry) = Call entry
call_code (Near k) = Rcall k
call_code ByZ = Icall

-- how many words the call takes, and where it leads from a place
abbrev pub call_words : Way → ℕ
call_words (Far entry) = 2
call_words (Near k) = 1
call_words ByZ = 1

abbrev pub leads_to : Way → (place : ℕ) → Regs → ℕ
leads_to (Far entry) place g = entry
leads_to (Near k) place g = far_from place k
leads_to ByZ place g = pair g 30

-- the bytes of the first of these widths, and of those behind one of them
abbrev pub sum_of : List ℕ → ℕ
sum_of [] = 0
sum_of (w ∷ ws) = w + sum_of ws

abbrev pub behind_width : List ℕ → (k : ℕ) → ℕ
behind_width [] k = 0
behind_width (w ∷ ws) zero = sum_of ws
behind_width (w ∷ ws) (suc k) = behind_width ws k

-- parameters of these widths go in registers, from r18 to r25: at most four of them, in at most eight bytes
abbrev pub by_registers : (widths : List ℕ) → Bool
by_registers ws = nat_le (length ws) 4 && nat_le (sum_of ws) 8

-- The first parameters of a procedure, so many, are pushed, and lie where they were pushed: the last one behind the return address, the others behind it.
pub record HasPushed (l : Layout) (count : ℕ) : Type 0 where
  pub spots : (k : ℕ) → k < count → l.spots k ≡ InFrame (l.slots + link_size l + behind_width (take count l.widths) k)
  pub bytes : l.pushed ≡ sum_of (take count l.widths)
  pub arrive : l.arrives ≡ []

-- whether each of so many locals is live, from one on
abbrev pub lives_from : (live : ℕ → Bool) (local count : ℕ) → List Bool
lives_from live k zero = []
lives_from live k (suc n) = live k ∷ lives_from live (suc k) n

-- Or they arrive in registers, and those that are live where the procedure begins are kept.
pub record HasArriving (l : Layout) (live : ℕ → Bool) (count : ℕ) : Type 0 where
  pub kept : l.arrives ≡ lives_from live 0 count
  pub bytes : l.pushed ≡ 0
  pub numbered : (k : ℕ) → live k ≡ true → k < length l.widths

-- Their widths decide.
abbrev pub HasBy : (by_registers : Bool) → Layout → (live : ℕ → Bool) → (count : ℕ) → Type 0
HasBy false l live n = HasPushed l n
HasBy true l live n = HasArriving l live n

abbrev pub HasParameters : Layout → (live : ℕ → Bool) → (count : ℕ) → Type 0
HasParameters l live n = HasBy (by_registers (take n l.widths)) l live n

-- values in registers, one behind the other from one on, each with its lowest byte first
abbrev pub Carried : Regs → (first : ℕ) → List Waiting → Type 0
Carried g r [] = Unit {0}
Carried g r (p ∷ ps) = (number g r p.width ≡ p.value) × Carried g (r + p.width) ps

-- the values that a call takes, in the order in which they were pushed; what waits on in the caller; and the state in which the callee begins
abbrev pub taken_by : (count : ℕ) → State → List Waiting
taken_by n s = reverse (take n s.waiting)

abbrev pub kept_by : (count : ℕ) → State → State
kept_by n s = record s { waiting = drop n s.waiting }

abbrev pub begins_with : Layout → (count : ℕ) → State → State
begins_with l n s = record { locals = begun l.widths (values_of (taken_by n s) ++ []); waiting = []; ram = s.ram }

-- the same where it takes these values in registers
abbrev pub begins_on : Layout → List Waiting → State → State
begins_on l ps s = record { locals = begun l.widths (values_of ps); waiting = []; ram = s.ram }
