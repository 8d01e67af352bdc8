-- What `why` answers to the bytes of a source text and the name of a member.
use Rattle.std.specs.Prelude.{ℕ, List, Option, Some, None, Result, Ok, Err}
use Rattle.vg_base.specs.declared.refusal.Refusal.{Refusal}
use Rattle.vg_base.specs.declared.refusal.Refusal.TheVariants as refusal
use Rattle.vg_faults.specs.declared.fault.Fault.{Fault}
use Rattle.vg_faults.specs.declared.fault.Fault.TheVariants.{NoMember}
use Rattle.vg_faults.specs.Starting.{init_steps}
use Rattle.vg_faults.specs.Living.{HasLiveFault}
use Rattle.vg_why.specs.Asked.{NoMemberIn, WhyIn}

-- the lines, or why there are none
abbrev pub Answer : Type 0
Answer = Result (List ℕ) (Refusal Fault)

-- memory sufficed
abbrev pub IsSettled : Answer → Type 0
IsSettled (Ok lines) = Unit {0}
IsSettled (Err (refusal.Fault why)) = Unit {0}
IsSettled (Err refusal.NoMemory) = ⊥

-- the fault that an answer names
abbrev pub fault_in : Answer → Option Fault
fault_in (Ok lines) = None
fault_in (Err (refusal.Fault why)) = Some why
fault_in (Err refusal.NoMemory) = None

-- the bytes have this fault, or the word names no member of them
abbrev pub HasFault : Fault → (bytes word : List ℕ) → Type 0
HasFault NoMember bytes word = NoMemberIn bytes word
HasFault why bytes word = HasLiveFault why bytes init_steps

-- why there are no lines
abbrev pub IsCause : Refusal Fault → (bytes word : List ℕ) → Type 0
IsCause (refusal.Fault why) bytes word = HasFault why bytes word
IsCause refusal.NoMemory bytes word = Unit {0}

-- what an answer says of the bytes and the word
abbrev pub Answers : (bytes word : List ℕ) → Answer → Type 0
Answers bytes word (Ok lines) = WhyIn bytes word lines
Answers bytes word (Err why) = IsCause why bytes word
