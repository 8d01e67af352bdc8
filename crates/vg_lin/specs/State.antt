-- What a procedure of linear code has in hand, and what a plain instruction does to it.
use Rattle.std.specs.Prelude.{ℕ, zero, suc, ◌+◌, ◌-◌, ◌*◌, ◌/◌, ◌%◌, Bool, ◌==◌, nat_lt, List, [], ◌∷◌, Option, Some, None}
use Rattle.std.specs.Prelude.{slice_get, slice_set, if◌then◌else◌}
use Rattle.vg_meaning.specs.declared.event.Event.TheVariants.{Read, Write}
use Rattle.vg_meaning.specs.Outside.{Outside, with_event}
use Rattle.vg_codes.specs.Dispatch.{dispatched}
use Rattle.vg_lin.specs.declared.instr.Operand.{Operand}
use Rattle.vg_lin.specs.declared.instr.Operand.TheVariants.{Local, Known}
use Rattle.vg_lin.specs.declared.instr.Test.{Test}
use Rattle.vg_lin.specs.declared.instr.Memory.{Memory}
use Rattle.vg_lin.specs.declared.instr.Memory.TheVariants.{Ram, Flash}
use Rattle.vg_lin.specs.declared.instr.Computation.{Computation}
use Rattle.vg_lin.specs.declared.instr.Plain.{Plain}
use Rattle.vg_lin.specs.declared.instr.Plain.TheVariants.{Copy, Compute, Product, DivideSteps, Load, Store, ReadDevice, WriteDevice, Push, Pop, Find, CodeOf, Stop}
use Rattle.vg_lin.specs.Steps.{Went, Goes, Raises, Lacks, Fails}
use Rattle.vg_lin.specs.Values.{low, computed, compared, next_remainder, next_dividend}
use Rattle.vg_lin.specs.Program.{Program}

-- A local of so many bytes. It has no value until it gets one.
pub record LocalState : Type 0 where
  pub width : ℕ
  pub value : Option ℕ

-- A value of so many bytes that waits for a call.
pub record Waiting : Type 0 where
  pub width : ℕ
  pub value : ℕ

pub record State : Type 0 where
  pub locals : List LocalState
  pub waiting : List Waiting  -- the newest first
  pub ram : List ℕ  -- the bytes of the columns in RAM

-- ---- operands and locals

abbrev pub value_in : Option LocalState → Option ℕ
value_in (Some l) = l.value
value_in None = None

abbrev pub value : Operand → State → Option ℕ
value (Local i) s = value_in (slice_get s.locals i)
value (Known v) s = Some v

-- What is done with a value, where there is one.
abbrev pub using : Option ℕ → (ℕ → Went State) → Went State
using (Some x) go = go x
using None go = Fails

-- A local gets the low bytes of a value, as many as it has.
abbrev pub with_local : List LocalState → (to x : ℕ) → List LocalState
with_local [] to x = []
with_local (l ∷ ls) zero x = record l { value = Some (low l.width x) } ∷ ls
with_local (l ∷ ls) (suc to) x = l ∷ with_local ls to x

abbrev pub sets : (to x : ℕ) → State → State
sets to x s = record s { locals = with_local s.locals to x }

-- ---- memory

-- The number that so many bytes from an index on stand for, low bytes first.
abbrev pub joined : Option ℕ → Option ℕ → Option ℕ
joined (Some byte) (Some above) = Some (byte + 256 * above)
joined _ _ = None

abbrev pub number_at : List ℕ → (width index : ℕ) → Option ℕ
number_at bytes zero i = Some 0
number_at bytes (suc w) i = joined (slice_get bytes i) (number_at bytes w (suc i))

-- The bytes with this number from an index on.
abbrev pub with_number : List ℕ → (width index x : ℕ) → List ℕ
with_number bytes zero i x = bytes
with_number bytes (suc w) i x = with_number (slice_set bytes i (x % 256)) w (suc i) (x / 256)

-- The first address of each memory that holds columns or tables, in bytes.
abbrev pub first_address : Memory → ℕ
first_address Ram = 0x0100
first_address Flash = 0x008C

abbrev pub bytes_of : Program → Memory → State → List ℕ
bytes_of p Ram s = s.ram
bytes_of p Flash s = p.tables

-- The index of an address among these bytes, where it is the address of one.
abbrev pub index_of : Memory → (address : ℕ) → Option ℕ
index_of m address = if nat_lt address (first_address m) then None else Some (address - first_address m)

abbrev pub loaded : Program → Memory → State → (width : ℕ) → Option ℕ → Option ℕ
loaded p m s w (Some i) = number_at (bytes_of p m s) w i
loaded p m s w None = None

abbrev pub stores : State → Outside → (width x : ℕ) → Option ℕ → Went State
stores s o w x None = Fails
stores s o w x (Some i) = using (number_at s.ram w i) (λ old. Goes (record s { ram = with_number s.ram w i x }) o)

-- ---- what waits

abbrev pub pushes : (width x : ℕ) → State → State
pushes w x s = record s { waiting = record { width = w; value = low w x } ∷ s.waiting }

-- The newest value that waits goes to a local. It has the width that is named.
abbrev pub pops_from : List Waiting → (width to : ℕ) → State → Outside → Went State
pops_from [] w to s o = Fails
pops_from (x ∷ xs) w to s o = if x.width == w then Goes (sets to x.value (record s { waiting = xs })) o else Fails

-- ---- divisions

-- So many steps of a division: each finds in the locals what the one before has left there.
abbrev pub divides : (steps remainder dividend : ℕ) → (divisor : Operand) → State → Outside → Went State
divides zero remainder dividend divisor s o = Goes s o
divides (suc n) remainder dividend divisor s o =
    using (value (Local remainder) s) (λ r. using (value (Local dividend) s) (λ d. using (value divisor s) (λ v.
    divides n remainder dividend divisor (sets dividend (next_dividend r d v) (sets remainder (next_remainder r d v) s)) o)))

-- A division has as many steps as its dividend has bits.
unfoldable pub division_steps : ℕ
division_steps = 32

-- ---- plain instructions

abbrev pub computes : Computation → State → Outside → (x y : ℕ) → Went State
computes c s o x y = using (computed c.operator c.width x y) (λ z. Goes (sets c.to z s) o)

abbrev pub reads_from : List ℕ → (to address : ℕ) → State → Outside → Went State
reads_from [] to address s o = Lacks address
reads_from (v ∷ vs) to address s o = Goes (sets to v s) (with_event (record o { reads = vs }) (Read address v))

abbrev pub plain : Program → Plain → State → Outside → Went State
plain p (Copy to a) s o = using (value a s) (λ x. Goes (sets to x s) o)
plain p (Compute c) s o = using (value c.left s) (λ x. using (value c.right s) (computes c s o x))
plain p (Product to a b) s o =
    using (value a s) (λ x. using (value b s) (λ y. Goes (sets to (low 1 x * low 1 y) s) o))
plain p (DivideSteps remainder dividend divisor) s o = divides division_steps remainder dividend divisor s o
plain p (Load m w to a) s o =
    using (value a.index s) (λ i. using (loaded p m s w (index_of m (a.base + i))) (λ x. Goes (sets to x s) o))
plain p (Store w a from) s o =
    using (value a.index s) (λ i. using (value from s) (λ x. stores s o w x (index_of Ram (a.base + i))))
plain p (ReadDevice to address) s o = reads_from o.reads to address s o
plain p (WriteDevice address a) s o = using (value a s) (λ x. Goes s (with_event o (Write address (low 1 x))))
plain p (Push w a) s o =
    using (value a s) (λ x. Goes (pushes w x s) o)
plain p (Pop w to) s o = pops_from s.waiting w to s o
plain p (Find dispatch to a) s o =
    using (value a s) (λ n. using (dispatched p.dispatches dispatch n) (λ q. Goes (sets to (p.codes.code q) s) o))
plain p (CodeOf q to) s o = Goes (sets to (p.codes.code q) s) o
plain p (Stop code) s o = Raises code

-- ---- tests

abbrev pub both : Option ℕ → Option ℕ → (ℕ → ℕ → Bool) → Option Bool
both (Some x) (Some y) go = Some (go x y)
both _ _ go = None

abbrev pub holds : Test → State → Option Bool
holds t s = both (value t.left s) (value t.right s) (compared t.comparison t.width)
