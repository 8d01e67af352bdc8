-- That a procedure is flattened, in one of the two ways; and what may be left of the causes of a refusal.
use Rattle.std.specs.Prelude.{◌≡◌, ◌⊎◌, ℕ, ◌+◌, true}
use Rattle.vg_meaning.specs.Code.{Code, Then, Do, If, Loop}
use Rattle.vg_base.specs.declared.refusal.Refusal.{Refusal}
use Rattle.vg_base.specs.declared.refusal.Refusal.TheVariants.{Fault as Faulty, NoMemory as Memory}
use Rattle.vg_firm.specs.Program.{Procedure}
use Rattle.vg_flatten_shapes.specs.declared.fault.Fault.{Fault}
use Rattle.vg_flatten_shapes.specs.declared.fault.Fault.TheVariants.{NotTaken, TooHigh, TooLong}
use Rattle.vg_flatten_shapes.specs.declared.layout.Layout.{Layout}
use Rattle.vg_flatten_shapes.specs.Shapes.{is_empty}
use Rattle.vg_flatten_shapes.specs.Blocks.{open_code}
use Rattle.vg_flatten_shapes.specs.Made.{Made, Gives, Refused}
use Rattle.vg_flatten.specs.Closing.{AllSet}
use Rattle.vg_flatten.specs.Flattened.{whole}
use Rattle.vg_flatten.specs.Refusals.{made_of, stacked_of}
use Rattle.vg_flatten.specs.Taking.{IsMadeTooLong}

-- What was made of a body is a block behind which nothing waits, and no jump out of a loop is left open in the procedure.
abbrev pub IsClosed : Procedure → Made → Type 0
IsClosed m (Gives b s) = (is_empty s ≡ true) × AllSet (open_code (whole m b) 0)
IsClosed m (Refused why) = ⊥

-- It is made with a home for each waiting value; or, where more wait than there are temporaries, with up to 65,535 of the oldest pushed.
abbrev pub IsMade : Layout → Procedure → Type 0
IsMade lay m = IsClosed m (made_of lay m) ⊎ ((made_of lay m ≡ Refused TooHigh) × IsClosed m (stacked_of lay m))

-- What may be left of the causes of a refusal: want of memory, and that the instructions which are made so are more than 65,519.
abbrev pub IsLeftFor : Refusal Fault → Layout → Procedure → Type 0
IsLeftFor Memory lay m = Unit {0}
IsLeftFor (Faulty TooLong) lay m = IsMadeTooLong m (made_of lay m) ⊎ ((made_of lay m ≡ Refused TooHigh) × IsMadeTooLong m (stacked_of lay m))
IsLeftFor (Faulty TooHigh) lay m = ⊥
IsLeftFor (Faulty NotTaken) lay m = ⊥

-- So many steps stand in code.
abbrev pub step_count : {P : Type 0} → Code P → ℕ
step_count (Then a b) = step_count a + step_count b
step_count (Do p) = 1
step_count (If a b) = step_count a + step_count b
step_count (Loop c body next) = step_count c + step_count body + step_count next
step_count _ = 0
