-- What may be left of the causes of a refusal where a procedure is typed: want of memory, and that its instructions lead to one of the
-- last places.
use Rattle.std.specs.Prelude.{◌<◌, Result, Ok, Err}
use Rattle.vg_base.specs.declared.refusal.Refusal.{Refusal}
use Rattle.vg_base.specs.declared.refusal.Refusal.TheVariants.{Fault as Faulty, NoMemory as Memory}
use Rattle.vg_firm.specs.Program.{Procedure}
use Rattle.vg_lin.specs.Program.{Procedure as LinProcedure}
use Rattle.vg_flatten_shapes.specs.declared.fault.Fault.{Fault}
use Rattle.vg_flatten_shapes.specs.declared.fault.Fault.TheVariants.{NotTaken, TooHigh, TooLong}
use Rattle.vg_flatten_shapes.specs.declared.layout.Layout.{Layout}
use Rattle.vg_flatten_shapes.specs.Blocks.{block_size}
use Rattle.vg_flatten_shapes.specs.Made.{Made, Gives, Refused}
use Rattle.vg_flatten.specs.Flattened.{whole}
use Rattle.vg_flatten.specs.Refusals.{made_of}

-- It is taken, and its instructions are more than 65,519.
abbrev pub IsMadeTooLong : Procedure → Made → Type 0
IsMadeTooLong m (Gives b s) = 65519 < block_size (whole m b)
IsMadeTooLong m (Refused why) = ⊥

abbrev pub IsLeft : Refusal Fault → Layout → Procedure → Type 0
IsLeft Memory lay m = Unit {0}
IsLeft (Faulty TooLong) lay m = IsMadeTooLong m (made_of lay m)
IsLeft (Faulty TooHigh) lay m = ⊥
IsLeft (Faulty NotTaken) lay m = ⊥

abbrev pub IsTaken : Result LinProcedure (Refusal Fault) → Layout → Procedure → Type 0
IsTaken (Ok p) lay m = Unit {0}
IsTaken (Err e) lay m = IsLeft e lay m
