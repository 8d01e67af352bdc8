-- When a procedure is not flattened.
use Rattle.std.specs.Prelude.{◌≡◌, ◌⊎◌, ◌<◌, false, length, Result, Ok, Err}
use Rattle.vg_base.specs.declared.refusal.Refusal.{Refusal}
use Rattle.vg_base.specs.declared.refusal.Refusal.TheVariants.{Fault as Faulty, NoMemory as Memory}
use Rattle.vg_firm.specs.Program.{Procedure}
use Rattle.vg_lin.specs.Program.{Procedure as LinProcedure}
use Rattle.vg_flatten_shapes.specs.declared.fault.Fault.{Fault}
use Rattle.vg_flatten_shapes.specs.declared.fault.Fault.TheVariants.{NotTaken, TooHigh, TooLong}
use Rattle.vg_flatten_shapes.specs.declared.layout.Layout.{Layout}
use Rattle.vg_flatten_shapes.specs.declared.room.Room.{Room}
use Rattle.vg_flatten_shapes.specs.Shapes.{empty, is_empty}
use Rattle.vg_flatten_shapes.specs.Blocks.{open_code, block_size}
use Rattle.vg_flatten_shapes.specs.Made.{Made, Gives, Refused}
use Rattle.vg_flatten_control.specs.Flat.{flat}
use Rattle.vg_flatten_pushed.specs.Stacked.{stacked}
use Rattle.vg_flatten.specs.Closing.{AllSet}
use Rattle.vg_flatten.specs.Flattened.{own_widths, whole, temps_for, room_with}

-- With all the temporaries that there is room for.
abbrev pub room_for : Procedure → Room
room_for m = room_with (temps_for (length (own_widths m))) m

-- What is made of its body.
abbrev pub made_of : Layout → Procedure → Made
made_of lay m = flat lay (room_for m) m.body empty

-- The same where each value that waits is pushed, up to 65,535 of them.
abbrev pub stacked_of : Layout → Procedure → Made
stacked_of lay m = stacked lay (room_for m) 65535 m.body empty

-- A step or a form of code is not taken, values wait at the end of the body, or a jump stands in no loop.
abbrev pub IsNotTakenAs : Procedure → Made → Type 0
IsNotTakenAs m (Refused why) = why ≡ NotTaken
IsNotTakenAs m (Gives b s) = (is_empty s ≡ false) ⊎ (AllSet (open_code (whole m b) 0) → ⊥)

-- There are more than 252 locals; or more values wait at one time than there are temporaries, and the values that one step takes, with two
-- more, find no room in the temporaries either.
abbrev pub IsTooHigh : Layout → Procedure → Type 0
IsTooHigh lay m = (252 < length (own_widths m)) ⊎ ((made_of lay m ≡ Refused TooHigh) × (stacked_of lay m ≡ Refused TooHigh))

-- The instructions lead to one of the last 16 places, or behind them: there are more than 65,519, where a choice counts with the jump
-- before its second way. Of what is refused anyway nothing is said.
abbrev pub IsTooLong : Procedure → Made → Type 0
IsTooLong m (Gives b s) = 65519 < block_size (whole m b)
IsTooLong m (Refused why) = Unit {0}

-- The cause of a refusal of what was made.
abbrev pub IsCauseIn : Refusal Fault → Procedure → Made → Type 0
IsCauseIn Memory m made = Unit {0}
IsCauseIn (Faulty NotTaken) m made = IsNotTakenAs m made
IsCauseIn (Faulty TooHigh) m made = made ≡ Refused TooHigh
IsCauseIn (Faulty TooLong) m made = IsTooLong m made

abbrev pub IsRefusedIn : Result LinProcedure (Refusal Fault) → Procedure → Made → Type 0
IsRefusedIn (Ok p) m made = Unit {0}
IsRefusedIn (Err e) m made = IsCauseIn e m made

-- It is refused for some cause other than want of memory.
abbrev pub IsRefusedAs : Procedure → Made → Type 0
IsRefusedAs m made = (why : Fault) × IsCauseIn (Faulty why) m made

-- The cause of a refusal: one where each waiting value has a home of its own; or, where more wait than there are temporaries, one where
-- each is pushed. What is too long with homes is refused where each is pushed, too.
abbrev pub IsCause : Refusal Fault → Layout → Procedure → Type 0
IsCause Memory lay m = Unit {0}
IsCause (Faulty NotTaken) lay m = IsNotTakenAs m (made_of lay m) ⊎ ((made_of lay m ≡ Refused TooHigh) × IsNotTakenAs m (stacked_of lay m))
IsCause (Faulty TooHigh) lay m = IsTooHigh lay m
IsCause (Faulty TooLong) lay m =
    (IsTooLong m (made_of lay m) × IsRefusedAs m (stacked_of lay m)) ⊎ ((made_of lay m ≡ Refused TooHigh) × IsTooLong m (stacked_of lay m))

abbrev pub IsRefusedFor : Result LinProcedure (Refusal Fault) → Layout → Procedure → Type 0
IsRefusedFor (Ok p) lay m = Unit {0}
IsRefusedFor (Err e) lay m = IsCause e lay m
