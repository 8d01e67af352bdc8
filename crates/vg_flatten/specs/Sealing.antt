-- How functions of whole procedures answer: mirrors of the definitions, by cases.
use Rattle.std.specs.Prelude.{◌≡◌, true, false, map, List, Result, Ok, Err}
use Rattle.vg_base.specs.declared.refusal.Refusal.{Refusal}
use Rattle.vg_base.specs.declared.refusal.Refusal.TheVariants.{Fault as Faulty, NoMemory as Memory}
use Rattle.vg_flatten_shapes.specs.declared.fault.Fault.{Fault}
use Rattle.vg_flatten_shapes.specs.declared.fault.Fault.TheVariants.{NotTaken, TooHigh, TooLong}
use Rattle.vg_flatten_shapes.specs.declared.open.Open.{Open}
use Rattle.vg_flatten_shapes.specs.Blocks.{open_code}
use Rattle.vg_flatten_shapes.specs.Shapes.{is_empty}
use Rattle.vg_flatten.specs.Closing.{AllSet}
use Rattle.vg_flatten_shapes.specs.Blocks.{set_in}
use Rattle.vg_flatten.specs.Flattened.{whole}
use Rattle.vg_flatten.specs.Refusals.{IsTooLong}
use Rattle.vg_firm.specs.Program.{Procedure as FirmProcedure}
use Rattle.vg_lin.specs.declared.instr.Instr.{Instr}
use Rattle.vg_flatten_shapes.specs.Made.{Made, Gives, Refused}

-- The instructions, where no jump out of a loop is left.
abbrev pub Seals : Result (List Instr) (Refusal Fault) → List Open → Type 0
Seals (Ok is) os = (is ≡ map (set_in 0 0) os) × AllSet os
Seals (Err Memory) os = Unit {0}
Seals (Err (Faulty TooLong)) os = ⊥
Seals (Err (Faulty TooHigh)) os = ⊥
Seals (Err (Faulty NotTaken)) os = AllSet os → ⊥

-- A whole procedure's instructions, of what was made of its body; or why there are none.
abbrev pub IsNotTaken : Made → Type 0
IsNotTaken (Gives b s) = is_empty s ≡ false
IsNotTaken (Refused why) = why ≡ NotTaken

abbrev pub WholeFails : Refusal Fault → Made → FirmProcedure → Type 0
WholeFails Memory made m = Unit {0}
WholeFails (Faulty TooLong) made m = IsTooLong m made
WholeFails (Faulty TooHigh) made m = made ≡ Refused TooHigh
WholeFails (Faulty NotTaken) made m = IsNotTaken made

abbrev pub IsWhole : List Open → Made → FirmProcedure → Type 0
IsWhole code (Gives b s) m = (is_empty s ≡ true) × (code ≡ open_code (whole m b) 0)
IsWhole code (Refused why) m = ⊥

abbrev pub Wholes : Result (List Open) (Refusal Fault) → Made → FirmProcedure → Type 0
Wholes (Ok code) made m = IsWhole code made m
Wholes (Err e) made m = WholeFails e made m
