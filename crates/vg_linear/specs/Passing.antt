-- How procedures are called.
use Rattle.std.specs.Prelude.{ℕ, ◌==◌, Bool, true, false, List, ◌∷◌, map, replicate, take, Option, Some, None, if◌then◌else◌}
use Rattle.vg_firm.specs.declared.procedure.Procedure.{Procedure}
use Rattle.vg_flatten_shapes.specs.declared.layout.Passing.{Passing}
use Rattle.vg_flatten_shapes.specs.declared.layout.Width.{Width}
use Rattle.vg_flatten_shapes.specs.declared.layout.Width.TheVariants.{One, Two, Three, Four}

-- So many bytes, of one to four.
abbrev pub width_for : ℕ → Width
width_for n = if n == 1 then One else (if n == 2 then Two else (if n == 3 then Three else Four))

-- The bytes of a result, where there is one.
abbrev pub result_for : ℕ → Option Width
result_for n = if n == 0 then None else Some (width_for n)

-- One that gets a receiver may be found in the run: the receiver has two bytes, each argument behind it four, and so has its result. Those of
-- all others have what they need.
abbrev pub passing_as : (receives : Bool) → Procedure → Passing
passing_as true m = record { receives = true; widths = Two ∷ replicate m.params Four; result = Some Four }
passing_as false m = record { receives = false; widths = map width_for (take m.params m.widths); result = result_for m.result }

abbrev pub passing_for : Procedure → Passing
passing_for m = passing_as m.receives m

abbrev pub passings_for : List Procedure → List Passing
passings_for ms = map passing_for ms
