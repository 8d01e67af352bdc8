-- What is passed in a call. (Mirrors of the code.)
use Rattle.std.specs.Prelude.{ℕ, ◌==◌, List, ◌++◌, length, take, reverse, Option, Some, None, if◌then◌else◌}
use Rattle.vg_lin.specs.declared.instr.Call.{Call}
use Rattle.vg_lin.specs.Values.{low}
use Rattle.vg_lin.specs.State.{LocalState, Waiting, State}
use Rattle.vg_lin.specs.Meaning.{operands, values}

-- The newest values that wait, so many, in the order in which they came.
abbrev pub newest_of : (count : ℕ) → List Waiting → Option (List Waiting)
newest_of n xs = if length (take n xs) == n then Some (reverse (take n xs)) else None

abbrev pub joined_to : Option (List Waiting) → Option (List Waiting) → Option (List Waiting)
joined_to (Some xs) (Some ys) = Some (xs ++ ys)
joined_to _ _ = None

-- The arguments of a call: those that wait, and those in registers.
abbrev pub arguments_of : Call → State → Option (List Waiting)
arguments_of c s = joined_to (newest_of c.pushed s.waiting) (values (operands c.registers) s)

-- A local of a procedure that begins, with its argument, where there is one.
abbrev pub opened_as : (width : ℕ) → Option Waiting → LocalState
opened_as w (Some x) = record { width = w; value = Some (low w x.value) }
opened_as w None = record { width = w; value = None }
