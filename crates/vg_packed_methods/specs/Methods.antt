-- Packed procedures whose code is that of methods.
use Rattle.std.specs.Prelude.{ℕ, List}
use Rattle.std.specs.List.{AllByRecursion}
use Rattle.vg_firm.specs.Program.{Procedure}
use Rattle.vg_flat_frames.specs.Methods.{CallsBefore}

-- None of these procedures idles, and they call procedures before the start alone.
abbrev pub AllCallBefore : (start : ℕ) → List Procedure → Type 0
AllCallBefore start = AllByRecursion (λ (m : Procedure). CallsBefore start m.body)
