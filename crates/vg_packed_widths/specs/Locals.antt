-- What the parameters and locals of the methods of a typed program take.
use Rattle.std.specs.Prelude.{◌≡◌, ℕ, ◌≤◌, Some, slice_get}
use Rattle.std.specs.List.{AllByRecursion}
use Rattle.vg_core.specs.declared.types.CoreType.{CoreType}
use Rattle.vg_core.specs.declared.program.Method.{Method}
use Rattle.vg_core.specs.Program.{Body, Program}
use Rattle.vg_core.specs.Typing.{locals_of}
use Rattle.vg_lin.specs.Sound.{IsWidth}
use Rattle.vg_coded.specs.Widths.{width_of}
use Rattle.vg_pack_bodies.specs.Procedures.{signature}

-- A value of the type takes one to four bytes.
abbrev pub TakesBytes : CoreType → Type 0
TakesBytes t = IsWidth (width_of t)

-- So it is for all parameters and locals of methods, and results take at most four.
pub record TakeBytes (p : Program) : Type 0 where
  pub locals : (m : ℕ) (y : Method) (b : Body) → slice_get p.tables.methods m ≡ Some y → slice_get p.methods m ≡ Some b
      → AllByRecursion TakesBytes (locals_of (signature y) b)
  pub results : (m : ℕ) (y : Method) → slice_get p.tables.methods m ≡ Some y → width_of y.result ≤ 4
