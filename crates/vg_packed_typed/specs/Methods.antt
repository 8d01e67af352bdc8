-- Which programs have methods whose code takes and leaves its values in order.
use Rattle.std.specs.Prelude.{◌≡◌, ℕ, ◌+◌, ◌≤◌, false, length, Some, slice_get}
use Rattle.vg_code_counts.specs.Counted.{Counted}
use Rattle.vg_core.specs.declared.program.Method.{Method}
use Rattle.vg_core.specs.Program.{Body, Program}
use Rattle.vg_packed_typed.specs.Measured.{core_measures}

-- A method has at most 60 parameters and locals, and its code takes and leaves its values in order: at most two values more wait in it than its body has
-- nodes.
pub record IsCounted (y : Method) (b : Body) : Type 0 where
  pub few : length y.params + length b.others ≤ 60
  pub most : ℕ
  pub within : most ≤ y.nodes + 2
  pub counted : Counted core_measures most false 0 b.code 0 0

-- Each method is so.
abbrev pub AreCounted : Program → Type 0
AreCounted p = (m : ℕ) (y : Method) (b : Body) → slice_get p.tables.methods m ≡ Some y → slice_get p.methods m ≡ Some b → IsCounted y b
