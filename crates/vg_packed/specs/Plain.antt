-- What packing needs of a program and of its heap, whatever is live: their numbers are in their ranges, and constructors are run by
-- constructors alone.
use Rattle.std.specs.Prelude.{◌≡◌, ℕ, Some, slice_get}
use Rattle.vg_source.specs.Operators.{AnInt, AChar, Bits}
use Rattle.vg_core.specs.declared.value.CoreValue.{CoreValue}
use Rattle.vg_core.specs.declared.value.CoreValue.TheVariants.{Int, Char, Raw, Obj, Arr, Bound}
use Rattle.vg_core.specs.declared.heap.Heap.{Heap}
use Rattle.vg_core.specs.declared.program.Method.{Method}
use Rattle.vg_core.specs.declared.program.Tables.{Tables}
use Rattle.vg_core.specs.declared.step.Step.{Step}
use Rattle.vg_core.specs.declared.step.Step.TheVariants.{Put, CastTo, Super}
use Rattle.vg_core.specs.Heap.{Place, value_at}
use Rattle.vg_core.specs.Program.{Body, Program}
use Rattle.vg_coded.specs.Numbers.{IsInRange}
use Rattle.vg_packing.specs.Allowed.{IsSmall, AreSmall}
use Rattle.vg_live.specs.Uses.{steps_of}

-- A scalar is in its range; what a reference refers to is no matter here.
abbrev pub IsRanged : CoreValue → Type 0
IsRanged (Int z) = IsInRange (AnInt z)
IsRanged (Char c) = IsInRange (AChar c)
IsRanged (Raw width bits) = IsInRange (Bits width bits)
IsRanged _ = Unit {0}

-- A constant of a body is a scalar in its range, or null.
abbrev pub IsConstant : CoreValue → Type 0
IsConstant (Obj k) = ⊥
IsConstant (Arr k) = ⊥
IsConstant (Bound receiver m) = ⊥
IsConstant v = IsRanged v

-- A step of a method: its constant is small, a cast to a bit string is to one of at most 32 bits, and it runs no constructor of a class
-- above.
abbrev pub IsPlainStep : Step → Type 0
IsPlainStep (Put v) = IsConstant v
IsPlainStep (CastTo at t u) = IsSmall u
IsPlainStep (Super c count) = ⊥
IsPlainStep _ = Unit {0}

-- The methods of a program are plain: their steps, the types of their locals, and those of their results.
pub record IsPlain (p : Program) : Type 0 where
  pub steps : (m i : ℕ) (s : Step) → slice_get (steps_of p m) i ≡ Some s → IsPlainStep s
  pub locals : (m : ℕ) (b : Body) → slice_get p.methods m ≡ Some b → AreSmall b.others
  pub results : (m : ℕ) (y : Method) → slice_get p.tables.methods m ≡ Some y → IsSmall y.result

-- The scalars of a heap are in their ranges.
abbrev pub AreRanged : Tables → Heap → Type 0
AreRanged p h = (x : Place) (v : CoreValue) → value_at p h x ≡ Some v → IsRanged v
