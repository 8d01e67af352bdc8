-- Mirrors: how the code goes through written types. No clause of a public function cites them.
use Rattle.std.specs.Prelude.{ℕ, zero, suc}
use Rattle.vg_source.specs.Types.{StaticType, ArrayType}

-- the array type of so many levels over a type
abbrev pub array_over : ℕ → StaticType → StaticType
array_over zero t = t
array_over (suc n) t = ArrayType (array_over n t)
