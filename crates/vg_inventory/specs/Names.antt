-- The names of methods.
use Rattle.std.specs.Prelude.{ℕ, ◌==◌, List, [], ◌∷◌, slice_get, if◌then◌else◌}
use Rattle.vg_core.specs.declared.program.Tables.{Tables}
use Rattle.vg_report.specs.Texts.{method_text}

-- The name of a method behind that of the class or component which declares it: `C.m`.
abbrev pub method_name : (texts : List (List ℕ)) → Tables → (method : ℕ) → List ℕ
method_name texts p m = method_text texts p (slice_get p.methods m)

-- A mirror: what stands behind the first space.
abbrev pub behind_space : List ℕ → List ℕ
behind_space [] = []
behind_space (b ∷ bs) = if b == 32 then bs else behind_space bs
