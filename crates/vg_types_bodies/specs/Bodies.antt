-- What the bodies of members stand for.
use Rattle.std.specs.Prelude.{◌≡◌, ℕ, List, map, drop, reverse}
use Rattle.vg_source.specs.Resolved.{Resolved}
use Rattle.vg_source.specs.Program.{defaults_of}
use Rattle.vg_core.specs.declared.program.Body.{Body}
use Rattle.vg_core.specs.declared.program.Method.{Method}
use Rattle.vg_core.specs.Program.{Signature}
use Rattle.vg_core.specs.Heap.{default}
use Rattle.vg_core.specs.Naming.{named_value}
use Rattle.vg_types_tables.specs.declared.declared.Declared.{Declared}
use Rattle.vg_types_tables.specs.Views.{naming, type_view, code_view}

-- A body is that of a routine with so many parameters, whose code is resolved so: its other locals have their types, and their defaults.
pub record IsBodyOf (texts : List (List ℕ)) (d : Declared) (count : ℕ) (m : Resolved) (b : Body) : Type 0 where
  pub others : map (named_value (naming texts d) d.tables) (map default b.others) ≡ drop count (defaults_of m.scope)
  pub types : map (type_view texts d) b.others ≡ drop count (reverse m.scope.declared)
  pub does : code_view texts d b.code ≡ m.does

-- The signature of a method.
abbrev pub signature_at : Method → Signature
signature_at y = record { owner = y.owner; params = y.params; result = y.result }
