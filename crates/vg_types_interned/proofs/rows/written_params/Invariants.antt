use Rattle.std.proofs.Common.{◌≡◌, true, length, map, take}
use Rattle.std.specs.List.{AllByRecursion}
use Rattle.vg_types_interned.specs.Types.{type_view, is_made_of, param_type}
use Rattle.vg_types_interned.proofs.rows.written_params.Given as goal

abbrev pub invariant-params : goal.invariant-params
invariant-params l =
    (map (type_view l.types.classes l.types.numbers.keys) l.row ≡ map (param_type l.names) (take l.param-index l.params))
    × AllByRecursion (λ t. is_made_of (length l.types.classes) (length l.types.numbers.keys) t ≡ true) l.row
