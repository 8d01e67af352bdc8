use Rattle.std.proofs.Common.{drop}
use Rattle.vg_types_interned.specs.Types.{IsRowIn}
use Rattle.vg_types_interned.proofs.rows.row_number.Given as goal

abbrev pub invariant-row : goal.invariant-row
invariant-row l = IsRowIn l.types.numbers.keys (drop l.index l.params) l.rest
