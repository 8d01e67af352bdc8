use Rattle.std.proofs.Common.{◌≡◌, ◌++◌, drop}
use Rattle.vg_source.specs.Literals.{elements, Between}
use Rattle.vg_types_literals.specs.Elements.{progress}
use Rattle.vg_types_literals.proofs.spelled.elements.Given as goal

abbrev pub invariant-bytes : goal.invariant-bytes
invariant-bytes l = l.row ++ elements (progress l.at) (drop l.byte-index l.bytes) ≡ elements Between l.bytes
