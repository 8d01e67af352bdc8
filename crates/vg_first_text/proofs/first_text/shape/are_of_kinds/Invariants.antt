use Rattle.std.proofs.Common.{◌≡◌, ◌↔◌, map, drop}
use Rattle.vg_first_text.specs.Shapes.{kind_of}
use Rattle.vg_first_text.proofs.first_text.shape.are_of_kinds.Given as goal

abbrev pub invariant-loop-kind : goal.invariant-loop-kind
invariant-loop-kind l = (map kind_of l.rest ≡ drop l.kind-index l.kinds) ↔ (map kind_of l.tokens ≡ l.kinds)
