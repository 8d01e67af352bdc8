use Rattle.std.proofs.Common.{◌≡◌, ◌++◌, drop, map}
use Rattle.vg_coded.specs.Widths.{width_of}
use Rattle.vg_pack_bodies.proofs.locals.append.Given as goal

abbrev pub invariant-loop-type_ : goal.invariant-loop-type_
invariant-loop-type_ l = l.row ++ map width_of (drop l.type_-index l.types) ≡ l.fn.row ++ map width_of l.types
