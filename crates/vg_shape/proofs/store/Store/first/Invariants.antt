use Rattle.std.proofs.Common.{◌≡◌, ◌++◌, drop, map}
use Rattle.vg_core.specs.Meaning.{defaults}
use Rattle.vg_core.specs.Session.{literal_cell}
use Rattle.vg_shape.proofs.store.Store.first.Given as goal

abbrev pub invariant-loop-literal : goal.invariant-loop-literal
invariant-loop-literal l =
    let p = l.program.tables in
    (l.store.cells ++ map (literal_cell p.char_type) (drop l.literal-index p.literals) ≡ map (literal_cell p.char_type) p.literals)
    × (l.store.globals ≡ defaults p p.globals)
