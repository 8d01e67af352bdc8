use Rattle.std.proofs.Common.{sym, subst}
use Rattle.std.specs.Prelude.{length, slice_get}
use Rattle.vg_core.specs.Heap.{OfArray}
use Rattle.vg_core.specs.Meaning.{with_index, with_int, with_item}
use Rattle.vg_interp_run.specs.Run.{state, world, Reaches}
use Rattle.vg_interp_run.proofs.Steps.{in_array_of}
use Rattle.vg_interp_run.proofs.run.Run.element.Goals as goal

pub returns-in-Some : goal.returns-in-Some
returns-in-Some c = λ go.
    let s = state c.args.self.now in
    let w = world c.args.self.now in
    let found = in_array_of c.args.t c.in-Some.size (slice_get s.heap.cells c.in-Arr.k) (λ size. with_int (λ n. with_index c.args.at size n (λ i. go (OfArray c.in-Arr.k i))) c.args.index) s w c.in-Some.ensures in
    subst (λ a. Reaches c.element_of.result go s w (with_item c.args.at c.args.t go a c.args.index s w)) (sym c.in-Arr.is)
    (subst (Reaches c.element_of.result go s w) (sym found) (c.element_of.ensures go s w))
