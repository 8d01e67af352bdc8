-- What the method of a size costs, by its number.
use Rattle.std.proofs.Common.{◌≡◌, sym, ap, ◌∙◌, ℕ, zero, suc, List, [], ◌∷◌, length, map, Some, slice_get}
use Rattle.std.proofs.lemmas.List.{length-map}
use Rattle.std.proofs.lemmas.Option.{same_Some}
use Rattle.vg_source.specs.Peak.{cost_of}
use Rattle.vg_method_sizes.specs.Sizes.{Size, cost}
use Rattle.vg_core.specs.declared.program.Method.{Method}

pub by_size : (ss : List Size) (i : ℕ) (s : Size) → slice_get ss i ≡ Some s → cost_of (map cost ss) i ≡ cost s
by_size [] i s e = cc
by_size (x ∷ ss) zero s e = ap cost (same_Some x s e)
by_size (x ∷ ss) (suc i) s e = by_size ss i s e

-- there is one for each method, where each has the nodes of a size
pub as_many : (ms : List Method) (ss : List Size) → map (λ (m : Method). m.nodes) ms ≡ map (λ (s : Size). s.nodes) ss → length (map cost ss) ≡ length ms
as_many ms ss e =
    length-map ss cost ∙ sym (length-map ss (λ (s : Size). s.nodes)) ∙ ap length (sym e) ∙ length-map ms (λ (m : Method). m.nodes)
