-- The chain of the method that the delegate names.
use Rattle.std.proofs.Common.{◌≡◌, refl, ap, Bool, true, false, [], ◌∷◌, None}
use Rattle.std.specs.Prelude.{codes, bytes_eq}
use Rattle.vg_source.specs.Values.{Arr, Bound}
use Rattle.vg_source.specs.Program.{source_of}
use Rattle.vg_examples.specs.Delegate.{delegate}
use Rattle.vg_live_source.specs.Members.{Member, Method, Cell, OfArray}
use Rattle.vg_live_source.specs.Rules.{main, component_field, in_component, in_delegate, method, none}
use Rattle.vg_live_source.specs.Chains.{Chain, last, more, IsWhy, live}
use Rattle.vg_live_texts.specs.Delegated.{heap, hit, entry, acts, entry_line, acts_lines, cell_lines, hit_lines}

abbrev is_hit : Member → Bool
is_hit (Method c m) = bytes_eq m (codes "hit")
is_hit _ = false

apart : hit ≡ entry → ⊥
apart e = absurd (let clash : true ≡ false = ap is_hit e in cc)

main_chain : Chain (source_of delegate) heap entry (entry ∷ []) entry_line
main_chain = last 1 (main refl) none

acts_chain : Chain (source_of delegate) heap acts (acts ∷ entry ∷ []) acts_lines
acts_chain = more 5 entry (component_field 0 refl) none main_chain (λ e. absurd (let clash : acts ≡ entry = e in cc), tt)

cell_chain : Chain (source_of delegate) heap (Cell 0) (Cell 0 ∷ acts ∷ entry ∷ []) cell_lines
cell_chain = more 7 acts (in_component (Arr 0) refl refl) none acts_chain
    (λ e. absurd (let clash : Cell 0 ≡ acts = e in cc), (λ e. absurd (let clash : Cell 0 ≡ entry = e in cc), tt))

hit_chain : Chain (source_of delegate) heap hit (hit ∷ Cell 0 ∷ acts ∷ entry ∷ []) hit_lines
hit_chain = more 8 (Cell 0) (in_delegate (OfArray 0 0) (Bound None (codes "Main") (codes "hit")) refl method) none cell_chain
    (λ e. absurd (let clash : hit ≡ Cell 0 = e in cc), (λ e. absurd (let clash : hit ≡ acts = e in cc), (apart, tt)))

pub why_hit : IsWhy (source_of delegate) heap hit hit_lines
why_hit = live (hit ∷ Cell 0 ∷ acts ∷ entry ∷ []) hit_chain
