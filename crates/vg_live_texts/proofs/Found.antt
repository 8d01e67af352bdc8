-- The chain of the method that an object of the subclass finds.
use Rattle.std.proofs.Common.{◌≡◌, refl, ap, Bool, true, false, [], ◌∷◌, Some}
use Rattle.std.specs.Prelude.{codes, bytes_eq}
use Rattle.vg_source.specs.Values.{Obj}
use Rattle.vg_source.specs.Steps.{MethodOf}
use Rattle.vg_source.specs.Program.{source_of}
use Rattle.vg_examples.specs.Dispatch.{dispatch}
use Rattle.vg_live_source.specs.Members.{Member, Method, Cell}
use Rattle.vg_live_source.specs.Rules.{Live, main, of_object, component_field, in_component, none, by}
use Rattle.vg_live_source.specs.Chains.{Chain, last, more, IsWhy, live}
use Rattle.vg_live_texts.specs.Dispatched.{heap, own, entry, place, own_lines}

abbrev is_own : Member → Bool
is_own (Method c m) = bytes_eq c (codes "B")
is_own _ = false

apart : own ≡ entry → ⊥
apart e = absurd (let clash : true ≡ false = ap is_own e in cc)

entry_live : Live (source_of dispatch) heap (Some entry)
entry_live = by (main refl) none none

place_live : Live (source_of dispatch) heap (Some place)
place_live = by (component_field 0 refl) entry_live none

-- the object of the subclass
object_live : Live (source_of dispatch) heap (Some (Cell 0))
object_live = by (in_component (Obj 0) refl refl) place_live none

own_chain : Chain (source_of dispatch) heap own (own ∷ entry ∷ []) own_lines
own_chain = more 4 entry
    (of_object 1 (MethodOf 30 (codes "A") (codes "m")) (record { class = codes "A"; name = codes "m" }) (codes "B") refl refl refl refl refl) object_live
    (last 1 (main refl) none) (apart, tt)

pub why_own : IsWhy (source_of dispatch) heap own own_lines
why_own = live (own ∷ entry ∷ []) own_chain
