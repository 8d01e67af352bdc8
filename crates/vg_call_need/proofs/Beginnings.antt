-- The roots of the call graph of a packed program are main and its handlers, of the procedures that are there.
use Rattle.std.specs.Prelude.{ℕ, zero, suc, Bool, true, false, ◌==◌, List, [], ◌∷◌, ◌++◌, map, Option, Some, None, slice_get, if◌then◌else◌}
use Rattle.std.proofs.Common.{◌≡◌, inl, inr, refl, sym, ap, ◌∙◌, subst}
use Rattle.std.proofs.lemmas.Option.{same_Some, none-some}
use Rattle.vg_firm.specs.Session.{is_among}
use Rattle.vg_packed.specs.Programs.{handler_in}
use Rattle.vg_packed.specs.declared.program.Entrance.{Entrance}
use Rattle.vg_packed.specs.declared.program.FirmProgram.{FirmProgram}
use Rattle.vg_bound.specs.declared.root.Root.{Root}
use Rattle.vg_calls_packed.specs.Ways.{IsEntry}
use Rattle.vg_call_need.specs.Graph.{entries_of, handlers_of, one_or_none, root}
use Rattle.vg_call_need.proofs.Edges.{among_first, among_more, false_true, same_number}

handler_told : (all es : List Entrance) (q : ℕ) → is_among (handlers_of all es) q ≡ true → (v : ℕ) × (handler_in all v ≡ Some q)
handler_told all [] q e = absurd (false_true e)
handler_told all (x ∷ es) q e = by (λ h. handler_told all es q h) (handler_in all x.vector) refl e
  where
    Behind : Type 0
    Behind = is_among (handlers_of all es) q ≡ true → (v : ℕ) × (handler_in all v ≡ Some q)

    here : Behind → (r : ℕ) → handler_in all x.vector ≡ Some r → (t : Bool) → (r == q) ≡ t
        → (if t then true else is_among (handlers_of all es) q) ≡ true → (v : ℕ) × (handler_in all v ≡ Some q)
    here behind r found true same h = (x.vector, found ∙ ap Some (same_number r q same))
    here behind r found false same h = behind h

    by : Behind → (o : Option ℕ) → handler_in all x.vector ≡ o → is_among (one_or_none o ++ handlers_of all es) q ≡ true
        → (v : ℕ) × (handler_in all v ≡ Some q)
    by behind (Some r) found h = here behind r found (r == q) refl h
    by behind None found h = behind h

pub entry_told : (f : FirmProgram) (q : ℕ) → is_among (entries_of f) q ≡ true → IsEntry f q
entry_told f q e = by (f.main == q) refl e
  where
    by : (t : Bool) → (f.main == q) ≡ t → (if t then true else is_among (handlers_of f.handlers f.handlers) q) ≡ true → IsEntry f q
    by true same h = inl (sym (same_number f.main q same))
    by false same h = inr (handler_told f.handlers f.handlers q h)

among_behind : (o : Option ℕ) (qs : List ℕ) (q : ℕ) → is_among qs q ≡ true → is_among (one_or_none o ++ qs) q ≡ true
among_behind (Some r) qs q e = among_more r q qs e
among_behind None qs q e = e

handler_among : (all es : List Entrance) (v q r : ℕ) → handler_in all v ≡ Some q → handler_in es v ≡ Some r → is_among (handlers_of all es) q ≡ true
handler_among all [] v q r e h = absurd (none-some r h)
handler_among all (x ∷ es) v q r e h = by (λ g. handler_among all es v q r e g) (x.vector == v) refl h
  where
    by : (handler_in es v ≡ Some r → is_among (handlers_of all es) q ≡ true) → (t : Bool) → (x.vector == v) ≡ t → (if t then Some x.procedure else handler_in es v) ≡ Some r
        → is_among (one_or_none (handler_in all x.vector) ++ handlers_of all es) q ≡ true
    by behind true same g =
        let found = ap (handler_in all) (same_number x.vector v same) ∙ e in
        subst (λ o. is_among (one_or_none o ++ handlers_of all es) q ≡ true) (sym found) (among_first q q (handlers_of all es) refl)
    by behind false same g = among_behind (handler_in all x.vector) (handlers_of all es) q (behind g)

pub entry_among : (f : FirmProgram) (q : ℕ) → IsEntry f q → is_among (entries_of f) q ≡ true
entry_among f q (inl e) = among_first f.main q (handlers_of f.handlers f.handlers) (sym e)
entry_among f q (inr (v, e)) =
    among_more f.main q (handlers_of f.handlers f.handlers) (handler_among f.handlers f.handlers v q q e e)

-- ---- roots at nodes

pub root_at : (extra : ℕ) (qs : List ℕ) (i : ℕ) (r : Root) → slice_get (map (root extra) qs) i ≡ Some r
    → (r.extra ≡ extra) × (slice_get qs i ≡ Some r.node)
root_at extra [] i r e = absurd (none-some r e)
root_at extra (q ∷ qs) zero r e = let same = same_Some (root extra q) r e in (sym (ap (λ (z : Root). z.extra) same), ap (λ (z : Root). Some z.node) same)
root_at extra (q ∷ qs) (suc i) r e = root_at extra qs i r e

pub root_of : (extra : ℕ) (qs : List ℕ) (i q : ℕ) → slice_get qs i ≡ Some q → slice_get (map (root extra) qs) i ≡ Some (root extra q)
root_of extra [] i q e = absurd (none-some q e)
root_of extra (x ∷ qs) zero q e = ap (λ z. Some (root extra z)) (same_Some x q e)
root_of extra (x ∷ qs) (suc i) q e = root_of extra qs i q e
