-- Live methods make nothing.
use Rattle.std.proofs.Common.{◌≡◌, refl, sym, ap, ◌∙◌, arith, ℕ, zero, suc, List, [], ◌∷◌, Option, Some, None, slice_get}
use Rattle.vg_core.specs.declared.step.Step.{Step}
use Rattle.vg_live.specs.Uses.{made_at}
use Rattle.vg_reach.specs.Reaches.{least_of, least_made}

both_none : (a b : Option ℕ) → least_of a b ≡ None → (a ≡ None) × (b ≡ None)
both_none None b e = (refl, e)
both_none (Some a) None e = absurd (let clash : Some a ≡ None = e in cc)
both_none (Some a) (Some b) e = absurd (grind (arith, e))

pub none_made : (ss : List Step) (i : ℕ) (s : Step) → least_made ss ≡ None → slice_get ss i ≡ Some s → made_at s ≡ None
none_made [] i s e h = absurd (grind (arith, h))
none_made (t ∷ ss) zero s e h = let q : t ≡ s = cc in ap made_at (sym q) ∙ (both_none (made_at t) (least_made ss) e).0
none_made (t ∷ ss) (suc i) s e h = none_made ss i s (both_none (made_at t) (least_made ss) e).1 h
