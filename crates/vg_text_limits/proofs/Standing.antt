-- Where the routine of a target stands.
use Rattle.std.proofs.Common.{◌≡◌, ap, ◌∙◌, arith, ℕ, zero, suc, List, [], ◌∷◌, ◌++◌, Some, slice_get}
use Rattle.vg_core.specs.declared.program.Target.{Target}
use Rattle.vg_core.specs.Naming.{Naming, named_routine}
use Rattle.vg_core.specs.Naming as naming
use Rattle.vg_core.specs.Program.{Body, Program, Signature, signature_of, body_of}

behind : {A : Type 0} (xs ys : List A) (i : ℕ) (y : A) → slice_get ys i ≡ Some y → (j : ℕ) × (slice_get (xs ++ ys) j ≡ Some y)
behind [] ys i y e = (i, e)
behind (x ∷ xs) ys i y e = let r = behind xs ys i y e in (suc r.0, r.1)

module _ (n : Naming) (p : Program) where
  pub stands_at : (t : Target) (g : Signature) (b : Body) → signature_of p.tables t ≡ Some g → body_of p t ≡ Some b → (ts : List Target) (j : ℕ)
      → slice_get ts j ≡ Some t → (i : ℕ) × (slice_get (naming.routines_at n p ts) i ≡ Some (named_routine n p.tables t g b))
  stands_at t g b eg eb [] j e = absurd (grind (arith, e))
  stands_at t g b eg eb (u ∷ ts) zero e = (
    0,
    ap (λ z. slice_get (naming.routine_at n p z (signature_of p.tables z) (body_of p z) ++ naming.routines_at n p ts) 0) (same u t e)
        ∙ (ap (λ o. slice_get (naming.routine_at n p t o (body_of p t) ++ naming.routines_at n p ts) 0) eg
        ∙ ap (λ o. slice_get (naming.routine_at n p t (Some g) o ++ naming.routines_at n p ts) 0) eb),
  )
    where
      same : (a c : Target) → Some a ≡ Some c → a ≡ c
      same a c q = cc
  stands_at t g b eg eb (u ∷ ts) (suc j) e =
      let r = stands_at t g b eg eb ts j e in
      behind (naming.routine_at n p u (signature_of p.tables u) (body_of p u)) (naming.routines_at n p ts) r.0 (named_routine n p.tables t g b) r.1
