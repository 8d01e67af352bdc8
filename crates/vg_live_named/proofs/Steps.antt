-- The steps that stand in the bodies of a well typed program.
use Rattle.std.proofs.Common.{◌≡◌, ℕ, zero, suc, Bool, true, false, List, [], ◌∷◌, ◌++◌, length, Some, slice_get}
use Rattle.std.proofs.Common.{refl, sym, ap, ◌∙◌, subst, arith}
use Rattle.std.specs.Prelude.{◌<◌}
use Rattle.vg_meaning.specs.Code.{Code, Nothing, Then, Do, If, Loop, Break, Continue, Return}
use Rattle.vg_meaning.specs.Shapes.{Fits}
use Rattle.vg_core.specs.declared.types.CoreType.{CoreType}
use Rattle.vg_core.specs.declared.step.Step.{Step}
use Rattle.vg_core.specs.declared.program.Owner.{Owner}
use Rattle.vg_core.specs.declared.program.Method.{Method}
use Rattle.vg_core.specs.declared.program.Tables.{Tables}
use Rattle.vg_core.specs.declared.program.Target.TheVariants.{Run}
use Rattle.vg_core.specs.Program.{Body, Program, Signature, method_signature, signature_of, body_of}
use Rattle.vg_core.specs.Typing.{Takes, known, locals_of, TypedBody, WellTyped}
use Rattle.vg_live.specs.Uses.{uses, steps_in, steps_of}
use Rattle.vg_sound.proofs.Values.{the_same, none_some}

-- ---- lists

-- an element within a list
pub within : {A : Type 0} (xs : List A) (i : ℕ) → i < length xs → (a : A) × (slice_get xs i ≡ Some a)
within [] i l = absurd (let clash : i < 0 = l in omega (arith, clash))
within (x ∷ xs) zero l = (x, refl)
within (x ∷ xs) (suc i) l = within xs i (omega (arith, l))

-- an element of two lists is one of the first or of the second
pub one_of : {A X : Type 0} (xs ys : List A) (i : ℕ) (a : A) → slice_get (xs ++ ys) i ≡ Some a
    → ((j : ℕ) → slice_get xs j ≡ Some a → X) → ((j : ℕ) → slice_get ys j ≡ Some a → X) → X
one_of [] ys i a e f g = g i e
one_of (x ∷ xs) ys zero a e f g = f 0 e
one_of (x ∷ xs) ys (suc i) a e f g = one_of xs ys i a e (λ j q. f (suc j) q) g

-- ---- steps

module _ (p : Tables) (ts : List CoreType) (o : Owner) where
  -- a step leads from some waiting values to others
  abbrev pub IsTyped : Step → Type 0
  IsTyped s = (x y : List CoreType) × Takes p ts o s x y

  -- each step that stands in typed code is typed
  pub stands_typed : (r : CoreType) (looped : Bool) (c : Code Step) (x y : List CoreType) → Fits (known p ts o r) looped c x y
      → (i : ℕ) (s : Step) → slice_get (uses c) i ≡ Some s → IsTyped s
  stands_typed r looped Nothing x y f i s e = none_some s e
  stands_typed r looped (Then a b) x y (z, fa, fb) i s e = one_of (uses a) (uses b) i s e
      (λ j q. stands_typed r looped a x z fa j s q) (λ j q. stands_typed r looped b z y fb j s q)
  stands_typed r looped (Do t) x y f zero s e = (x, y, subst (λ z. Takes p ts o z x y) (the_same _ _ e) f)
  stands_typed r looped (Do t) x y f (suc i) s e = none_some s e
  stands_typed r looped (If a b) x y (z, w, fa, fb) i s e = one_of (uses a) (uses b) i s e
      (λ j q. stands_typed r looped a z y fa j s q) (λ j q. stands_typed r looped b z y fb j s q)
  stands_typed r looped (Loop a b c) x y (ex, ey, z, fa, w, fb, fc) i s e = one_of (uses a ++ uses b) (uses c) i s e
      (λ j q. one_of (uses a) (uses b) j s q (λ k d. stands_typed r looped a [] z fa k s d) (λ k d. stands_typed r true b [] [] fb k s d))
      (λ j q. stands_typed r looped c [] [] fc j s q)
  stands_typed r looped Break x y f i s e = none_some s e
  stands_typed r looped Continue x y f i s e = none_some s e
  stands_typed r looped Return x y f i s e = none_some s e

-- a step of a method is typed, by the types and the owner of some body
abbrev pub StepTyped : Tables → Step → Type 0
StepTyped p s = (ts : List CoreType) × (o : Owner) × IsTyped p ts o s

module _ (p : Program) (good : WellTyped p) where
  -- the body of a method
  pub method_body : (m : ℕ) (y : Method) → slice_get p.tables.methods m ≡ Some y
      → (g : Signature) × (b : Body) × (signature_of p.tables (Run m) ≡ Some g) × (slice_get p.methods m ≡ Some b) × TypedBody p.tables g b
  method_body m y e = by _ (ap method_signature e) (good.bodies (Run m) _ (ap method_signature e))
    where
      by : (g : Signature) → signature_of p.tables (Run m) ≡ Some g → ((b : Body) × (body_of p (Run m) ≡ Some b) × TypedBody p.tables g b)
          → (g : Signature) × (b : Body) × (signature_of p.tables (Run m) ≡ Some g) × (slice_get p.methods m ≡ Some b) × TypedBody p.tables g b
      by g eg (b, eb, t) = (g, b, eg, eb, t)

  -- the steps of a method are typed
  pub step_typed : (m i : ℕ) (y : Method) (s : Step) → slice_get p.tables.methods m ≡ Some y → slice_get (steps_of p m) i ≡ Some s → StepTyped p.tables s
  step_typed m i y s e q = by (method_body m y e)
    where
      by : ((g : Signature) × (b : Body) × (signature_of p.tables (Run m) ≡ Some g) × (slice_get p.methods m ≡ Some b) × TypedBody p.tables g b)
          → StepTyped p.tables s
      by (g, b, eg, eb, t) = (
        locals_of g b,
        g.owner,
        stands_typed p.tables (locals_of g b) g.owner g.result false b.code [] [] t i s (ap (λ z. slice_get (steps_in z) i) (sym eb) ∙ q),
      )
