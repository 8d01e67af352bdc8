-- The typing of statements, from that of their parts. Nothing waits between statements, so each lemma names the types that wait behind the
-- parts; code that was typed before more locals were declared is typed under them too.
use Rattle.std.proofs.Common.{◌≡◌, Option, Some, IfSome, List, [], ◌∷◌, ◌++◌, refl, sym, ap, ◌∙◌, subst}
use Rattle.vg_meaning.specs.Code.{Code, Nothing, Then, Do, Return}
use Rattle.vg_meaning.specs.Shapes.{Fits}
use Rattle.vg_core.specs.declared.types.CoreType.{CoreType}
use Rattle.vg_core.specs.declared.types.CoreType.TheVariants.{NoType}
use Rattle.vg_core.specs.declared.step.Step.{Step}
use Rattle.vg_core.specs.declared.step.Step.TheVariants.{Put, Forget}
use Rattle.vg_core.specs.declared.program.Owner.{Owner}
use Rattle.vg_core.specs.declared.program.Tables.{Tables}
use Rattle.vg_core.specs.Typing.{Sub, same, known, t_put, t_forget}
use Rattle.vg_types_tables.specs.declared.locals.Locals.{Locals}
use Rattle.vg_types_tables.specs.declared.body.BodyKind.{BodyKind}
use Rattle.vg_core.specs.declared.value.CoreValue.TheVariants.{Null}
use Rattle.vg_core.specs.HeldProgram.{code_of}
use Rattle.vg_types_tables.specs.declared.judged.Head.TheVariants.{Nothing as NoHead}
use Rattle.vg_types_tables.specs.declared.judged.Storing.{Storing}
use Rattle.vg_types_tables.specs.Promises.{Sees, Puts, Stores, Runs}
use Rattle.vg_types_simple.proofs.MoreLocals.{more_locals}

-- what is there keeps what is asked where something is there
pub if_some : {A : Type 0} (P : A → Type 0) (o : Option A) (x : A) → o ≡ Some x → IfSome o P → P x
if_some P o x e h = subst (λ z. IfSome z P) e h

-- code puts a value under these types of locals
abbrev pub PutsIn : Tables → BodyKind → List CoreType → Code Step → CoreType → Type 0
PutsIn p k ts c t = (o : Owner) (x : List CoreType) → Sees k.owner o → Fits (known p ts o k.result) k.in_loop c x (t ∷ x)

module _ (p : Tables) (k : BodyKind) where
  pub puts_more : (ts more us : List CoreType) (c : Code Step) (t : CoreType) → us ≡ ts ++ more → PutsIn p k ts c t → PutsIn p k us c t
  puts_more ts more us c t e h =
      subst (λ z. PutsIn p k z c t) (sym e) (λ o x s. more_locals p ts more o k.result k.in_loop c x (t ∷ x) (h o x s))

  pub forgets : (ls : Locals) (c code : Code Step) (t : CoreType) → Puts p k ls c t → code ≡ Then c (Do Forget) → Runs p k ls code
  forgets ls c code t h e = subst (Runs p k ls) (sym e) (λ o s. (t ∷ [], h o [] s, t_forget))

module _ (p : Tables) (k : BodyKind) (ls : Locals) where
  pub stores : (s : Storing) (c code : Code Step) (t : CoreType) → Stores p k ls NoHead s → Puts p k ls c t → Sub p t s.type_
      → code ≡ Then (code_of s.aims) (Then c (Do s.store)) → Runs p k ls code
  stores s c code t h g sub e =
      subst (Runs p k ls) (sym e) (λ o sees. let w = h o [] sees in (w.0, w.1, (t ∷ w.0, g o w.0 sees, w.2 t sub)))

  -- the same for what is known to be the place
  pub stores_that : (v s : Storing) → v ≡ s → (c code : Code Step) (t : CoreType) → Stores p k ls NoHead s → Puts p k ls c t → Sub p t v.type_
      → code ≡ Then (code_of v.aims) (Then c (Do v.store)) → Runs p k ls code
  stores_that v s q c code t h = stores v c code t (subst (Stores p k ls NoHead) (sym q) h)

  pub returns_value : (c code : Code Step) (t : CoreType) → Puts p k ls c t → Sub p t k.result → code ≡ Then c Return → Runs p k ls code
  returns_value c code t h sub e = subst (Runs p k ls) (sym e) (λ o s. (t ∷ [], h o [] s, (t, [], refl, sub)))

  pub returns_nothing : (c code : Code Step) → NoType ≡ k.result → c ≡ Then (Do (Put Null)) Nothing → code ≡ Then c Return → Runs p k ls code
  returns_nothing c code n f e =
      subst (Runs p k ls) (sym (e ∙ ap (λ z. Then z Return) f))
      (λ o s. (NoType ∷ [], (NoType ∷ [], t_put tt, refl), (NoType, [], refl, subst (Sub p NoType) n same)))
