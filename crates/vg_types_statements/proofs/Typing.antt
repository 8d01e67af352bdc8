-- The typing of statements, from that of their parts. Nothing waits between statements, so each lemma names the types that wait behind the
-- parts; code that was typed before more locals were declared is typed under them too.
use Rattle.std.proofs.Common.{◌≡◌, true, List, [], ◌∷◌, ◌++◌, refl, sym, ap, ◌∙◌, subst}
use Rattle.std.proofs.lemmas.List.{append_assoc}
use Rattle.vg_meaning.specs.Code.{Code, Nothing, Then, If, Loop, Break, Continue}
use Rattle.vg_core.specs.declared.types.CoreType.{CoreType}
use Rattle.vg_core.specs.declared.types.CoreType.TheVariants.{BoolType}
use Rattle.vg_core.specs.declared.step.Step.{Step}
use Rattle.vg_core.specs.declared.program.Tables.{Tables}
use Rattle.vg_types_tables.specs.declared.locals.Locals.{Locals}
use Rattle.vg_types_tables.specs.declared.body.BodyKind.{BodyKind}
use Rattle.vg_core.specs.declared.code.Code as held
use Rattle.vg_types_tables.specs.Promises.{Puts, Runs}
use Rattle.vg_types_simple.specs.Grows.{Grows}
use Rattle.vg_types_statements.specs.Arms.{RunsIn, ArmsRun, before_arms, code_arms}
use Rattle.vg_types_simple.proofs.MoreLocals.{more_locals}
use Rattle.vg_types_simple.proofs.Typing.{PutsIn, puts_more}

module _ (p : Tables) (k : BodyKind) where
  pub runs_more : (ts more us : List CoreType) (c : Code Step) → us ≡ ts ++ more → RunsIn p k ts c → RunsIn p k us c
  runs_more ts more us c e h = subst (λ z. RunsIn p k z c) (sym e) (λ o s. more_locals p ts more o k.result k.in_loop c [] [] (h o s))

  pub nothing_runs : (ls : Locals) (code : Code Step) → code ≡ Nothing → Runs p k ls code
  nothing_runs ls code e = subst (Runs p k ls) (sym e) (λ o s. refl)

  pub break_runs : (ls : Locals) (code : Code Step) → k.in_loop ≡ true → code ≡ Break → Runs p k ls code
  break_runs ls code l e = subst (Runs p k ls) (sym e) (λ o s. (l, refl))

  pub continue_runs : (ls : Locals) (code : Code Step) → k.in_loop ≡ true → code ≡ Continue → Runs p k ls code
  continue_runs ls code l e = subst (Runs p k ls) (sym e) (λ o s. (l, refl))

pub then_runs : (p : Tables) (k : BodyKind) (ls : Locals) (a b code : Code Step) → Runs p k ls a → Runs p k ls b → code ≡ Then a b → Runs p k ls code
then_runs p k ls a b code f g e = subst (Runs p k ls) (sym e) (λ o s. ([], f o s, g o s))

-- a loop, whose body may have declared more locals
pub loop_runs : (p : Tables) (k l : BodyKind) (old new : Locals) (c body next code : Code Step) (t : CoreType) → l ≡ record k { in_loop = true }
    → t ≡ BoolType
    → Puts p k old c t → Grows p old new → Runs p l new body → Runs p k old next → code ≡ Loop c body next → Runs p k new code
loop_runs p k l old new c body next code t el et h g b n e =
    subst (Runs p k new) (sym e) (λ o s. (
      refl,
      refl,
      t ∷ [],
      puts_more p k old.declared g.more_types new.declared c t g.types h o [] s,
      subst (λ z. t ∷ [] ≡ z ∷ []) et refl,
      subst (λ z. RunsIn p z new.declared body) el b o s,
      runs_more p k old.declared g.more_types new.declared next g.types n o s,
    ))

-- ---- arms

arms_more : (cs : List held.Code) (a : held.Code) (last : Code Step) → code_arms (cs ++ a ∷ []) last ≡ code_arms cs (before_arms a last)
arms_more [] a last = refl
arms_more (c ∷ cs) a last = ap (before_arms c) (arms_more cs a last)

pub no_arms_run : (p : Tables) (k : BodyKind) (ts : List CoreType) (cs : List held.Code) → cs ≡ [] → ArmsRun p k ts cs
no_arms_run p k ts cs e more last h = subst (λ z. RunsIn p k (ts ++ more) (code_arms z last)) (sym e) h

-- one arm more, behind which there are more locals
pub one_arm_more : (p : Tables) (k : BodyKind) (ts more us : List CoreType) (cs : List held.Code) (a : held.Code) (c b : Code Step) → us ≡ ts ++ more
    → ArmsRun p k ts cs → PutsIn p k ts c BoolType → RunsIn p k us b → ((rest : Code Step) → before_arms a rest ≡ Then c (If b rest))
    → ArmsRun p k us (cs ++ a ∷ [])
one_arm_more p k ts more us cs a c b e h g r f more' last l =
    let all : us ++ more' ≡ ts ++ (more ++ more') = ap (λ z. z ++ more') e ∙ append_assoc ts more more' in
    let code : code_arms (cs ++ a ∷ []) last ≡ code_arms cs (Then c (If b last)) = arms_more cs a last ∙ ap (code_arms cs) (f last) in
    subst (λ z. RunsIn p k z (code_arms (cs ++ a ∷ []) last)) (sym all) (subst (RunsIn p k (ts ++ (more ++ more'))) (sym code)
    (h (more ++ more') (Then c (If b last)) (subst (λ z. RunsIn p k z (Then c (If b last))) all
    (λ o s. (
      BoolType ∷ [],
      puts_more p k ts (more ++ more') (us ++ more') c BoolType all g o [] s,
      ([], refl, runs_more p k us more' (us ++ more') b refl r o s, l o s),
    )))))

-- all arms, and what is done where no condition holds
pub if_runs : (p : Tables) (k : BodyKind) (ts more us : List CoreType) (cs : List held.Code) (last code : Code Step) → us ≡ ts ++ more → ArmsRun p k ts cs
    → RunsIn p k us last → code ≡ code_arms cs last → RunsIn p k us code
if_runs p k ts more us cs last code e h l f =
    subst (RunsIn p k us) (sym f) (subst (λ z. RunsIn p k z (code_arms cs last)) (sym e) (h more last (subst (λ z. RunsIn p k z last) e l)))
