-- What runs, in order of the text; and the whole program.
use Rattle.std.proofs.Common.{◌≡◌, ℕ, suc, ◌+◌, List, ◌∷◌, ◌++◌, Some, refl, sym, ap, ◌∙◌, arith, slice_get, None, true, subst, zero}
use Rattle.vg_syntax.specs.Tree.{Node, Then, ClassDecl, ComponentDecl, MethodDecl}
use Rattle.vg_source.specs.Names.{Name}
use Rattle.vg_source.specs.Steps as source
use Rattle.vg_source.specs.Resolved.{Owner, InClass, InComponent}
use Rattle.vg_source.specs.Program.{constructor_in, construction, initialisation, methods_in, routines_in, with_numbers, program_of}
use Rattle.vg_core.specs.Program.{Body, Program, Signature, signature_of, body_of}
use Rattle.vg_core.specs.declared.program.Target.{Target}
use Rattle.vg_core.specs.Naming.{Naming, routine_at, routines_at, named, keyed, named_classes, named_components}
use Rattle.vg_core.specs.Meaning.{defaults}
use Rattle.vg_types_tables.specs.declared.declared.Declared.{Declared}
use Rattle.vg_types_tables.specs.Views.{naming}
use Rattle.vg_rules.specs.Signatures.{signatures_breach}
use Rattle.vg_renamed.specs.NamesTell.{NamesTell}
use Rattle.vg_types_declared.specs.Named.{Keeps}
use Rattle.vg_types_declared.proofs.Slotting.{Of, first, second, of_two}
use Rattle.vg_types_named.specs.Left.{Left}
use Rattle.vg_types_named.specs.Targets.{count_methods, method_targets, targets_from}
use Rattle.vg_types_named.specs.Routines.{Runs, MethodsRun, AllRun, IsAdded}
use Rattle.vg_types_declared.specs.Apart.{have_members}
use Rattle.vg_types_named.proofs.Signed.{targets}
use Rattle.vg_types_named.proofs.Telling.{one_some}
use Rattle.vg_types_named.proofs.Telling.{targets as signed_stands}
use Rattle.vg_types_named.proofs.Tell.{names_tell}
use Rattle.vg_types_named.proofs.Tables.{components, classes, globals}

module _ (n : Naming) (p : Program) (ds : Node) where
  one_run : (t : Target) (r : source.Routine) (ts : List Target) (rs : List source.Routine) → Runs n p t r → routines_at n p ts ≡ rs
      → routines_at n p (t ∷ ts) ≡ r ∷ rs
  one_run t r ts rs u e =
      ap (λ g. routine_at n p t g (body_of p t) ++ routines_at n p ts) u.signed
      ∙ ap (λ b. routine_at n p t (Some u.signature) b ++ routines_at n p ts) u.there
      ∙ ap (λ z. z ∷ routines_at n p ts) u.is ∙ ap (λ z. r ∷ z) e

  methods_run : (o : Owner) (c : Name) (m : ℕ) (ms : Node) (ts : List Target) (rs : List source.Routine) → MethodsRun n p ds o c m ms
      → routines_at n p ts ≡ with_numbers (m + count_methods ms) rs
      → routines_at n p (method_targets m ms ++ ts) ≡ with_numbers m (methods_in ds o c ms ++ rs)
  methods_run o c m (Then (MethodDecl at x ps t body) rest) ts rs u e =
      one_run _ _ (method_targets (suc m) rest ++ ts) (with_numbers (suc m) (methods_in ds o c rest ++ rs)) u.0
      (methods_run o c (suc m) rest ts rs u.1
      (let q : m + suc (count_methods rest) ≡ suc m + count_methods rest = omega arith in e ∙ ap (λ z. with_numbers z rs) q))
  methods_run o c m (Then _ rest) ts rs u e = methods_run o c m rest ts rs u e
  methods_run o c m _ ts rs u e = let q : m + 0 ≡ m = omega arith in e ∙ ap (λ z. with_numbers z rs) q

  all_run : (c k m : ℕ) (rest : Node) → AllRun n p ds c k m rest → routines_at n p (targets_from c k m rest) ≡ with_numbers m (routines_in ds rest)
  all_run c k m (Then (ClassDecl at x above ms) rest) u =
      one_run _ (construction ds x above ms (constructor_in ms)) (method_targets m ms ++ targets_from (suc c) k (m + count_methods ms) rest)
      (with_numbers m (methods_in ds (InClass x) x ms ++ routines_in ds rest)) u.0
      (methods_run (InClass x) x m ms (targets_from (suc c) k (m + count_methods ms) rest) (routines_in ds rest) u.1
      (all_run (suc c) k (m + count_methods ms) rest u.2))
  all_run c k m (Then (ComponentDecl at x ms) rest) u =
      one_run _ (initialisation ds x ms (constructor_in ms)) (method_targets m ms ++ targets_from c (suc k) (m + count_methods ms) rest)
      (with_numbers m (methods_in ds (InComponent x) x ms ++ routines_in ds rest)) u.0
      (methods_run (InComponent x) x m ms (targets_from c (suc k) (m + count_methods ms) rest) (routines_in ds rest) u.1
      (all_run c (suc k) (m + count_methods ms) rest u.2))
  all_run c k m (Then _ rest) u = all_run c k m rest u
  all_run c k m _ u = refl

  -- ---- bodies

  -- what can be called has a body
  abbrev HasBody : Target → Type 0
  HasBody t = (b : Body) × (body_of p t ≡ Some b)

  has_body : (t u : Target) (r : source.Routine) → Runs n p t r → Some t ≡ Some u → HasBody u
  has_body t u r run e = subst HasBody (one_some t u e) (run.body, run.there)

  method_bodies : (o : Owner) (c : Name) (m : ℕ) (ms : Node) → MethodsRun n p ds o c m ms → (i : ℕ) (t : Target) → slice_get (method_targets m ms) i ≡ Some t
      → HasBody t
  method_bodies o c m (Then (MethodDecl at x ps u body) rest) r zero t e = has_body _ t _ r.0 e
  method_bodies o c m (Then (MethodDecl at x ps u body) rest) r (suc i) t e = method_bodies o c (suc m) rest r.1 i t e
  method_bodies o c m (Then _ rest) r i t e = method_bodies o c m rest r i t e
  method_bodies o c m _ r i t e = cc

  behind_methods : (o : Owner) (c : Name) (m : ℕ) (ms : Node) (ts : List Target) → MethodsRun n p ds o c m ms
      → ((i : ℕ) (t : Target) → slice_get ts i ≡ Some t → HasBody t) → (i : ℕ) (t : Target) → slice_get (method_targets m ms ++ ts) i ≡ Some t → HasBody t
  behind_methods o c m ms ts r h i t e = by (of_two (method_targets m ms) ts i t e)
    where
      by : Of (method_targets m ms) ts i t → HasBody t
      by (first f) = method_bodies o c m ms r i t f
      by (second j f g) = h j t g

  all_bodies : (c k m : ℕ) (rest : Node) → AllRun n p ds c k m rest → (i : ℕ) (t : Target) → slice_get (targets_from c k m rest) i ≡ Some t → HasBody t
  all_bodies c k m (Then (ClassDecl at x above ms) rest) r zero t e = has_body _ t _ r.0 e
  all_bodies c k m (Then (ClassDecl at x above ms) rest) r (suc i) t e =
      behind_methods (InClass x) x m ms (targets_from (suc c) k (m + count_methods ms) rest) r.1
      (all_bodies (suc c) k (m + count_methods ms) rest r.2) i t e
  all_bodies c k m (Then (ComponentDecl at x ms) rest) r zero t e = has_body _ t _ r.0 e
  all_bodies c k m (Then (ComponentDecl at x ms) rest) r (suc i) t e =
      behind_methods (InComponent x) x m ms (targets_from c (suc k) (m + count_methods ms) rest) r.1
      (all_bodies c (suc k) (m + count_methods ms) rest r.2) i t e
  all_bodies c k m (Then _ rest) r i t e = all_bodies c k m rest r i t e
  all_bodies c k m _ r i t e = cc

pub routines : (n : Naming) (p : Program) (ds : Node) → AllRun n p ds 0 0 0 ds → routines_at n p (targets_from 0 0 0 ds) ≡ with_numbers 0 (routines_in ds ds)
routines n p ds u = all_run n p ds 0 0 0 ds u

-- programs are the same where their parts are
program_same : (a b : source.Source) → a.classes ≡ b.classes → a.routines ≡ b.routines → a.components ≡ b.components → a.globals ≡ b.globals
    → a.literals ≡ b.literals → a.main ≡ b.main → a.handlers ≡ b.handlers → a ≡ b
program_same a b c r k g l m h =
    ap (λ z. record {
      classes = z;
      routines = a.routines;
      components = a.components;
      globals = a.globals;
      literals = a.literals;
      main = a.main;
      handlers = a.handlers;
    }) c
    ∙ ap (λ z. record {
      classes = b.classes;
      routines = z;
      components = a.components;
      globals = a.globals;
      literals = a.literals;
      main = a.main;
      handlers = a.handlers;
    }) r
    ∙ ap (λ z. record {
      classes = b.classes;
      routines = b.routines;
      components = z;
      globals = a.globals;
      literals = a.literals;
      main = a.main;
      handlers = a.handlers;
    }) k
    ∙ ap (λ z. record {
      classes = b.classes;
      routines = b.routines;
      components = b.components;
      globals = z;
      literals = a.literals;
      main = a.main;
      handlers = a.handlers;
    }) g
    ∙ ap (λ z. record {
      classes = b.classes;
      routines = b.routines;
      components = b.components;
      globals = b.globals;
      literals = z;
      main = a.main;
      handlers = a.handlers;
    }) l
    ∙ ap (λ z. record {
      classes = b.classes;
      routines = b.routines;
      components = b.components;
      globals = b.globals;
      literals = b.literals;
      main = z;
      handlers = a.handlers;
    }) m
    ∙ ap (λ z. record {
      classes = b.classes;
      routines = b.routines;
      components = b.components;
      globals = b.globals;
      literals = b.literals;
      main = b.main;
      handlers = z;
    }) h

pub whole : (texts : List (List ℕ)) (ds : Node) (d : Declared) (p : Program) → Keeps ds → Left texts ds d → p.tables ≡ d.tables
    → IsAdded (naming texts d) p ds → program_of ds ≡ named (naming texts d) p
whole texts ds d p kept l t a =
    program_same (program_of ds) (named (naming texts d) p)
    (sym (ap (λ z. named_classes (naming texts d) z 0 z.classes) t ∙ classes texts ds l.types l.heads l.homes d kept l.left))
    (sym (ap (λ z. routines_at (naming texts d) p z.targets) t
    ∙ ap (routines_at (naming texts d) p) (l.targets ∙ targets texts ds l.types l.heads l.homes d kept l.left)
    ∙ routines (naming texts d) p ds a.runs))
    (sym (ap (λ z. named_components (naming texts d) z 0 z.components) t ∙ components texts ds l.types l.heads l.homes d kept l.left))
    (sym (ap (λ z. keyed (naming texts d) z z.globals (defaults z z.globals)) t ∙ globals texts ds l.types l.heads l.homes d kept l.left))
    (sym a.literals_are) (sym a.main) (sym a.handlers)

pub told : (texts : List (List ℕ)) (ds : Node) (d : Declared) (p : Program) → Keeps ds → signatures_breach ds ds ≡ None → have_members ds ≡ true
    → Left texts ds d → p.tables ≡ d.tables → AllRun (naming texts d) p ds 0 0 0 ds → NamesTell (naming texts d) p
told texts ds d p kept rule members l e r = names_tell texts ds d p kept rule members l e bodies
  where
    bodies : (t : Target) (g : Signature) → signature_of p.tables t ≡ Some g → (b : Body) × (body_of p t ≡ Some b)
    bodies t g f =
        let s = signed_stands texts ds l.types l.heads l.homes d kept l.left t g (ap (λ z. signature_of z t) (sym e) ∙ f) in
        all_bodies (naming texts d) p ds 0 0 0 ds r s.0 t
        (ap (λ z. slice_get z s.0) (sym (targets texts ds l.types l.heads l.homes d kept l.left)) ∙ s.1)
