-- What single members give: initialisers, the bodies of methods, and what is made of constructors.
use Rattle.std.proofs.Common.{◌≡◌, ℕ, false, List, ◌++◌, length, Option, Some, None, is_some, Result, Ok, Err, IfOk, refl, sym, ap, ◌∙◌}
use Rattle.vg_base.specs.declared.refusal.Refusal.{Refusal}
use Rattle.vg_base.specs.declared.refusal.Refusal.TheVariants.{Fault, NoMemory}
use Rattle.vg_syntax.specs.Tree.{Spot, TypeTree, Param, Node}
use Rattle.vg_tree.specs.declared.node.Node as held_node
use Rattle.vg_source.specs.Names.{Name}
use Rattle.vg_source.specs.Declared.{written_type}
use Rattle.vg_source.specs.Resolved.{Fresh, resolved}
use Rattle.vg_source.specs.Program.{scope_of}
use Rattle.vg_rules.specs.Breach.{Breach}
use Rattle.vg_rules.specs.Bodies.{breach}
use Rattle.vg_rules.specs.Legal.{body_of}
use Rattle.vg_core.specs.declared.types.CoreType.{CoreType}
use Rattle.vg_core.specs.declared.program.Body.{Body}
use Rattle.vg_core.specs.declared.program.Owner.{Owner}
use Rattle.vg_core.specs.declared.program.Owner.TheVariants.{InClass, InComponent}
use Rattle.vg_core.specs.declared.code.Code as held
use Rattle.vg_core.specs.HeldProgram.{code_of}
use Rattle.vg_core.specs.Naming.{Key}
use Rattle.vg_types_views.specs.declared.broken.Broken.{Broken}
use Rattle.vg_types_views.specs.Judges.{Judges}
use Rattle.vg_types_tables.specs.declared.declared.Declared.{Declared}
use Rattle.vg_types_tables.specs.declared.locals.Locals.{Locals}
use Rattle.vg_types_tables.specs.declared.body.BodyKind.{BodyKind}
use Rattle.vg_types_tables.specs.Views.{declarations_at, owner_view, type_view, code_view}
use Rattle.vg_types_tables.specs.Declares.{IsKnown}
use Rattle.vg_types_tables.specs.Promises.{meant}
use Rattle.vg_types_simple.specs.Grows.{first_breach}
use Rattle.vg_types_statements.specs.Arms.{RunsIn}
use Rattle.vg_types_bodies.specs.declared.making.Constructed.{Constructed}
use Rattle.vg_types_bodies.specs.Bodies.{IsBodyOf}
use Rattle.vg_types_bodies.specs.Fields.{field_code, making_kind}
use Rattle.vg_types_bodies.specs.Initial.{initial_breach}
use Rattle.vg_types_bodies.specs.Makings.{IsConstructed, ConstructedRuns}
use Rattle.vg_types_bodies.specs.Parameters.{AreParameters}
use Rattle.vg_types_bodies.proofs.Signatures.{judged_in, typed_body}
use Rattle.vg_types_routines.specs.Fields.{field_node, key_of}
use Rattle.vg_types_routines.specs.Bodies.{IsMethodBody}
use Rattle.vg_types_routines.specs.Walked.{initialiser_of, Takes, constructor_of, IsInitialiser, IsMadeOf}

pub none_of : {A : Type 0} (o : Option A) → is_some o ≡ false → o ≡ None
none_of None h = refl
none_of (Some x) h = cc

-- a judgement, and what else holds of what is answered
judged_with : {A : Type 0} (P Q R : A → Type 0) (r : Result A (Refusal Broken)) (b c : Option Breach) → b ≡ c → ((a : A) → P a → Q a → R a) → Judges P r b
    → IfOk r Q → Judges R r c
judged_with P Q R (Ok a) b c e f h g = (sym e ∙ h.0, f a h.1 g)
judged_with P Q R (Err (Fault x)) b c e f h g = sym e ∙ h
judged_with P Q R (Err NoMemory) b c e f h g = tt

module _ (texts : List (List ℕ)) (root : held_node.Node) (d : Declared) (o : Owner) where
  field_same : (p : Owner) (id : ℕ) (at : Spot) (x : Name) (t : TypeTree) (e : Node) → field_code (declarations_at texts root) p id (key_of texts d p x) e
      ≡ initialiser_of (declarations_at texts root) (owner_view texts d (Some p)) (field_node id at x t e)
  field_same (InClass c) id at x t e = refl
  field_same (InComponent k) id at x t e = refl

  pub initialiser_done : (id : ℕ) (at : Spot) (x : Name) (t : TypeTree) (e : Node) (wanted : CoreType) (key : Key) (r : Result held.Code (Refusal Broken))
      → type_view texts d wanted ≡ written_type t → key ≡ key_of texts d o x
      → Judges (λ c. code_view texts d c ≡ field_code (declarations_at texts root) o id key e) r
      (initial_breach (declarations_at texts root) (type_view texts d wanted) e id)
      → IfOk r (λ c. (ts : List CoreType) → RunsIn d.tables (making_kind o) ts (code_of c))
      → Judges (IsInitialiser texts root d o (field_node id at x t e)) r (initial_breach (declarations_at texts root) (written_type t) e id)
  initialiser_done id at x t e wanted key r w k h g =
      judged_with (λ c. code_view texts d c ≡ field_code (declarations_at texts root) o id key e)
      (λ c. (ts : List CoreType) → RunsIn d.tables (making_kind o) ts (code_of c)) (IsInitialiser texts root d o (field_node id at x t e)) r
      (initial_breach (declarations_at texts root) (type_view texts d wanted) e id) (initial_breach (declarations_at texts root) (written_type t) e id)
      (ap (λ z. initial_breach (declarations_at texts root) z e id) w)
      (λ c p q. record { is = p ∙ ap (λ z. field_code (declarations_at texts root) o id z e) k ∙ field_same o id at x t e; runs = q }) h g

  abbrev kind : CoreType → BodyKind
  kind t = record { owner = Some o; result = t; in_loop = false }

  pub method_done : (ps : List Param) (t : TypeTree) (e : Node) (result : CoreType) (ls : Locals) (r : Result Body (Refusal Broken))
      → type_view texts d result ≡ written_type t → IsKnown d.tables result → AreParameters texts d ps ls
      → Judges (IsBodyOf texts d (length ls.declared) (meant texts root d (kind result) ls e Fresh)) r (first_breach texts root d (kind result) ls e)
      → IfOk r (λ b. RunsIn d.tables (kind result) (ls.declared ++ b.others) (code_of b.code))
      → Judges (IsMethodBody texts root d o ps t e) r
      (breach (declarations_at texts root) (body_of (owner_view texts d (Some o)) (written_type t)) e Fresh (scope_of ps))
  method_done ps t e result ls r w known are h g =
      judged_with
      (IsBodyOf texts d (length ls.declared) (resolved (declarations_at texts root) (owner_view texts d (Some o)) e Fresh (scope_of ps)))
      (λ b. RunsIn d.tables (kind result) (ls.declared ++ b.others) (code_of b.code)) (IsMethodBody texts root d o ps t e) r
      (breach (declarations_at texts root) (body_of (owner_view texts d (Some o)) (type_view texts d result)) e Fresh (scope_of ps))
      (breach (declarations_at texts root) (body_of (owner_view texts d (Some o)) (written_type t)) e Fresh (scope_of ps))
      (ap (λ z. breach (declarations_at texts root) (body_of (owner_view texts d (Some o)) z) e Fresh (scope_of ps)) w)
      (λ b p q. record {
        params = ls.declared;
        known = are.known;
        written = are.types;
        result = result;
        known_result = known;
        written_result = w;
        is = p;
        typed = typed_body d.tables (kind result) (record { owner = o; params = ls.declared; result = result }) b ls.declared refl refl refl refl q;
      })
      (judged_in texts root d (kind result) ls (scope_of ps) (length ls.declared) e r are.scope refl h) g

  pub made_done : (above : Option ℕ) (ps : List Param) (args block : Node) (ls : Locals) (r : Result Constructed (Refusal Broken)) (b : Option Breach)
      → Takes o ps → AreParameters texts d ps ls → Judges (IsConstructed texts root d o above ps args block) r b
      → IfOk r (ConstructedRuns d.tables o above ls.declared) → Judges (IsMadeOf texts root d o above (constructor_of ps args block)) r b
  made_done above ps args block ls r b takes are h g =
      judged_with (IsConstructed texts root d o above ps args block) (ConstructedRuns d.tables o above ls.declared)
      (IsMadeOf texts root d o above (constructor_of ps args block)) r b b refl
      (λ c p q. record { takes = takes; params = ls.declared; known = are.known; written = are.types; is = p; runs = q }) h g
