-- How far members are walked. What is built so far goes, with what the rest will add, into what all add.
use Rattle.std.proofs.Common.{◌≡◌, ℕ, zero, suc, ◌+◌, ◌≤◌, true, List, [], ◌∷◌, ◌++◌, length, drop, Option, Some, None, refl, sym, ap, ◌∙◌, subst, arith}
use Rattle.std.proofs.lemmas.List.{append_assoc, append-nil}
use Rattle.vg_meaning.specs.Code.{Code, Nothing, Then}
use Rattle.vg_syntax.specs.Tree.{Node, Then as ThenNode, FieldDecl, MethodDecl, ConstructorDecl}
use Rattle.vg_syntax.specs.Numbering.{count_nodes, numbered}
use Rattle.vg_tree.specs.declared.node.Node as held_node
use Rattle.vg_tree.specs.Held.{node_at, row_at}
use Rattle.vg_source.specs.Steps.{Step as SourceStep}
use Rattle.vg_source.specs.Resolved as resolved
use Rattle.vg_source.specs.Program.{Constructor, constructor_in, initialisers}
use Rattle.vg_rules.specs.Legal.{bodies_breach}
use Rattle.vg_core.specs.declared.types.CoreType.{CoreType}
use Rattle.vg_core.specs.declared.program.Body.{Body}
use Rattle.vg_core.specs.declared.program.Owner.{Owner}
use Rattle.vg_core.specs.declared.code.Code as held
use Rattle.vg_core.specs.HeldProgram.{code_of, code_row}
use Rattle.vg_core.specs.Naming.{named_code}
use Rattle.vg_types_tables.specs.declared.declared.Declared.{Declared}
use Rattle.vg_types_tables.specs.Views.{declarations_at, naming, owner_view, code_view}
use Rattle.vg_types_statements.specs.Arms.{RunsIn}
use Rattle.vg_types_statements.proofs.Rows.{AllRun, one_more, row_runs, in_front, in_front_row, in_front_more}
use Rattle.vg_types_bodies.specs.declared.making.Constructed.{Constructed}
use Rattle.vg_types_bodies.specs.Initial.{above_name}
use Rattle.vg_types_bodies.specs.Fields.{making_kind}
use Rattle.vg_types_routines.specs.declared.walked.Walked.{Walked}
use Rattle.vg_types_routines.specs.Asked.{is_member, member_breach}
use Rattle.vg_types_routines.specs.Bodies.{MethodBodies}
use Rattle.vg_types_routines.specs.Walked.{initialiser_of, IsMadeOf, Adds, MadeOf, IsWalked}
use Rattle.vg_types_routines.proofs.Asking.{Members, members_start, member_kept, behind}

pub drop_end : {A : Type 0} (xs : List A) (i : ℕ) → length xs ≤ i → drop i xs ≡ []
drop_end [] zero h = refl
drop_end [] (suc i) h = refl
drop_end (x ∷ xs) zero h = absurd (omega (arith, h))
drop_end (x ∷ xs) (suc i) h = drop_end xs i (omega (arith, h))

module _ (texts : List (List ℕ)) (root : held_node.Node) (d : Declared) (o : Owner) (above : Option ℕ) where
  abbrev pub inits_of : Node → Code SourceStep
  inits_of n = initialisers (initialiser_of (declarations_at texts root) (owner_view texts d (Some o))) n

  -- what is built so far, without what the rules ask
  pub record Built (before : List Body) (all rest : Node) (w : Walked) : Type 0 where
    pub inits : inits_of all ≡ in_front texts d w.inits.items (inits_of rest)
    pub runs : (ts : List CoreType) → AllRun d.tables (making_kind o) ts w.inits.items
    pub added : List Body
    pub methods : w.methods.items ≡ before ++ added
    pub are : (bs : List Body) → MethodBodies texts root d o rest bs → MethodBodies texts root d o all (added ++ bs)
    pub made : MadeOf texts root d o above w.made (constructor_in all) (constructor_in rest)

  -- with the rest, all members are walked
  pub record Going (before : List Body) (all : List held_node.Node) (first next : ℕ) (rest : List held_node.Node) (w : Walked) : Type 0 where
    pub asked : Members (declarations_at texts root) (owner_view texts d (Some o)) (above_name texts d above) texts all first next rest
    pub built : Built before (numbered first (row_at texts all)) (numbered next (row_at texts rest)) w

  built_starts : (before : List Body) (all : Node) (w : Walked) → w.inits.items ≡ [] → w.methods.items ≡ before → w.made ≡ None → Built before all all w
  built_starts before all w i m k = record {
    inits = sym (ap (λ z. in_front texts d z (inits_of all)) i);
    runs = λ ts. subst (AllRun d.tables (making_kind o) ts) (sym i) tt;
    added = [];
    methods = m ∙ sym (append-nil before);
    are = λ bs h. h;
    made = subst (λ z. MadeOf texts root d o above z (constructor_in all) (constructor_in all)) (sym k) refl;
  }

  inits_on : (all m rest : Node) (old new : List held.Code) (c : held.Code)
      → inits_of all ≡ in_front texts d old (Then (initialiser_of (declarations_at texts root) (owner_view texts d (Some o)) m) (inits_of rest))
      → new ≡ old ++ c ∷ [] → code_view texts d c ≡ initialiser_of (declarations_at texts root) (owner_view texts d (Some o)) m
      → inits_of all ≡ in_front texts d new (inits_of rest)
  inits_on all m rest old new c h e f =
      h ∙ ap (λ z. in_front texts d old (Then z (inits_of rest))) (sym f) ∙ sym (in_front_more texts d old c (inits_of rest))
      ∙ ap (λ z. in_front texts d z (inits_of rest)) (sym e)

  runs_on : (old new : List held.Code) (c : held.Code) → ((ts : List CoreType) → AllRun d.tables (making_kind o) ts old) → new ≡ old ++ c ∷ []
      → ((ts : List CoreType) → RunsIn d.tables (making_kind o) ts (code_of c)) → (ts : List CoreType) → AllRun d.tables (making_kind o) ts new
  runs_on old new c h e r ts = subst (AllRun d.tables (making_kind o) ts) (sym e) (one_more d.tables (making_kind o) ts old c (h ts) (r ts))

  nothing_runs : (c : held.Code) → code_of c ≡ Nothing → (ts : List CoreType) → RunsIn d.tables (making_kind o) ts (code_of c)
  nothing_runs c e ts = subst (RunsIn d.tables (making_kind o) ts) (sym e) (λ n s. refl)

  nothing_view : (c : held.Code) → code_of c ≡ Nothing → code_view texts d c ≡ Nothing
  nothing_view c e = ap (named_code (naming texts d) d.tables) e

  no_init : (at : _) (x : _) (ps : _) (t : _) (block : Node) (s : resolved.Owner)
      → initialiser_of (declarations_at texts root) s (MethodDecl at x ps t block) ≡ Nothing
  no_init at x ps t block (resolved.InClass c) = refl
  no_init at x ps t block (resolved.InComponent k) = refl
  no_init at x ps t block resolved.NoOwner = refl

  no_init_made : (at : _) (ps : _) (calls : _) (args block : Node) (s : resolved.Owner)
      → initialiser_of (declarations_at texts root) s (ConstructorDecl at ps calls args block) ≡ Nothing
  no_init_made at ps calls args block (resolved.InClass c) = refl
  no_init_made at ps calls args block (resolved.InComponent k) = refl
  no_init_made at ps calls args block resolved.NoOwner = refl

  made_first : (before : Option Constructed) (k l : Constructor) → MadeOf texts root d o above before k l → before ≡ None → k ≡ l
  made_first None k l h e = h
  made_first (Some c) k l h e = absurd (cc)

  built_on : (before : List Body) (all m rest : Node) (old new : Walked) → Built before all (ThenNode m rest) old → Adds texts root d o above m old new
      → Built before all rest new
  built_on before all (FieldDecl at x t e) rest old new b a = record {
    inits = inits_on all (FieldDecl at x t e) rest old.inits.items new.inits.items a.code b.inits a.inits a.is.is;
    runs = runs_on old.inits.items new.inits.items a.code b.runs a.inits a.is.runs;
    added = b.added;
    methods = a.methods ∙ b.methods;
    are = b.are;
    made = subst (λ z. MadeOf texts root d o above z (constructor_in all) (constructor_in rest)) (sym a.made) b.made;
  }
  built_on before all (MethodDecl at x ps t block) rest old new b a = record {
    inits = inits_on all (MethodDecl at x ps t block) rest old.inits.items new.inits.items a.code b.inits a.inits
        (nothing_view a.code a.nothing ∙ sym (no_init at x ps t block (owner_view texts d (Some o))));
    runs = runs_on old.inits.items new.inits.items a.code b.runs a.inits (nothing_runs a.code a.nothing);
    added = b.added ++ a.body ∷ [];
    methods = a.methods ∙ ap (λ z. z ++ a.body ∷ []) b.methods ∙ append_assoc before b.added (a.body ∷ []);
    are = λ bs h. subst (MethodBodies texts root d o all) (sym (append_assoc b.added (a.body ∷ []) bs)) (b.are (a.body ∷ bs) (a.is, h));
    made = subst (λ z. MadeOf texts root d o above z (constructor_in all) (constructor_in rest)) (sym a.made) b.made;
  }
  built_on before all (ConstructorDecl at ps calls args block) rest old new b a = record {
    inits = inits_on all (ConstructorDecl at ps calls args block) rest old.inits.items new.inits.items a.code b.inits a.inits
        (nothing_view a.code a.nothing ∙ sym (no_init_made at ps calls args block (owner_view texts d (Some o))));
    runs = runs_on old.inits.items new.inits.items a.code b.runs a.inits (nothing_runs a.code a.nothing);
    added = b.added;
    methods = a.methods ∙ b.methods;
    are = b.are;
    made = subst (λ z. MadeOf texts root d o above z (constructor_in all) (constructor_in rest)) (sym a.made)
        (subst (λ z. IsMadeOf texts root d o above z a.constructed) (sym (made_first old.made (constructor_in all) _ b.made a.first)) a.is);
  }
  built_on before all _ rest old new b a = absurd a

  member_of_adds : (m : Node) (old new : Walked) → Adds texts root d o above m old new → is_member m ≡ true
  member_of_adds (FieldDecl at x t e) old new a = refl
  member_of_adds (MethodDecl at x ps t block) old new a = refl
  member_of_adds (ConstructorDecl at ps calls args block) old new a = refl
  member_of_adds _ old new a = absurd a

  pub going_starts : (before : List Body) (all : List held_node.Node) (first : ℕ) (w : Walked) → w.inits.items ≡ [] → w.methods.items ≡ before
      → w.made ≡ None → Going before all first first all w
  going_starts before all first w i m k = record {
    asked = members_start (declarations_at texts root) (owner_view texts d (Some o)) (above_name texts d above) texts all first;
    built = built_starts before (numbered first (row_at texts all)) w i m k;
  }

  pub going_on : (before : List Body) (all : List held_node.Node) (first next after : ℕ) (m : held_node.Node) (rest : List held_node.Node)
      (old new : Walked)
      → Going before all first next (m ∷ rest) old
      → member_breach (declarations_at texts root) (owner_view texts d (Some o)) (above_name texts d above) (numbered next (node_at texts m)) ≡ None
      → Adds texts root d o above (numbered next (node_at texts m)) old new → after ≡ next + count_nodes (node_at texts m)
      → Going before all first after rest new
  going_on before all first next after m rest old new g k a n = record {
    asked = member_kept (declarations_at texts root) (owner_view texts d (Some o)) (above_name texts d above) texts all first next after m rest g.asked
        (member_of_adds (numbered next (node_at texts m)) old new a) k n;
    built = subst (λ z. Built before (numbered first (row_at texts all)) (numbered z (row_at texts rest)) new) (sym n)
        (built_on before (numbered first (row_at texts all)) (numbered next (node_at texts m)) (behind texts next m rest) old new g.built a);
  }

  pub going_ends : (before : List Body) (all : List held_node.Node) (first next : ℕ) (w : Walked) → Going before all first next [] w
      → (bodies_breach (declarations_at texts root) (owner_view texts d (Some o)) (above_name texts d above) (numbered first (row_at texts all)) ≡ None)
      × IsWalked texts root d o above (numbered first (row_at texts all)) before w
  going_ends before all first next w g = (
    g.asked.breach,
    record {
      inits = sym (g.built.inits ∙ in_front_row texts d w.inits.items);
      runs = λ ts. row_runs d.tables (making_kind o) ts w.inits.items (code_row w.inits.items) (g.built.runs ts) refl;
      added = g.built.added;
      methods = g.built.methods;
      are = subst (MethodBodies texts root d o (numbered first (row_at texts all))) (append-nil g.built.added) (g.built.are [] refl);
      made = g.built.made;
    },
  )
