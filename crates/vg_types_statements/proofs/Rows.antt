-- Rows of statements. A loop keeps how far the row has come: what is left of it has the breach of all, behind the codes so far, in the
-- scope that the statements so far have left; and all codes so far run under the locals so far.
use Rattle.std.proofs.Common.{◌≡◌, ℕ, zero, suc, ◌≤◌, ◌+◌, ◌<◌, List, [], ◌∷◌, ◌++◌, length, drop, take, get_or, slice_get, Some, None, refl}
use Rattle.std.proofs.Common.{sym, ap, ◌∙◌, subst, arith}
use Rattle.std.specs.List.{AllByRecursion}
use Rattle.std.proofs.Math.Seq.{take-append_seam}
use Rattle.std.proofs.lemmas.List.{append_assoc, append-nil}
use Rattle.vg_meaning.specs.Code.{Code, Nothing, Then}
use Rattle.vg_syntax.specs.Tree.{Node, Nothing as NoNode, Then as ThenNode}
use Rattle.vg_syntax.specs.Numbering.{count_nodes, numbered}
use Rattle.vg_tree.specs.declared.node.Node as held_node
use Rattle.vg_tree.specs.Held.{row_at, node_at}
use Rattle.vg_source.specs.Steps.{Step as SourceStep}
use Rattle.vg_source.specs.Resolved.{NoHead, Fresh, Scope, Resolved, settled, settled_as, resolved}
use Rattle.vg_rules.specs.Breach.{◌or◌}
use Rattle.vg_rules.specs.Bodies.{Body, breach}
use Rattle.vg_core.specs.declared.types.CoreType.{CoreType}
use Rattle.vg_core.specs.declared.program.Tables.{Tables}
use Rattle.vg_core.specs.declared.code.Code as held
use Rattle.vg_core.specs.HeldProgram.{code_of, code_row}
use Rattle.vg_types_tables.specs.declared.declared.Declared.{Declared}
use Rattle.vg_types_tables.specs.declared.locals.Locals.{Locals}
use Rattle.vg_types_tables.specs.declared.body.BodyKind.{BodyKind}
use Rattle.vg_types_tables.specs.declared.locals.InScope.{InScope}
use Rattle.vg_types_tables.specs.declared.judged.Done.{Done}
use Rattle.vg_types_tables.specs.Promises.{IsDeclared, AreDeclared, Does, Runs}
use Rattle.vg_types_tables.specs.Views.{declarations_at, naming, owner_view, body_view, scope_view, code_view}
use Rattle.vg_core.specs.declared.step.Step.{Step}
use Rattle.vg_core.specs.Naming.{named_code}
use Rattle.vg_tree_walks.proofs.Passing.{left_of}
use Rattle.vg_types_simple.specs.Grows.{Grows, first_breach}
use Rattle.vg_types_statements.specs.Arms.{RunsIn}
use Rattle.vg_types_simple.proofs.MoreLocals.{got_in_front}
use Rattle.vg_types_statements.proofs.Typing.{runs_more}

-- ---- how locals grow

pub stays : (p : Tables) (ls : Locals) → AreDeclared p ls → Grows p ls ls
stays p ls h = record {
  more_names = [];
  more_types = [];
  names = sym (append-nil ls.in_scope);
  types = sym (append-nil ls.declared);
  known = h;
}

pub grows_on : (p : Tables) (a b c : Locals) → Grows p a b → Grows p b c → Grows p a c
grows_on p a b c g h = record {
  more_names = g.more_names ++ h.more_names;
  more_types = g.more_types ++ h.more_types;
  names = h.names ∙ ap (λ z. z ++ h.more_names) g.names ∙ append_assoc a.in_scope g.more_names h.more_names;
  types = h.types ∙ ap (λ z. z ++ h.more_types) g.types ∙ append_assoc a.declared g.more_types h.more_types;
  known = h.known;
}

-- ---- the codes of a row

module _ (p : Tables) (k : BodyKind) where
  abbrev pub AllRun : List CoreType → List held.Code → Type 0
  AllRun ts [] = Unit {0}
  AllRun ts (c ∷ cs) = RunsIn p k ts (code_of c) × AllRun ts cs

  pub all_more : (ts more us : List CoreType) (cs : List held.Code) → us ≡ ts ++ more → AllRun ts cs → AllRun us cs
  all_more ts more us [] e h = tt
  all_more ts more us (c ∷ cs) e (a, h) = (runs_more p k ts more us (code_of c) e a, all_more ts more us cs e h)

  pub one_more : (ts : List CoreType) (cs : List held.Code) (c : held.Code) → AllRun ts cs → RunsIn p k ts (code_of c) → AllRun ts (cs ++ c ∷ [])
  one_more ts [] c h r = (r, tt)
  one_more ts (d ∷ cs) c (a, h) r = (a, one_more ts cs c h r)

  pub row_runs : (ts : List CoreType) (cs : List held.Code) (c : Code Step) → AllRun ts cs → c ≡ code_row cs → RunsIn p k ts c
  row_runs ts cs c h e = subst (RunsIn p k ts) (sym e) (by cs h)
    where
      by : (ds : List held.Code) → AllRun ts ds → RunsIn p k ts (code_row ds)
      by [] g o s = refl
      by (d ∷ ds) (a, g) o s = ([], a o s, by ds g o s)

-- ---- the row

pub settled_statement : (m : Resolved) → m.head ≡ NoHead → settled m ≡ m
settled_statement m e = ap (settled_as m) e

module _ (texts : List (List ℕ)) (d : Declared) where
  abbrev pub in_front : List held.Code → Code SourceStep → Code SourceStep
  in_front [] rest = rest
  in_front (c ∷ cs) rest = Then (code_view texts d c) (in_front cs rest)

  abbrev pub named : Code Step → Code SourceStep
  named c = named_code (naming texts d) d.tables c

  pub in_front_row : (cs : List held.Code) → in_front cs Nothing ≡ named (code_row cs)
  in_front_row [] = refl
  in_front_row (c ∷ cs) = ap (Then (code_view texts d c)) (in_front_row cs)

  pub in_front_more : (cs : List held.Code) (c : held.Code) (rest : Code SourceStep)
      → in_front (cs ++ c ∷ []) rest ≡ in_front cs (Then (code_view texts d c) rest)
  in_front_more [] c rest = refl
  in_front_more (e ∷ cs) c rest = ap (Then (code_view texts d e)) (in_front_more cs c rest)

  -- how far a row has come
  pub record Rowing (ds : Node) (k : Body) (ls : Scope) (id : ℕ) (all : Node) (codes : List held.Code) (next : ℕ) (now : Scope) (rest : Node) : Type 0 where
    pub from : id ≤ next
    pub count : next + count_nodes rest ≡ id + count_nodes all
    pub broken : breach ds k (numbered id all) Fresh ls ≡ breach ds k (numbered next rest) Fresh now
    pub does : (resolved ds k.owner (numbered id all) Fresh ls).does ≡ in_front codes (resolved ds k.owner (numbered next rest) Fresh now).does
    pub scope : (resolved ds k.owner (numbered id all) Fresh ls).scope ≡ (resolved ds k.owner (numbered next rest) Fresh now).scope
    pub head : (resolved ds k.owner (numbered id all) Fresh ls).head ≡ (resolved ds k.owner (numbered next rest) Fresh now).head

  pub rowing_starts : (ds : Node) (k : Body) (ls : Scope) (id : ℕ) (all : Node) (codes : List held.Code) → codes ≡ [] → Rowing ds k ls id all codes id ls all
  rowing_starts ds k ls id all codes e = record {
    from = omega arith;
    count = refl;
    broken = refl;
    does = sym (ap (λ z. in_front z (resolved ds k.owner (numbered id all) Fresh ls).does) e);
    scope = refl;
    head = refl;
  }

  pub rowing_one : (ds : Node) (k : Body) (ls : Scope) (id : ℕ) (all : Node) (codes : List held.Code) (next : ℕ) (now : Scope) (first rest : Node)
      (c : held.Code) (after : ℕ) (behind : Scope) → Rowing ds k ls id all codes next now (ThenNode first rest)
      → breach ds k (numbered next first) Fresh now ≡ None
      → code_view texts d c ≡ (resolved ds k.owner (numbered next first) Fresh now).does
      → (resolved ds k.owner (numbered next first) Fresh now).scope ≡ behind
      → (resolved ds k.owner (numbered next first) Fresh now).head ≡ NoHead
      → after ≡ next + count_nodes first
      → Rowing ds k ls id all (codes ++ c ∷ []) after behind rest
  rowing_one ds k ls id all codes next now first rest c after behind r b e sc hd n =
      let st : settled (resolved ds k.owner (numbered next first) Fresh now) ≡ resolved ds k.owner (numbered next first) Fresh now
      = settled_statement (resolved ds k.owner (numbered next first) Fresh now) hd in
      record {
        from = let f = r.from in omega (arith, f, n);
        count = let rc = r.count in omega (arith, rc, n);
        broken = r.broken
            ∙ ap (λ z. z or breach ds k (numbered (next + count_nodes first) rest) Fresh (settled (resolved ds k.owner (numbered next first) Fresh
            now)).scope) b
            ∙ ap (λ z. breach ds k (numbered (next + count_nodes first) rest) Fresh z.scope) st
            ∙ ap (λ z. breach ds k (numbered (next + count_nodes first) rest) Fresh z) sc
            ∙ ap (λ z. breach ds k (numbered z rest) Fresh behind) (sym n);
        does = r.does
            ∙ ap (λ z. in_front codes (Then z.does (resolved ds k.owner (numbered (next + count_nodes first) rest) Fresh z.scope).does)) st
            ∙ ap (λ z. in_front codes (Then z (resolved ds k.owner (numbered (next + count_nodes first) rest) Fresh
            (resolved ds k.owner (numbered next first) Fresh now).scope).does)) (sym e)
            ∙ ap (λ z. in_front codes (Then (code_view texts d c) (resolved ds k.owner (numbered (next + count_nodes first) rest) Fresh z).does)) sc
            ∙ ap (λ z. in_front codes (Then (code_view texts d c) (resolved ds k.owner (numbered z rest) Fresh behind).does)) (sym n)
            ∙ sym (in_front_more codes c (resolved ds k.owner (numbered after rest) Fresh behind).does);
        scope = r.scope ∙ ap (λ z. (resolved ds k.owner (numbered (next + count_nodes first) rest) Fresh z.scope).scope) st
            ∙ ap (λ z. (resolved ds k.owner (numbered (next + count_nodes first) rest) Fresh z).scope) sc
            ∙ ap (λ z. (resolved ds k.owner (numbered z rest) Fresh behind).scope) (sym n);
        head = r.head ∙ ap (λ z. (resolved ds k.owner (numbered (next + count_nodes first) rest) Fresh z.scope).head) st
            ∙ ap (λ z. (resolved ds k.owner (numbered (next + count_nodes first) rest) Fresh z).head) sc
            ∙ ap (λ z. (resolved ds k.owner (numbered z rest) Fresh behind).head) (sym n);
      }

  -- a row that was passed
  pub record Passed (ds : Node) (k : Body) (ls : Scope) (id : ℕ) (all : Node) (code : held.Code) (next : ℕ) (now : Scope) : Type 0 where
    pub next_is : next ≡ id + count_nodes all
    pub kept : breach ds k (numbered id all) Fresh ls ≡ None
    pub does : code_view texts d code ≡ (resolved ds k.owner (numbered id all) Fresh ls).does
    pub scope : (resolved ds k.owner (numbered id all) Fresh ls).scope ≡ now
    pub head : (resolved ds k.owner (numbered id all) Fresh ls).head ≡ NoHead

  pub passed : (ds : Node) (k : Body) (ls : Scope) (id : ℕ) (all : Node) (codes : List held.Code) (next : ℕ) (now : Scope) (code : held.Code)
      → code_of code ≡ code_row codes → Rowing ds k ls id all codes next now NoNode → Passed ds k ls id all code next now
  passed ds k ls id all codes next now code e r = record {
    next_is = let c = r.count in omega (arith, c);
    kept = r.broken;
    does = sym (r.does ∙ in_front_row codes ∙ ap named (sym e));
    scope = r.scope;
    head = r.head;
  }

  pub count_first : (ds : Node) (k : Body) (ls : Scope) (id : ℕ) (all : Node) (codes : List held.Code) (next : ℕ) (now : Scope) (first rest : Node)
      → Rowing ds k ls id all codes next now (ThenNode first rest)
      → (next + count_nodes first ≤ id + count_nodes all) × (count_nodes first ≤ count_nodes all)
  count_first ds k ls id all codes next now first rest r =
      let c = r.count in
      let f = r.from in
      (omega (arith, c), omega (arith, c, f))

-- the rest of a row begins with the node at hand
pub row_rest : (texts : List (List ℕ)) (nodes : List held_node.Node) (i : ℕ) (n : held_node.Node) → i < length nodes → n ≡ get_or nodes i n
    → row_at texts (drop i nodes) ≡ ThenNode (node_at texts n) (row_at texts (drop (i + 1) nodes))
row_rest texts nodes i n lt e = ap (row_at texts) (left_of nodes i n lt (sym e))

pub none_left : (texts : List (List ℕ)) (nodes : List held_node.Node) (i : ℕ) → length nodes ≤ i → row_at texts (drop i nodes) ≡ NoNode
none_left texts [] zero h = refl
none_left texts [] (suc i) h = refl
none_left texts (m ∷ nodes) zero h = absurd (omega (arith, h))
none_left texts (m ∷ nodes) (suc i) h = none_left texts nodes i (omega (arith, h))

-- ---- locals behind a block

declared_more : (p : Tables) (old new : Locals) (more : List CoreType) (xs : List InScope) → new.declared ≡ old.declared ++ more
    → AllByRecursion (IsDeclared p old) xs → AllByRecursion (IsDeclared p new) xs
declared_more p old new more [] e h = tt
declared_more p old new more (l ∷ xs) e ((g, k), h) =
    ((subst (λ z. slice_get z l.number ≡ Some l.type_) (sym e) (got_in_front old.declared more l.number l.type_ g), k), declared_more p old new more xs e h)

pub left_grows : (p : Tables) (old inside new : Locals) (count : ℕ) → Grows p old inside → AreDeclared p old → count ≡ length old.in_scope
    → new.in_scope ≡ take count inside.in_scope → new.declared ≡ inside.declared → Grows p old new
left_grows p old inside new count g h n e f =
    let names : new.in_scope ≡ old.in_scope = e ∙ ap (λ z. take z inside.in_scope) n ∙ ap (take (length old.in_scope)) g.names
    ∙ take-append_seam old.in_scope g.more_names in
    let types : new.declared ≡ old.declared ++ g.more_types = f ∙ g.types in
    record {
      more_names = [];
      more_types = g.more_types;
      names = names ∙ sym (append-nil old.in_scope);
      types = types;
      known = subst (AllByRecursion (IsDeclared p new)) (sym names) (declared_more p old new g.more_types old.in_scope types h);
    }

-- ---- what a loop over statements keeps

pub record Going (texts : List (List ℕ)) (root : held_node.Node) (d : Declared) (k : BodyKind) (old : Locals) (id : ℕ) (all : Node)
    (codes : List held.Code) (next : ℕ) (now : Locals) (rest : Node) : Type 0 where
  pub rowing : Rowing texts d (declarations_at texts root) (body_view texts d k) (scope_view texts d old) id all codes next (scope_view texts d now) rest
  pub runs : AllRun d.tables k now.declared codes
  pub grows : Grows d.tables old now

module _ (texts : List (List ℕ)) (root : held_node.Node) (d : Declared) (k : BodyKind) (old : Locals) (id : ℕ) (all : Node) where
  pub going_starts : (codes : List held.Code) → codes ≡ [] → AreDeclared d.tables old → Going texts root d k old id all codes id old all
  going_starts codes e h = record {
    rowing = rowing_starts texts d (declarations_at texts root) (body_view texts d k) (scope_view texts d old) id all codes e;
    runs = subst (AllRun d.tables k old.declared) (sym e) tt;
    grows = stays d.tables old h;
  }

  pub going_on : (codes more : List held.Code) (next : ℕ) (now behind : Locals) (first rest : Node) (j : Done) (left : Node)
      → Going texts root d k old id all codes next now left → left ≡ ThenNode first rest
      → (first_breach texts root d k now (numbered next first) ≡ None) × Does texts root d k now (numbered next first) behind j
      → Runs d.tables k behind (code_of j.code) → Grows d.tables now behind → j.next ≡ next + count_nodes first → more ≡ codes ++ j.code ∷ []
      → Going texts root d k old id all more j.next behind rest
  going_on codes more next now behind first rest j left g e (b, w) r h n m =
      subst (λ z. Going texts root d k old id all z j.next behind rest) (sym m) (record {
        rowing = rowing_one texts d (declarations_at texts root) (body_view texts d k) (scope_view texts d old) id all codes next (scope_view texts d now)
            first rest j.code j.next (scope_view texts d behind)
            (subst (Rowing texts d (declarations_at texts root) (body_view texts d k) (scope_view texts d old) id all codes next (scope_view texts d now))
            e g.rowing) b w.does w.scope w.head n;
        runs = one_more d.tables k behind.declared codes j.code (all_more d.tables k now.declared h.more_types behind.declared codes h.types g.runs) r;
        grows = grows_on d.tables old now behind g.grows h;
      })

  pub room_for : (codes : List held.Code) (next : ℕ) (now : Locals) (first rest left : Node) → Going texts root d k old id all codes next now left
      → left ≡ ThenNode first rest → (next + count_nodes first ≤ id + count_nodes all) × (count_nodes first ≤ count_nodes all)
  room_for codes next now first rest left g e =
      count_first texts d (declarations_at texts root) (body_view texts d k) (scope_view texts d old) id all codes next (scope_view texts d now) first rest
      (subst (Rowing texts d (declarations_at texts root) (body_view texts d k) (scope_view texts d old) id all codes next (scope_view texts d now))
      e g.rowing)

  pub broken_there : (codes : List held.Code) (next : ℕ) (now : Locals) (first rest left : Node) → Going texts root d k old id all codes next now left
      → left ≡ ThenNode first rest
      → first_breach texts root d k old (numbered id all)
      ≡ first_breach texts root d k now (numbered next first)
      or breach (declarations_at texts root) (body_view texts d k) (numbered (next + count_nodes first) rest) Fresh
      (settled (resolved (declarations_at texts root) (owner_view texts d k.owner) (numbered next first) Fresh (scope_view texts d now))).scope
  broken_there codes next now first rest left g e =
      g.rowing.broken ∙ ap (λ z. breach (declarations_at texts root) (body_view texts d k) (numbered next z) Fresh (scope_view texts d now)) e

  pub going_done : (codes : List held.Code) (next : ℕ) (now : Locals) (left : Node) (j : Done) → Going texts root d k old id all codes next now left
      → left ≡ NoNode → code_of j.code ≡ code_row codes
      → (first_breach texts root d k old (numbered id all) ≡ None) × Does texts root d k old (numbered id all) now j
  going_done codes next now left j g e c =
      let w = passed texts d (declarations_at texts root) (body_view texts d k) (scope_view texts d old) id all codes next (scope_view texts d now) j.code c
      (subst (Rowing texts d (declarations_at texts root) (body_view texts d k) (scope_view texts d old) id all codes next (scope_view texts d now))
      e g.rowing) in
      (w.kept, record { head = w.head; does = w.does; scope = w.scope })

  pub going_next : (codes : List held.Code) (next : ℕ) (now : Locals) (left : Node) → Going texts root d k old id all codes next now left
      → left ≡ NoNode → next ≡ id + count_nodes all
  going_next codes next now left g e =
      let c : next + count_nodes left ≡ id + count_nodes all = g.rowing.count in
      let n : count_nodes left ≡ 0 = ap count_nodes e in
      omega (arith, c, n)
