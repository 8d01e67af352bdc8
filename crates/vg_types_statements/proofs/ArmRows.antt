-- The arms of an `if`. A loop keeps how far the row has come, as for statements: what is left of it has the breach of all and asks the
-- same of the conditions, behind the arms so far, in the scope that their blocks have left.
use Rattle.std.proofs.Common.{◌≡◌, ℕ, ◌≤◌, ◌+◌, ◌<◌, ◌&&◌, Bool, true, List, [], ◌∷◌, ◌++◌, length, drop, get_or, Option, None, refl, sym, ap, ◌∙◌}
use Rattle.std.proofs.Common.{subst, arith}
use Rattle.std.proofs.Common.{zero, suc, false, Err}
use Rattle.vg_meaning.specs.Code.{Code, Then, If}
use Rattle.vg_syntax.specs.Tree.{Spot, Node, Nothing as NoNode, Arm}
use Rattle.vg_syntax.specs.Numbering.{count_nodes, numbered, with_id}
use Rattle.vg_tree.specs.declared.node.Node as held_node
use Rattle.vg_tree.specs.Held.{arm_at, arm_row}
use Rattle.vg_tree.specs.Nothing.{is_pair}
use Rattle.vg_tree_walks.proofs.Passing.{left_of}
use Rattle.vg_source.specs.Steps.{Step as SourceStep}
use Rattle.vg_source.specs.Resolved.{NoHead, Fresh, Otherwise, Scope, Resolved, resolved}
use Rattle.vg_rules.specs.Breach.{Breach, asks, ◌or◌}
use Rattle.vg_rules.specs.Bodies.{breach, conditions_keep}
use Rattle.vg_core.specs.declared.types.CoreType.TheVariants.{BoolType}
use Rattle.vg_core.specs.declared.step.Step.{Step}
use Rattle.vg_core.specs.declared.code.Code as held
use Rattle.vg_core.specs.HeldProgram.{code_of}
use Rattle.vg_core.specs.Naming.{named_code}
use Rattle.vg_types_tables.specs.declared.declared.Declared.{Declared}
use Rattle.vg_base.specs.declared.refusal.Refusal.{Refusal}
use Rattle.vg_types_views.specs.declared.broken.Broken.{Broken}
use Rattle.vg_types_views.specs.Judges.{Judges}
use Rattle.vg_types_tables.specs.declared.locals.Locals.{Locals}
use Rattle.vg_types_tables.specs.declared.body.BodyKind.{BodyKind}
use Rattle.vg_types_tables.specs.declared.judged.Done.{Done}
use Rattle.vg_types_tables.specs.Views.{declarations_at, naming, owner_view, body_view, scope_view, code_view}
use Rattle.vg_types_tables.specs.Promises.{AreDeclared, Does, Puts, Runs, meant}
use Rattle.vg_types_statements.specs.declared.arms.Armed.{Armed}
use Rattle.vg_types_statements.specs.declared.arms.AllArms.{AllArms}
use Rattle.vg_types_statements.specs.Nodes.{if_node}
use Rattle.vg_types_simple.specs.Grows.{Grows, first_breach}
use Rattle.vg_types_statements.specs.Arms.{condition_of, block_of, before_arms, before_named, arms_view, code_arms, meant_arms, ArmsRun, DoesArm, DoesArms}
use Rattle.vg_types_simple.proofs.Judging.{or_behind, err_in_front, err_of_none}
use Rattle.vg_types_statements.proofs.Typing.{no_arms_run, one_arm_more}
use Rattle.vg_types_statements.proofs.Rows.{stays, grows_on}

-- a pair is an arm before others
pub arm_is : (texts : List (List ℕ)) (n : held_node.Node) (rest : Node) → is_pair n ≡ true
    → arm_at texts n rest ≡ Arm (condition_of texts n) (block_of texts n) rest
arm_is texts (held_node.Pair' p c q b) rest h = refl
arm_is texts _ rest h = cc

no_condition : (texts : List (List ℕ)) (n : held_node.Node) → is_pair n ≡ false → condition_of texts n ≡ NoNode
no_condition texts (held_node.Pair' p c q b) h = cc
no_condition texts _ h = refl

no_block : (texts : List (List ℕ)) (n : held_node.Node) → is_pair n ≡ false → block_of texts n ≡ NoNode
no_block texts (held_node.Pair' p c q b) h = cc
no_block texts _ h = refl

-- the parts of a pair are nodes of the row
pair_counts : (texts : List (List ℕ)) (n : held_node.Node) (rest : Node)
    → count_nodes (condition_of texts n) + count_nodes (block_of texts n) + count_nodes rest ≤ count_nodes (arm_at texts n rest)
pair_counts texts (held_node.Pair' p c q b) rest = omega arith
pair_counts texts _ rest = omega arith

-- the rest of a row of pairs begins with the pair at hand
pub arms_rest : (texts : List (List ℕ)) (nodes : List held_node.Node) (i : ℕ) (n : held_node.Node) → i < length nodes → n ≡ get_or nodes i n
    → arm_row texts (drop i nodes) ≡ arm_at texts n (arm_row texts (drop (i + 1) nodes))
arms_rest texts nodes i n lt e = ap (arm_row texts) (left_of nodes i n lt (sym e))

pub no_arms_left : (texts : List (List ℕ)) (nodes : List held_node.Node) (i : ℕ) → length nodes ≤ i → arm_row texts (drop i nodes) ≡ NoNode
no_arms_left texts [] zero h = refl
no_arms_left texts [] (suc i) h = refl
no_arms_left texts (m ∷ nodes) zero h = absurd (omega (arith, h))
no_arms_left texts (m ∷ nodes) (suc i) h = no_arms_left texts nodes i (omega (arith, h))

module _ (texts : List (List ℕ)) (d : Declared) where
  abbrev named : Code Step → Code SourceStep
  named c = named_code (naming texts d) d.tables c

  -- an arm before others, with names in place of numbers
  named_before : (a : held.Code) (rest : Code Step) → named (before_arms a rest) ≡ before_named texts d a (named rest)
  named_before (held.Arm' p c q b) rest = refl
  named_before _ rest = refl

  pub named_arms : (cs : List held.Code) (last : Code Step) → named (code_arms cs last) ≡ arms_view texts d cs (named last)
  named_arms [] last = refl
  named_arms (c ∷ cs) last = named_before c (code_arms cs last) ∙ ap (before_named texts d c) (named_arms cs last)

  arms_view_more : (cs : List held.Code) (a : held.Code) (last : Code SourceStep)
      → arms_view texts d (cs ++ a ∷ []) last ≡ arms_view texts d cs (before_named texts d a last)
  arms_view_more [] a last = refl
  arms_view_more (c ∷ cs) a last = ap (before_named texts d c) (arms_view_more cs a last)

both_true : (a b : Bool) → a && b ≡ true → (a ≡ true) × (b ≡ true)
both_true true b e = (refl, e)
both_true false b e = cc

and_in : (a b c : Bool) → (a && b) && c ≡ a && (b && c)
and_in true b c = refl
and_in false b c = refl

-- ---- what a loop over arms keeps

module _ (texts : List (List ℕ)) (root : held_node.Node) (d : Declared) (k : BodyKind) where
  pub record GoingArms (old : Locals) (id : ℕ) (all : Node) (codes : List held.Code) (holds : Bool) (next : ℕ) (now : Locals) (rest : Node) : Type 0 where
    pub from : id ≤ next
    pub count : next + count_nodes rest ≡ id + count_nodes all
    pub broken : first_breach texts root d k old (numbered id all) ≡ first_breach texts root d k now (numbered next rest)
    pub keeps : conditions_keep (declarations_at texts root) (body_view texts d k) (numbered id all) (scope_view texts d old)
        ≡ holds && conditions_keep (declarations_at texts root) (body_view texts d k) (numbered next rest) (scope_view texts d now)
    pub does : (last : Scope → Resolved)
        → (meant_arms texts root d k old (numbered id all) last).does ≡ arms_view texts d codes (meant_arms texts root d k now (numbered next rest) last).does
    pub scope : (last : Scope → Resolved)
        → (meant_arms texts root d k old (numbered id all) last).scope ≡ (meant_arms texts root d k now (numbered next rest) last).scope
    pub behind : (meant texts root d k old (numbered id all) Fresh).scope ≡ (meant texts root d k now (numbered next rest) Fresh).scope
    pub head : (last : Scope → Resolved) → (meant_arms texts root d k now (numbered next rest) last).head ≡ NoHead
        → (meant_arms texts root d k old (numbered id all) last).head ≡ NoHead
    pub runs : holds ≡ true → ArmsRun d.tables k now.declared codes
    pub grows : Grows d.tables old now

  pub arms_start : (old : Locals) (id : ℕ) (all : Node) (codes : List held.Code) → codes ≡ [] → AreDeclared d.tables old
      → GoingArms old id all codes true id old all
  arms_start old id all codes e h = record {
    from = omega arith;
    count = refl;
    broken = refl;
    keeps = refl;
    does = λ last. sym (ap (λ z. arms_view texts d z (meant_arms texts root d k old (numbered id all) last).does) e);
    scope = λ last. refl;
    behind = refl;
    head = λ last h. h;
    runs = λ t. no_arms_run d.tables k old.declared codes e;
    grows = stays d.tables old h;
  }

  pub arm_room : (old : Locals) (id : ℕ) (all : Node) (codes : List held.Code) (holds : Bool) (next : ℕ) (now : Locals) (n : held_node.Node) (rest
      left : Node)
      → GoingArms old id all codes holds next now left → left ≡ arm_at texts n rest
      → (next + count_nodes (condition_of texts n) + count_nodes (block_of texts n) ≤ id + count_nodes all)
      × (count_nodes (condition_of texts n) + count_nodes (block_of texts n) ≤ count_nodes all)
  arm_room old id all codes holds next now n rest left g e =
      let m = g.count in
      let f = g.from in
      let l : count_nodes left ≡ count_nodes (arm_at texts n rest) = ap count_nodes e in
      let p = pair_counts texts n rest in
      (omega (arith, m, l, p), omega (arith, m, f, l, p))

  module _ (old : Locals) (id : ℕ) (all : Node) (codes : List held.Code) (holds : Bool) (next : ℕ) (now : Locals) (c b rest left : Node)
      (g : GoingArms old id all codes holds next now left) (e : left ≡ Arm c b rest) where
    at : GoingArms old id all codes holds next now (Arm c b rest)
    at = subst (GoingArms old id all codes holds next now) e g

    -- a breach in the arm at hand is the first of all
    pub arm_broken : first_breach texts root d k old (numbered id all)
        ≡ (first_breach texts root d k now (numbered next c) or first_breach texts root d k now (numbered (next + count_nodes c) b))
        or breach (declarations_at texts root) (body_view texts d k) (numbered (next + count_nodes c + count_nodes b) rest) Fresh
        (meant texts root d k now (numbered (next + count_nodes c) b) Fresh).scope
    arm_broken = at.broken ∙ sym (or_behind (first_breach texts root d k now (numbered next c))
        (first_breach texts root d k now (numbered (next + count_nodes c) b)) _)

    pub arms_on : (more : List held.Code) (a : held.Code) (both : Bool) (after : ℕ) (behind : Locals) (j : Armed)
        → (first_breach texts root d k now (numbered next c) or first_breach texts root d k now (numbered (next + count_nodes c) b) ≡ None)
        × DoesArm texts root d k now (numbered next c) (numbered (next + count_nodes c) b) behind j
        → (j.holds ≡ true → Puts d.tables k now (code_of j.condition) BoolType) → Runs d.tables k behind (code_of j.block) → Grows d.tables now behind
        → ((rest : Code Step) → before_arms a rest ≡ Then (code_of j.condition) (If (code_of j.block) rest))
        → ((rest : Code SourceStep) → before_named texts d a rest ≡ Then (code_view texts d j.condition) (If (code_view texts d j.block) rest))
        → both ≡ (holds && j.holds) → after ≡ next + count_nodes c + count_nodes b → more ≡ codes ++ a ∷ []
        → GoingArms old id all more both after behind rest
    arms_on more a both after behind j (n, w) test run h f f' t m q = subst (λ z. GoingArms old id all z both after behind rest) (sym q) (record {
      from = let u = at.from in omega (arith, u, m);
      count = let u = at.count in omega (arith, u, m);
      broken = arm_broken ∙ ap (λ z. z or first) n ∙ there (λ i s. breach (declarations_at texts root) (body_view texts d k) (numbered i rest) Fresh s);
      keeps = at.keeps
          ∙ ap (λ z. holds && (z && left_keeps (next + count_nodes c + count_nodes b) (meant texts root d k now (numbered (next + count_nodes c) b)
          Fresh).scope)) w.holds
          ∙ sym (and_in holds j.holds _)
          ∙ ap (λ z. z && left_keeps (next + count_nodes c + count_nodes b) (meant texts root d k now (numbered (next + count_nodes c) b)
          Fresh).scope) (sym t)
          ∙ ap (λ z. both && z) (there left_keeps);
      does = λ last. at.does last
          ∙ ap (λ z. arms_view texts d codes (Then z (If (meant texts root d k now (numbered (next + count_nodes c) b) Fresh).does (rest_of
          last).does))) (sym w.condition)
          ∙ ap (λ z. arms_view texts d codes (Then (code_view texts d j.condition) (If z (rest_of last).does))) (sym w.block)
          ∙ ap (arms_view texts d codes) (sym (f' (rest_of last).does))
          ∙ sym (arms_view_more texts d codes a (rest_of last).does)
          ∙ there (λ i s. arms_view texts d (codes ++ a ∷ []) (resolved (declarations_at texts root) (owner_view texts d k.owner) (numbered i rest)
          (Otherwise last) s).does);
      scope = λ last. at.scope last ∙ there (λ i s. (resolved (declarations_at texts root) (owner_view texts d k.owner) (numbered i rest) (Otherwise
          last) s).scope);
      behind = at.behind ∙ there (λ i s. (resolved (declarations_at texts root) (owner_view texts d k.owner) (numbered i rest) Fresh s).scope);
      head = λ last u. at.head last refl;
      runs = λ u. let v = both_true holds j.holds (sym t ∙ u) in
          one_arm_more d.tables k now.declared h.more_types behind.declared codes a (code_of j.condition) (code_of j.block) h.types (at.runs v.0)
          (test v.1) run f;
      grows = grows_on d.tables old now behind at.grows h;
    })
      where
        first : Option Breach
        first = breach (declarations_at texts root) (body_view texts d k) (numbered (next + count_nodes c + count_nodes b) rest) Fresh
            (meant texts root d k now (numbered (next + count_nodes c) b) Fresh).scope

        left_keeps : ℕ → Scope → Bool
        left_keeps i s = conditions_keep (declarations_at texts root) (body_view texts d k) (numbered i rest) s

        rest_of : (Scope → Resolved) → Resolved
        rest_of last = resolved (declarations_at texts root) (owner_view texts d k.owner) (numbered (next + count_nodes c + count_nodes b) rest)
            (Otherwise last)
            (meant texts root d k now (numbered (next + count_nodes c) b) Fresh).scope

        there : {A : Type 0} (go : ℕ → Scope → A) → go (next + count_nodes c + count_nodes b) (meant texts root d k now (numbered (next + count_nodes
            c) b) Fresh).scope
            ≡ go after (scope_view texts d behind)
        there go = ap (λ z. go (next + count_nodes c + count_nodes b) z) w.scope ∙ ap (λ z. go z (scope_view texts d behind)) (sym m)

  -- a fault in an arm is the first of all
  pub arm_refused : {A B : Type 0} (P : A → Type 0) (Q : B → Type 0) (f : Refusal Broken) (old : Locals) (id : ℕ) (all : Node) (codes : List held.Code)
      (holds : Bool) (next : ℕ) (now : Locals) (n : held_node.Node) (rest left : Node) → GoingArms old id all codes holds next now left
      → left ≡ arm_at texts n rest
      → Judges P (Err f) (first_breach texts root d k now (numbered next (condition_of texts n))
      or first_breach texts root d k now (numbered (next + count_nodes (condition_of texts n)) (block_of texts n)))
      → Judges Q (Err f) (first_breach texts root d k old (numbered id all))
  arm_refused P Q f old id all codes holds next now n rest left g e h = by (is_pair n) refl
    where
      none : (c b : Node) → c ≡ NoNode → b ≡ NoNode
          → first_breach texts root d k now (numbered next c) or first_breach texts root d k now (numbered (next + count_nodes c) b) ≡ None
      none c b p q = ap (λ z. first_breach texts root d k now (numbered next z) or first_breach texts root d k now (numbered (next + count_nodes z) b)) p
          ∙ ap (λ z. first_breach texts root d k now (numbered (next + count_nodes NoNode) z)) q

      by : (b : Bool) → is_pair n ≡ b → Judges Q (Err f) (first_breach texts root d k old (numbered id all))
      by true p = err_in_front P Q f _ _ _
          (arm_broken old id all codes holds next now (condition_of texts n) (block_of texts n) rest left g (e ∙ arm_is texts n rest p)) h
      by false p = err_of_none P Q f _ (first_breach texts root d k old (numbered id all))
          (none (condition_of texts n) (block_of texts n) (no_condition texts n p) (no_block texts n p)) h

  pub arms_done : (old : Locals) (id : ℕ) (all : Node) (holds : Bool) (next : ℕ) (now : Locals) (left : Node) (j : AllArms)
      → GoingArms old id all j.codes.items holds next now left → left ≡ NoNode → j.holds ≡ holds
      → (first_breach texts root d k old (numbered id all) ≡ None) × DoesArms texts root d k old (numbered id all) now j
  arms_done old id all holds next now left j g e h =
      let w : GoingArms old id all j.codes.items holds next now NoNode = subst (GoingArms old id all j.codes.items holds next now) e g in
      (w.broken, record { does = w.does; scope = w.scope; head = w.head; behind = w.behind; holds = w.keeps ∙ and_true holds ∙ sym h })
    where
      and_true : (a : Bool) → a && true ≡ a
      and_true true = refl
      and_true false = refl

  pub arms_next : (old : Locals) (id : ℕ) (all : Node) (codes : List held.Code) (holds : Bool) (next : ℕ) (now : Locals) (left : Node)
      → GoingArms old id all codes holds next now left → left ≡ NoNode → next ≡ id + count_nodes all
  arms_next old id all codes holds next now left g e =
      let c : next + count_nodes left ≡ id + count_nodes all = g.count in
      let n : count_nodes left ≡ 0 = ap count_nodes e in
      omega (arith, c, n)

  -- an `if` with these arms
  pub if_done : (old mid new : Locals) (id : ℕ) (at : Spot) (arms otherwise : Node) (j : AllArms) (l r : Done)
      → (first_breach texts root d k old arms ≡ None) × DoesArms texts root d k old arms mid j → j.holds ≡ true
      → (first_breach texts root d k mid otherwise ≡ None) × Does texts root d k mid otherwise new l
      → code_of r.code ≡ code_arms j.codes.items (code_of l.code)
      → (first_breach texts root d k old (if_node id at arms otherwise) ≡ None) × Does texts root d k old (if_node id at arms otherwise) new r
  if_done old mid new id at arms otherwise j l r (b, w) h (c, v) e = (
    ap (λ z. z or (breach (declarations_at texts root) (body_view texts d k) otherwise Fresh (meant texts root d k old arms Fresh).scope
        or asks (conditions_keep (declarations_at texts root) (body_view texts d k) arms (scope_view texts d old)) 22 (with_id id at))) b
        ∙ ap (λ z. breach (declarations_at texts root) (body_view texts d k) otherwise Fresh z
        or asks (conditions_keep (declarations_at texts root) (body_view texts d k) arms (scope_view texts d old)) 22 (with_id id at)) w.behind
        ∙ ap (λ z. z or asks (conditions_keep (declarations_at texts root) (body_view texts d k) arms (scope_view texts d old)) 22 (with_id id at)) c
        ∙ ap (λ z. asks z 22 (with_id id at)) (w.holds ∙ h),
    record {
      head = w.head last v.head;
      does = ap (named texts d) e ∙ named_arms texts d j.codes.items (code_of l.code) ∙ ap (arms_view texts d j.codes.items) v.does ∙ sym (w.does last);
      scope = w.scope last ∙ v.scope;
    },
  )
    where
      last : Scope → Resolved
      last = resolved (declarations_at texts root) (owner_view texts d k.owner) otherwise Fresh

  -- the same, where the number of the last block is known to be this
  pub if_done_at : (old mid new : Locals) (id : ℕ) (at : Spot) (arms o : Node) (n m : ℕ) → n ≡ m → (j : AllArms) (l r : Done)
      → (first_breach texts root d k old arms ≡ None) × DoesArms texts root d k old arms mid j → j.holds ≡ true
      → (first_breach texts root d k mid (numbered n o) ≡ None) × Does texts root d k mid (numbered n o) new l
      → code_of r.code ≡ code_arms j.codes.items (code_of l.code)
      → (first_breach texts root d k old (if_node id at arms (numbered m o)) ≡ None) × Does texts root d k old (if_node id at arms (numbered m o)) new r
  if_done_at old mid new id at arms o n m q j l r a h b e =
      if_done old mid new id at arms (numbered m o) j l r a h
      (subst (λ z. (first_breach texts root d k mid (numbered z o) ≡ None) × Does texts root d k mid (numbered z o) new l) q b) e
