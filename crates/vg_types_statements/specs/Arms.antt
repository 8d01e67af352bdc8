-- The arms of an `if`.
use Rattle.std.specs.Prelude.{◌≡◌, ℕ, List, [], ◌∷◌, ◌++◌}
use Rattle.vg_meaning.specs.Code.{Code, Then, If}
use Rattle.vg_meaning.specs.Shapes.{Fits}
use Rattle.vg_syntax.specs.Tree.{Node, Nothing}
use Rattle.vg_tree.specs.declared.node.Node as held_node
use Rattle.vg_tree.specs.Held.{node_at}
use Rattle.vg_source.specs.Steps.{Step as SourceStep}
use Rattle.vg_source.specs.Resolved.{Scope, Resolved, NoHead, Fresh, Otherwise}
use Rattle.vg_rules.specs.Bodies.{head, is_bool, conditions_keep}
use Rattle.vg_core.specs.declared.types.CoreType.{CoreType}
use Rattle.vg_core.specs.declared.program.Owner.{Owner}
use Rattle.vg_core.specs.declared.program.Tables.{Tables}
use Rattle.vg_core.specs.declared.step.Step.{Step}
use Rattle.vg_core.specs.declared.code.Code as held
use Rattle.vg_core.specs.HeldProgram.{code_of}
use Rattle.vg_core.specs.Typing.{known}
use Rattle.vg_types_tables.specs.declared.declared.Declared.{Declared}
use Rattle.vg_types_tables.specs.declared.locals.Locals.{Locals}
use Rattle.vg_types_tables.specs.declared.body.BodyKind.{BodyKind}
use Rattle.vg_types_tables.specs.Views.{declarations_at, body_view, scope_view, code_view}
use Rattle.vg_types_tables.specs.Promises.{Sees, meant, whole}
use Rattle.vg_types_statements.specs.declared.arms.Armed.{Armed}
use Rattle.vg_types_statements.specs.declared.arms.AllArms.{AllArms}

-- ---- code

-- An arm before others, and what is done where no condition holds.
abbrev pub before_arms : held.Code → Code Step → Code Step
before_arms (held.Arm' p c q b) rest = Then (code_of c) (If (code_of b) rest)
before_arms c rest = Then (code_of c) rest

-- Arms in order, and then what is done where no condition holds.
abbrev pub code_arms : List held.Code → Code Step → Code Step
code_arms [] last = last
code_arms (c ∷ cs) last = before_arms c (code_arms cs last)

-- Code runs under locals of these types.
abbrev pub RunsIn : Tables → BodyKind → List CoreType → Code Step → Type 0
RunsIn p k ts c = (o : Owner) → Sees k.owner o → Fits (known p ts o k.result) k.in_loop c [] []

-- Arms run under these locals and more of them, where what is behind them does.
abbrev pub ArmsRun : Tables → BodyKind → List CoreType → List held.Code → Type 0
ArmsRun p k ts cs = (more : List CoreType) (last : Code Step) → RunsIn p k (ts ++ more) last → RunsIn p k (ts ++ more) (code_arms cs last)

-- ---- nodes

-- The condition of a pair.
abbrev pub condition_of : List (List ℕ) → held_node.Node → Node
condition_of texts (held_node.Pair' p c q b) = node_at texts c
condition_of texts _ = Nothing

-- The block of a pair.
abbrev pub block_of : List (List ℕ) → held_node.Node → Node
block_of texts (held_node.Pair' p c q b) = node_at texts b
block_of texts _ = Nothing

-- ---- what they stand for

module _ (texts : List (List ℕ)) (d : Declared) where
  -- An arm before others, with names in place of numbers.
  abbrev pub before_named : held.Code → Code SourceStep → Code SourceStep
  before_named (held.Arm' p c q b) rest = Then (code_view texts d c) (If (code_view texts d b) rest)
  before_named c rest = Then (code_view texts d c) rest

  -- Arms in order, and then what is done where no condition holds.
  abbrev pub arms_view : List held.Code → Code SourceStep → Code SourceStep
  arms_view [] last = last
  arms_view (c ∷ cs) last = before_named c (arms_view cs last)

module _ (texts : List (List ℕ)) (root : held_node.Node) (d : Declared) (k : BodyKind) where
  -- What arms stand for, before this.
  abbrev pub meant_arms : Locals → Node → (last : Scope → Resolved) → Resolved
  meant_arms ls e last = meant texts root d k ls e (Otherwise last)

  -- One arm, from the locals before it to those behind it.
  pub record DoesArm (old : Locals) (c b : Node) (new : Locals) (j : Armed) : Type 0 where
    pub condition : code_view texts d j.condition ≡ (whole texts root d k old c).does
    pub block : code_view texts d j.block ≡ (meant texts root d k old b Fresh).does
    pub scope : (meant texts root d k old b Fresh).scope ≡ scope_view texts d new
    pub holds : is_bool (head (declarations_at texts root) (body_view texts d k) c (scope_view texts d old)) ≡ j.holds

  -- Arms, from the locals before them to those behind them.
  pub record DoesArms (old : Locals) (e : Node) (new : Locals) (j : AllArms) : Type 0 where
    pub does : (last : Scope → Resolved) → (meant_arms old e last).does ≡ arms_view texts d j.codes.items (last (scope_view texts d new)).does
    pub scope : (last : Scope → Resolved) → (meant_arms old e last).scope ≡ (last (scope_view texts d new)).scope
    pub head : (last : Scope → Resolved) → (last (scope_view texts d new)).head ≡ NoHead → (meant_arms old e last).head ≡ NoHead
    pub behind : (meant texts root d k old e Fresh).scope ≡ scope_view texts d new
    pub holds : conditions_keep (declarations_at texts root) (body_view texts d k) e (scope_view texts d old) ≡ j.holds
