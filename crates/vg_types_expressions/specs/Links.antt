-- Rows of suffixes or parts: each goes on from what the one before it leaves.
use Rattle.std.specs.Prelude.{◌≡◌, ◌≤◌, ◌+◌, ℕ, List, [], ◌∷◌, Result, Ok, Err, Option, Some}
use Rattle.vg_base.specs.declared.refusal.Refusal.{Refusal}
use Rattle.vg_base.specs.declared.refusal.Refusal.TheVariants.{Fault, NoMemory}
use Rattle.vg_meaning.specs.Code.{Code, Then}
use Rattle.vg_meaning.specs.Shapes.{Fits}
use Rattle.vg_syntax.specs.Tree.{Node}
use Rattle.vg_syntax.specs.Numbering.{count_nodes, numbered}
use Rattle.vg_tree.specs.declared.node.Node as held_node
use Rattle.vg_source.specs.Resolved.{Resolved, Onto, in_front}
use Rattle.vg_rules.specs.Breach.{Breach}
use Rattle.vg_rules.specs.Bodies.{breach}
use Rattle.vg_core.specs.declared.types.CoreType.{CoreType}
use Rattle.vg_core.specs.declared.step.Step.{Step}
use Rattle.vg_core.specs.declared.code.Code as held
use Rattle.vg_core.specs.declared.program.Owner.{Owner}
use Rattle.vg_core.specs.HeldProgram.{code_of}
use Rattle.vg_core.specs.Typing.{known}
use Rattle.vg_types_views.specs.declared.broken.Broken.{Broken}
use Rattle.vg_types_tables.specs.declared.declared.Declared.{Declared}
use Rattle.vg_types_tables.specs.declared.locals.Locals.{Locals}
use Rattle.vg_types_tables.specs.declared.body.BodyKind.{BodyKind}
use Rattle.vg_types_tables.specs.declared.judged.Head.{Head}
use Rattle.vg_types_tables.specs.Views.{declarations_at, body_view, scope_view, head_view, code_view}
use Rattle.vg_types_tables.specs.Promises.{IsHead, Sees, waiting, meant}

-- What was wanted of a front part, or the first breach.
abbrev pub JudgesFront : {A : Type 0} → (A → Type 0) → Result A (Refusal Broken) → Option Breach → Type 0
JudgesFront P (Ok a) b = P a
JudgesFront P (Err (Fault f)) b = b ≡ Some (record { rule = f.rule; node = f.node.0 })
JudgesFront P (Err NoMemory) b = Unit {0}

-- Code behind that of the links so far.
abbrev pub code_behind : List held.Code → Code Step → Code Step
code_behind [] c = c
code_behind (d ∷ ds) c = Then (code_of d) (code_behind ds c)

-- What a link stands for behind those so far.
abbrev pub behind_all : List (List ℕ) → Declared → List held.Code → Resolved → Resolved
behind_all texts d [] m = m
behind_all texts d (c ∷ cs) m = in_front (code_view texts d c) (behind_all texts d cs m)

module _ (texts : List (List ℕ)) (root : held_node.Node) (d : Declared) (k : BodyKind) (ls : Locals) where
  -- How far a row has come: what is left of it has the breach of all, and stands behind the links so far.
  pub record Linking (first : Head) (id : ℕ) (all : Node) (codes : List held.Code) (head : Head) (next : ℕ) (rest : Node) : Type 0 where
    pub from : id ≤ next
    pub count : next + count_nodes rest ≡ id + count_nodes all
    pub broken : breach (declarations_at texts root) (body_view texts d k) (numbered id all) (Onto (head_view texts d first)) (scope_view texts d ls)
        ≡ breach (declarations_at texts root) (body_view texts d k) (numbered next rest) (Onto (head_view texts d head)) (scope_view texts d ls)
    pub stands : meant texts root d k ls (numbered id all) (Onto (head_view texts d first))
        ≡ behind_all texts d codes (meant texts root d k ls (numbered next rest) (Onto (head_view texts d head)))
    pub along : (o : Owner) (x : List CoreType) → Sees k.owner o → (c : Code Step) (y : List CoreType)
        → Fits (known d.tables ls.declared o k.result) k.in_loop c (waiting head x) y
        → Fits (known d.tables ls.declared o k.result) k.in_loop (code_behind codes c) (waiting first x) y
    pub known_head : IsHead texts d head
