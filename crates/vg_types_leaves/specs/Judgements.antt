-- What is promised of the nodes of expressions: the first breach, or what they stand for.
use Rattle.std.specs.Prelude.{◌≡◌, ℕ, List, Result, Option, Some, None}
use Rattle.vg_base.specs.declared.refusal.Refusal.{Refusal}
use Rattle.vg_syntax.specs.Tree.{Node}
use Rattle.vg_tree.specs.declared.node.Node as held_node
use Rattle.vg_source.specs.Resolved.{Context, Fresh, Resolved, IsValue}
use Rattle.vg_rules.specs.Bodies.{breach}
use Rattle.vg_types_views.specs.declared.broken.Broken.{Broken}
use Rattle.vg_types_views.specs.Judges.{Judges}
use Rattle.vg_types_tables.specs.declared.declared.Declared.{Declared}
use Rattle.vg_types_tables.specs.declared.locals.Locals.{Locals}
use Rattle.vg_types_tables.specs.declared.body.BodyKind.{BodyKind}
use Rattle.vg_types_tables.specs.declared.judged.Head.{Head}
use Rattle.vg_types_tables.specs.declared.judged.Head.TheVariants.{Value, OwnMethod, ItsMethod}
use Rattle.vg_types_tables.specs.declared.judged.Judged.{Judged}
use Rattle.vg_types_tables.specs.declared.judged.Standing.{Standing}
use Rattle.vg_types_tables.specs.declared.judged.Storing.{Storing}
use Rattle.vg_types_tables.specs.Views.{declarations_at, type_view, head_view, step_view, code_view, body_view, scope_view}
use Rattle.vg_types_tables.specs.Declares.{IsKnown}
use Rattle.vg_types_tables.specs.Promises.{IsHead, Stands, Leaves}

-- What is left is a value, or a method that is a value where it is not called.
abbrev pub HasValue : Head → Type 0
HasValue (Value t) = Unit {0}
HasValue (OwnMethod at c m) = Unit {0}
HasValue (ItsMethod m) = Unit {0}
HasValue _ = ⊥

module _ (texts : List (List ℕ)) (d : Declared) (ls : Locals) where
  -- What a node stands for, as it is left.
  pub record Shows (m : Resolved) (j : Standing) : Type 0 where
    pub head : m.head ≡ head_view texts d j.head
    pub does : code_view texts d j.code ≡ m.does
    pub scope : m.scope ≡ scope_view texts d ls
    pub known : IsHead texts d j.head

module _ (texts : List (List ℕ)) (d : Declared) where
  -- The place that it is.
  pub record ShowsPlace (m : Resolved) (j : Storing) : Type 0 where
    pub head : m.head ≡ IsValue (type_view texts d j.type_)
    pub aims : code_view texts d j.aims ≡ m.aims
    pub store : m.store ≡ Some (step_view texts d j.store)
    pub known : IsKnown d.tables j.type_

  -- The place that it is, if it is one.
  abbrev pub AimsAt : Resolved → Option Storing → Type 0
  AimsAt m (Some j) = ShowsPlace m j
  AimsAt m None = m.store ≡ None

module _ (texts : List (List ℕ)) (root : held_node.Node) (d : Declared) (k : BodyKind) (ls : Locals) where
  -- The first breach in a node behind this context, or what the node leaves.
  abbrev pub Behind : Node → Context → Result Standing (Refusal Broken) → Type 0
  Behind e b r = Judges (Leaves texts root d k ls e b) r (breach (declarations_at texts root) (body_view texts d k) e b (scope_view texts d ls))

  -- The first breach in a whole expression, or what it stands for.
  abbrev pub Whole : Node → Result Judged (Refusal Broken) → Type 0
  Whole e r = Judges (Stands texts root d k ls e) r (breach (declarations_at texts root) (body_view texts d k) e Fresh (scope_view texts d ls))
