-- What is promised of a row of arguments, beside the first breach.
use Rattle.std.specs.Prelude.{◌≡◌, ◌≤◌, ◌+◌, ◌&&◌, ℕ, Bool, false, ◌++◌, IsTrue, List, [], length, take, drop, Option, Some, None}
use Rattle.vg_meaning.specs.Code.{Code}
use Rattle.vg_meaning.specs.Shapes.{Fits}
use Rattle.vg_syntax.specs.Tree.{Node}
use Rattle.vg_syntax.specs.Numbering.{count_nodes, numbered}
use Rattle.vg_tree.specs.declared.node.Node as held_node
use Rattle.vg_source.specs.Declared.{length_of}
use Rattle.vg_source.specs.Resolved.{Fresh}
use Rattle.vg_rules.specs.Fits.{fits}
use Rattle.vg_rules.specs.Bodies.{breach, arguments_fit}
use Rattle.vg_core.specs.declared.types.CoreType.{CoreType}
use Rattle.vg_core.specs.declared.step.Step.{Step}
use Rattle.vg_core.specs.declared.code.Code as held
use Rattle.vg_core.specs.declared.program.Owner.{Owner}
use Rattle.vg_core.specs.declared.program.Tables.{Tables}
use Rattle.vg_core.specs.HeldProgram.{code_of}
use Rattle.vg_core.specs.State.{onto}
use Rattle.vg_core.specs.Typing.{Subs, known}
use Rattle.vg_types_tables.specs.declared.declared.Declared.{Declared}
use Rattle.vg_types_tables.specs.declared.locals.Locals.{Locals}
use Rattle.vg_types_tables.specs.declared.body.BodyKind.{BodyKind}
use Rattle.vg_types_tables.specs.Views.{declarations_at, type_view, row_view, body_view, scope_view, code_view}
use Rattle.vg_types_tables.specs.Promises.{meant, Sees}
use Rattle.vg_types_expressions.specs.declared.argued.Argued.{Argued}
use Rattle.vg_types_expressions.specs.Links.{code_behind, behind_all}

-- A row of arguments: its code, and whether it fits the parameters; the scope stays.
pub record Argues (texts : List (List ℕ)) (root : held_node.Node) (d : Declared) (k : BodyKind) (ls : Locals) (params : List CoreType) (e : Node)
    (j : Argued) : Type 0 where
  pub does : code_view texts d j.code ≡ (meant texts root d k ls e Fresh).does
  pub scope : (meant texts root d k ls e Fresh).scope ≡ scope_view texts d ls
  pub fits : j.fits ≡ arguments_fit (declarations_at texts root) (body_view texts d k) e (row_view texts d params) (scope_view texts d ls)
  pub count : IsTrue j.fits → j.count ≡ length_of e

-- The code puts a value for each parameter in front of those that wait, that for the last one in front.
abbrev pub PutsFor : Tables → BodyKind → Locals → (params : List CoreType) → Argued → Type 0
PutsFor p k ls params j = (o : Owner) (x : List CoreType) → Sees k.owner o
    → (us : List CoreType) × (length us ≡ j.count) × Subs p us (onto params [])
    × Fits (known p ls.declared o k.result) k.in_loop (code_of j.code) x (us ++ x)

-- A value fits the parameter in its place, where there is one.
abbrev pub argument_fits : (texts : List (List ℕ)) → held_node.Node → Declared → CoreType → Option CoreType → Bool
argument_fits texts root d u (Some t) = fits (declarations_at texts root) (type_view texts d u) (type_view texts d t)
argument_fits texts root d u None = false

-- How far a row of arguments has come: what is left of it has the breach of all, stands behind the arguments so far, and fits the
-- parameters that are left if those so far do.
pub record Arguing (texts : List (List ℕ)) (root : held_node.Node) (d : Declared) (k : BodyKind) (ls : Locals) (params : List CoreType) (id : ℕ) (all : Node)
    (codes : List held.Code) (fitting : Bool) (next : ℕ) (count : ℕ) (rest : Node) : Type 0 where
  pub from : id ≤ next
  pub count_is : next + count_nodes rest ≡ id + count_nodes all
  pub broken : breach (declarations_at texts root) (body_view texts d k) (numbered id all) Fresh (scope_view texts d ls)
      ≡ breach (declarations_at texts root) (body_view texts d k) (numbered next rest) Fresh (scope_view texts d ls)
  pub stands : meant texts root d k ls (numbered id all) Fresh ≡ behind_all texts d codes (meant texts root d k ls (numbered next rest) Fresh)
  pub fit : arguments_fit (declarations_at texts root) (body_view texts d k) (numbered id all) (row_view texts d params) (scope_view texts d ls)
      ≡ (fitting && arguments_fit (declarations_at texts root) (body_view texts d k) (numbered next rest) (row_view texts d (drop count params))
      (scope_view texts d ls))
  pub within : IsTrue fitting → count ≤ length params
  pub length_is : length_of (numbered id all) ≡ count + length_of (numbered next rest)
  pub typed : IsTrue fitting → (us : List CoreType) × (length us ≡ count) × Subs d.tables us (onto (take count params) [])
      × ((o : Owner) (x : List CoreType) → Sees k.owner o → (c : Code Step) (y : List CoreType)
      → Fits (known d.tables ls.declared o k.result) k.in_loop c (us ++ x) y
      → Fits (known d.tables ls.declared o k.result) k.in_loop (code_behind codes c) x y)
