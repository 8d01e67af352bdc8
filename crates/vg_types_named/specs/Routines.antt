-- What runs at all that can be called, in order of the text.
use Rattle.std.specs.Prelude.{◌≡◌, ℕ, suc, ◌+◌, length, map, Some}
use Rattle.vg_syntax.specs.Tree.{Node, Then, ClassDecl, ComponentDecl, MethodDecl}
use Rattle.vg_source.specs.Names.{Name}
use Rattle.vg_source.specs.Values.{default}
use Rattle.vg_source.specs.Steps as source
use Rattle.vg_source.specs.Nodes.{literals}
use Rattle.vg_source.specs.Declared.{written_type}
use Rattle.vg_source.specs.Resolved.{Owner, InClass, InComponent, Fresh, resolved}
use Rattle.vg_source.specs.Program.{scope_of, routine_of, constructor_in, construction, initialisation, entries_in, main_of, handlers_in}
use Rattle.vg_core.specs.declared.program.Target.{Target}
use Rattle.vg_core.specs.declared.program.Target.TheVariants.{Run, Construct, Start}
use Rattle.vg_core.specs.Program.{Body, Program, Signature, signature_of, body_of}
use Rattle.vg_core.specs.Naming.{Naming, named_target, named_routine, named_handler}
use Rattle.vg_types_named.specs.Targets.{count_methods}

module _ (n : Naming) (p : Program) where
  -- What runs at a target is this routine.
  pub record Runs (t : Target) (r : source.Routine) : Type 0 where
    pub signature : Signature
    pub body : Body
    pub signed : signature_of p.tables t ≡ Some signature
    pub there : body_of p t ≡ Some body
    pub is : named_routine n p.tables t signature body ≡ r

  module _ (ds : Node) where
    -- The methods among members of this owner run, the first of which has this number.
    abbrev pub MethodsRun : Owner → Name → ℕ → Node → Type 0
    MethodsRun o c m (Then (MethodDecl at x ps t body) rest) =
        Runs (Run m)
        (record (routine_of (source.Method c x) (length ps) (default (written_type t)) (resolved ds o body Fresh (scope_of ps))) { number = m })
        × MethodsRun o c (suc m) rest
    MethodsRun o c m (Then _ rest) = MethodsRun o c m rest
    MethodsRun o c m _ = Unit {0}

    -- All that declarations have to call runs, behind so many classes, components and methods.
    abbrev pub AllRun : (c k m : ℕ) → Node → Type 0
    AllRun c k m (Then (ClassDecl at x above ms) rest) =
        Runs (Construct c) (construction ds x above ms (constructor_in ms)) × MethodsRun (InClass x) x m ms
        × AllRun (suc c) k (m + count_methods ms) rest
    AllRun c k m (Then (ComponentDecl at x ms) rest) =
        Runs (Start k) (initialisation ds x ms (constructor_in ms)) × MethodsRun (InComponent x) x m ms × AllRun c (suc k) (m + count_methods ms) rest
    AllRun c k m (Then _ rest) = AllRun c k m rest
    AllRun c k m _ = Unit {0}

    -- What a program adds to its tables is what the text says: what runs, the literals, and the entries.
    pub record IsAdded : Type 0 where
      pub runs : AllRun 0 0 0 ds
      pub literals_are : p.tables.literals ≡ literals ds
      pub main : named_target n p.tables (Run p.main) ≡ main_of (entries_in ds)
      pub handlers : map (named_handler n p.tables) p.handlers ≡ handlers_in (entries_in ds)
