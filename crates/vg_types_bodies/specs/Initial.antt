-- Initialisers of fields, and calls of `super`.
use Rattle.std.specs.Prelude.{◌≡◌, ℕ, Bool, true, false, List, [], ◌∷◌, Option, Some, None}
use Rattle.vg_meaning.specs.Code.{Code, Nothing, Then, Do}
use Rattle.vg_meaning.specs.Shapes.{Fits}
use Rattle.vg_syntax.specs.Tree.{Node, Nothing as NoNode}
use Rattle.vg_tree.specs.declared.node.Node as held_node
use Rattle.vg_tree.specs.Nothing.{is_nothing}
use Rattle.vg_source.specs.Names.{Name}
use Rattle.vg_source.specs.Types.{StaticType}
use Rattle.vg_source.specs.Steps.{Step as SourceStep, Super}
use Rattle.vg_source.specs.Declared.{length_of}
use Rattle.vg_source.specs.Resolved.{Scope, NoOwner, Fresh, no_names, resolved}
use Rattle.vg_source.specs.Program.{initial}
use Rattle.vg_rules.specs.Breach.{Breach, ◌or◌}
use Rattle.vg_rules.specs.Bodies.{breach, initialiser_keeps, arguments_fit}
use Rattle.vg_rules.specs.Inherited.{params_of_class}
use Rattle.vg_rules.specs.Legal.{outside}
use Rattle.vg_core.specs.declared.types.CoreType.{CoreType}
use Rattle.vg_core.specs.declared.types.CoreType.TheVariants.{NoType}
use Rattle.vg_core.specs.declared.program.Owner.{Owner}
use Rattle.vg_core.specs.declared.program.Owner.TheVariants.{InClass}
use Rattle.vg_core.specs.declared.program.Tables.{Tables}
use Rattle.vg_core.specs.declared.code.Code as held
use Rattle.vg_core.specs.HeldProgram.{code_of}
use Rattle.vg_core.specs.Tables as tables
use Rattle.vg_core.specs.Typing.{Sub, known}
use Rattle.vg_types_tables.specs.declared.declared.Declared.{Declared}
use Rattle.vg_types_tables.specs.Views.{declarations_at, naming, code_view}
use Rattle.vg_types_simple.specs.Asked.{asked}

-- ---- initialisers

-- The first breach in the initialiser of a field of this type, whose declaration has this number.
abbrev pub initial_breach : Node → StaticType → Node → (id : ℕ) → Option Breach
initial_breach ds t e id = breach ds outside e Fresh no_names or asked (initialiser_keeps ds outside t e no_names) 21 id

-- What is made of an initialiser: nothing where none is written, else the code of its value.
abbrev pub IsInitial : (texts : List (List ℕ)) → held_node.Node → Declared → Node → Option held.Code → Type 0
IsInitial texts root d e None = e ≡ NoNode
IsInitial texts root d e (Some c) = (is_nothing e ≡ false) × (code_view texts d c ≡ initial (declarations_at texts root) e)

-- The code puts a value that fits a field of this type, in any body without a result.
abbrev pub PutsInitial : Tables → CoreType → held.Code → Type 0
PutsInitial p wanted c = (ts : List CoreType) (o : Owner) (x : List CoreType)
    → (u : CoreType) × Sub p u wanted × Fits (known p ts o NoType) false (code_of c) x (u ∷ x)

-- ---- `super`

-- The name of the class above.
abbrev pub above_name : (texts : List (List ℕ)) → Declared → Option ℕ → Option Name
above_name texts d None = None
above_name texts d (Some c) = Some ((naming texts d).class c)

-- Rule 10: the arguments of `super` fit the constructor of the class above.
abbrev pub super_fits : Node → (above : Option Name) → Node → Scope → Bool
super_fits ds None args ls = true
super_fits ds (Some c) args ls = arguments_fit ds outside args (params_of_class ds c) ls

-- The first breach in a call of `super`.
abbrev pub super_breach : Node → (above : Option Name) → Node → Scope → (id : ℕ) → Option Breach
super_breach ds above args ls id = breach ds outside args Fresh ls or asked (super_fits ds above args ls) 10 id

-- The construction of the class above, with these arguments.
abbrev pub super_code : Node → (above : Option Name) → Node → Scope → Code SourceStep
super_code ds None args ls = Nothing
super_code ds (Some c) args ls = Then (resolved ds NoOwner args Fresh ls).does (Do (Super c (length_of args)))

-- In a class that is below that above, the code of the call runs under these locals and more of them.
abbrev pub SuperRuns : Tables → (above : Option ℕ) → List CoreType → held.Code → Type 0
SuperRuns p None ts c = code_of c ≡ Nothing
SuperRuns p (Some e) ts c = (class : ℕ) → tables.is_below p class e ≡ true → Fits (known p ts (InClass class) NoType) false (code_of c) [] []
