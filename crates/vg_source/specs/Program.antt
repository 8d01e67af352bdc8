-- From the tree of a text to its source program: classes, methods, constructors, initialisers, components and entries.
use Rattle.std.specs.Prelude.{ℕ, suc, List, [], ◌∷◌, ◌++◌, codes, length, drop, reverse, map, Option, Some, None, if◌then◌else◌, bytes_eq}
use Rattle.vg_syntax.specs.Tree.{Param, Node, Nothing, Then, ClassDecl, ComponentDecl, ProgramDecl, EntryDecl, FieldDecl, MethodDecl, ConstructorDecl, Text}
use Rattle.vg_meaning.specs.Code as code
use Rattle.vg_source.specs.Names.{Name}
use Rattle.vg_source.specs.Values.{Value, Null, FieldValue, default}
use Rattle.vg_source.specs.Steps.{Step, This, SetField, SetComponentField, Super, Target, Method, Construct, Start, Routine, Class, Handler, Source}
use Rattle.vg_source.specs.Literals.{number_of}
use Rattle.vg_source.specs.Nodes.{literals}
use Rattle.vg_source.specs.Declared.{written_type, chain_of, fields_in, fields_on, length_of}
use Rattle.vg_source.specs.Resolved.{Owner, InClass, InComponent, NoOwner, Scope, no_names, declare, Resolved, Fresh, in_front, settled, resolved}

-- ---- methods and constructors

-- Parameters in scope, behind those that are there.
abbrev pub with_params : Scope → List Param → Scope
with_params ls [] = ls
with_params ls (p ∷ ps) = with_params (declare p.name (written_type p.type) ls) ps

-- Parameters in scope.
abbrev pub scope_of : List Param → Scope
scope_of ps = with_params no_names ps

-- The defaults of all that was declared, by number.
abbrev pub defaults_of : Scope → List Value
defaults_of ls = reverse (map default ls.declared)

-- A routine of so many parameters, with the value of an end without return, and what its body stands for.
abbrev pub routine_of : Target → (params : ℕ) → (missing : Value) → Resolved → Routine
routine_of t params missing m =
    record { target = t; number = 0; params = params; others = drop params (defaults_of m.scope); missing = missing; body = m.does }

-- A method of this owner.
abbrev pub declared_method : Node → Owner → Name → Node → List Routine
declared_method ds o c (MethodDecl at n ps t body) =
    routine_of (Method c n) (length ps) (default (written_type t)) (resolved ds o body Fresh (scope_of ps)) ∷ []
declared_method ds o c _ = []

-- The methods among members, in order of the text.
abbrev pub methods_in : Node → Owner → Name → Node → List Routine
methods_in ds o c (Then m rest) = declared_method ds o c m ++ methods_in ds o c rest
methods_in ds o c _ = []

-- A constructor: its parameters, the arguments for the superclass, and its body. Where none is written there is one without any of these.
pub record Constructor : Type 0 where
  pub params : List Param
  pub arguments : Node
  pub body : Node

-- The constructor among members.
abbrev pub constructor_in : Node → Constructor
constructor_in (Then (ConstructorDecl at ps calls arguments body) rest) = record { params = ps; arguments = arguments; body = body }
constructor_in (Then _ rest) = constructor_in rest
constructor_in _ = record { params = []; arguments = Nothing; body = Nothing }

-- ---- initialisers

-- The value of an initialiser, which sees no members of its own.
abbrev pub initial : Node → Node → code.Code Step
initial ds e = (settled (resolved ds NoOwner e Fresh no_names)).does

-- What is done for an initialiser, where one is written.
abbrev pub unless_missing : Node → code.Code Step → code.Code Step
unless_missing Nothing c = code.Nothing
unless_missing _ c = c

-- The initialiser of a field of a class, which sets the field of the object that is made.
abbrev pub own_initialiser : Node → Name → Node → code.Code Step
own_initialiser ds c (FieldDecl at n t e) =
    unless_missing e (code.Then (code.Do This) (code.Then (initial ds e) (code.Do (SetField at.id c n))))
own_initialiser ds c _ = code.Nothing

-- The initialiser of a component field.
abbrev pub its_initialiser : Node → Name → Node → code.Code Step
its_initialiser ds c (FieldDecl at n t e) = unless_missing e (code.Then (initial ds e) (code.Do (SetComponentField c n)))
its_initialiser ds c _ = code.Nothing

-- The initialisers of members, in order of the text.
abbrev pub initialisers : (Node → code.Code Step) → Node → code.Code Step
initialisers one (Then m rest) = code.Then (one m) (initialisers one rest)
initialisers one _ = code.Nothing

-- ---- making

-- The construction of the superclass, where there is one, with the arguments of the constructor.
abbrev pub super_of : Node → Option Name → Constructor → code.Code Step
super_of ds None k = code.Nothing
super_of ds (Some above) k =
    code.Then (resolved ds NoOwner k.arguments Fresh (scope_of k.params)).does (code.Do (Super above (length_of k.arguments)))

-- The construction of a class: the superclass, the field initialisers, then the constructor's body.
abbrev pub construction : Node → Name → Option Name → Node → Constructor → Routine
construction ds c above members k =
    routine_of (Construct c) (length k.params) Null
    (in_front (super_of ds above k)
    (in_front (initialisers (own_initialiser ds c) members) (resolved ds (InClass c) k.body Fresh (scope_of k.params))))

-- The initialisation of a component: the field initialisers, then the constructor's body.
abbrev pub initialisation : Node → Name → Node → Constructor → Routine
initialisation ds c members k =
    routine_of (Start c) 0 Null (in_front (initialisers (its_initialiser ds c) members) (resolved ds (InComponent c) k.body Fresh no_names))

-- ---- the whole text

-- What runs for a declaration.
abbrev pub declared_routines : Node → Node → List Routine
declared_routines ds (ClassDecl at c above members) =
    construction ds c above members (constructor_in members) ∷ methods_in ds (InClass c) c members
declared_routines ds (ComponentDecl at c members) =
    initialisation ds c members (constructor_in members) ∷ methods_in ds (InComponent c) c members
declared_routines ds _ = []

-- What runs for the declarations, in order of the text.
abbrev pub routines_in : Node → Node → List Routine
routines_in ds (Then d rest) = declared_routines ds d ++ routines_in ds rest
routines_in ds _ = []

-- The methods have numbers from 0, in order of the text; what is no method takes none.
abbrev pub next_number : ℕ → Target → ℕ
next_number n (Method c m) = suc n
next_number n _ = n

-- The number of what runs at a target, where the next method has this one.
abbrev pub number_at : ℕ → Target → ℕ
number_at n (Method c m) = n
number_at n _ = 0

-- The routines with their numbers, from this one on.
abbrev pub with_numbers : ℕ → List Routine → List Routine
with_numbers n [] = []
with_numbers n (r ∷ rs) = record r { number = number_at n r.target } ∷ with_numbers (next_number n r.target) rs

-- A class with its chain and its fields.
abbrev pub declared_class : Node → Node → List Class
declared_class ds (ClassDecl at c above members) =
    record { name = c; above = chain_of ds c; fields = fields_on ds (chain_of ds c) } ∷ []
declared_class ds _ = []

-- The classes, in order of the text.
abbrev pub classes_in : Node → Node → List Class
classes_in ds (Then d rest) = declared_class ds d ++ classes_in ds rest
classes_in ds _ = []

-- The components, in order of the text.
abbrev pub declared_component : Node → List Name
declared_component (ComponentDecl at c members) = c ∷ []
declared_component _ = []

-- The names of all components.
abbrev pub components_in : Node → List Name
components_in (Then d rest) = declared_component d ++ components_in rest
components_in _ = []

-- The fields of one component.
abbrev pub declared_globals : Node → List FieldValue
declared_globals (ComponentDecl at c members) = fields_in c members
declared_globals _ = []

-- The fields of all components.
abbrev pub globals_in : Node → List FieldValue
globals_in (Then d rest) = declared_globals d ++ globals_in rest
globals_in _ = []

-- The entries of the program declaration.
abbrev pub entries_in : Node → Node
entries_in (Then (ProgramDecl at n entries) rest) = entries
entries_in (Then _ rest) = entries_in rest
entries_in _ = Nothing

-- The method of the entry `main`.
abbrev pub main_of : Node → Target
main_of (Then (EntryDecl at key c m) rest) = if bytes_eq key (codes "main") then Method c m else main_of rest
main_of (Then _ rest) = main_of rest
main_of _ = Method [] []

-- The numbered entries: the key of such an entry is a number.
abbrev pub declared_handler : Node → List Handler
declared_handler (EntryDecl at key c m) = if bytes_eq key (codes "main") then [] else record { vector = number_of key; target = Method c m } ∷ []
declared_handler _ = []

-- All numbered entries, in order of the text.
abbrev pub handlers_in : Node → List Handler
handlers_in (Then e rest) = declared_handler e ++ handlers_in rest
handlers_in _ = []

-- The program of these declarations.
abbrev pub program_of : Node → Source
program_of ds = record {
  classes = classes_in ds ds;
  routines = with_numbers 0 (routines_in ds ds);
  components = components_in ds;
  globals = globals_in ds;
  literals = literals ds;
  main = main_of (entries_in ds);
  handlers = handlers_in (entries_in ds);
}

-- The declarations of a text.
abbrev pub declarations_of : Node → Node
declarations_of (Text at ds) = ds
declarations_of _ = Nothing

-- The program of a text.
abbrev pub source_of : Node → Source
source_of text = program_of (declarations_of text)
