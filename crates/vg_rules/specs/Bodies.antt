-- The rules on statements and expressions. The parts of a node come first: a rule is asked at a node only where its parts keep the
-- rules, so that each part has its type.
use Rattle.std.specs.Prelude.{ℕ, ◌&&◌, ◌||◌, not, nat_le, Bool, true, false, List, length, Option, None, is_some, if◌then◌else◌}
use Rattle.vg_syntax.specs.Tree.{Spot, Node}
use Rattle.vg_syntax.specs.Tree as tree
use Rattle.vg_syntax.specs.Lexemes.{is_hexadecimal}
use Rattle.vg_source.specs.Names.{Name}
use Rattle.vg_source.specs.Types.{StaticType, IntType, BoolType, ArrayType, FunctionType, NoType, MoreTypes}
use Rattle.vg_source.specs.Literals.{number_of}
use Rattle.vg_syntax.specs.Classes.{class_named}
use Rattle.vg_source.specs.Declared.{Member, written_type, component_named, device_named, class_member, component_member}
use Rattle.vg_source.specs.Resolved.{Owner, InClass, InComponent, NoOwner, Scope, Head, NoHead, IsValue, OwnMethod, ItsMethod, Context, Fresh, Onto}
use Rattle.vg_source.specs.Resolved.{head_of, settled, find_local, resolved}
use Rattle.vg_rules.specs.Breach.{Breach, asks, ◌or◌}
use Rattle.vg_rules.specs.Fits.{fits}
use Rattle.vg_rules.specs.Written.{type_keeps}
use Rattle.vg_rules.specs.Operands.{operands_keep, operand_keeps, type_part_keeps}
use Rattle.vg_rules.specs.Inherited.{params_of_class}

-- Where a statement or expression stands: whose members it sees, the type of the result (NoType where there is none), and whether a
-- loop is around it.
pub record Body : Type 0 where
  pub owner : Owner
  pub result : StaticType
  pub in_loop : Bool

-- The body of a loop.
abbrev pub looped : Body → Body
looped k = record k { in_loop = true }

-- What a whole expression leaves.
abbrev pub head : Node → Body → Node → Scope → Head
head ds k e ls = (settled (resolved ds k.owner e Fresh ls)).head

-- ---- what is asked of what an expression leaves

-- It is a value that fits this type.
abbrev pub head_fits : Node → Head → StaticType → Bool
head_fits ds (IsValue t) u = fits ds t u
head_fits ds _ u = false

-- It is a truth value.
abbrev pub is_bool : Head → Bool
is_bool (IsValue BoolType) = true
is_bool _ = false

-- It is an int.
abbrev pub is_int : Head → Bool
is_int (IsValue IntType) = true
is_int _ = false

-- Something is there.
abbrev pub is_there : Head → Bool
is_there NoHead = false
is_there _ = true

-- Arguments fit parameters in number and type.
abbrev pub arguments_fit : Node → Body → Node → (params : StaticType) → Scope → Bool
arguments_fit ds k (tree.Then a rest) (MoreTypes p ps) ls = head_fits ds (head ds k a ls) p && arguments_fit ds k rest ps ls
arguments_fit ds k tree.Nothing NoType ls = true
arguments_fit ds k _ _ ls = false

-- ---- the rules, each as what it asks

-- Rule 13: a decimal number is at most 2147483648, and a hexadecimal one has at most 8 digits behind its 0x.
abbrev pub number_keeps : (digits : List ℕ) → Bool
number_keeps digits = if is_hexadecimal digits then nat_le (length digits) 10 else nat_le (number_of digits) 2147483648

-- A member of the class around or of one above it, or of the component around.
abbrev pub member_around : Node → Owner → Name → Option Member
member_around ds (InClass c) x = class_member ds c x
member_around ds (InComponent c) x = component_member ds c x
member_around ds NoOwner x = None

-- Rule 14: a name is a parameter or local in scope, else a member that is seen.
abbrev pub name_keeps : Node → Owner → Name → Scope → Bool
name_keeps ds o x ls = is_some (find_local ls.names x) || is_some (member_around ds o x)

-- Rule 14 for a name in front of a Member suffix: it may be a component or a device, too.
abbrev pub front_keeps : Node → Owner → Name → Scope → Bool
front_keeps ds o x ls = name_keeps ds o x ls || is_some (component_named ds x) || is_some (device_named ds x)

-- Rule 15: a class is around.
abbrev pub has_this : Owner → Bool
has_this (InClass c) = true
has_this _ = false

-- Rule 16: a Member suffix names what is there.
abbrev pub member_keeps : Node → Body → Node → Context → Scope → Bool
member_keeps ds k suffix b ls = is_there (resolved ds k.owner suffix b ls).head

-- Rule 17: what is called is a method or a delegate, and the arguments fit.
abbrev pub call_keeps : Node → Body → Node → Head → Scope → Bool
call_keeps ds k args (OwnMethod at c m ps r) ls = arguments_fit ds k args ps ls
call_keeps ds k args (ItsMethod c m ps r) ls = arguments_fit ds k args ps ls
call_keeps ds k args (IsValue (FunctionType ps r)) ls = arguments_fit ds k args ps ls
call_keeps ds k args _ ls = false

-- Rule 20: what is indexed is an array, and the index an int.
abbrev pub index_keeps : Head → Head → Bool
index_keeps (IsValue (ArrayType t)) i = is_int i
index_keeps _ i = false

-- What is assigned fits the type of the target.
abbrev pub fits_target : Node → (value target : Head) → Bool
fits_target ds value (IsValue t) = head_fits ds value t
fits_target ds value _ = false

-- Rule 21: the target is a place, and the right side fits it.
abbrev pub assignment_keeps : Node → Body → (target value : Node) → Scope → Bool
assignment_keeps ds k target e ls =
    is_some (resolved ds k.owner target Fresh ls).store && fits_target ds (head ds k e ls) (head ds k target ls)

-- Rule 21 for an initialiser, where one is written: it fits its field or local.
abbrev pub initialiser_keeps : Node → Body → StaticType → Node → Scope → Bool
initialiser_keeps ds k t tree.Nothing ls = true
initialiser_keeps ds k t e ls = head_fits ds (head ds k e ls) t

-- Rule 22: the conditions of the arms of an `if` are truth values.
abbrev pub conditions_keep : Node → Body → Node → Scope → Bool
conditions_keep ds k (tree.Arm c block rest) ls =
    is_bool (head ds k c ls) && conditions_keep ds k rest (resolved ds k.owner block Fresh ls).scope
conditions_keep ds k _ ls = true

-- Rule 23: a value is returned exactly where there is a result, and it fits.
abbrev pub return_keeps : Node → Body → (result : StaticType) → Node → Scope → Bool
return_keeps ds k NoType tree.Nothing ls = true
return_keeps ds k NoType e ls = false
return_keeps ds k t tree.Nothing ls = false
return_keeps ds k t e ls = head_fits ds (head ds k e ls) t

-- Rule 25: what is made is of a class, and the arguments fit its constructor.
abbrev pub making_keeps : Node → Body → Name → Node → Scope → Bool
making_keeps ds k c args ls = is_some (class_named ds c) && arguments_fit ds k args (params_of_class ds c) ls

-- ---- the first breach

-- The breach of a primary: of a name in front of a Member suffix rule 14 asks less.
abbrev pub primary_breach : Node → Owner → Scope → (primary suffixes : Node) → Option Breach → Option Breach
primary_breach ds o ls (tree.Name at x) (tree.Then (tree.Member at' y) rest) b = asks (front_keeps ds o x ls) 14 at
primary_breach ds o ls _ _ b = b

-- The first breach in a node or a row of nodes, with the declarations of the text, where the body stands, the context and the scope. The
-- scope goes from node to node as the meaning hands it on.
abbrev pub breach : Node → Body → Node → Context → Scope → Option Breach
breach ds k (tree.Then a rest) (Onto h) ls =
    breach ds k a (Onto h) ls or breach ds k rest (Onto (resolved ds k.owner a (Onto h) ls).head) ls
breach ds k (tree.Then a rest) b ls = breach ds k a Fresh ls or breach ds k rest Fresh (settled (resolved ds k.owner a Fresh ls)).scope
breach ds k (tree.Arm c block rest) b ls =
    breach ds k c Fresh ls or breach ds k block Fresh ls or breach ds k rest b (resolved ds k.owner block Fresh ls).scope
-- statements
breach ds k (tree.Block at body) b ls = breach ds k body Fresh ls
breach ds k (tree.Local at x t e) b ls =
    breach ds k e Fresh ls or asks (not (is_some (find_local ls.names x))) 11 at
    or asks (type_keeps ds t) 8 at or asks (initialiser_keeps ds k (written_type t) e ls) 21 at
breach ds k (tree.If at arms otherwise) b ls =
    breach ds k arms Fresh ls or breach ds k otherwise Fresh (resolved ds k.owner arms Fresh ls).scope
    or asks (conditions_keep ds k arms ls) 22 at
breach ds k (tree.While at c body) b ls = breach ds k c Fresh ls or breach ds (looped k) body Fresh ls or asks (is_bool (head ds k c ls)) 22 at
breach ds k (tree.For at first c next body) b ls =
    breach ds k first Fresh ls or breach ds k c Fresh ls or breach ds k next Fresh ls
    or breach ds (looped k) body Fresh ls or asks (is_bool (head ds k c ls)) 22 at
breach ds k (tree.Return at e) b ls = breach ds k e Fresh ls or asks (return_keeps ds k k.result e ls) 23 at
breach ds k (tree.Break at) b ls = asks k.in_loop 24 at
breach ds k (tree.Continue at) b ls = asks k.in_loop 24 at
breach ds k (tree.Assign at target e) b ls =
    breach ds k target Fresh ls or breach ds k e Fresh ls or asks (assignment_keeps ds k target e ls) 21 at
breach ds k (tree.Eval at e) b ls = breach ds k e Fresh ls
-- expressions
breach ds k (tree.Number at digits) b ls = asks (number_keeps digits) 13 at
breach ds k (tree.This at) b ls = asks (has_this k.owner) 15 at
breach ds k (tree.Name at x) b ls = asks (name_keeps ds k.owner x ls) 14 at
breach ds k (tree.NewObject at c args) b ls = breach ds k args Fresh ls or asks (making_keeps ds k c args ls) 25 at
breach ds k (tree.NewArray at t e) b ls =
    breach ds k e Fresh ls or asks (type_keeps ds (tree.ArrayType t)) 8 at or asks (is_int (head ds k e ls)) 25 at
breach ds k (tree.Unary at operators e) b ls = breach ds k e Fresh ls or asks (operand_keeps operators (head ds k e ls)) 18 at
breach ds k (tree.Chain at first parts) b ls = breach ds k first Fresh ls or breach ds k parts (Onto (head ds k first ls)) ls
breach ds k (tree.Part at op e) b ls = breach ds k e Fresh ls or asks (operands_keep ds op (head_of b) (head ds k e ls)) 18 at
breach ds k (tree.TypePart at op t) b ls =
    asks (type_keeps ds t) 8 at or asks (type_part_keeps ds op (head_of b) (written_type t)) 19 at
breach ds k (tree.Postfix at e suffixes) b ls =
    primary_breach ds k.owner ls e suffixes (breach ds k e Fresh ls)
    or breach ds k suffixes (Onto (resolved ds k.owner e Fresh ls).head) ls
breach ds k (tree.Member at x) b ls = asks (member_keeps ds k (tree.Member at x) b ls) 16 at
breach ds k (tree.Index at e) b ls = breach ds k e Fresh ls or asks (index_keeps (head_of b) (head ds k e ls)) 20 at
breach ds k (tree.Call at args) b ls = breach ds k args Fresh ls or asks (call_keeps ds k args (head_of b) ls) 17 at
-- chars, strings, `true`, `false` and `null` break no rule
breach ds k _ b ls = None
