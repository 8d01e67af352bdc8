-- What the nodes of a body stand for: structured code over steps, with each name told what it stands for. Types go upward.
use Rattle.std.specs.Prelude.{ℕ, ◌+◌, true, false, List, [], ◌∷◌, codes, length, Option, Some, None, if◌then◌else◌, bytes_eq}
use Rattle.vg_syntax.specs.declared.kind.Kind.{Kind}
use Rattle.vg_syntax.specs.declared.kind.Kind.TheVariants as kind
use Rattle.vg_syntax.specs.Tree.{Node}
use Rattle.vg_syntax.specs.Tree as tree
use Rattle.vg_meaning.specs.Code as code
use Rattle.vg_source.specs.Names.{Name}
use Rattle.vg_source.specs.Types.{StaticType, IntType, BoolType, CharType, RawType, NullType, ClassType, ArrayType, FunctionType, NoType}
use Rattle.vg_source.specs.Operators.{Operator, Plus, Minus, Times, Divide, Remainder, Less, AtMost, Greater, AtLeast, Equal, Unequal, And, Or, Xor}
use Rattle.vg_source.specs.Operators.{ShiftLeft, ShiftRight, Concat, Prefix, Negative, Not, Complement}
use Rattle.vg_source.specs.Values.{Truth, Char, Null, default}
use Rattle.vg_source.specs.Steps.{Step}
use Rattle.vg_source.specs.Steps as step
use Rattle.vg_source.specs.Literals.{number_value, number_type, char_of}
use Rattle.vg_source.specs.Nodes.{literal_nodes, place_in}
use Rattle.vg_source.specs.Declared.{written_type, Member, AField, AMethod, class_member, component_member, component_named, device_named}
use Rattle.vg_source.specs.Declared.{register_in, length_of}

-- Where a body stands: in a class, in a component, or where no member is seen, as in a field initialiser and in `super` arguments.
pub data Owner : Type 0 where
  InClass : (c : Name) → Owner
  InComponent : (c : Name) → Owner
  NoOwner : Owner

-- A parameter or local in scope, with its number in the body.
pub record Typed : Type 0 where
  pub name : Name
  pub type : StaticType
  pub number : ℕ

-- What is in scope, the newest first, and the types of all parameters and locals that were declared so far, the newest first: a
-- new one has their number as its own.
pub record Scope : Type 0 where
  pub names : List Typed
  pub declared : List StaticType

-- Before the parameters.
abbrev pub no_names : Scope
no_names = record { names = []; declared = [] }

-- One more parameter or local.
abbrev pub declare : Name → StaticType → Scope → Scope
declare x t ls = record { names = record { name = x; type = t; number = length ls.declared } ∷ ls.names; declared = t ∷ ls.declared }

-- Out of a block its locals are no more in scope, and their numbers are not given again.
abbrev pub out_of_block : (around inside : Scope) → Scope
out_of_block around inside = record { names = around.names; declared = inside.declared }

-- What a node leaves for the suffix or part behind it.
pub data Head : Type 0 where
  NoHead : Head
  IsValue : (t : StaticType) → Head  -- a value waits
  IsComponent : (c : Name) → Head
  IsDevice : (d : Name) → Head
  OwnMethod : (at : ℕ) (c m : Name) (params result : StaticType) → Head  -- of the object that waits, whose static class is c
  ItsMethod : (c m : Name) (params result : StaticType) → Head  -- of a component

-- What a node stands for.
pub record Resolved : Type 0 where
  pub does : code.Code Step  -- what it does
  pub aims : code.Code Step  -- as a target of an assignment: what it does before the right side
  pub store : Option Step  -- as a target of an assignment: the store behind the right side; what is no place has none
  pub head : Head
  pub scope : Scope  -- what is in scope behind it

-- What a node is resolved with: nothing, the head that a suffix or part goes on from, or, for the arms of an `if`, what comes where
-- no condition holds.
pub data Context : Type 0 where
  Fresh : Context
  Onto : (h : Head) → Context
  Otherwise : (last : Scope → Resolved) → Context

-- ---- building

-- Code that leaves this head, and is no place.
abbrev pub doing : code.Code Step → Head → Scope → Resolved
doing c h ls = record { does = c; aims = code.Nothing; store = None; head = h; scope = ls }

-- One step.
abbrev pub single : Step → Head → Scope → Resolved
single s h ls = doing (code.Do s) h ls

-- No step.
abbrev pub nothing : Head → Scope → Resolved
nothing h ls = doing code.Nothing h ls

-- Code in front.
abbrev pub in_front : code.Code Step → Resolved → Resolved
in_front c m = record m { does = code.Then c m.does; aims = code.Then c m.aims }

-- A step more, which leaves this head; what it makes is no place.
abbrev pub then_step : Resolved → Step → Head → Resolved
then_step m s h = doing (code.Then m.does (code.Do s)) h m.scope

-- A place: what is done before the right side of an assignment, and the store behind it.
abbrev pub place_at : code.Code Step → Step → Resolved → Resolved
place_at c s m = record m { aims = c; store = Some s }

-- A method that is not called is a value.
abbrev pub settled_as : Resolved → Head → Resolved
settled_as m (OwnMethod at c x ps r) = then_step m (step.MethodOf at c x) (IsValue (FunctionType ps r))
settled_as m (ItsMethod c x ps r) = then_step m (step.ComponentMethod c x) (IsValue (FunctionType ps r))
settled_as m h = m

-- What a node stands for where no suffix follows.
abbrev pub settled : Resolved → Resolved
settled m = settled_as m m.head

-- ---- names

-- A parameter or local in scope.
abbrev pub find_local : List Typed → Name → Option Typed
find_local [] x = None
find_local (l ∷ ls) x = if bytes_eq l.name x then Some l else find_local ls x

-- A member of the object that waits, whose static class is c.
abbrev pub object_member : ℕ → (c x : Name) → Option Member → Scope → Resolved
object_member at c x (Some (AField d t)) ls = place_at code.Nothing (step.SetField at d x) (single (step.Field at d x) (IsValue t) ls)
object_member at c x (Some (AMethod ps r)) ls = nothing (OwnMethod at c x ps r) ls
object_member at c x None ls = nothing NoHead ls

-- A member of a component.
abbrev pub its_member : (c x : Name) → Option Member → Scope → Resolved
its_member c x (Some (AField d t)) ls =
    place_at code.Nothing (step.SetComponentField d x) (single (step.ComponentField d x) (IsValue t) ls)
its_member c x (Some (AMethod ps r)) ls = nothing (ItsMethod c x ps r) ls
its_member c x None ls = nothing NoHead ls

-- A component, else a device.
abbrev pub top_head : Option Node → Name → Head
top_head (Some members) x = IsComponent x
top_head None x = IsDevice x

-- What a name of a component or device leaves.
abbrev pub top_name : Node → Name → Scope → Resolved
top_name ds x ls = nothing (top_head (component_named ds x) x) ls

-- A member of the class around is that of `this`; where there is none, the name is one of a component or device.
abbrev pub own_member : Node → ℕ → (c x : Name) → Option Member → Scope → Resolved
own_member ds at c x (Some m) ls = in_front (code.Do step.This) (object_member at c x (Some m) ls)
own_member ds at c x None ls = top_name ds x ls

-- A member of the component around; where there is none, the name is one of a component or device.
abbrev pub near_member : Node → (c x : Name) → Option Member → Scope → Resolved
near_member ds c x (Some m) ls = its_member c x (Some m) ls
near_member ds c x None ls = top_name ds x ls

-- A name that is no parameter or local.
abbrev pub outer_name : Node → Owner → ℕ → Name → Scope → Resolved
outer_name ds (InClass c) at x ls = own_member ds at c x (class_member ds c x) ls
outer_name ds (InComponent c) at x ls = near_member ds c x (component_member ds c x) ls
outer_name ds NoOwner at x ls = top_name ds x ls

-- A parameter or local, or a name that is none.
abbrev pub local_or_outer : Node → Owner → ℕ → Name → Option Typed → Scope → Resolved
local_or_outer ds o at x (Some l) ls =
    place_at code.Nothing (step.SetLocal l.number) (single (step.Local l.number) (IsValue l.type) ls)
local_or_outer ds o at x None ls = outer_name ds o at x ls

-- What a name stands for: a parameter or local in scope comes first.
abbrev pub resolved_name : Node → Owner → ℕ → Name → Scope → Resolved
resolved_name ds o at x ls = local_or_outer ds o at x (find_local ls.names x) ls

-- ---- suffixes

-- The name of an array's length.
abbrev pub length_name : Name
length_name = codes "length"

-- A register: its address, where the device has it.
abbrev pub its_register : Option ℕ → Scope → Resolved
its_register (Some a) ls = place_at code.Nothing (step.SetRegister a) (single (step.Register a) (IsValue (RawType 8)) ls)
its_register None ls = nothing NoHead ls

-- The registers of a device, where there is one.
abbrev pub register_of : Option Node → Name → Option ℕ
register_of (Some registers) x = register_in registers x
register_of None x = None

-- A Member suffix.
abbrev pub member_suffix : Node → ℕ → Name → Scope → Head → Resolved
member_suffix ds at x ls (IsValue (ClassType c)) = object_member at c x (class_member ds c x) ls
member_suffix ds at x ls (IsValue (ArrayType t)) =
    if bytes_eq x length_name then single (step.Length at t) (IsValue IntType) ls else nothing NoHead ls
member_suffix ds at x ls (IsComponent c) = its_member c x (component_member ds c x) ls
member_suffix ds at x ls (IsDevice d) = its_register (register_of (device_named ds d) x) ls
member_suffix ds at x ls _ = nothing NoHead ls

-- An Index suffix, from what its expression stands for: the index waits before the right side of an assignment.
abbrev pub index_suffix : ℕ → Resolved → Head → Resolved
index_suffix at m (IsValue (ArrayType t)) = place_at m.does (step.SetItem at t) (then_step m (step.Item at t) (IsValue t))
index_suffix at m _ = doing m.does NoHead m.scope

-- A Call suffix with so many arguments.
abbrev pub call_suffix : ℕ → (count : ℕ) → Resolved → Head → Resolved
call_suffix at n args (OwnMethod at' c m ps r) = then_step args (step.CallMethod at c m n) (IsValue r)
call_suffix at n args (ItsMethod c m ps r) = then_step args (step.CallComponent c m n) (IsValue r)
call_suffix at n args (IsValue (FunctionType ps r)) = then_step args (step.CallValue at n ps r) (IsValue r)
call_suffix at n args _ = doing args.does NoHead args.scope

-- The head that a suffix or part goes on from.
abbrev pub head_of : Context → Head
head_of (Onto h) = h
head_of _ = NoHead

-- ---- operators

-- The operator of a part, but for `&&` and `||`.
abbrev pub operator_of : Kind → Operator
operator_of kind.EqualEqual = Equal
operator_of kind.NotEqual = Unequal
operator_of kind.Less = Less
operator_of kind.LessEqual = AtMost
operator_of kind.Greater = Greater
operator_of kind.GreaterEqual = AtLeast
operator_of kind.Or = Or
operator_of kind.Xor = Xor
operator_of kind.And = And
operator_of kind.ShiftLeft = ShiftLeft
operator_of kind.ShiftRight = ShiftRight
operator_of kind.Concat = Concat
operator_of kind.Minus = Minus
operator_of kind.Star = Times
operator_of kind.Slash = Divide
operator_of kind.Percent = Remainder
operator_of _ = Plus

-- The operator before an operand.
abbrev pub prefix_of : Kind → Prefix
prefix_of kind.Not = Not
prefix_of kind.Complement = Complement
prefix_of _ = Negative

-- All operators before an operand, and then more: the one that is nearest to the operand comes first.
abbrev pub apply_all : List Kind → (more : code.Code Step) → code.Code Step
apply_all [] more = more
apply_all (k ∷ ks) more = apply_all ks (code.Then (code.Do (step.Apply (prefix_of k))) more)

-- An operand with the operators before it: their value has the operand's type.
abbrev pub with_prefixes : List Kind → Resolved → Resolved
with_prefixes ks m = doing (code.Then m.does (apply_all ks code.Nothing)) m.head m.scope

-- The type of two bit strings side by side.
abbrev pub side_by_side : Head → Head → Head
side_by_side (IsValue (RawType j)) (IsValue (RawType k)) = IsValue (RawType (j + k))
side_by_side _ _ = NoHead

-- The type of an operator's value, from those of its operands.
abbrev pub result_of : Operator → Head → Head → Head
result_of Plus h k = IsValue IntType
result_of Minus h k = IsValue IntType
result_of Times h k = IsValue IntType
result_of Divide h k = IsValue IntType
result_of Remainder h k = IsValue IntType
result_of And h k = h
result_of Or h k = h
result_of Xor h k = h
result_of ShiftLeft h k = h
result_of ShiftRight h k = h
result_of Concat h k = side_by_side h k
result_of _ h k = IsValue BoolType

-- A part with an operand: `&&` and `||` do their right side only where it is needed.
abbrev pub part : ℕ → Kind → Head → Resolved → Resolved
part at kind.AndAnd h m = doing (code.If m.does (code.Do (step.Put (Truth false)))) (IsValue BoolType) m.scope
part at kind.OrOr h m = doing (code.If (code.Do (step.Put (Truth true))) m.does) (IsValue BoolType) m.scope
part at k h m = then_step m (step.Operate at (operator_of k)) (result_of (operator_of k) h m.head)

-- A part with a type: a class test or a cast.
abbrev pub type_part : ℕ → Kind → StaticType → Scope → Resolved
type_part at kind.Below (ClassType c) ls = single (step.IsBelow c) (IsValue BoolType) ls
type_part at kind.Below t ls = nothing NoHead ls
type_part at k t ls = single (step.CastTo at t) (IsValue t) ls

-- ---- bodies

-- The target of a row of suffixes is its last one.
abbrev pub last_target : Node → Resolved → Resolved → Resolved
last_target tree.Nothing a b = a
last_target _ a b = b

-- A statement or argument, and then the others of its row.
abbrev pub then_fresh : Resolved → (Scope → Resolved) → Resolved
then_fresh m rest = in_front m.does (rest m.scope)

-- A suffix or part, and then the others of its row.
abbrev pub then_onto : Node → Resolved → (Head → Resolved) → Resolved
then_onto rest m go = last_target rest m (in_front m.does (go m.head))

-- What goes on from the head of a first operand or of a primary.
abbrev pub goes_on : Resolved → (Head → Resolved) → Resolved
goes_on m go = in_front m.does (go m.head)

-- A value that is not written is the default.
abbrev pub or_default : StaticType → Node → Resolved → Resolved
or_default t tree.Nothing m = in_front (code.Do (step.Put (default t))) m
or_default t _ m = m

-- Behind the last arm comes what is done where no condition holds.
abbrev pub no_arm : Context → Scope → Resolved
no_arm (Otherwise last) ls = last ls
no_arm _ ls = nothing NoHead ls

-- A condition, the block where it holds, and what is done where it does not.
abbrev pub two_ways : Resolved → Resolved → Resolved → Resolved
two_ways c block others = doing (code.Then c.does (code.If block.does others.does)) NoHead others.scope

-- An arm: its condition, its block, and the other arms.
abbrev pub one_arm : Resolved → Resolved → (Scope → Resolved) → Resolved
one_arm c block others = two_ways c block (others block.scope)

-- A loop: its condition, its body, and what is done behind the body.
abbrev pub one_loop : Resolved → Resolved → code.Code Step → Resolved
one_loop c body next = doing (code.Loop c.does body.does next) NoHead body.scope

-- A block: its locals are in scope to its end.
abbrev pub one_block : Scope → Resolved → Resolved
one_block ls m = doing m.does NoHead (out_of_block ls m.scope)

-- The store of a place; what is no place has none, and its value is forgotten.
abbrev pub store_to : Option Step → Step
store_to (Some s) = s
store_to None = step.Forget

-- An assignment: the parts of the target, the right side, the store.
abbrev pub assigned : Resolved → Resolved → Scope → Resolved
assigned target value ls = doing (code.Then target.aims (code.Then value.does (code.Do (store_to target.store)))) NoHead ls

-- `this` is an object of the class around.
abbrev pub this_in : Owner → Scope → Resolved
this_in (InClass c) ls = single step.This (IsValue (ClassType c)) ls
this_in _ ls = nothing NoHead ls

-- A local, whose value goes to the place of the next number.
abbrev pub one_local : Name → StaticType → Resolved → Scope → Resolved
one_local x t value ls = doing (code.Then value.does (code.Do (step.SetLocal (length ls.declared)))) NoHead (declare x t ls)

-- What a node or a row of nodes stands for, with the declarations of the text, the owner of the body, the context, and the scope.
abbrev pub resolved : Node → Owner → Node → Context → Scope → Resolved
resolved ds o tree.Nothing b ls = no_arm b ls
resolved ds o (tree.Then a rest) (Onto h) ls = then_onto rest (resolved ds o a (Onto h) ls) (λ k. resolved ds o rest (Onto k) ls)
resolved ds o (tree.Then a rest) _ ls = then_fresh (settled (resolved ds o a Fresh ls)) (resolved ds o rest Fresh)
resolved ds o (tree.Arm c block rest) b ls =
    one_arm (settled (resolved ds o c Fresh ls)) (resolved ds o block Fresh ls) (resolved ds o rest b)
-- statements
resolved ds o (tree.Block at body) b ls = one_block ls (resolved ds o body Fresh ls)
resolved ds o (tree.Local at x t e) b ls =
    one_local x (written_type t) (or_default (written_type t) e (settled (resolved ds o e Fresh ls))) ls
resolved ds o (tree.If at arms otherwise) b ls = resolved ds o arms (Otherwise (resolved ds o otherwise Fresh)) ls
resolved ds o (tree.While at c body) b ls = one_loop (settled (resolved ds o c Fresh ls)) (resolved ds o body Fresh ls) code.Nothing
resolved ds o (tree.For at first c next body) b ls =
    in_front (resolved ds o first Fresh ls).does
    (one_loop (settled (resolved ds o c Fresh ls)) (resolved ds o body Fresh ls) (resolved ds o next Fresh ls).does)
resolved ds o (tree.Return at e) b ls =
    doing (code.Then (or_default NoType e (settled (resolved ds o e Fresh ls))).does code.Return) NoHead ls
resolved ds o (tree.Break at) b ls = doing code.Break NoHead ls
resolved ds o (tree.Continue at) b ls = doing code.Continue NoHead ls
resolved ds o (tree.Assign at target e) b ls = assigned (resolved ds o target Fresh ls) (settled (resolved ds o e Fresh ls)) ls
resolved ds o (tree.Eval at e) b ls = then_step (settled (resolved ds o e Fresh ls)) step.Forget NoHead
-- expressions
resolved ds o (tree.Number at digits) b ls = single (step.Put (number_value digits)) (IsValue (number_type digits)) ls
resolved ds o (tree.CharLit at spelled) b ls = single (step.Put (Char (char_of spelled))) (IsValue CharType) ls
resolved ds o (tree.StringLit at spelled) b ls =
    single (step.Literal (place_in (literal_nodes ds) at.id)) (IsValue (ArrayType CharType)) ls
resolved ds o (tree.True at) b ls = single (step.Put (Truth true)) (IsValue BoolType) ls
resolved ds o (tree.False at) b ls = single (step.Put (Truth false)) (IsValue BoolType) ls
resolved ds o (tree.Null at) b ls = single (step.Put Null) (IsValue NullType) ls
resolved ds o (tree.This at) b ls = this_in o ls
resolved ds o (tree.Name at x) b ls = resolved_name ds o at.id x ls
resolved ds o (tree.NewObject at c args) b ls =
    then_step (resolved ds o args Fresh ls) (step.NewObject at.id c (length_of args)) (IsValue (ClassType c))
resolved ds o (tree.NewArray at t e) b ls =
    then_step (settled (resolved ds o e Fresh ls)) (step.NewArray at.id (written_type t)) (IsValue (ArrayType (written_type t)))
resolved ds o (tree.Unary at operators e) b ls = with_prefixes operators (settled (resolved ds o e Fresh ls))
resolved ds o (tree.Chain at first parts) b ls = goes_on (settled (resolved ds o first Fresh ls)) (λ h. resolved ds o parts (Onto h) ls)
resolved ds o (tree.Part at k e) b ls = part at.id k (head_of b) (settled (resolved ds o e Fresh ls))
resolved ds o (tree.TypePart at k t) b ls = type_part at.id k (written_type t) ls
resolved ds o (tree.Postfix at primary suffixes) b ls =
    goes_on (resolved ds o primary Fresh ls) (λ h. settled (resolved ds o suffixes (Onto h) ls))
resolved ds o (tree.Member at x) b ls = member_suffix ds at.id x ls (head_of b)
resolved ds o (tree.Index at e) b ls = index_suffix at.id (settled (resolved ds o e Fresh ls)) (head_of b)
resolved ds o (tree.Call at args) b ls = call_suffix at.id (length_of args) (resolved ds o args Fresh ls) (head_of b)
-- declarations have no code of their own
resolved ds o _ b ls = nothing NoHead ls
