-- Sizes of what nodes stand for, piece by piece.
use Rattle.std.proofs.Common.{◌≡◌, ◌≤◌, ℕ, ◌+◌, Bool, true, false, List, Option, Some, None, if◌then◌else◌, refl, arith}
use Rattle.std.specs.Prelude.{bytes_eq}
use Rattle.vg_syntax.specs.declared.kind.Kind.{Kind}
use Rattle.vg_syntax.specs.declared.kind.Kind.TheVariants as kind
use Rattle.vg_syntax.specs.Tree.{Node}
use Rattle.vg_syntax.specs.Tree as tree
use Rattle.vg_meaning.specs.Code as code
use Rattle.vg_source.specs.Names.{Name}
use Rattle.vg_source.specs.Types.{StaticType, IntType, BoolType, RawType, ClassType, ArrayType, FunctionType}
use Rattle.vg_source.specs.Operators.{Operator, And, Or, Xor, ShiftLeft, ShiftRight, Concat}
use Rattle.vg_source.specs.Values.{Truth, default}
use Rattle.vg_source.specs.Steps.{Step}
use Rattle.vg_source.specs.Steps as step
use Rattle.vg_source.specs.Declared.{Member, AField, AMethod, class_member, component_member, component_named, device_named}
use Rattle.vg_source.specs.Resolved.{Owner, InClass, InComponent, NoOwner, Typed, Scope, Head, NoHead, IsValue, IsComponent, IsDevice, OwnMethod, ItsMethod}
use Rattle.vg_source.specs.Resolved.{Resolved, doing, single, nothing, in_front, then_step, settled, settled_as, find_local, object_member}
use Rattle.vg_source.specs.Resolved.{its_member, top_head, top_name, own_member, near_member, outer_name, local_or_outer, resolved_name, length_name}
use Rattle.vg_source.specs.Resolved.{its_register, register_of, member_suffix, index_suffix, call_suffix, operator_of, result_of, part, type_part}
use Rattle.vg_source.specs.Resolved.{side_by_side, last_target, then_onto, goes_on, or_default, store_to, this_in, with_prefixes, apply_all}
use Rattle.vg_source_sizes.specs.Sizes.{weight}
use Rattle.vg_source_sizes.proofs.Pairs.{behind, joined, one_left, light}

-- a method that was named and is not called costs a step yet
abbrev pub owed : Head → ℕ
owed (OwnMethod at c x ps r) = 1
owed (ItsMethod c x ps r) = 1
owed _ = 0

-- what a node stands for is at most so large: as a value, and as the target of an assignment with its store
abbrev pub Within : Resolved → ℕ → Type 0
Within m n = (behind false m.does + owed m.head ≤ n) × (behind false m.aims + weight (store_to m.store) ≤ n)

pub wider : (m : Resolved) (k n : ℕ) → k ≤ n → Within m k → Within m n
wider m k n l (e, f) = (omega (arith, l, e), omega (arith, l, f))

pub does_within : (m : Resolved) (n : ℕ) → Within m n → behind false m.does ≤ n
does_within m n (e, f) = omega (arith, e)

pub done : (c : code.Code Step) (h : Head) (ls : Scope) (n : ℕ) → behind false c + owed h ≤ n → Within (doing c h ls) n
done c h ls n e = (e, omega arith)

pub front : (c : code.Code Step) (m : Resolved) (k n : ℕ) → behind false c ≤ k → Within m n → Within (in_front c m) (k + n)
front c m k n e (f, g) =
    let a = joined c m.does in
    let b = joined c m.aims in
    (omega (arith, e, f, a), omega (arith, e, g, b))

-- a step more
pub stepped : (c : code.Code Step) (s : Step) (h : Head) (ls : Scope) (n : ℕ) → owed h ≡ 0 → behind false c ≤ n
    → Within (doing (code.Then c (code.Do s)) h ls) (1 + n)
stepped c s h ls n o e =
    let j = joined c (code.Do s) in
    let l = light s in
    done (code.Then c (code.Do s)) h ls (1 + n) (omega (arith, o, e, j, l))

settles_as : (m : Resolved) (h : Head) (n : ℕ) → behind false m.does + owed h ≤ n → Within m n → Within (settled_as m h) n
settles_as m (OwnMethod at c x ps r) n e f =
    let j = joined m.does (code.Do (step.MethodOf at c x)) in
    done (code.Then m.does (code.Do (step.MethodOf at c x))) (IsValue (FunctionType ps r)) m.scope n (omega (arith, e, j))
settles_as m (ItsMethod c x ps r) n e f =
    let j = joined m.does (code.Do (step.ComponentMethod c x)) in
    done (code.Then m.does (code.Do (step.ComponentMethod c x))) (IsValue (FunctionType ps r)) m.scope n (omega (arith, e, j))
settles_as m _ n e f = f

pub settles : (m : Resolved) (n : ℕ) → Within m n → Within (settled m) n
settles m n f = settles_as m m.head n f.0 f

-- what is settled, as a value
pub settles_does : (m : Resolved) (n : ℕ) → Within m n → behind false (settled m).does ≤ n
settles_does m n f = does_within (settled m) n (settles m n f)

-- ---- names

object_member_within : (at : ℕ) (c x : Name) (m : Option Member) (ls : Scope) → Within (object_member at c x m ls) 1
object_member_within at c x (Some (AField d t)) ls = (omega arith, omega arith)
object_member_within at c x (Some (AMethod ps r)) ls = (omega arith, omega arith)
object_member_within at c x None ls = (omega arith, omega arith)

its_member_within : (c x : Name) (m : Option Member) (ls : Scope) → Within (its_member c x m ls) 1
its_member_within c x (Some (AField d t)) ls = (omega arith, omega arith)
its_member_within c x (Some (AMethod ps r)) ls = (omega arith, omega arith)
its_member_within c x None ls = (omega arith, omega arith)

top_owes : (ms : Option Node) (x : Name) → owed (top_head ms x) ≡ 0
top_owes (Some members) x = refl
top_owes None x = refl

top_name_within : (ds : Node) (x : Name) (ls : Scope) → Within (top_name ds x ls) 1
top_name_within ds x ls =
    let o = top_owes (component_named ds x) x in
    done code.Nothing (top_head (component_named ds x) x) ls 1 (omega (arith, o))

own_member_within : (ds : Node) (at : ℕ) (c x : Name) (m : Option Member) (ls : Scope) → Within (own_member ds at c x m ls) 1
own_member_within ds at c x (Some m) ls =
    front (code.Do step.This) (object_member at c x (Some m) ls) 0 1 (omega arith) (object_member_within at c x (Some m) ls)
own_member_within ds at c x None ls = top_name_within ds x ls

near_member_within : (ds : Node) (c x : Name) (m : Option Member) (ls : Scope) → Within (near_member ds c x m ls) 1
near_member_within ds c x (Some m) ls = its_member_within c x (Some m) ls
near_member_within ds c x None ls = top_name_within ds x ls

outer_name_within : (ds : Node) (o : Owner) (at : ℕ) (x : Name) (ls : Scope) → Within (outer_name ds o at x ls) 1
outer_name_within ds (InClass c) at x ls = own_member_within ds at c x (class_member ds c x) ls
outer_name_within ds (InComponent c) at x ls = near_member_within ds c x (component_member ds c x) ls
outer_name_within ds NoOwner at x ls = top_name_within ds x ls

pub name_within : (ds : Node) (o : Owner) (at : ℕ) (x : Name) (ls : Scope) → Within (resolved_name ds o at x ls) 1
name_within ds o at x ls = by (find_local ls.names x)
  where
    by : (l : Option Typed) → Within (local_or_outer ds o at x l ls) 1
    by (Some l) = (omega arith, omega arith)
    by None = outer_name_within ds o at x ls

pub this_within : (o : Owner) (ls : Scope) → Within (this_in o ls) 1
this_within (InClass c) ls = (omega arith, omega arith)
this_within _ ls = (omega arith, omega arith)

-- ---- suffixes

register_within : (a : Option ℕ) (ls : Scope) → Within (its_register a ls) 1
register_within (Some a) ls = (omega arith, omega arith)
register_within None ls = (omega arith, omega arith)

either : (b : Bool) (m n : Resolved) → Within m 1 → Within n 1 → Within (if b then m else n) 1
either true m n e f = e
either false m n e f = f

pub member_within : (ds : Node) (at : ℕ) (x : Name) (ls : Scope) (h : Head) → Within (member_suffix ds at x ls h) 1
member_within ds at x ls (IsValue (ClassType c)) = object_member_within at c x (class_member ds c x) ls
member_within ds at x ls (IsValue (ArrayType t)) =
    either (bytes_eq x length_name) (single (step.Length at t) (IsValue IntType) ls) (nothing NoHead ls)
    (omega arith, omega arith) (omega arith, omega arith)
member_within ds at x ls (IsComponent c) = its_member_within c x (component_member ds c x) ls
member_within ds at x ls (IsDevice d) = register_within (register_of (device_named ds d) x) ls
member_within ds at x ls _ = (omega arith, omega arith)

pub index_within : (at : ℕ) (m : Resolved) (h : Head) (n : ℕ) → behind false m.does ≤ n → Within (index_suffix at m h) (1 + n)
index_within at m (IsValue (ArrayType t)) n e =
    let j = joined m.does (code.Do (step.Item at t)) in
    (omega (arith, e, j), omega (arith, e))
index_within at m _ n e = done m.does NoHead m.scope (1 + n) (omega (arith, e))

pub call_within : (at k : ℕ) (m : Resolved) (h : Head) (n : ℕ) → behind false m.does ≤ n → Within (call_suffix at k m h) (1 + n)
call_within at k m (OwnMethod at' c x ps r) n e = stepped m.does (step.CallMethod at' c x k) (IsValue r) m.scope n refl e
call_within at k m (ItsMethod c x ps r) n e = stepped m.does (step.CallComponent c x k) (IsValue r) m.scope n refl e
call_within at k m (IsValue (FunctionType ps r)) n e = stepped m.does (step.CallValue at k ps r) (IsValue r) m.scope n refl e
call_within at k m _ n e = done m.does NoHead m.scope (1 + n) (omega (arith, e))

-- ---- operators

pub prefixes_within : (ks : List Kind) (m : Resolved) (n : ℕ) → behind false m.does + owed m.head ≤ n → Within (with_prefixes ks m) (1 + n)
prefixes_within ks m n e =
    let j = joined m.does (apply_all ks code.Nothing) in
    let l = one_left ks code.Nothing 1 (omega arith) (omega arith) in
    done (code.Then m.does (apply_all ks code.Nothing)) m.head m.scope (1 + n) (omega (arith, e, j, l))

side_owes : (h k : Head) → owed (side_by_side h k) ≡ 0
side_owes (IsValue (RawType j)) (IsValue (RawType k)) = refl
side_owes _ _ = refl

result_owes : (op : Operator) (h k : Head) → owed (result_of op h k) ≤ owed h
result_owes And h k = omega arith
result_owes Or h k = omega arith
result_owes Xor h k = omega arith
result_owes ShiftLeft h k = omega arith
result_owes ShiftRight h k = omega arith
result_owes Concat h k = let s = side_owes h k in omega (arith, s)
result_owes _ h k = omega arith

operated : (at : ℕ) (op : Operator) (h : Head) (m : Resolved) (k n : ℕ) → owed h ≤ k → behind false m.does ≤ n
    → Within (then_step m (step.Operate at op) (result_of op h m.head)) (1 + n + k)
operated at op h m k n o e =
    let j = joined m.does (code.Do (step.Operate at op)) in
    let r = result_owes op h m.head in
    done (code.Then m.does (code.Do (step.Operate at op))) (result_of op h m.head) m.scope (1 + n + k) (omega (arith, o, e, j, r))

pub part_within : (at : ℕ) (k : Kind) (h : Head) (m : Resolved) (i n : ℕ) → owed h ≤ i → behind false m.does ≤ n → Within (part at k h m) (1 + n + i)
part_within at kind.AndAnd h m i n o e =
    done (code.If m.does (code.Do (step.Put (Truth false)))) (IsValue BoolType) m.scope (1 + n + i) (omega (arith, e))
part_within at kind.OrOr h m i n o e =
    done (code.If (code.Do (step.Put (Truth true))) m.does) (IsValue BoolType) m.scope (1 + n + i) (omega (arith, e))
part_within at k h m i n o e = operated at (operator_of k) h m i n o e

pub type_part_within : (at : ℕ) (k : Kind) (t : StaticType) (ls : Scope) → Within (type_part at k t ls) 1
type_part_within at kind.Below (ClassType c) ls = (omega arith, omega arith)
type_part_within at kind.Below t ls = (omega arith, omega arith)
type_part_within at k t ls = (omega arith, omega arith)

-- ---- rows

pub default_within : (t : StaticType) (e : Node) (m : Resolved) (n : ℕ) → behind false m.does ≤ n → behind false (or_default t e m).does ≤ n
default_within t tree.Nothing m n e = let j = joined (code.Do (step.Put (default t))) m.does in omega (arith, e, j)
default_within t _ m n e = e

target : (rest : Node) (m k : Resolved) (n : ℕ) → Within m n → Within k n → Within (last_target rest m k) n
target tree.Nothing m k n e f = e
target _ m k n e f = f

-- what goes on from a head takes over what that costs yet
pub goes_within : (m : Resolved) (go : Head → Resolved) (c d : ℕ) → Within m c → ((h : Head) → Within (go h) (d + owed h)) → Within (goes_on m go) (c + d)
goes_within m go c d (e, f) g =
    wider (in_front m.does (go m.head)) (behind false m.does + (d + owed m.head)) (c + d) (omega (arith, e))
    (front m.does (go m.head) (behind false m.does) (d + owed m.head) (omega arith) (g m.head))

pub onto_within : (rest : Node) (m : Resolved) (go : Head → Resolved) (c d : ℕ) → Within m c → ((h : Head) → Within (go h) (d + owed h))
    → Within (then_onto rest m go) (c + d)
onto_within rest m go c d e g =
    target rest m (in_front m.does (go m.head)) (c + d) (wider m c (c + d) (omega arith) e) (goes_within m go c d e g)
