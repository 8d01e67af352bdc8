-- What nodes cost beside their sizes, piece by piece.
use Rattle.std.proofs.Common.{◌≡◌, ◌≤◌, ℕ, ◌+◌, Bool, true, false, List, [], ◌∷◌, Option, Some, None, if◌then◌else◌, refl, arith}
use Rattle.std.specs.Prelude.{bytes_eq}
use Rattle.vg_syntax.specs.declared.kind.Kind.{Kind}
use Rattle.vg_syntax.specs.declared.kind.Kind.TheVariants as kind
use Rattle.vg_syntax.specs.Tree.{Node}
use Rattle.vg_syntax.specs.Tree as tree
use Rattle.vg_meaning.specs.Code as code
use Rattle.vg_source.specs.Names.{Name}
use Rattle.vg_source.specs.Types.{StaticType, IntType, ClassType, ArrayType, FunctionType}
use Rattle.vg_source.specs.Steps.{Step}
use Rattle.vg_source.specs.Steps as step
use Rattle.vg_source.specs.Declared.{Member, AField, AMethod, class_member, component_member, component_named, device_named}
use Rattle.vg_source.specs.Resolved.{Owner, InClass, InComponent, NoOwner, Typed, Scope, Head, NoHead, IsValue, IsComponent, IsDevice, OwnMethod, ItsMethod}
use Rattle.vg_source.specs.Resolved.{Resolved, doing, single, nothing, in_front, settled, settled_as, find_local, object_member}
use Rattle.vg_source.specs.Resolved.{its_member, top_head, top_name, own_member, near_member, outer_name, local_or_outer, resolved_name, length_name}
use Rattle.vg_source.specs.Resolved.{its_register, register_of, member_suffix, index_suffix, call_suffix, part, type_part}
use Rattle.vg_source.specs.Resolved.{last_target, then_onto, goes_on, or_default, store_to, this_in, with_prefixes, apply_all, prefix_of}
use Rattle.vg_source_weights.specs.Weights.{extra, extras}

-- what a node stands for costs at most so much beside its size: as a value, and, with one more, as the target of an assignment with its store
abbrev pub Within : Resolved → ℕ → Type 0
Within m n = (extras m.does ≤ n) × (extras m.aims + extra (store_to m.store) ≤ 1 + n)

pub wider : (m : Resolved) (k n : ℕ) → k ≤ n → Within m k → Within m n
wider m k n l (e, f) = (omega (arith, l, e), omega (arith, l, f))

pub done : (c : code.Code Step) (h : Head) (ls : Scope) (n : ℕ) → extras c ≤ n → Within (doing c h ls) n
done c h ls n e = (e, omega arith)

pub front : (c : code.Code Step) (m : Resolved) (k n : ℕ) → extras c ≤ k → Within m n → Within (in_front c m) (k + n)
front c m k n e (f, g) = (omega (arith, e, f), omega (arith, e, g))

settles_as : (m : Resolved) (h : Head) (n : ℕ) → Within m n → Within (settled_as m h) n
settles_as m (OwnMethod at c x ps r) n (e, f) = (omega (arith, e), omega arith)
settles_as m (ItsMethod c x ps r) n (e, f) = (omega (arith, e), omega arith)
settles_as m _ n e = e

pub settles : (m : Resolved) (n : ℕ) → Within m n → Within (settled m) n
settles m n e = settles_as m m.head n e

-- what is settled, as a value
pub settles_does : (m : Resolved) (n : ℕ) → Within m n → extras (settled m).does ≤ n
settles_does m n e = (settles m n e).0

-- ---- names

object_member_within : (at : ℕ) (c x : Name) (m : Option Member) (ls : Scope) → Within (object_member at c x m ls) 0
object_member_within at c x (Some (AField d t)) ls = (omega arith, omega arith)
object_member_within at c x (Some (AMethod ps r)) ls = (omega arith, omega arith)
object_member_within at c x None ls = (omega arith, omega arith)

its_member_within : (c x : Name) (m : Option Member) (ls : Scope) → Within (its_member c x m ls) 0
its_member_within c x (Some (AField d t)) ls = (omega arith, omega arith)
its_member_within c x (Some (AMethod ps r)) ls = (omega arith, omega arith)
its_member_within c x None ls = (omega arith, omega arith)

top_name_within : (ds : Node) (x : Name) (ls : Scope) → Within (top_name ds x ls) 0
top_name_within ds x ls = done code.Nothing (top_head (component_named ds x) x) ls 0 (omega arith)

own_member_within : (ds : Node) (at : ℕ) (c x : Name) (m : Option Member) (ls : Scope) → Within (own_member ds at c x m ls) 1
own_member_within ds at c x (Some m) ls =
    front (code.Do step.This) (object_member at c x (Some m) ls) 1 0 (omega arith) (object_member_within at c x (Some m) ls)
own_member_within ds at c x None ls = wider (top_name ds x ls) 0 1 (omega arith) (top_name_within ds x ls)

near_member_within : (ds : Node) (c x : Name) (m : Option Member) (ls : Scope) → Within (near_member ds c x m ls) 0
near_member_within ds c x (Some m) ls = its_member_within c x (Some m) ls
near_member_within ds c x None ls = top_name_within ds x ls

outer_name_within : (ds : Node) (o : Owner) (at : ℕ) (x : Name) (ls : Scope) → Within (outer_name ds o at x ls) 1
outer_name_within ds (InClass c) at x ls = own_member_within ds at c x (class_member ds c x) ls
outer_name_within ds (InComponent c) at x ls =
    wider (near_member ds c x (component_member ds c x) ls) 0 1 (omega arith) (near_member_within ds c x (component_member ds c x) ls)
outer_name_within ds NoOwner at x ls = wider (top_name ds x ls) 0 1 (omega arith) (top_name_within ds x ls)

pub name_within : (ds : Node) (o : Owner) (at : ℕ) (x : Name) (ls : Scope) → Within (resolved_name ds o at x ls) 1
name_within ds o at x ls = by (find_local ls.names x)
  where
    by : (l : Option Typed) → Within (local_or_outer ds o at x l ls) 1
    by (Some l) = (omega arith, omega arith)
    by None = outer_name_within ds o at x ls

pub this_within : (o : Owner) (ls : Scope) → Within (this_in o ls) 1
this_within (InClass c) ls = (omega arith, omega arith)
this_within _ ls = (omega arith, omega arith)

-- ---- suffixes

register_within : (a : Option ℕ) (ls : Scope) → Within (its_register a ls) 0
register_within (Some a) ls = (omega arith, omega arith)
register_within None ls = (omega arith, omega arith)

either : (b : Bool) (m n : Resolved) → Within m 0 → Within n 0 → Within (if b then m else n) 0
either true m n e f = e
either false m n e f = f

pub member_within : (ds : Node) (at : ℕ) (x : Name) (ls : Scope) (h : Head) → Within (member_suffix ds at x ls h) 0
member_within ds at x ls (IsValue (ClassType c)) = object_member_within at c x (class_member ds c x) ls
member_within ds at x ls (IsValue (ArrayType t)) =
    either (bytes_eq x length_name) (single (step.Length at t) (IsValue IntType) ls) (nothing NoHead ls)
    (omega arith, omega arith) (omega arith, omega arith)
member_within ds at x ls (IsComponent c) = its_member_within c x (component_member ds c x) ls
member_within ds at x ls (IsDevice d) = register_within (register_of (device_named ds d) x) ls
member_within ds at x ls _ = (omega arith, omega arith)

pub index_within : (at : ℕ) (m : Resolved) (h : Head) (n : ℕ) → extras m.does ≤ n → Within (index_suffix at m h) n
index_within at m (IsValue (ArrayType t)) n e = (omega (arith, e), omega (arith, e))
index_within at m _ n e = done m.does NoHead m.scope n (omega (arith, e))

pub call_within : (at k : ℕ) (m : Resolved) (h : Head) (n : ℕ) → extras m.does + k ≤ n → Within (call_suffix at k m h) n
call_within at k m (OwnMethod at' c x ps r) n e = (omega (arith, e), omega arith)
call_within at k m (ItsMethod c x ps r) n e = (omega (arith, e), omega arith)
call_within at k m (IsValue (FunctionType ps r)) n e = (omega (arith, e), omega arith)
call_within at k m _ n e = done m.does NoHead m.scope n (omega (arith, e))

-- ---- operators

free : (ks : List Kind) (c : code.Code Step) → extras (apply_all ks c) ≡ extras c
free [] c = refl
free (k ∷ ks) c = let f = free ks (code.Then (code.Do (step.Apply (prefix_of k))) c) in omega (arith, f)

pub prefixes_within : (ks : List Kind) (m : Resolved) (n : ℕ) → extras m.does ≤ n → Within (with_prefixes ks m) n
prefixes_within ks m n e = let f = free ks code.Nothing in (omega (arith, e, f), omega arith)

pub part_within : (at : ℕ) (k : Kind) (h : Head) (m : Resolved) (n : ℕ) → extras m.does ≤ n → Within (part at k h m) (1 + n)
part_within at kind.AndAnd h m n e = (omega (arith, e), omega arith)
part_within at kind.OrOr h m n e = (omega (arith, e), omega arith)
part_within at k h m n e = (omega (arith, e), omega arith)

pub type_part_within : (at : ℕ) (k : Kind) (t : StaticType) (ls : Scope) → Within (type_part at k t ls) 0
type_part_within at kind.Below (ClassType c) ls = (omega arith, omega arith)
type_part_within at kind.Below t ls = (omega arith, omega arith)
type_part_within at k t ls = (omega arith, omega arith)

-- ---- rows

pub default_within : (t : StaticType) (e : Node) (m : Resolved) (n : ℕ) → extras m.does ≤ n → extras (or_default t e m).does ≤ 1 + n
default_within t tree.Nothing m n e = omega (arith, e)
default_within t _ m n e = omega (arith, e)

target : (rest : Node) (m k : Resolved) (n : ℕ) → Within m n → Within k n → Within (last_target rest m k) n
target tree.Nothing m k n e f = e
target _ m k n e f = f

pub goes_within : (m : Resolved) (go : Head → Resolved) (c d : ℕ) → Within m c → ((h : Head) → Within (go h) d) → Within (goes_on m go) (c + d)
goes_within m go c d (e, f) g = front m.does (go m.head) c d e (g m.head)

pub onto_within : (rest : Node) (m : Resolved) (go : Head → Resolved) (c d : ℕ) → Within m c → ((h : Head) → Within (go h) d)
    → Within (then_onto rest m go) (c + d)
onto_within rest m go c d e g =
    target rest m (in_front m.does (go m.head)) (c + d) (wider m c (c + d) (omega arith) e) (goes_within m go c d e g)
