-- The parts of expressions leave scopes as they were.
use Rattle.std.proofs.Common.{◌≡◌, ℕ, Bool, true, false, Option, Some, None, if◌then◌else◌, refl}
use Rattle.std.specs.Prelude.{bytes_eq}
use Rattle.vg_syntax.specs.declared.kind.Kind.{Kind}
use Rattle.vg_syntax.specs.declared.kind.Kind.TheVariants as kind
use Rattle.vg_syntax.specs.Tree.{Node}
use Rattle.vg_source.specs.Names.{Name}
use Rattle.vg_source.specs.Types.{StaticType, ClassType, ArrayType, FunctionType}
use Rattle.vg_source.specs.Declared.{Member, AField, AMethod, class_member, component_member, device_named}
use Rattle.vg_source.specs.Resolved.{Owner, InClass, InComponent, NoOwner, Typed, Scope, Head, IsValue, IsComponent, IsDevice, OwnMethod, ItsMethod}
use Rattle.vg_source.specs.Resolved.{Resolved, settled, settled_as, find_local, object_member, its_member, own_member, near_member, outer_name}
use Rattle.vg_source.specs.Resolved.{local_or_outer, resolved_name, length_name, its_register, register_of, member_suffix, index_suffix, call_suffix}
use Rattle.vg_source.specs.Resolved.{part, type_part, this_in}

pub settles : (m : Resolved) → (settled m).scope ≡ m.scope
settles m = by m.head
  where
    by : (h : Head) → (settled_as m h).scope ≡ m.scope
    by (OwnMethod at c x ps r) = refl
    by (ItsMethod c x ps r) = refl
    by _ = refl

object_member_in : (at : ℕ) (c x : Name) (m : Option Member) (ls : Scope) → (object_member at c x m ls).scope ≡ ls
object_member_in at c x (Some (AField d t)) ls = refl
object_member_in at c x (Some (AMethod ps r)) ls = refl
object_member_in at c x None ls = refl

its_member_in : (c x : Name) (m : Option Member) (ls : Scope) → (its_member c x m ls).scope ≡ ls
its_member_in c x (Some (AField d t)) ls = refl
its_member_in c x (Some (AMethod ps r)) ls = refl
its_member_in c x None ls = refl

its_register_in : (a : Option ℕ) (ls : Scope) → (its_register a ls).scope ≡ ls
its_register_in (Some a) ls = refl
its_register_in None ls = refl

module _ (ds : Node) where
  own_member_in : (at : ℕ) (c x : Name) (m : Option Member) (ls : Scope) → (own_member ds at c x m ls).scope ≡ ls
  own_member_in at c x (Some m) ls = object_member_in at c x (Some m) ls
  own_member_in at c x None ls = refl

  near_member_in : (c x : Name) (m : Option Member) (ls : Scope) → (near_member ds c x m ls).scope ≡ ls
  near_member_in c x (Some m) ls = its_member_in c x (Some m) ls
  near_member_in c x None ls = refl

  outer_name_in : (o : Owner) (at : ℕ) (x : Name) (ls : Scope) → (outer_name ds o at x ls).scope ≡ ls
  outer_name_in (InClass c) at x ls = own_member_in at c x (class_member ds c x) ls
  outer_name_in (InComponent c) at x ls = near_member_in c x (component_member ds c x) ls
  outer_name_in NoOwner at x ls = refl

  pub name_in : (o : Owner) (at : ℕ) (x : Name) (ls : Scope) → (resolved_name ds o at x ls).scope ≡ ls
  name_in o at x ls = by (find_local ls.names x)
    where
      by : (l : Option Typed) → (local_or_outer ds o at x l ls).scope ≡ ls
      by (Some l) = refl
      by None = outer_name_in o at x ls

  either : (b : Bool) (m n : Resolved) (ls : Scope) → m.scope ≡ ls → n.scope ≡ ls → (if b then m else n).scope ≡ ls
  either true m n ls e f = e
  either false m n ls e f = f

  pub member_in : (at : ℕ) (x : Name) (ls : Scope) (h : Head) → (member_suffix ds at x ls h).scope ≡ ls
  member_in at x ls (IsValue (ClassType c)) = object_member_in at c x (class_member ds c x) ls
  member_in at x ls (IsValue (ArrayType t)) = either (bytes_eq x length_name) _ _ ls refl refl
  member_in at x ls (IsComponent c) = its_member_in c x (component_member ds c x) ls
  member_in at x ls (IsDevice d) = its_register_in (register_of (device_named ds d) x) ls
  member_in at x ls _ = refl

pub this_is_in : (o : Owner) (ls : Scope) → (this_in o ls).scope ≡ ls
this_is_in (InClass c) ls = refl
this_is_in _ ls = refl

pub index_in : (at : ℕ) (m : Resolved) (h : Head) → (index_suffix at m h).scope ≡ m.scope
index_in at m (IsValue (ArrayType t)) = refl
index_in at m _ = refl

pub call_in : (at n : ℕ) (m : Resolved) (h : Head) → (call_suffix at n m h).scope ≡ m.scope
call_in at n m (OwnMethod at' c x ps r) = refl
call_in at n m (ItsMethod c x ps r) = refl
call_in at n m (IsValue (FunctionType ps r)) = refl
call_in at n m _ = refl

pub part_in : (at : ℕ) (k : Kind) (h : Head) (m : Resolved) → (part at k h m).scope ≡ m.scope
part_in at kind.AndAnd h m = refl
part_in at kind.OrOr h m = refl
part_in at _ h m = refl

pub type_part_in : (at : ℕ) (k : Kind) (t : StaticType) (ls : Scope) → (type_part at k t ls).scope ≡ ls
type_part_in at kind.Below (ClassType c) ls = refl
type_part_in at kind.Below t ls = refl
type_part_in at k t ls = refl
