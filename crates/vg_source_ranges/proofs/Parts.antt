-- What is built of ranged parts is ranged.
use Rattle.std.proofs.Common.{ℕ, Bool, true, false, List, [], ◌∷◌, Option, Some, None, bytes_eq, if◌then◌else◌}
use Rattle.vg_syntax.specs.declared.kind.Kind.{Kind}
use Rattle.vg_syntax.specs.declared.kind.Kind.TheVariants as kind
use Rattle.vg_syntax.specs.Tree.{Node}
use Rattle.vg_syntax.specs.Tree as tree
use Rattle.vg_meaning.specs.Code as code
use Rattle.vg_source.specs.Names.{Name}
use Rattle.vg_source.specs.Types.{StaticType, IntType, ClassType, ArrayType, FunctionType}
use Rattle.vg_source.specs.Values.{default}
use Rattle.vg_source.specs.Steps.{Step}
use Rattle.vg_source.specs.Steps as step
use Rattle.vg_source.specs.Declared.{Member, AField, AMethod, class_member, component_member, device_named}
use Rattle.vg_source.specs.Resolved.{Owner, InClass, InComponent, NoOwner, Typed, Scope, Head, NoHead, IsValue, IsComponent, IsDevice, OwnMethod, ItsMethod}
use Rattle.vg_source.specs.Resolved.{Resolved, doing, in_front, then_step, place_at, settled_as, settled, find_local, object_member, its_member, top_name}
use Rattle.vg_source.specs.Resolved.{own_member, near_member, outer_name, local_or_outer, resolved_name, length_name, its_register, register_of}
use Rattle.vg_source.specs.Resolved.{member_suffix, index_suffix, call_suffix, prefix_of, apply_all}
use Rattle.vg_source.specs.Resolved.{part, type_part, last_target, or_default, this_in, store_to}
use Rattle.vg_source_ranges.specs.Ranges.{IsSmall, AreSmall, IsRanged, AreRanged}
use Rattle.vg_source_ranges.proofs.Numbers.{default_in_range}

abbrev pub IsRangedStore : Option Step → Type 0
IsRangedStore None = Unit {0}
IsRangedStore (Some s) = IsRanged ⊥ s

pub record Good (m : Resolved) : Type 0 where
  pub does : AreRanged ⊥ m.does
  pub aims : AreRanged ⊥ m.aims
  pub store : IsRangedStore m.store
  pub scope : AreSmall m.scope.declared

pub good_doing : (c : code.Code Step) (h : Head) (ls : Scope) → AreRanged ⊥ c → AreSmall ls.declared → Good (doing c h ls)
good_doing c h ls r s = record { does = r; aims = tt; store = tt; scope = s }

pub good_front : (c : code.Code Step) (m : Resolved) → AreRanged ⊥ c → Good m → Good (in_front c m)
good_front c m r g = record { does = (r, g.does); aims = (r, g.aims); store = g.store; scope = g.scope }

pub good_then : (m : Resolved) (s : Step) (h : Head) → Good m → IsRanged ⊥ s → Good (then_step m s h)
good_then m s h g r = record { does = (g.does, r); aims = tt; store = tt; scope = g.scope }

good_place : (c : code.Code Step) (s : Step) (m : Resolved) → AreRanged ⊥ c → IsRanged ⊥ s → Good m → Good (place_at c s m)
good_place c s m r a g = record { does = g.does; aims = r; store = a; scope = g.scope }

good_settled_as : (m : Resolved) (h : Head) → Good m → Good (settled_as m h)
good_settled_as m (OwnMethod at c x ps r) g = good_then m (step.MethodOf at c x) (IsValue (FunctionType ps r)) g tt
good_settled_as m (ItsMethod c x ps r) g = good_then m (step.ComponentMethod c x) (IsValue (FunctionType ps r)) g tt
good_settled_as m _ g = g

pub good_settled : (m : Resolved) → Good m → Good (settled m)
good_settled m g = good_settled_as m m.head g

-- ---- names

module _ (ds : Node) (ls : Scope) (s : AreSmall ls.declared) where
  abbrev quiet : (h : Head) → Good (doing code.Nothing h ls)
  quiet h = good_doing code.Nothing h ls tt s

  good_object : (at : ℕ) (c x : Name) (o : Option Member) → Good (object_member at c x o ls)
  good_object at c x (Some (AField d t)) =
      good_place code.Nothing (step.SetField at d x) _ tt tt (good_doing (code.Do (step.Field at d x)) (IsValue t) ls tt s)
  good_object at c x (Some (AMethod ps r)) = quiet (OwnMethod at c x ps r)
  good_object at c x None = quiet NoHead

  good_its : (c x : Name) (o : Option Member) → Good (its_member c x o ls)
  good_its c x (Some (AField d t)) =
      good_place code.Nothing (step.SetComponentField d x) _ tt tt (good_doing (code.Do (step.ComponentField d x)) (IsValue t) ls tt s)
  good_its c x (Some (AMethod ps r)) = quiet (ItsMethod c x ps r)
  good_its c x None = quiet NoHead

  good_top : (x : Name) → Good (top_name ds x ls)
  good_top x = quiet _

  good_own : (at : ℕ) (c x : Name) (o : Option Member) → Good (own_member ds at c x o ls)
  good_own at c x (Some m) = good_front (code.Do step.This) (object_member at c x (Some m) ls) tt (good_object at c x (Some m))
  good_own at c x None = good_top x

  good_near : (c x : Name) (o : Option Member) → Good (near_member ds c x o ls)
  good_near c x (Some m) = good_its c x (Some m)
  good_near c x None = good_top x

  good_outer : (o : Owner) (at : ℕ) (x : Name) → Good (outer_name ds o at x ls)
  good_outer (InClass c) at x = good_own at c x (class_member ds c x)
  good_outer (InComponent c) at x = good_near c x (component_member ds c x)
  good_outer NoOwner at x = good_top x

  good_local : (o : Owner) (at : ℕ) (x : Name) (l : Option Typed) → Good (local_or_outer ds o at x l ls)
  good_local o at x (Some l) =
      good_place code.Nothing (step.SetLocal l.number) _ tt tt (good_doing (code.Do (step.Local l.number)) (IsValue l.type) ls tt s)
  good_local o at x None = good_outer o at x

  pub good_name : (o : Owner) (at : ℕ) (x : Name) → Good (resolved_name ds o at x ls)
  good_name o at x = good_local o at x (find_local ls.names x)

  -- ---- suffixes

  good_register : (o : Option ℕ) → Good (its_register o ls)
  good_register (Some a) = good_place code.Nothing (step.SetRegister a) _ tt tt (good_doing (code.Do (step.Register a)) (IsValue _) ls tt s)
  good_register None = quiet NoHead

  good_length : (at : ℕ) (t : StaticType) (x : Name) → Good (member_suffix ds at x ls (IsValue (ArrayType t)))
  good_length at t x = by (bytes_eq x length_name)
    where
      by : (b : Bool) → Good (if b then doing (code.Do (step.Length at t)) (IsValue IntType) ls else doing code.Nothing NoHead ls)
      by true = good_doing (code.Do (step.Length at t)) (IsValue IntType) ls tt s
      by false = quiet NoHead

  pub good_member : (at : ℕ) (x : Name) (h : Head) → Good (member_suffix ds at x ls h)
  good_member at x (IsValue (ClassType c)) = good_object at c x (class_member ds c x)
  good_member at x (IsValue (ArrayType t)) = good_length at t x
  good_member at x (IsComponent c) = good_its c x (component_member ds c x)
  good_member at x (IsDevice d) = good_register (register_of (device_named ds d) x)
  good_member at x _ = quiet NoHead

  pub good_this : (o : Owner) → Good (this_in o ls)
  good_this (InClass c) = good_doing (code.Do step.This) (IsValue (ClassType c)) ls tt s
  good_this _ = quiet NoHead

  pub good_type : (at : ℕ) (k : Kind) (t : StaticType) → IsSmall t → Good (type_part at k t ls)
  good_type at kind.Below (ClassType c) m = good_doing (code.Do (step.IsBelow c)) (IsValue _) ls tt s
  good_type at kind.Below _ m = quiet NoHead
  good_type at k t m = other k t m
    where
      other : (k1 : Kind) (t1 : StaticType) → IsSmall t1 → Good (doing (code.Do (step.CastTo at t1)) (IsValue t1) ls)
      other k1 t1 m1 = good_doing (code.Do (step.CastTo at t1)) (IsValue t1) ls m1 s

pub good_index : (at : ℕ) (m : Resolved) (h : Head) → Good m → Good (index_suffix at m h)
good_index at m (IsValue (ArrayType t)) g =
    good_place m.does (step.SetItem at t) (then_step m (step.Item at t) (IsValue t)) g.does tt (good_then m (step.Item at t) (IsValue t) g tt)
good_index at m _ g = good_doing m.does NoHead m.scope g.does g.scope

pub good_call : (at count : ℕ) (m : Resolved) (h : Head) → Good m → Good (call_suffix at count m h)
good_call at n m (OwnMethod at' c x ps r) g = good_then m (step.CallMethod at c x n) (IsValue r) g tt
good_call at n m (ItsMethod c x ps r) g = good_then m (step.CallComponent c x n) (IsValue r) g tt
good_call at n m (IsValue (FunctionType ps r)) g = good_then m (step.CallValue at n ps r) (IsValue r) g tt
good_call at n m _ g = good_doing m.does NoHead m.scope g.does g.scope

-- ---- operators

pub applied_ranged : (ks : List Kind) (more : code.Code Step) → AreRanged ⊥ more → AreRanged ⊥ (apply_all ks more)
applied_ranged [] more h = h
applied_ranged (k ∷ ks) more h = applied_ranged ks (code.Then (code.Do (step.Apply (prefix_of k))) more) (tt, h)

pub good_part : (at : ℕ) (k : Kind) (h : Head) (m : Resolved) → Good m → Good (part at k h m)
good_part at kind.AndAnd h m g = good_doing _ _ m.scope (g.does, tt) g.scope
good_part at kind.OrOr h m g = good_doing _ _ m.scope (tt, g.does) g.scope
good_part at _ h m g = good_then m _ _ g tt

-- ---- rows

pub good_last : (rest : Node) (a b : Resolved) → Good a → Good b → Good (last_target rest a b)
good_last tree.Nothing a b ga gb = ga
good_last _ a b ga gb = gb

pub good_default : (t : StaticType) (e : Node) (m : Resolved) → IsSmall t → Good m → Good (or_default t e m)
good_default t tree.Nothing m small g = good_front (code.Do (step.Put (default t))) m (default_in_range t small) g
good_default t _ m small g = g

pub store_ranged : (o : Option Step) → IsRangedStore o → IsRanged ⊥ (store_to o)
store_ranged None h = tt
store_ranged (Some s) h = h
