-- What code of a text stands for names registers of its devices alone.
use Rattle.std.proofs.Common.{ℕ, Bool, true, false, List, [], ◌∷◌, Option, Some, None, bytes_eq, if◌then◌else◌}
use Rattle.vg_meaning.specs.Device.{IsDeviceAddress}
use Rattle.vg_syntax.specs.declared.kind.Kind.{Kind}
use Rattle.vg_syntax.specs.declared.kind.Kind.TheVariants as kind
use Rattle.vg_syntax.specs.Tree.{Node}
use Rattle.vg_syntax.specs.Tree as tree
use Rattle.vg_meaning.specs.Code as code
use Rattle.vg_source.specs.Names.{Name}
use Rattle.vg_source.specs.Types.{StaticType, IntType, ClassType, ArrayType, FunctionType, NoType}
use Rattle.vg_source.specs.Values.{default}
use Rattle.vg_source.specs.Steps.{Step}
use Rattle.vg_source.specs.Steps as step
use Rattle.vg_source.specs.Declared.{Member, AField, AMethod, class_member, component_member, device_named, written_type}
use Rattle.vg_source.specs.Resolved.{Owner, InClass, InComponent, NoOwner, Typed, Scope, Head, NoHead, IsValue, IsComponent, IsDevice, OwnMethod, ItsMethod}
use Rattle.vg_source.specs.Resolved.{Resolved, doing, in_front, then_step, place_at, settled_as, settled, find_local, object_member, its_member, top_name}
use Rattle.vg_source.specs.Resolved.{own_member, near_member, outer_name, local_or_outer, resolved_name, length_name, its_register, register_of}
use Rattle.vg_source.specs.Resolved.{member_suffix, index_suffix, call_suffix, prefix_of, apply_all, Context, Fresh, Onto, Otherwise, head_of, resolved, no_arm}
use Rattle.vg_source.specs.Resolved.{part, type_part, last_target, or_default, this_in, store_to}

-- A register that a step names is one of a device of the chip.
abbrev pub IsNamed : Step → Type 0
IsNamed (step.Register address) = IsDeviceAddress address
IsNamed (step.SetRegister address) = IsDeviceAddress address
IsNamed _ = Unit {0}

abbrev pub AreNamed : code.Code Step → Type 0
AreNamed code.Nothing = Unit {0}
AreNamed (code.Then a b) = AreNamed a × AreNamed b
AreNamed (code.Do s) = IsNamed s
AreNamed (code.If a b) = AreNamed a × AreNamed b
AreNamed (code.Loop a b c) = AreNamed a × AreNamed b × AreNamed c
AreNamed code.Break = Unit {0}
AreNamed code.Continue = Unit {0}
AreNamed code.Return = Unit {0}

abbrev IsNamedStore : Option Step → Type 0
IsNamedStore None = Unit {0}
IsNamedStore (Some s) = IsNamed s

pub record Good (m : Resolved) : Type 0 where
  pub does : AreNamed m.does
  pub aims : AreNamed m.aims
  pub store : IsNamedStore m.store

good_doing : (c : code.Code Step) (h : Head) (ls : Scope) → AreNamed c → Good (doing c h ls)
good_doing c h ls r = record { does = r; aims = tt; store = tt }

pub good_front : (c : code.Code Step) (m : Resolved) → AreNamed c → Good m → Good (in_front c m)
good_front c m r g = record { does = (r, g.does); aims = (r, g.aims); store = g.store }

good_then : (m : Resolved) (s : Step) (h : Head) → Good m → IsNamed s → Good (then_step m s h)
good_then m s h g r = record { does = (g.does, r); aims = tt; store = tt }

good_place : (c : code.Code Step) (s : Step) (m : Resolved) → AreNamed c → IsNamed s → Good m → Good (place_at c s m)
good_place c s m r a g = record { does = g.does; aims = r; store = a }

good_settled_as : (m : Resolved) (h : Head) → Good m → Good (settled_as m h)
good_settled_as m (OwnMethod at c x ps r) g = good_then m (step.MethodOf at c x) (IsValue (FunctionType ps r)) g tt
good_settled_as m (ItsMethod c x ps r) g = good_then m (step.ComponentMethod c x) (IsValue (FunctionType ps r)) g tt
good_settled_as m _ g = g

pub good_settled : (m : Resolved) → Good m → Good (settled m)
good_settled m g = good_settled_as m m.head g

-- ---- names

-- The address that is found is that of a register of the chip.
abbrev pub IsFound : Option ℕ → Type 0
IsFound None = Unit {0}
IsFound (Some address) = IsDeviceAddress address

abbrev pub KeepsRegisters : Node → Type 0
KeepsRegisters ds = (d x : Name) → IsFound (register_of (device_named ds d) x)

module _ (ds : Node) (keeps : KeepsRegisters ds) (ls : Scope) where
  abbrev quiet : (h : Head) → Good (doing code.Nothing h ls)
  quiet h = good_doing code.Nothing h ls tt

  good_object : (at : ℕ) (c x : Name) (o : Option Member) → Good (object_member at c x o ls)
  good_object at c x (Some (AField d t)) =
      good_place code.Nothing (step.SetField at d x) _ tt tt (good_doing (code.Do (step.Field at d x)) (IsValue t) ls tt)
  good_object at c x (Some (AMethod ps r)) = quiet (OwnMethod at c x ps r)
  good_object at c x None = quiet NoHead

  good_its : (c x : Name) (o : Option Member) → Good (its_member c x o ls)
  good_its c x (Some (AField d t)) =
      good_place code.Nothing (step.SetComponentField d x) _ tt tt (good_doing (code.Do (step.ComponentField d x)) (IsValue t) ls tt)
  good_its c x (Some (AMethod ps r)) = quiet (ItsMethod c x ps r)
  good_its c x None = quiet NoHead

  good_top : (x : Name) → Good (top_name ds x ls)
  good_top x = quiet _

  good_own : (at : ℕ) (c x : Name) (o : Option Member) → Good (own_member ds at c x o ls)
  good_own at c x (Some m) = good_front (code.Do step.This) (object_member at c x (Some m) ls) tt (good_object at c x (Some m))
  good_own at c x None = good_top x

  good_near : (c x : Name) (o : Option Member) → Good (near_member ds c x o ls)
  good_near c x (Some m) = good_its c x (Some m)
  good_near c x None = good_top x

  good_outer : (o : Owner) (at : ℕ) (x : Name) → Good (outer_name ds o at x ls)
  good_outer (InClass c) at x = good_own at c x (class_member ds c x)
  good_outer (InComponent c) at x = good_near c x (component_member ds c x)
  good_outer NoOwner at x = good_top x

  good_local : (o : Owner) (at : ℕ) (x : Name) (l : Option Typed) → Good (local_or_outer ds o at x l ls)
  good_local o at x (Some l) =
      good_place code.Nothing (step.SetLocal l.number) _ tt tt (good_doing (code.Do (step.Local l.number)) (IsValue l.type) ls tt)
  good_local o at x None = good_outer o at x

  good_name : (o : Owner) (at : ℕ) (x : Name) → Good (resolved_name ds o at x ls)
  good_name o at x = good_local o at x (find_local ls.names x)

  -- ---- suffixes

  good_register : (o : Option ℕ) → IsFound o → Good (its_register o ls)
  good_register (Some a) h = good_place code.Nothing (step.SetRegister a) _ tt h (good_doing (code.Do (step.Register a)) (IsValue _) ls h)
  good_register None h = quiet NoHead

  good_length : (at : ℕ) (t : StaticType) (x : Name) → Good (member_suffix ds at x ls (IsValue (ArrayType t)))
  good_length at t x = by (bytes_eq x length_name)
    where
      by : (b : Bool) → Good (if b then doing (code.Do (step.Length at t)) (IsValue IntType) ls else doing code.Nothing NoHead ls)
      by true = good_doing (code.Do (step.Length at t)) (IsValue IntType) ls tt
      by false = quiet NoHead

  good_member : (at : ℕ) (x : Name) (h : Head) → Good (member_suffix ds at x ls h)
  good_member at x (IsValue (ClassType c)) = good_object at c x (class_member ds c x)
  good_member at x (IsValue (ArrayType t)) = good_length at t x
  good_member at x (IsComponent c) = good_its c x (component_member ds c x)
  good_member at x (IsDevice d) = good_register (register_of (device_named ds d) x) (keeps d x)
  good_member at x _ = quiet NoHead

  good_this : (o : Owner) → Good (this_in o ls)
  good_this (InClass c) = good_doing (code.Do step.This) (IsValue (ClassType c)) ls tt
  good_this _ = quiet NoHead

  good_type : (at : ℕ) (k : Kind) (t : StaticType) → Good (type_part at k t ls)
  good_type at kind.Below (ClassType c) = good_doing (code.Do (step.IsBelow c)) (IsValue _) ls tt
  good_type at kind.Below _ = quiet NoHead
  good_type at k t = other k t
    where
      other : (k1 : Kind) (t1 : StaticType) → Good (doing (code.Do (step.CastTo at t1)) (IsValue t1) ls)
      other k1 t1 = good_doing (code.Do (step.CastTo at t1)) (IsValue t1) ls tt

good_index : (at : ℕ) (m : Resolved) (h : Head) → Good m → Good (index_suffix at m h)
good_index at m (IsValue (ArrayType t)) g =
    good_place m.does (step.SetItem at t) (then_step m (step.Item at t) (IsValue t)) g.does tt (good_then m (step.Item at t) (IsValue t) g tt)
good_index at m _ g = good_doing m.does NoHead m.scope g.does

good_call : (at count : ℕ) (m : Resolved) (h : Head) → Good m → Good (call_suffix at count m h)
good_call at n m (OwnMethod at' c x ps r) g = good_then m (step.CallMethod at c x n) (IsValue r) g tt
good_call at n m (ItsMethod c x ps r) g = good_then m (step.CallComponent c x n) (IsValue r) g tt
good_call at n m (IsValue (FunctionType ps r)) g = good_then m (step.CallValue at n ps r) (IsValue r) g tt
good_call at n m _ g = good_doing m.does NoHead m.scope g.does

-- ---- operators and rows

applied : (ks : List Kind) (more : code.Code Step) → AreNamed more → AreNamed (apply_all ks more)
applied [] more h = h
applied (k ∷ ks) more h = applied ks (code.Then (code.Do (step.Apply (prefix_of k))) more) (tt, h)

good_part : (at : ℕ) (k : Kind) (h : Head) (m : Resolved) → Good m → Good (part at k h m)
good_part at kind.AndAnd h m g = good_doing _ _ m.scope (g.does, tt)
good_part at kind.OrOr h m g = good_doing _ _ m.scope (tt, g.does)
good_part at _ h m g = good_then m _ _ g tt

good_last : (rest : Node) (a b : Resolved) → Good a → Good b → Good (last_target rest a b)
good_last tree.Nothing a b ga gb = ga
good_last _ a b ga gb = gb

good_default : (t : StaticType) (e : Node) (m : Resolved) → Good m → Good (or_default t e m)
good_default t tree.Nothing m g = good_front (code.Do (step.Put (default t))) m tt g
good_default t _ m g = g

store_named : (o : Option Step) → IsNamedStore o → IsNamed (store_to o)
store_named None h = tt
store_named (Some s) h = h

-- ---- bodies

module _ (ds : Node) (keeps : KeepsRegisters ds) where
  -- what comes where no condition holds
  abbrev Behind : Context → Type 0
  Behind (Otherwise last) = (ls : Scope) → Good (last ls)
  Behind _ = Unit {0}

  no_more : (b : Context) (ls : Scope) → Behind b → Good (no_arm b ls)
  no_more (Otherwise last) ls z = z ls
  no_more Fresh ls z = good_doing code.Nothing _ ls tt
  no_more (Onto h) ls z = good_doing code.Nothing _ ls tt

  good : (a : Node) (o : Owner) (b : Context) (ls : Scope) → Behind b → Good (resolved ds o a b ls)
  good tree.Nothing o b ls z = no_more b ls z
  good (tree.Then a rest) o (Onto h) ls z =
      let g = good a o (Onto h) ls tt in good_last rest _ _ g (good_front _ _ g.does (good rest o (Onto _) ls tt))
  good (tree.Then a rest) o Fresh ls z =
      let g = good_settled _ (good a o Fresh ls tt) in good_front _ _ g.does (good rest o Fresh _ tt)
  good (tree.Then a rest) o (Otherwise last) ls z =
      let g = good_settled _ (good a o Fresh ls tt) in good_front _ _ g.does (good rest o Fresh _ tt)
  good (tree.Arm c block rest) o b ls z =
      let gc = good_settled _ (good c o Fresh ls tt) in
      let gb = good block o Fresh ls tt in
      let go = good rest o b (resolved ds o block Fresh ls).scope z in good_doing _ _ _ (gc.does, (gb.does, go.does))
  good (tree.Block at body) o b ls z = good_doing _ _ _ (good body o Fresh ls tt).does
  good (tree.Local at x t v) o b ls z =
      let g = good_default (written_type t) v _ (good_settled _ (good v o Fresh ls tt)) in good_doing _ _ _ (g.does, tt)
  good (tree.If at arms otherwise) o b ls z =
      good arms o (Otherwise (resolved ds o otherwise Fresh)) ls (λ inside. good otherwise o Fresh inside tt)
  good (tree.While at c body) o b ls z =
      let gc = good_settled _ (good c o Fresh ls tt) in good_doing _ _ _ (gc.does, (good body o Fresh ls tt).does, tt)
  good (tree.For at first c next body) o b ls z =
      let gf = good first o Fresh ls tt in
      let gc = good_settled _ (good c o Fresh ls tt) in
      let gn = good next o Fresh ls tt in
      let gb = good body o Fresh ls tt in good_front _ _ gf.does (good_doing _ _ _ (gc.does, gb.does, gn.does))
  good (tree.Return at v) o b ls z =
      let g = good_default NoType v _ (good_settled _ (good v o Fresh ls tt)) in good_doing _ _ ls (g.does, tt)
  good (tree.Break at) o b ls z = good_doing _ _ ls tt
  good (tree.Continue at) o b ls z = good_doing _ _ ls tt
  good (tree.Assign at target v) o b ls z =
      let gt = good target o Fresh ls tt in
      let gv = good_settled _ (good v o Fresh ls tt) in good_doing _ _ ls (gt.aims, (gv.does, store_named _ gt.store))
  good (tree.Eval at v) o b ls z = good_then _ _ _ (good_settled _ (good v o Fresh ls tt)) tt
  good (tree.Number at digits) o b ls z = good_doing _ _ ls tt
  good (tree.CharLit at spelled) o b ls z = good_doing _ _ ls tt
  good (tree.StringLit at spelled) o b ls z = good_doing _ _ ls tt
  good (tree.True at) o b ls z = good_doing _ _ ls tt
  good (tree.False at) o b ls z = good_doing _ _ ls tt
  good (tree.Null at) o b ls z = good_doing _ _ ls tt
  good (tree.This at) o b ls z = good_this ds keeps ls o
  good (tree.Name at x) o b ls z = good_name ds keeps ls o at.id x
  good (tree.NewObject at c args) o b ls z = good_then _ _ _ (good args o Fresh ls tt) tt
  good (tree.NewArray at t v) o b ls z = good_then _ _ _ (good_settled _ (good v o Fresh ls tt)) tt
  good (tree.Unary at operators v) o b ls z =
      let g = good_settled _ (good v o Fresh ls tt) in good_doing _ _ _ (g.does, applied operators code.Nothing tt)
  good (tree.Chain at first parts) o b ls z =
      let g = good_settled _ (good first o Fresh ls tt) in good_front _ _ g.does (good parts o (Onto _) ls tt)
  good (tree.Part at op v) o b ls z = good_part at.id op (head_of b) _ (good_settled _ (good v o Fresh ls tt))
  good (tree.TypePart at op t) o b ls z = good_type ds keeps ls at.id op (written_type t)
  good (tree.Postfix at p suffixes) o b ls z =
      let g = good p o Fresh ls tt in good_front _ _ g.does (good_settled _ (good suffixes o (Onto _) ls tt))
  good (tree.Member at x) o b ls z = good_member ds keeps ls at.id x (head_of b)
  good (tree.Index at v) o b ls z = good_index at.id _ (head_of b) (good_settled _ (good v o Fresh ls tt))
  good (tree.Call at args) o b ls z = good_call at.id _ _ (head_of b) (good args o Fresh ls tt)
  good _ o b ls z = good_doing code.Nothing _ ls tt

  pub good_body : (a : Node) (o : Owner) (ls : Scope) → Good (resolved ds o a Fresh ls)
  good_body a o ls = good a o Fresh ls tt
