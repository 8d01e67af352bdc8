-- What nodes stand for, piece by piece, and how many values wait behind it.
use Rattle.std.proofs.Common.{◌≡◌, ◌≤◌, ℕ, suc, ◌+◌, Bool, true, false, List, [], ◌∷◌, Option, Some, None, if◌then◌else◌, refl, arith}
use Rattle.std.specs.Prelude.{bytes_eq, is_some, ◌||◌}
use Rattle.vg_syntax.specs.declared.kind.Kind.{Kind}
use Rattle.vg_syntax.specs.declared.kind.Kind.TheVariants as kind
use Rattle.vg_syntax.specs.Tree.{Node}
use Rattle.vg_syntax.specs.Tree as tree
use Rattle.vg_meaning.specs.Code as code
use Rattle.vg_source.specs.Names.{Name}
use Rattle.vg_source.specs.Types.{StaticType, IntType, BoolType, RawType, ClassType, ArrayType, FunctionType}
use Rattle.vg_source.specs.Values.{Truth}
use Rattle.vg_source.specs.Steps.{Step}
use Rattle.vg_source.specs.Steps as step
use Rattle.vg_source.specs.Declared.{Member, AField, AMethod, class_member, component_member, component_named, device_named}
use Rattle.vg_source.specs.Resolved.{Owner, InClass, InComponent, NoOwner, Typed, Scope, Head, NoHead, IsValue, IsComponent, IsDevice, OwnMethod, ItsMethod}
use Rattle.vg_source.specs.Resolved.{Resolved, single, nothing, in_front, then_step, find_local, object_member, its_member, top_head, top_name}
use Rattle.vg_source.specs.Resolved.{own_member, near_member, outer_name, local_or_outer, resolved_name, length_name, its_register, register_of}
use Rattle.vg_source.specs.Resolved.{member_suffix, index_suffix, call_suffix, operator_of, result_of, part, type_part, this_in, apply_all, prefix_of}
use Rattle.vg_source.specs.Resolved.{with_prefixes}
use Rattle.vg_rules.specs.Operands as operand
use Rattle.vg_rules.specs.Operands.{operands_keep, type_part_keeps, on_one_chain, stand_side_by_side}
use Rattle.vg_rules.specs.Bodies.{Body, is_there, name_keeps, member_around, has_this, index_keeps, call_keeps}
use Rattle.vg_source_counts.specs.Measures.{takes, leaves, sets}
use Rattle.vg_source_counts.proofs.Moves.{Moves, waits, IsValued, valued_whole, Aimed, Good, Whole, Valued, value_moves, good_doing, good_front}
use Rattle.vg_source_counts.proofs.Moves.{good_place, nothing_moves, step_moves, then_moves, raised, roomier, if_moves, whole_wider}

pub false_true : false ≡ true → ⊥
false_true e = cc

unset : (i : ℕ) → false ≡ true → i ≡ 0
unset i e = absurd (false_true e)

-- ---- single steps

good_nothing : (h : Head) (ls : Scope) → Good 2 (waits h) (nothing h ls)
good_nothing h ls = good_doing 2 (waits h) code.Nothing h ls (nothing_moves 2 (waits h))

-- a value that is put
pub put_value : (n : ℕ) (s : Step) (t : StaticType) (ls : Scope) → 2 ≤ n → takes s ≡ 0 → leaves s ≡ 1 → sets s ≡ false
    → Whole n 0 (single s (IsValue t) ls)
put_value n s t ls l et el no_set =
    record {
      good = good_doing n 0 (code.Do s) (IsValue t) ls (step_moves n s 0 1 0 (omega (arith, et)) (omega (arith, el)) no_set l);
      whole = tt;
    }

-- one value in the place of one
one_value : (n : ℕ) (s : Step) (t : StaticType) (ls : Scope) → 2 ≤ n → takes s ≡ 1 → leaves s ≡ 1 → sets s ≡ false
    → Whole n 1 (single s (IsValue t) ls)
one_value n s t ls l et el no_set =
    record {
      good = good_doing n 1 (code.Do s) (IsValue t) ls (step_moves n s 1 1 0 (omega (arith, et)) (omega (arith, el)) no_set l);
      whole = tt;
    }

-- the store of a place where so many wait
aimed_step : (i : ℕ) (s : Step) → takes s ≡ suc i → leaves s ≡ 0 → (sets s ≡ true → i ≡ 0) → i ≤ 2 → Aimed 2 i code.Nothing s
aimed_step i s et el alone few = record { behind = i; moves = nothing_moves 2 i; taken = et; left = el; alone = alone; few = few }

-- ---- names

-- where something is there
abbrev WhereThere : (i : ℕ) → Resolved → Type 0
WhereThere i m = is_there m.head ≡ true → Whole 2 i m

object_whole : (at : ℕ) (c x : Name) (o : Option Member) (ls : Scope) → WhereThere 1 (object_member at c x o ls)
object_whole at c x (Some (AField d t)) ls e =
    record {
      good =
          good_place 2 1 code.Nothing (step.SetField at d x) (single (step.Field at d x) (IsValue t) ls)
          (aimed_step 1 (step.SetField at d x) refl refl (unset 1) (omega arith))
          (one_value 2 (step.Field at d x) t ls (omega arith) refl refl refl).good;
      whole = tt;
    }
object_whole at c x (Some (AMethod ps r)) ls e = record { good = good_nothing (OwnMethod at c x ps r) ls; whole = tt }
object_whole at c x None ls e = absurd (false_true e)

its_whole : (c x : Name) (o : Option Member) (ls : Scope) → WhereThere 0 (its_member c x o ls)
its_whole c x (Some (AField d t)) ls e =
    record {
      good =
          good_place 2 0 code.Nothing (step.SetComponentField d x) (single (step.ComponentField d x) (IsValue t) ls)
          (aimed_step 0 (step.SetComponentField d x) refl refl (unset 0) (omega arith))
          (put_value 2 (step.ComponentField d x) t ls (omega arith) refl refl refl).good;
      whole = tt;
    }
its_whole c x (Some (AMethod ps r)) ls e = record { good = good_nothing (ItsMethod c x ps r) ls; whole = tt }
its_whole c x None ls e = absurd (false_true e)

there_object : (at : ℕ) (c x : Name) (o : Member) (ls : Scope) → Whole 2 1 (object_member at c x (Some o) ls)
there_object at c x (AField d t) ls = object_whole at c x (Some (AField d t)) ls refl
there_object at c x (AMethod ps r) ls = object_whole at c x (Some (AMethod ps r)) ls refl

there_its : (c x : Name) (o : Member) (ls : Scope) → Whole 2 0 (its_member c x (Some o) ls)
there_its c x (AField d t) ls = its_whole c x (Some (AField d t)) ls refl
there_its c x (AMethod ps r) ls = its_whole c x (Some (AMethod ps r)) ls refl

-- `this` comes in front of a member of its own
own_whole : (at : ℕ) (c x : Name) (o : Member) (ls : Scope) → Whole 3 0 (in_front (code.Do step.This) (object_member at c x (Some o) ls))
own_whole at c x o ls =
    let w = there_object at c x o ls in
    record {
      good =
          good_front 3 2 2 0 1 (code.Do step.This) (object_member at c x (Some o) ls) (omega arith) (omega arith)
          (step_moves 2 step.This 0 1 0 refl refl refl (omega arith)) w.good;
      whole = w.whole;
    }

top_good : (ds : Node) (x : Name) (ls : Scope) → Good 3 0 (top_name ds x ls)
top_good ds x ls = by (component_named ds x)
  where
    by : (o : Option Node) → Good 3 0 (nothing (top_head o x) ls)
    by (Some members) = good_doing 3 0 code.Nothing (IsComponent x) ls (nothing_moves 3 0)
    by None = good_doing 3 0 code.Nothing (IsDevice x) ls (nothing_moves 3 0)

-- a member that is seen
around_whole : (ds : Node) (o : Owner) (at : ℕ) (x : Name) (ls : Scope) → is_some (member_around ds o x) ≡ true → Whole 3 0 (outer_name ds o at x ls)
around_whole ds (InClass c) at x ls e = by (class_member ds c x) e
  where
    by : (o : Option Member) → is_some o ≡ true → Whole 3 0 (own_member ds at c x o ls)
    by (Some m) e = own_whole at c x m ls
    by None e = absurd (false_true e)
around_whole ds (InComponent c) at x ls e = by (component_member ds c x) e
  where
    by : (o : Option Member) → is_some o ≡ true → Whole 3 0 (near_member ds c x o ls)
    by (Some m) e = whole_wider 2 3 0 (its_member c x (Some m) ls) (omega arith) (there_its c x m ls)
    by None e = absurd (false_true e)
around_whole ds NoOwner at x ls e = absurd (false_true e)

outer_good : (ds : Node) (o : Owner) (at : ℕ) (x : Name) (ls : Scope) → Good 3 0 (outer_name ds o at x ls)
outer_good ds (InClass c) at x ls = by (class_member ds c x)
  where
    by : (o : Option Member) → Good 3 0 (own_member ds at c x o ls)
    by (Some m) = (own_whole at c x m ls).good
    by None = top_good ds x ls
outer_good ds (InComponent c) at x ls = by (component_member ds c x)
  where
    by : (o : Option Member) → Good 3 0 (near_member ds c x o ls)
    by (Some m) = (whole_wider 2 3 0 (its_member c x (Some m) ls) (omega arith) (there_its c x m ls)).good
    by None = top_good ds x ls
outer_good ds NoOwner at x ls = top_good ds x ls

local_whole : (ds : Node) (o : Owner) (at : ℕ) (x : Name) (l : Typed) (ls : Scope) → Whole 3 0 (local_or_outer ds o at x (Some l) ls)
local_whole ds o at x l ls =
    whole_wider 2 3 0 (local_or_outer ds o at x (Some l) ls) (omega arith)
    record {
      good =
          good_place 2 0 code.Nothing (step.SetLocal l.number) (single (step.Local l.number) (IsValue l.type) ls)
          (aimed_step 0 (step.SetLocal l.number) refl refl (λ e. refl) (omega arith))
          (put_value 2 (step.Local l.number) l.type ls (omega arith) refl refl refl).good;
      whole = tt;
    }

-- a name, also of a component or device
pub name_good : (ds : Node) (o : Owner) (at : ℕ) (x : Name) (ls : Scope) → Good 3 0 (resolved_name ds o at x ls)
name_good ds o at x ls = by (find_local ls.names x)
  where
    by : (l : Option Typed) → Good 3 0 (local_or_outer ds o at x l ls)
    by (Some l) = (local_whole ds o at x l ls).good
    by None = outer_good ds o at x ls

-- a name of what has a value
pub name_whole : (ds : Node) (o : Owner) (at : ℕ) (x : Name) (ls : Scope) → name_keeps ds o x ls ≡ true → Whole 3 0 (resolved_name ds o at x ls)
name_whole ds o at x ls e = by (find_local ls.names x) e
  where
    by : (l : Option Typed) → (is_some l || is_some (member_around ds o x)) ≡ true → Whole 3 0 (local_or_outer ds o at x l ls)
    by (Some l) e = local_whole ds o at x l ls
    by None e = around_whole ds o at x ls e

pub this_whole : (o : Owner) (ls : Scope) → has_this o ≡ true → Whole 3 0 (this_in o ls)
this_whole (InClass c) ls e = put_value 3 step.This (ClassType c) ls (omega arith) refl refl refl
this_whole (InComponent c) ls e = absurd (false_true e)
this_whole NoOwner ls e = absurd (false_true e)

-- ---- suffixes

register_whole : (a : Option ℕ) (ls : Scope) → WhereThere 0 (its_register a ls)
register_whole (Some a) ls e =
    record {
      good =
          good_place 2 0 code.Nothing (step.SetRegister a) (single (step.Register a) (IsValue (RawType 8)) ls)
          (aimed_step 0 (step.SetRegister a) refl refl (unset 0) (omega arith))
          (put_value 2 (step.Register a) (RawType 8) ls (omega arith) refl refl refl).good;
      whole = tt;
    }
register_whole None ls e = absurd (false_true e)

length_whole : (at : ℕ) (x : Name) (t : StaticType) (ls : Scope) → WhereThere 1 (member_suffix (tree.Nothing) at x ls (IsValue (ArrayType t)))
length_whole at x t ls e = by (bytes_eq x length_name) e
  where
    by : (b : Bool) → WhereThere 1 (if b then single (step.Length at t) (IsValue IntType) ls else nothing NoHead ls)
    by true e = one_value 2 (step.Length at t) IntType ls (omega arith) refl refl refl
    by false e = absurd (false_true e)

pub member_whole : (ds : Node) (at : ℕ) (x : Name) (ls : Scope) (h : Head) → is_there (member_suffix ds at x ls h).head ≡ true
    → Whole 2 (waits h) (member_suffix ds at x ls h)
member_whole ds at x ls (IsValue (ClassType c)) e = object_whole at c x (class_member ds c x) ls e
member_whole ds at x ls (IsValue (ArrayType t)) e = length_whole at x t ls e
member_whole ds at x ls (IsComponent c) e = its_whole c x (component_member ds c x) ls e
member_whole ds at x ls (IsDevice d) e = register_whole (register_of (device_named ds d) x) ls e
member_whole ds at x ls _ e = absurd (false_true e)

pub index_whole : (n p at : ℕ) (m : Resolved) (h i : Head) → 2 ≤ n → 1 + n ≤ p → index_keeps h i ≡ true → Valued n 0 m
    → Whole p (waits h) (index_suffix at m h)
index_whole n p at m (IsValue (ArrayType t)) i l o e v =
    let a = raised n m.does 0 1 1 1 2 (omega arith) (omega arith) (value_moves n 0 m v) in
    record {
      good =
          good_place p 1 m.does (step.SetItem at t) (then_step m (step.Item at t) (IsValue t))
          (record {
            behind = 2;
            moves = roomier n p m.does 1 2 (omega (arith, o)) a;
            taken = refl;
            left = refl;
            alone = unset 2;
            few = omega arith;
          })
          (good_doing p 1 (code.Then m.does (code.Do (step.Item at t))) (IsValue t) m.scope
          (then_moves p n 2 m.does (code.Do (step.Item at t)) 1 2 1 (omega (arith, o)) (omega (arith, l, o)) a
          (step_moves 2 (step.Item at t) 2 1 0 refl refl refl (omega arith))));
      whole = tt;
    }
index_whole n p at m _ i l o e v = absurd (false_true e)

-- a call, whose arguments wait
called : (n p i d count : ℕ) (m : Resolved) (s : Step) (t : StaticType) → takes s ≡ i + count → leaves s ≡ 1 → sets s ≡ false → count + 2 ≤ n
    → 1 + n ≤ p → Moves n m.does 0 count → Whole p i (then_step m s (IsValue t))
called n p i d count m s t et el no_set few o f =
    record {
      good =
          good_doing p i (code.Then m.does (code.Do s)) (IsValue t) m.scope
          (then_moves p n 2 m.does (code.Do s) i (i + count) 1 (omega (arith, o)) (omega (arith, few, o))
          (raised n m.does 0 count i i (i + count) (omega arith) (omega arith) f)
          (step_moves 2 s (i + count) 1 0 (omega (arith, et)) (omega (arith, el)) no_set (omega arith)));
      whole = tt;
    }

pub made_whole : (n p count : ℕ) (m : Resolved) (s : Step) (t : StaticType) → takes s ≡ count → leaves s ≡ 1 → sets s ≡ false → count + 2 ≤ n
    → 1 + n ≤ p → Moves n m.does 0 count → Whole p 0 (then_step m s (IsValue t))
made_whole n p count m s t et el no_set few o f = called n p 0 0 count m s t (omega (arith, et)) el no_set few o f

pub call_whole : (n p at count : ℕ) (m : Resolved) (ds : Node) (k : Body) (args : Node) (h : Head) (ls : Scope) → call_keeps ds k args h ls ≡ true
    → count + 2 ≤ n → 1 + n ≤ p → Moves n m.does 0 count → Whole p (waits h) (call_suffix at count m h)
call_whole n p at count m ds k args (OwnMethod at' c x ps r) ls e few o f =
    called n p 1 0 count m (step.CallMethod at c x count) r (omega arith) refl refl few o f
call_whole n p at count m ds k args (ItsMethod c x ps r) ls e few o f =
    called n p 0 0 count m (step.CallComponent c x count) r (omega arith) refl refl few o f
call_whole n p at count m ds k args (IsValue (FunctionType ps r)) ls e few o f =
    called n p 1 0 count m (step.CallValue at count ps r) r (omega arith) refl refl few o f
call_whole n p at count m ds k args _ ls e few o f = absurd (false_true e)

-- ---- operators

applied_moves : (ks : List Kind) (more : code.Code Step) (n : ℕ) → 2 ≤ n → Moves n more 1 1 → Moves n (apply_all ks more) 1 1
applied_moves [] more n l f = f
applied_moves (k ∷ ks) more n l f =
    let s = step.Apply (prefix_of k) in
    applied_moves ks (code.Then (code.Do s) more) n l
    (then_moves n n n (code.Do s) more 1 1 1 (omega arith) (omega arith) (step_moves n s 1 1 0 refl refl refl l) f)

pub prefixes_whole : (n p : ℕ) (ks : List Kind) (m : Resolved) → 2 ≤ n → 1 + n ≤ p → Valued n 0 m → Whole p 0 (with_prefixes ks m)
prefixes_whole n p ks m l o v =
    record {
      good =
          good_doing p 0 (code.Then m.does (apply_all ks code.Nothing)) m.head m.scope
          (then_one m.head v.valued
          (then_moves p n 2 m.does (apply_all ks code.Nothing) 0 1 1 (omega (arith, o)) (omega (arith, l, o)) (value_moves n 0 m v)
          (applied_moves ks code.Nothing 2 (omega arith) (nothing_moves 2 1))));
      whole = valued_whole m.head v.valued;
    }
  where
    then_one : (h : Head) → IsValued h → Moves p (code.Then m.does (apply_all ks code.Nothing)) 0 1
        → Moves p (code.Then m.does (apply_all ks code.Nothing)) 0 (waits h)
    then_one (IsValue t) w f = f
    then_one NoHead w f = absurd w
    then_one (IsComponent c) w f = absurd w
    then_one (IsDevice c) w f = absurd w
    then_one (OwnMethod at c x ps r) w f = absurd w
    then_one (ItsMethod c x ps r) w f = absurd w

side_valued : (t u : StaticType) → stand_side_by_side t u ≡ true → IsValued (result_of (operator_of kind.Concat) (IsValue t) (IsValue u))
side_valued (RawType j) (RawType k) e = tt
side_valued _ _ e = absurd (false_true e)

types_valued : (op : Kind) (ds : Node) (t u : StaticType) → operand.takes ds op t u ≡ true → IsValued (result_of (operator_of op) (IsValue t) (IsValue u))
types_valued kind.Concat ds t u e = side_valued t u e
types_valued _ ds t u e = tt

result_valued : (op : Kind) (ds : Node) (h j : Head) → operands_keep ds op h j ≡ true → IsValued (result_of (operator_of op) h j)
result_valued op ds (IsValue t) (IsValue u) e = types_valued op ds t u e
result_valued op ds _ _ e = absurd (false_true e)

first_valued : (op : Kind) (ds : Node) (h j : Head) → operands_keep ds op h j ≡ true → IsValued h
first_valued op ds (IsValue t) j e = tt
first_valued op ds _ j e = absurd (false_true e)

operated_whole : (n p at : ℕ) (op : Kind) (m : Resolved) (h : Head) → IsValued h → 2 ≤ n → 1 + n ≤ p → Valued n 0 m
    → Whole p 1 (then_step m (step.Operate at (operator_of op)) h)
operated_whole n p at op m (IsValue t) w l o v =
    let s = step.Operate at (operator_of op) in
    record {
      good =
          good_doing p 1 (code.Then m.does (code.Do s)) (IsValue t) m.scope
          (then_moves p n 2 m.does (code.Do s) 1 2 1 (omega (arith, o)) (omega (arith, l, o))
          (raised n m.does 0 1 1 1 2 (omega arith) (omega arith) (value_moves n 0 m v)) (step_moves 2 s 2 1 0 refl refl refl (omega arith)));
      whole = tt;
    }
operated_whole n p at op m _ w l o v = absurd w

by_kind : (n p at : ℕ) (op : Kind) (h : Head) (m : Resolved) → IsValued (result_of (operator_of op) h m.head) → 2 ≤ n → 1 + n ≤ p → Valued n 0 m
    → Whole p 1 (part at op h m)
by_kind n p at kind.AndAnd h m w l o v =
    record {
      good =
          good_doing p 1 (code.If m.does (code.Do (step.Put (Truth false)))) (IsValue BoolType) m.scope
          (roomier n p (code.If m.does (code.Do (step.Put (Truth false)))) 1 1 (omega (arith, o))
          (if_moves n m.does (code.Do (step.Put (Truth false))) (omega (arith, l)) (value_moves n 0 m v)
          (step_moves n (step.Put (Truth false)) 0 1 0 refl refl refl l)));
      whole = tt;
    }
by_kind n p at kind.OrOr h m w l o v =
    record {
      good =
          good_doing p 1 (code.If (code.Do (step.Put (Truth true))) m.does) (IsValue BoolType) m.scope
          (roomier n p (code.If (code.Do (step.Put (Truth true))) m.does) 1 1 (omega (arith, o))
          (if_moves n (code.Do (step.Put (Truth true))) m.does (omega (arith, l))
          (step_moves n (step.Put (Truth true)) 0 1 0 refl refl refl l) (value_moves n 0 m v)));
      whole = tt;
    }
by_kind n p at op h m w l o v = operated_whole n p at op m (result_of (operator_of op) h m.head) w l o v

pub part_whole : (n p at : ℕ) (op : Kind) (ds : Node) (h : Head) (m : Resolved) → operands_keep ds op h m.head ≡ true → 2 ≤ n → 1 + n ≤ p → Valued n 0 m
    → Whole p (waits h) (part at op h m)
part_whole n p at op ds (IsValue t) m e l o v = by_kind n p at op (IsValue t) m (result_valued op ds (IsValue t) m.head e) l o v
part_whole n p at op ds _ m e l o v = absurd (false_true e)

abbrev IsClass : StaticType → Type 0
IsClass (ClassType c) = Unit {0}
IsClass _ = ⊥

on_chain : (ds : Node) (t u : StaticType) → on_one_chain ds t u ≡ true → IsClass u
on_chain ds t (ClassType d) e = tt
on_chain ds (ClassType c) _ e = absurd (false_true e)
on_chain ds _ _ e = absurd (false_true e)

below_whole : (at : ℕ) (u : StaticType) (ls : Scope) → IsClass u → Whole 2 1 (type_part at kind.Below u ls)
below_whole at (ClassType c) ls k = one_value 2 (step.IsBelow c) BoolType ls (omega arith) refl refl refl
below_whole at _ ls k = absurd k

typed_whole : (at : ℕ) (op : Kind) (ds : Node) (t u : StaticType) (ls : Scope) → type_part_keeps ds op (IsValue t) u ≡ true → Whole 2 1 (type_part at op u ls)
typed_whole at kind.Below ds t u ls e = below_whole at u ls (on_chain ds t u e)
typed_whole at _ ds t u ls e = one_value 2 (step.CastTo at u) u ls (omega arith) refl refl refl

-- what stands before a type is a value
type_valued : (op : Kind) (ds : Node) (h : Head) (u : StaticType) → type_part_keeps ds op h u ≡ true → IsValued h
type_valued op ds (IsValue t) u e = tt
type_valued kind.Below ds _ u e = absurd (false_true e)
type_valued _ ds _ u e = absurd (false_true e)

pub type_whole : (at : ℕ) (op : Kind) (ds : Node) (h : Head) (u : StaticType) (ls : Scope) → type_part_keeps ds op h u ≡ true
    → Whole 2 (waits h) (type_part at op u ls)
type_whole at op ds (IsValue t) u ls e = typed_whole at op ds t u ls e
type_whole at op ds NoHead u ls e = absurd (type_valued op ds NoHead u e)
type_whole at op ds (IsComponent c) u ls e = absurd (type_valued op ds (IsComponent c) u e)
type_whole at op ds (IsDevice c) u ls e = absurd (type_valued op ds (IsDevice c) u e)
type_whole at op ds (OwnMethod at' c x ps r) u ls e = absurd (type_valued op ds (OwnMethod at' c x ps r) u e)
type_whole at op ds (ItsMethod c x ps r) u ls e = absurd (type_valued op ds (ItsMethod c x ps r) u e)
