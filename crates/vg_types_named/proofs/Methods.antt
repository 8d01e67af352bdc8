-- The methods of classes and components, in order of the text: those that a class declares are its own ones, and nothing else stands among them; and
-- all methods, classes and components can be called.
use Rattle.std.proofs.Common.{◌≡◌, ℕ, zero, suc, ◌+◌, ◌<◌, List, [], ◌∷◌, ◌++◌, length, map, Some, slice_get, refl, sym, ap, ◌∙◌, subst, arith}
use Rattle.std.proofs.lemmas.Option.{slice_get-map}
use Rattle.std.specs.Option.{option_map}
use Rattle.vg_syntax.specs.Tree.{Node, Then, FieldDecl, MethodDecl, ClassDecl, ComponentDecl}
use Rattle.vg_syntax.specs.Numbering.{count_nodes}
use Rattle.vg_source.specs.Names.{Name}
use Rattle.vg_source.specs.Types.{StaticType}
use Rattle.vg_source.specs.Declared.{written_type}
use Rattle.vg_core.specs.declared.program.Owner.TheVariants.{InClass, InComponent}
use Rattle.vg_core.specs.declared.program.Target.{Target}
use Rattle.vg_core.specs.declared.program.Target.TheVariants.{Run, Construct, Start}
use Rattle.vg_types_hierarchy.specs.Inherited.{own_at}
use Rattle.vg_types_members.specs.declared.member.Home.{Home}
use Rattle.vg_types_members.specs.Members.{MethodView, HomeView, with_field, with_method, with_members, written_params}
use Rattle.vg_types_homes.specs.Homes.{HomesView, no_view, home_starts, with_class, with_component, with_declarations}
use Rattle.vg_types_declared.proofs.Maps.{At, earlier, last, at_last}
use Rattle.vg_types_declared.proofs.Members.{Stays, members_stay}
use Rattle.vg_types_declared.proofs.Slotting.{front, behind, OwnOf, older, newest, own_of, own_stays, same_class, apart}
use Rattle.vg_types_named.proofs.Lists.{count_push, at_end, before_end}

-- ---- one home

-- a method was there before, or is one of the home
data Whose (h : Home) (ms : List MethodView) (v : HomeView) (m : ℕ) (t : MethodView) : Type 0 where
  before : slice_get ms m ≡ Some t → Whose h ms v m t
  own : (j : ℕ) → t.owner ≡ h.owner → slice_get v.own.methods j ≡ Some m → Whose h ms v m t

record HomeOwns (h : Home) (ms : List MethodView) (v : HomeView) : Type 0 where
  pub each : (m : ℕ) (t : MethodView) → slice_get v.methods m ≡ Some t → Whose h ms v m t
  pub back : (j m : ℕ) → slice_get v.own.methods j ≡ Some m → (t : MethodView) × (slice_get v.methods m ≡ Some t) × (t.owner ≡ h.owner)

method_owns : (h : Home) (ms : List MethodView) (n : Name) (ps : List StaticType) (t : StaticType) (k : ℕ) (v : HomeView) → HomeOwns h ms v
    → HomeOwns h ms (with_method h n ps t k v)
method_owns h ms n ps t k v s = record {
  each = λ m u e. by_each m u (at_last v.methods (record { owner = h.owner; name = n; params = ps; result = t; nodes = k }) m u e);
  back = λ j m e. by_back j m (at_last v.own.methods (length v.methods) j m e);
}
  where
    more : (m : ℕ) (u : MethodView) → Whose h ms v m u → Whose h ms (with_method h n ps t k v) m u
    more m u (before e) = before e
    more m u (own j o g) = own j o (before_end v.own.methods (length v.methods) j m g)

    by_each : (m : ℕ) (u : MethodView) → At v.methods (record { owner = h.owner; name = n; params = ps; result = t; nodes = k }) m u
        → Whose h ms (with_method h n ps t k v) m u
    by_each m u (earlier e) = more m u (s.each m u e)
    by_each m u (last e g) =
        own (length v.own.methods) (sym (ap (λ z. z.owner) g))
        (at_end v.own.methods (length v.methods) (length v.own.methods) refl ∙ ap Some (sym e))

    by_back : (j m : ℕ) → At v.own.methods (length v.methods) j m
        → (u : MethodView) × (slice_get (with_method h n ps t k v).methods m ≡ Some u) × (u.owner ≡ h.owner)
    by_back j m (earlier e) = let b = s.back j m e in (b.0, before_end v.methods _ m b.0 b.1, b.2)
    by_back j m (last e g) = (record { owner = h.owner; name = n; params = ps; result = t; nodes = k }, at_end v.methods _ m (sym g), refl)

field_owns : (h : Home) (ms : List MethodView) (n : Name) (t : StaticType) (v : HomeView) → HomeOwns h ms v → HomeOwns h ms (with_field h n t v)
field_owns h ms n t v s = record { each = λ m u e. again m u (s.each m u e); back = s.back }
  where
    again : (m : ℕ) (u : MethodView) → Whose h ms v m u → Whose h ms (with_field h n t v) m u
    again m u (before e) = before e
    again m u (own j o g) = own j o g

members_own : (h : Home) (ms : List MethodView) (row : Node) (v : HomeView) → HomeOwns h ms v → HomeOwns h ms (with_members h row v)
members_own h ms (Then (FieldDecl at n t e) rest) v s =
    members_own h ms rest (with_field h n (written_type t) v) (field_owns h ms n (written_type t) v s)
members_own h ms (Then (MethodDecl at n ps t body) rest) v s =
    members_own h ms rest (with_method h n (written_params ps) (written_type t) (count_nodes body) v)
    (method_owns h ms n (written_params ps) (written_type t) (count_nodes body) v s)
members_own h ms (Then _ rest) v s = members_own h ms rest v s
members_own h ms _ v s = s

-- ---- all homes

-- a target is one of these
abbrev pub Stands : List Target → Target → Type 0
Stands ts t = (i : ℕ) × (slice_get ts i ≡ Some t)

pub record AllOwn (v : HomesView) : Type 0 where
  pub forth : (m c : ℕ) (t : MethodView) → slice_get v.methods m ≡ Some t → t.owner ≡ InClass c
      → (j : ℕ) × (slice_get (own_at (slice_get v.class_methods c)) j ≡ Some m)
  pub back : (c j m : ℕ) → slice_get (own_at (slice_get v.class_methods c)) j ≡ Some m
      → (t : MethodView) × (slice_get v.methods m ≡ Some t) × (t.owner ≡ InClass c)
  pub runs : (m : ℕ) (t : MethodView) → slice_get v.methods m ≡ Some t → Stands v.targets (Run m)
  pub makes : (c : ℕ) → c < length v.class_members → Stands v.targets (Construct c)
  pub starts : (k : ℕ) → k < length v.component_members → Stands v.targets (Start k)
  pub counts : length v.class_members ≡ length v.class_methods

-- what can be called, with one home more
more_stand : (ts : List Target) (x : Target) (ns : List ℕ) (t : Target) → Stands ts t → Stands ((ts ++ x ∷ []) ++ map Run ns) t
more_stand ts x ns t s = (s.0, front (ts ++ x ∷ []) (map Run ns) s.0 t (before_end ts x s.0 t s.1))

new_stands : (ts : List Target) (x : Target) (ns : List ℕ) → Stands ((ts ++ x ∷ []) ++ map Run ns) x
new_stands ts x ns = (length ts, front (ts ++ x ∷ []) (map Run ns) (length ts) x (at_end ts x (length ts) refl))

own_stands : (ts : List Target) (x : Target) (ns : List ℕ) (j m : ℕ) → slice_get ns j ≡ Some m → Stands ((ts ++ x ∷ []) ++ map Run ns) (Run m)
own_stands ts x ns j m e =
    (length (ts ++ x ∷ []) + j, behind (ts ++ x ∷ []) (map Run ns) j ∙ slice_get-map Run ns j ∙ ap (option_map Run) e)

-- one number more
data Next (n c : ℕ) : Type 0 where
  within : c < n → Next n c
  newer : c ≡ n → Next n c

next : (n c : ℕ) → c < suc n → Next n c
next zero zero h = newer refl
next zero (suc c) h = absurd (omega (arith, h))
next (suc n) zero h = within (omega arith)
next (suc n) (suc c) h = by (next n c (omega (arith, h)))
  where
    by : Next n c → Next (suc n) (suc c)
    by (within e) = within (omega (arith, e))
    by (newer e) = newer (ap suc e)

-- what stands among the own things of the newest class
at_new : (xs : List (List ℕ)) (ys : List ℕ) (c j m : ℕ) → c ≡ length xs → slice_get ys j ≡ Some m
    → slice_get (own_at (slice_get (xs ++ ys ∷ []) c)) j ≡ Some m
at_new xs ys c j m e g = ap (λ x. slice_get (own_at x) j) (at_end xs ys c e) ∙ g

class_own : (v : HomesView) (ms : Node) → AllOwn v → AllOwn (with_class ms v)
class_own v ms a = record {
  forth = λ m c t e o. by_class m c t (s.each m t e) o;
  back = λ c j m e. by_back c j m (own_of v.class_methods h.own.methods c j m e);
  runs = λ m t e. by_run m t (s.each m t e);
  makes = λ c e. by_make c (next (length v.class_members) c (let n = count_push v.class_members h.own.members in omega (arith, e, n)));
  starts = λ k e. more_stand v.targets (Construct (length v.class_members)) h.own.methods (Start k) (a.starts k e);
  counts = count_push v.class_members h.own.members ∙ ap suc a.counts ∙ sym (count_push v.class_methods h.own.methods);
}
  where
    h : HomeView
    h = with_members (record { owner = InClass (length v.class_members); slot = 0 }) ms (home_starts v)

    s : HomeOwns (record { owner = InClass (length v.class_members); slot = 0 }) v.methods
        (with_members (record { owner = InClass (length v.class_members); slot = 0 }) ms (home_starts v))
    s = members_own (record { owner = InClass (length v.class_members); slot = 0 }) v.methods ms (home_starts v)
        (record { each = λ m t e. before e; back = λ j m e. cc })

    stay : Stays v.methods (with_class ms v).methods
    stay = (members_stay (record { owner = InClass (length v.class_members); slot = 0 }) ms (home_starts v)).1

    by_class : (m c : ℕ) (t : MethodView)
        → Whose (record { owner = InClass (length v.class_members); slot = 0 }) v.methods
        (with_members (record { owner = InClass (length v.class_members); slot = 0 }) ms (home_starts v)) m t
        → t.owner ≡ InClass c → (j : ℕ) × (slice_get (own_at (slice_get (with_class ms v).class_methods c)) j ≡ Some m)
    by_class m c t (before e) o = let b = a.forth m c t e o in (b.0, own_stays v.class_methods h.own.methods c b.0 m b.1)
    by_class m c t (own j p g) o =
        (j, at_new v.class_methods h.own.methods c j m (same_class c (length v.class_members) (sym o ∙ p) ∙ a.counts) g)

    by_back : (c j m : ℕ) → OwnOf v.class_methods h.own.methods c j m
        → (t : MethodView) × (slice_get (with_class ms v).methods m ≡ Some t) × (t.owner ≡ InClass c)
    by_back c j m (older e) = let b = a.back c j m e in (b.0, stay m b.0 b.1, b.2)
    by_back c j m (newest e g) = let b = s.back j m g in (b.0, b.1, b.2 ∙ ap InClass (a.counts ∙ sym e))

    by_run : (m : ℕ) (t : MethodView)
        → Whose (record { owner = InClass (length v.class_members); slot = 0 }) v.methods
        (with_members (record { owner = InClass (length v.class_members); slot = 0 }) ms (home_starts v)) m t
        → Stands (with_class ms v).targets (Run m)
    by_run m t (before e) = more_stand v.targets (Construct (length v.class_members)) h.own.methods (Run m) (a.runs m t e)
    by_run m t (own j p g) = own_stands v.targets (Construct (length v.class_members)) h.own.methods j m g

    by_make : (c : ℕ) → Next (length v.class_members) c → Stands (with_class ms v).targets (Construct c)
    by_make c (within e) = more_stand v.targets (Construct (length v.class_members)) h.own.methods (Construct c) (a.makes c e)
    by_make c (newer e) =
        subst (λ z. Stands (with_class ms v).targets (Construct z)) (sym e)
        (new_stands v.targets (Construct (length v.class_members)) h.own.methods)

component_own : (v : HomesView) (ms : Node) → AllOwn v → AllOwn (with_component ms v)
component_own v ms a = record {
  forth = λ m c t e o. by_class m c t (s.each m t e) o;
  back = λ c j m e. let b = a.back c j m e in (b.0, stay m b.0 b.1, b.2);
  runs = λ m t e. by_run m t (s.each m t e);
  makes = λ c e. more_stand v.targets (Start (length v.component_members)) h.own.methods (Construct c) (a.makes c e);
  starts = λ k e. by_start k (next (length v.component_members) k (let n = count_push v.component_members h.own.members in omega (arith, e, n)));
  counts = a.counts;
}
  where
    h : HomeView
    h = with_members (record { owner = InComponent (length v.component_members); slot = length v.globals }) ms (home_starts v)

    s : HomeOwns (record { owner = InComponent (length v.component_members); slot = length v.globals }) v.methods
        (with_members (record { owner = InComponent (length v.component_members); slot = length v.globals }) ms (home_starts v))
    s = members_own (record { owner = InComponent (length v.component_members); slot = length v.globals }) v.methods ms (home_starts v)
        (record { each = λ m t e. before e; back = λ j m e. cc })

    stay : Stays v.methods (with_component ms v).methods
    stay = (members_stay (record { owner = InComponent (length v.component_members); slot = length v.globals }) ms (home_starts v)).1

    by_class : (m c : ℕ) (t : MethodView)
        → Whose (record { owner = InComponent (length v.component_members); slot = length v.globals }) v.methods
        (with_members (record { owner = InComponent (length v.component_members); slot = length v.globals }) ms (home_starts v)) m t
        → t.owner ≡ InClass c → (j : ℕ) × (slice_get (own_at (slice_get v.class_methods c)) j ≡ Some m)
    by_class m c t (before e) o = a.forth m c t e o
    by_class m c t (own j p g) o = apart c (length v.component_members) (sym o ∙ p)

    by_run : (m : ℕ) (t : MethodView)
        → Whose (record { owner = InComponent (length v.component_members); slot = length v.globals }) v.methods
        (with_members (record { owner = InComponent (length v.component_members); slot = length v.globals }) ms (home_starts v)) m t
        → Stands (with_component ms v).targets (Run m)
    by_run m t (before e) = more_stand v.targets (Start (length v.component_members)) h.own.methods (Run m) (a.runs m t e)
    by_run m t (own j p g) = own_stands v.targets (Start (length v.component_members)) h.own.methods j m g

    by_start : (k : ℕ) → Next (length v.component_members) k → Stands (with_component ms v).targets (Start k)
    by_start k (within e) = more_stand v.targets (Start (length v.component_members)) h.own.methods (Start k) (a.starts k e)
    by_start k (newer e) =
        subst (λ z. Stands (with_component ms v).targets (Start z)) (sym e)
        (new_stands v.targets (Start (length v.component_members)) h.own.methods)

all_own : (ds : Node) (v : HomesView) → AllOwn v → AllOwn (with_declarations ds v)
all_own (Then (ClassDecl at x above ms) rest) v a = all_own rest (with_class ms v) (class_own v ms a)
all_own (Then (ComponentDecl at x ms) rest) v a = all_own rest (with_component ms v) (component_own v ms a)
all_own (Then _ rest) v a = all_own rest v a
all_own _ v a = a

pub methods_own : (ds : Node) → AllOwn (with_declarations ds no_view)
methods_own ds = all_own ds no_view (record {
  forth = λ m c t e o. cc;
  back = λ c j m e. cc;
  runs = λ m t e. cc;
  makes = λ c e. absurd (omega (arith, e));
  starts = λ k e. absurd (omega (arith, e));
  counts = refl;
})
