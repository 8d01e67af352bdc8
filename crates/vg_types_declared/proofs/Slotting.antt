-- Where fields stand. Each field that a home adds has as its slot the place where its number is put, behind the slot of the home; and what stands in
-- lists stays as more comes
-- behind it.
use Rattle.std.proofs.Common.{◌≡◌, ℕ, zero, suc, ◌+◌, ◌<◌, true, false, List, [], ◌∷◌}
use Rattle.std.proofs.Common.{◌++◌, length, Option, Some, None, slice_get, refl, sym, ap, ◌∙◌, subst, arith}
use Rattle.vg_syntax.specs.Tree.{Node, Then, FieldDecl, MethodDecl, ClassDecl, ComponentDecl}
use Rattle.vg_source.specs.Names.{Name}
use Rattle.vg_source.specs.Types.{StaticType}
use Rattle.vg_source.specs.Declared.{written_type}
use Rattle.vg_core.specs.declared.program.Owner.{Owner}
use Rattle.vg_core.specs.declared.program.Owner.TheVariants.{InClass, InComponent}
use Rattle.vg_types_hierarchy.specs.Inherited.{own_at}
use Rattle.vg_types_members.specs.declared.member.Home.{Home}
use Rattle.vg_types_members.specs.Members.{FieldView, HomeView, with_field, with_member, with_members}
use Rattle.vg_types_homes.specs.Homes.{HomesView, no_view, home_starts, with_class, with_component, with_declarations}
use Rattle.vg_types_declared.specs.Slots.{Slotted}
use Rattle.vg_types_declared.proofs.Maps.{At, earlier, last, at_last}
use Rattle.vg_types_declared.proofs.Members.{Stays, members_stay}

-- ---- lists

count_push : {A : Type 0} (xs : List A) (c : A) → length (xs ++ c ∷ []) ≡ suc (length xs)
count_push [] c = refl
count_push (x ∷ xs) c = ap suc (count_push xs c)

before_end : {A : Type 0} (xs : List A) (y : A) (i : ℕ) (z : A) → slice_get xs i ≡ Some z → slice_get (xs ++ y ∷ []) i ≡ Some z
before_end [] y i z h = cc
before_end (x ∷ xs) y zero z h = h
before_end (x ∷ xs) y (suc i) z h = before_end xs y i z h

the_end : {A : Type 0} (xs : List A) (y : A) (i : ℕ) → i ≡ length xs → slice_get (xs ++ y ∷ []) i ≡ Some y
the_end [] y i e = ap (slice_get (y ∷ [])) e
the_end (x ∷ xs) y i e = ap (slice_get (x ∷ (xs ++ y ∷ []))) e ∙ the_end xs y (length xs) refl

pub front : {A : Type 0} (xs ys : List A) (i : ℕ) (z : A) → slice_get xs i ≡ Some z → slice_get (xs ++ ys) i ≡ Some z
front [] ys i z h = cc
front (x ∷ xs) ys zero z h = h
front (x ∷ xs) ys (suc i) z h = front xs ys i z h

pub behind : {A : Type 0} (xs ys : List A) (j : ℕ) → slice_get (xs ++ ys) (length xs + j) ≡ slice_get ys j
behind [] ys j = let e : 0 + j ≡ j = omega arith in ap (slice_get ys) e
behind (x ∷ xs) ys j = let e : suc (length xs) + j ≡ suc (length xs + j) = omega arith in ap (slice_get (x ∷ (xs ++ ys))) e ∙ behind xs ys j

-- what stands in two lists, one behind the other
pub data Of {A : Type 0} (xs ys : List A) (i : ℕ) (z : A) : Type 0 where
  first : slice_get xs i ≡ Some z → Of xs ys i z
  second : (j : ℕ) → i ≡ length xs + j → slice_get ys j ≡ Some z → Of xs ys i z

of_later : {A : Type 0} (x : A) (xs ys : List A) (i : ℕ) (z : A) → Of xs ys i z → Of (x ∷ xs) ys (suc i) z
of_later x xs ys i z (first e) = first e
of_later x xs ys i z (second j e f) = second j (omega (arith, e)) f

pub of_two : {A : Type 0} (xs ys : List A) (i : ℕ) (z : A) → slice_get (xs ++ ys) i ≡ Some z → Of xs ys i z
of_two [] ys i z h = second i (omega arith) h
of_two (x ∷ xs) ys zero z h = first h
of_two (x ∷ xs) ys (suc i) z h = of_later x xs ys i z (of_two xs ys i z h)

pub own_stays : (xs : List (List ℕ)) (y : List ℕ) (c j f : ℕ) → slice_get (own_at (slice_get xs c)) j ≡ Some f
    → slice_get (own_at (slice_get (xs ++ y ∷ []) c)) j ≡ Some f
own_stays [] y c j f h = cc
own_stays (x ∷ xs) y zero j f h = h
own_stays (x ∷ xs) y (suc c) j f h = own_stays xs y c j f h

-- what stands among the own things of a class, where the last class is new
pub data OwnOf (xs : List (List ℕ)) (y : List ℕ) (c j f : ℕ) : Type 0 where
  older : slice_get (own_at (slice_get xs c)) j ≡ Some f → OwnOf xs y c j f
  newest : c ≡ length xs → slice_get y j ≡ Some f → OwnOf xs y c j f

own_later : (x : List ℕ) (xs : List (List ℕ)) (y : List ℕ) (c j f : ℕ) → OwnOf xs y c j f → OwnOf (x ∷ xs) y (suc c) j f
own_later x xs y c j f (older e) = older e
own_later x xs y c j f (newest e g) = newest (ap suc e) g

pub own_of : (xs : List (List ℕ)) (y : List ℕ) (c j f : ℕ) → slice_get (own_at (slice_get (xs ++ y ∷ []) c)) j ≡ Some f → OwnOf xs y c j f
own_of [] y zero j f h = newest refl h
own_of [] y (suc c) j f h = cc
own_of (x ∷ xs) y zero j f h = older h
own_of (x ∷ xs) y (suc c) j f h = own_later x xs y c j f (own_of xs y c j f h)

-- ---- one home

-- a field was there before, or is one of the home
data Whose (h : Home) (fs : List FieldView) (v : HomeView) (f : ℕ) (t : FieldView) : Type 0 where
  before : slice_get fs f ≡ Some t → Whose h fs v f t
  own : (j : ℕ) → t.owner ≡ h.owner → t.slot ≡ h.slot + j → slice_get v.own.fields j ≡ Some f → Whose h fs v f t

record HomeSlots (h : Home) (fs : List FieldView) (v : HomeView) : Type 0 where
  pub each : (f : ℕ) (t : FieldView) → slice_get v.fields f ≡ Some t → Whose h fs v f t
  pub back : (j f : ℕ) → slice_get v.own.fields j ≡ Some f
      → (t : FieldView) × (slice_get v.fields f ≡ Some t) × (t.owner ≡ h.owner) × (t.slot ≡ h.slot + j)

field_slots : (h : Home) (fs : List FieldView) (n : Name) (t : StaticType) (v : HomeView) → HomeSlots h fs v → HomeSlots h fs (with_field h n t v)
field_slots h fs n t v s = record {
  each = λ f u e. by_each f u (at_last v.fields one f u e);
  back = λ j f e. by_back j f (at_last v.own.fields (length v.fields) j f e);
}
  where
    one : FieldView
    one = record { owner = h.owner; name = n; type = t; slot = h.slot + length v.own.fields }

    more : (f : ℕ) (u : FieldView) → Whose h fs v f u → Whose h fs (with_field h n t v) f u
    more f u (before e) = before e
    more f u (own j o p g) = own j o p (before_end v.own.fields (length v.fields) j f g)

    by_each : (f : ℕ) (u : FieldView) → At v.fields (record { owner = h.owner; name = n; type = t; slot = h.slot + length v.own.fields }) f u
        → Whose h fs (with_field h n t v) f u
    by_each f u (earlier e) = more f u (s.each f u e)
    by_each f u (last e g) =
        own (length v.own.fields) (sym (ap (λ z. z.owner) g)) (sym (ap (λ z. z.slot) g))
        (the_end v.own.fields (length v.fields) (length v.own.fields) refl ∙ ap Some (sym e))

    by_back : (j f : ℕ) → At v.own.fields (length v.fields) j f
        → (u : FieldView) × (slice_get (with_field h n t v).fields f ≡ Some u) × (u.owner ≡ h.owner) × (u.slot ≡ h.slot + j)
    by_back j f (earlier e) = let b = s.back j f e in (b.0, before_end v.fields _ f b.0 b.1, b.2, b.3)
    by_back j f (last e g) =
        (record { owner = h.owner; name = n; type = t; slot = h.slot + length v.own.fields }, the_end v.fields _ f (sym g), refl, ap (λ z. h.slot + z) (sym e))

member_slots : (h : Home) (fs : List FieldView) (m : Node) (v : HomeView) → HomeSlots h fs v → HomeSlots h fs (with_member h m v)
member_slots h fs (FieldDecl at n t e) v s = field_slots h fs n (written_type t) v s
member_slots h fs (MethodDecl at n ps t body) v s = record { each = λ f u e. again f u (s.each f u e); back = s.back }
  where
    again : (f : ℕ) (u : FieldView) → Whose h fs v f u → Whose h fs (with_member h (MethodDecl at n ps t body) v) f u
    again f u (before e) = before e
    again f u (own j o p g) = own j o p g
member_slots h fs _ v s = s

members_slots : (h : Home) (fs : List FieldView) (ms : Node) (v : HomeView) → HomeSlots h fs v → HomeSlots h fs (with_members h ms v)
members_slots h fs (Then m rest) v s = members_slots h fs rest (with_member h m v) (member_slots h fs m v s)
members_slots h fs _ v s = s

starts : (h : Home) (v : HomesView) → HomeSlots h v.fields (home_starts v)
starts h v = record { each = λ f t e. before e; back = λ j f e. cc }

-- ---- all homes

pub same_class : (c d : ℕ) → InClass c ≡ InClass d → c ≡ d
same_class c d e = ap number e
  where
    number : Owner → ℕ
    number (InClass k) = k
    number (InComponent k) = k

pub apart : {P : Type 0} (c k : ℕ) → InClass c ≡ InComponent k → P
apart c k e = absurd (let f : true ≡ false = cc in cc)

record AllSlots (v : HomesView) : Type 0 where
  pub slots : Slotted v
  pub counts : length v.class_members ≡ length v.class_fields

class_slots : (v : HomesView) (ms : Node) → AllSlots v → AllSlots (with_class ms v)
class_slots v ms a = record {
  slots = record {
    of_class = λ f c t e o. by_class f c t (s.each f t e) o;
    class_back = λ c j f e. by_back c j f (own_of v.class_fields h.own.fields c j f e);
    of_component = λ f k t e o. by_component f k t (s.each f t e) o;
    global_back = λ i f e. let b = a.slots.global_back i f e in (b.0, b.1, stay f b.0 b.2, b.3, b.4);
  };
  counts = count_push v.class_members h.own.members ∙ ap suc a.counts ∙ sym (count_push v.class_fields h.own.fields);
}
  where
    home : Home
    home = record { owner = InClass (length v.class_members); slot = 0 }

    h : HomeView
    h = with_members (record { owner = InClass (length v.class_members); slot = 0 }) ms (home_starts v)

    s : HomeSlots (record { owner = InClass (length v.class_members); slot = 0 }) v.fields
        (with_members (record { owner = InClass (length v.class_members); slot = 0 }) ms (home_starts v))
    s = members_slots (record { owner = InClass (length v.class_members); slot = 0 }) v.fields ms (home_starts v)
        (starts (record { owner = InClass (length v.class_members); slot = 0 }) v)

    stay : Stays v.fields (with_class ms v).fields
    stay = (members_stay (record { owner = InClass (length v.class_members); slot = 0 }) ms (home_starts v)).0

    by_class : (f c : ℕ) (t : FieldView)
        → Whose (record { owner = InClass (length v.class_members); slot = 0 }) v.fields
        (with_members (record { owner = InClass (length v.class_members); slot = 0 }) ms (home_starts v)) f t
        → t.owner ≡ InClass c → slice_get (own_at (slice_get (with_class ms v).class_fields c)) t.slot ≡ Some f
    by_class f c t (before e) o = own_stays v.class_fields h.own.fields c t.slot f (a.slots.of_class f c t e o)
    by_class f c t (own j p q g) o =
        let n : c ≡ length v.class_fields = same_class c (length v.class_members) (sym o ∙ p) ∙ a.counts in
        let z : t.slot ≡ j = omega (arith, q) in
        ap (λ x. slice_get (own_at x) t.slot) (the_end v.class_fields h.own.fields c n) ∙ ap (slice_get h.own.fields) z ∙ g

    by_back : (c j f : ℕ) → OwnOf v.class_fields h.own.fields c j f
        → (t : FieldView) × (slice_get (with_class ms v).fields f ≡ Some t) × (t.owner ≡ InClass c) × (t.slot ≡ j)
    by_back c j f (older e) = let b = a.slots.class_back c j f e in (b.0, stay f b.0 b.1, b.2, b.3)
    by_back c j f (newest e g) =
        let b = s.back j f g in
        let q = b.3 in
        (b.0, b.1, b.2 ∙ ap InClass (a.counts ∙ sym e), omega (arith, q))

    by_component : (f k : ℕ) (t : FieldView)
        → Whose (record { owner = InClass (length v.class_members); slot = 0 }) v.fields
        (with_members (record { owner = InClass (length v.class_members); slot = 0 }) ms (home_starts v)) f t
        → t.owner ≡ InComponent k → slice_get v.globals t.slot ≡ Some f
    by_component f k t (before e) o = a.slots.of_component f k t e o
    by_component f k t (own j p q g) o = apart (length v.class_members) k (sym p ∙ o)

component_slots : (v : HomesView) (ms : Node) → AllSlots v → AllSlots (with_component ms v)
component_slots v ms a = record {
  slots = record {
    of_class = λ f c t e o. by_class f c t (s.each f t e) o;
    class_back = λ c j f e. let b = a.slots.class_back c j f e in (b.0, stay f b.0 b.1, b.2, b.3);
    of_component = λ f k t e o. by_component f k t (s.each f t e) o;
    global_back = λ i f e. by_back i f (of_two v.globals h.own.fields i f e);
  };
  counts = a.counts;
}
  where
    h : HomeView
    h = with_members (record { owner = InComponent (length v.component_members); slot = length v.globals }) ms (home_starts v)

    s : HomeSlots (record { owner = InComponent (length v.component_members); slot = length v.globals }) v.fields
        (with_members (record { owner = InComponent (length v.component_members); slot = length v.globals }) ms (home_starts v))
    s = members_slots (record { owner = InComponent (length v.component_members); slot = length v.globals }) v.fields ms (home_starts v)
        (starts (record { owner = InComponent (length v.component_members); slot = length v.globals }) v)

    stay : Stays v.fields (with_component ms v).fields
    stay = (members_stay (record { owner = InComponent (length v.component_members); slot = length v.globals }) ms (home_starts v)).0

    by_class : (f c : ℕ) (t : FieldView)
        → Whose (record { owner = InComponent (length v.component_members); slot = length v.globals }) v.fields
        (with_members (record { owner = InComponent (length v.component_members); slot = length v.globals }) ms (home_starts v)) f t
        → t.owner ≡ InClass c → slice_get (own_at (slice_get v.class_fields c)) t.slot ≡ Some f
    by_class f c t (before e) o = a.slots.of_class f c t e o
    by_class f c t (own j p q g) o = apart c (length v.component_members) (sym o ∙ p)

    by_component : (f k : ℕ) (t : FieldView)
        → Whose (record { owner = InComponent (length v.component_members); slot = length v.globals }) v.fields
        (with_members (record { owner = InComponent (length v.component_members); slot = length v.globals }) ms (home_starts v)) f t
        → t.owner ≡ InComponent k → slice_get (v.globals ++ h.own.fields) t.slot ≡ Some f
    by_component f k t (before e) o = front v.globals h.own.fields t.slot f (a.slots.of_component f k t e o)
    by_component f k t (own j p q g) o = ap (slice_get (v.globals ++ h.own.fields)) q ∙ behind v.globals h.own.fields j ∙ g

    by_back : (i f : ℕ) → Of v.globals h.own.fields i f
        → (t : FieldView) × (k : ℕ) × (slice_get (with_component ms v).fields f ≡ Some t) × (t.owner ≡ InComponent k) × (t.slot ≡ i)
    by_back i f (first e) = let b = a.slots.global_back i f e in (b.0, b.1, stay f b.0 b.2, b.3, b.4)
    by_back i f (second j e g) = let b = s.back j f g in (b.0, length v.component_members, b.1, b.2, b.3 ∙ sym e)

all_slots : (ds : Node) (v : HomesView) → AllSlots v → AllSlots (with_declarations ds v)
all_slots (Then (ClassDecl at x above ms) rest) v a = all_slots rest (with_class ms v) (class_slots v ms a)
all_slots (Then (ComponentDecl at x ms) rest) v a = all_slots rest (with_component ms v) (component_slots v ms a)
all_slots (Then _ rest) v a = all_slots rest v a
all_slots _ v a = a

pub slotted : (ds : Node) → Slotted (with_declarations ds no_view)
slotted ds =
    let a = all_slots ds no_view (record {
      slots = record {
        of_class = λ f c t e o. cc;
        class_back = λ c j f e. cc;
        of_component = λ f k t e o. cc;
        global_back = λ i f e. cc;
      };
      counts = refl;
    }) in
    a.slots
