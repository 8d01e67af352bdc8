-- Where the members of a class have different names, no field stands under the name of one of its methods: when a field is added its name is new, so
-- no method has it, and what is added later has another name.
use Rattle.std.proofs.Common.{◌≡◌, ℕ, ◌+◌, ◌&&◌, ◌||◌, not, Bool, true, false, List, [], ◌∷◌, ◌++◌, length, Option, Some, None, is_some, slice_get, bytes_eq}
use Rattle.std.proofs.Common.{if◌then◌else◌, Decides, refl, sym, ap, ◌∙◌, subst}
use Rattle.std.proofs.lemmas.Slice.Eq.{bytes_eq-Decides}
use Rattle.vg_syntax.specs.Tree.{Spot, Node, Then, FieldDecl, MethodDecl, ConstructorDecl, ClassDecl, ComponentDecl, DeviceDecl}
use Rattle.vg_syntax.specs.Numbering.{count_nodes, numbered}
use Rattle.vg_source.specs.Names.{Name, is_among}
use Rattle.vg_source.specs.Types.{StaticType}
use Rattle.vg_source.specs.Declared.{or_else, written_type}
use Rattle.vg_rules.specs.Breach.{Breach, asks, ◌or◌}
use Rattle.vg_rules.specs.Written.{type_keeps, param_types_keep}
use Rattle.vg_rules.specs.Signatures as rules
use Rattle.vg_rules.specs.Signatures.{params_differ, constructor_keeps, members_breach, registers_breach, signatures_breach}
use Rattle.vg_core.specs.declared.program.Owner.TheVariants.{InClass, InComponent}
use Rattle.vg_types_views.specs.ByText.{found, added}
use Rattle.vg_types_tables.specs.declared.declared.MemberNumber.{MemberNumber}
use Rattle.vg_types_tables.specs.declared.declared.MemberNumber.TheVariants.{Field, Method}
use Rattle.vg_types_tables.specs.Declares.{found_in}
use Rattle.vg_types_hierarchy.specs.Inherited.{own_at}
use Rattle.vg_types_members.specs.declared.member.Home.{Home}
use Rattle.vg_types_members.specs.Members.{MethodView, HomeView, with_field, with_method, with_members, written_params}
use Rattle.vg_types_members.proofs.Growing.{found_added}
use Rattle.vg_types_homes.specs.Homes.{HomesView, no_view, home_starts, with_class, with_component, with_declarations}
use Rattle.vg_types_declared.specs.Dispatch.{named_first, Leads}
use Rattle.vg_types_declared.specs.Apart.{is_member, are_members, has_members, have_members, IsApart, AreApart}
use Rattle.vg_types_declared.proofs.Dispatching.{count_push, Pushed, inside, at_end, pushed, last_is, first_with, HomeLeads, field_leads, method_leads, Kept}
use Rattle.vg_types_declared.proofs.Dispatching.{members_keep, AllLead, class_leads, component_leads}

either : (a b : Bool) → a || b ≡ false → (a ≡ false) × (b ≡ false)
either true b e = cc
either false b e = (refl, e)

both : (a b : Bool) → a && b ≡ true → (a ≡ true) × (b ≡ true)
both true b e = (refl, e)
both false b e = cc

or_none : (a b : Option Breach) → a or b ≡ None → (a ≡ None) × (b ≡ None)
or_none (Some x) b e = cc
or_none None b e = (refl, e)

unseen : (b : Bool) (rule : ℕ) (at : Spot) → asks (not b) rule at ≡ None → b ≡ false
unseen true rule at e = cc
unseen false rule at e = refl

found_new : (m : List (Name × MemberNumber)) (n : Name) (x : MemberNumber) (y : Name) → found y m ≡ None → bytes_eq n y ≡ false
    → found y (added n x m) ≡ None
found_new m n x y e f =
    found_added m n x y ∙ ap (λ o. if is_some o then o else if bytes_eq n y then Some x else None) e ∙ ap (λ b. if b then Some x else None) f

-- ---- one home

record HomeApart (seen : List Name) (v : HomeView) : Type 0 where
  pub apart : (y : Name) → IsApart (found y v.own.members) (named_first v.methods v.own.methods y)
  pub new : (y : Name) → is_among seen y ≡ false → found y v.own.members ≡ None

field_apart : (h : Home) (n : Name) (t : StaticType) (seen : List Name) (v : HomeView) → is_among seen n ≡ false → HomeLeads v → HomeApart seen v
    → HomeApart (n ∷ seen) (with_field h n t v)
field_apart h n t seen v fresh l a = record {
  apart = λ y.
      subst (λ o. IsApart o (named_first v.methods v.own.methods y)) (sym (found_added v.own.members n (Field (length v.fields)) y))
      (by y (found y v.own.members) (bytes_eq n y) (bytes_eq-Decides n y) (a.apart y));
  new = λ y e.
      let q = either (bytes_eq n y) (is_among seen y) e in
      found_new v.own.members n (Field (length v.fields)) y (a.new y q.1) q.0;
}
  where
    free : named_first v.methods v.own.methods n ≡ None
    free = subst (λ o. Leads o (named_first v.methods v.own.methods n)) (a.new n fresh) (l.leads n)

    by : (y : Name) (o : Option MemberNumber) (b : Bool) → Decides b (n ≡ y) → IsApart o (named_first v.methods v.own.methods y)
        → IsApart (if is_some o then o else if b then Some (Field (length v.fields)) else None) (named_first v.methods v.own.methods y)
    by y (Some k) b d g = g
    by y None true d g = ap (named_first v.methods v.own.methods) (sym (d.0 refl)) ∙ free
    by y None false d g = tt

method_apart : (h : Home) (n : Name) (ps : List StaticType) (t : StaticType) (k : ℕ) (seen : List Name) (v : HomeView) → is_among seen n ≡ false
    → HomeLeads v → HomeApart seen v → HomeApart (n ∷ seen) (with_method h n ps t k v)
method_apart h n ps t k seen v fresh l a = record {
  apart = λ y.
      subst (λ o. IsApart o (named_first (v.methods ++ record { owner = h.owner; name = n; params = ps; result = t; nodes = k } ∷ [])
      (v.own.methods ++ length v.methods ∷ []) y))
      (sym (found_added v.own.members n (Method (length v.methods)) y))
      (subst (IsApart (if is_some (found y v.own.members) then found y v.own.members else if bytes_eq n y then Some (Method (length v.methods)) else None))
      (sym (first_with h n ps t k v l y)) (by y (found y v.own.members) refl (bytes_eq n y) (bytes_eq-Decides n y) (a.apart y)));
  new = λ y e.
      let q = either (bytes_eq n y) (is_among seen y) e in
      found_new v.own.members n (Method (length v.methods)) y (a.new y q.1) q.0;
}
  where
    by : (y : Name) (o : Option MemberNumber) → found y v.own.members ≡ o → (b : Bool) → Decides b (n ≡ y)
        → IsApart o (named_first v.methods v.own.methods y)
        → IsApart (if is_some o then o else if b then Some (Method (length v.methods)) else None)
        (or_else (named_first v.methods v.own.methods y) (if b then Some (length v.methods) else None))
    by y (Some (Field f)) e true d g =
        let z : None ≡ Some (Field f) = sym (a.new n fresh) ∙ ap (λ z. found z v.own.members) (d.0 refl) ∙ e in absurd (let t : true ≡ false = cc in cc)
    by y (Some (Field f)) e false d g = ap (λ z. or_else z None) g
    by y (Some (Method m)) e b d g = tt
    by y None e true d g = tt
    by y None e false d g = tt

members_apart : (ds : Node) (k : rules.Home) (made : Bool) (h : Home) (ms : Node) (seen : List Name) (v : HomeView)
    → members_breach ds k seen made ms ≡ None → are_members ms ≡ true → HomeLeads v → HomeApart seen v
    → (y : Name)
    → IsApart (found y (with_members h ms v).own.members) (named_first (with_members h ms v).methods (with_members h ms v).own.methods y)
members_apart ds k made h (Then (FieldDecl at n t e) rest) seen v b m l a =
    let q = or_none (asks (not (is_among seen n)) 6 at) (asks (type_keeps ds t) 8 at or members_breach ds k (n ∷ seen) made rest) b in
    let r = or_none (asks (type_keeps ds t) 8 at) (members_breach ds k (n ∷ seen) made rest) q.1 in
    members_apart ds k made h rest (n ∷ seen) (with_field h n (written_type t) v) r.1 m (field_leads h n (written_type t) v l)
    (field_apart h n (written_type t) seen v (unseen (is_among seen n) 6 at q.0) l a)
members_apart ds k made h (Then (MethodDecl at n ps t body) rest) seen v b m l a =
    let behind = members_breach ds k (n ∷ seen) made rest in
    let q = or_none (asks (not (is_among seen n)) 6 at) (asks (param_types_keep ds ps && type_keeps ds t) 8 at or asks (params_differ ps) 11 at or behind) b in
    let r = or_none (asks (param_types_keep ds ps && type_keeps ds t) 8 at) (asks (params_differ ps) 11 at or behind) q.1 in
    let s = or_none (asks (params_differ ps) 11 at) behind r.1 in
    members_apart ds k made h rest (n ∷ seen) (with_method h n (written_params ps) (written_type t) (count_nodes body) v) s.1 m
    (method_leads h n (written_params ps) (written_type t) (count_nodes body) v l)
    (method_apart h n (written_params ps) (written_type t) (count_nodes body) seen v (unseen (is_among seen n) 6 at q.0) l a)
members_apart ds k made h (Then (ConstructorDecl at ps calls arguments body) rest) seen v b m l a =
    let behind = members_breach ds k seen true rest in
    let q = or_none (asks (not made) 6 at)
    (asks (param_types_keep ds ps) 8 at or asks (constructor_keeps k ps calls) 9 at or asks (params_differ ps) 11 at or behind) b in
    let r = or_none (asks (param_types_keep ds ps) 8 at) (asks (constructor_keeps k ps calls) 9 at or asks (params_differ ps) 11 at or behind) q.1 in
    let s = or_none (asks (constructor_keeps k ps calls) 9 at) (asks (params_differ ps) 11 at or behind) r.1 in
    let u = or_none (asks (params_differ ps) 11 at) behind s.1 in
    members_apart ds k true h rest seen v u.1 m l a
members_apart ds k made h (Then _ rest) seen v b m l a = absurd cc
members_apart ds k made h _ seen v b m l a = a.apart

-- ---- all classes

class_apart : (v : HomesView) (ms : Node) → AllLead v → AreApart v
    → ((y : Name) → IsApart
    (found y (with_members (record { owner = InClass (length v.class_members); slot = 0 }) ms (home_starts v)).own.members)
    (named_first (with_members (record { owner = InClass (length v.class_members); slot = 0 }) ms (home_starts v)).methods
    (with_members (record { owner = InClass (length v.class_members); slot = 0 }) ms (home_starts v)).own.methods y))
    → AreApart (with_class ms v)
class_apart v ms l a new = record {
  apart = λ c y. by c y (pushed v.class_members h.own.members c) (pushed v.class_methods h.own.methods c);
}
  where
    h : HomeView
    h = with_members (record { owner = InClass (length v.class_members); slot = 0 }) ms (home_starts v)

    k : Kept v.methods (with_class ms v).methods
    k = members_keep (record { owner = InClass (length v.class_members); slot = 0 }) ms (home_starts v)

    past : {A : Type 0} (xs : List A) (i : ℕ) → i ≡ length xs → slice_get xs i ≡ None
    past [] i e = refl
    past (x ∷ xs) i e = ap (λ z. slice_get (x ∷ xs) z) e ∙ past xs (length xs) refl

    by : (c : ℕ) (y : Name) → Pushed v.class_members h.own.members c → Pushed v.class_methods h.own.methods c
        → IsApart (found_in y (slice_get (with_class ms v).class_members c))
        (named_first (with_class ms v).methods (own_at (slice_get (with_class ms v).class_methods c)) y)
    by c y (inside e) (inside f) =
        subst (λ o. IsApart (found_in y o) (named_first (with_class ms v).methods (own_at (slice_get (with_class ms v).class_methods c)) y)) (sym e)
        (subst (λ o. IsApart (found_in y (slice_get v.class_members c)) (named_first (with_class ms v).methods (own_at o) y)) (sym f)
        (subst (IsApart (found_in y (slice_get v.class_members c))) (sym (k.first (own_at (slice_get v.class_methods c)) y (l.within c))) (a.apart c y)))
    by c y (at_end e p) (at_end f q) =
        subst (λ o. IsApart (found_in y o) (named_first (with_class ms v).methods (own_at (slice_get (with_class ms v).class_methods c)) y)) (sym e)
        (subst (λ o. IsApart (found y h.own.members) (named_first (with_class ms v).methods (own_at o) y)) (sym f) (new y))
    by c y (inside e) (at_end f q) =
        let z : slice_get (v.class_members ++ h.own.members ∷ []) (length v.class_members) ≡ None =
        ap (slice_get (v.class_members ++ h.own.members ∷ [])) (l.counts ∙ sym q) ∙ e ∙ past v.class_members c (q ∙ sym l.counts) in
        let s : Some h.own.members ≡ None = sym (last_is v.class_members h.own.members) ∙ z in
        absurd (let t : true ≡ false = cc in cc)
    by c y (at_end e p) (inside f) =
        let z : slice_get (v.class_methods ++ h.own.methods ∷ []) (length v.class_methods) ≡ None =
        ap (slice_get (v.class_methods ++ h.own.methods ∷ [])) (sym l.counts ∙ sym p) ∙ f ∙ past v.class_methods c (p ∙ l.counts) in
        let s : Some h.own.methods ≡ None = sym (last_is v.class_methods h.own.methods) ∙ z in
        absurd (let t : true ≡ false = cc in cc)

component_apart : (v : HomesView) (ms : Node) → AllLead v → AreApart v → AreApart (with_component ms v)
component_apart v ms l a =
    let k = members_keep (record { owner = InComponent (length v.component_members); slot = length v.globals }) ms (home_starts v) in
    record {
      apart = λ c y.
          subst (IsApart (found_in y (slice_get v.class_members c))) (sym (k.first (own_at (slice_get v.class_methods c)) y (l.within c))) (a.apart c y);
    }

all_apart : (ds rest : Node) (v : HomesView) → signatures_breach ds rest ≡ None → have_members rest ≡ true → AllLead v → AreApart v
    → AreApart (with_declarations rest v)
all_apart ds (Then (ClassDecl at x above ms) rest) v b m l a =
    let q = or_none (members_breach ds (rules.home_of above) [] false ms) (signatures_breach ds rest) b in
    let p = both (are_members ms) (have_members rest) m in
    all_apart ds rest (with_class ms v) q.1 p.1 (class_leads v ms l)
    (class_apart v ms l a
    (members_apart ds (rules.home_of above) false (record { owner = InClass (length v.class_members); slot = 0 }) ms [] (home_starts v) q.0 p.0
    (record { leads = λ y. refl; within = tt }) (record { apart = λ y. tt; new = λ y e. refl })))
all_apart ds (Then (ComponentDecl at x ms) rest) v b m l a =
    let q = or_none (members_breach ds rules.OfComponent [] false ms) (signatures_breach ds rest) b in
    let p = both (are_members ms) (have_members rest) m in
    all_apart ds rest (with_component ms v) q.1 p.1 (component_leads v ms l) (component_apart v ms l a)
all_apart ds (Then (DeviceDecl at x registers) rest) v b m l a =
    let q = or_none (registers_breach [] registers) (signatures_breach ds rest) b in all_apart ds rest v q.1 m l a
all_apart ds (Then _ rest) v b m l a = all_apart ds rest v b m l a
all_apart ds _ v b m l a = a

pub parted : (ds : Node) → signatures_breach ds ds ≡ None → have_members ds ≡ true → AreApart (with_declarations ds no_view)
parted ds b m =
    all_apart ds ds no_view b m (record { leads = λ c y. refl; within = λ c. tt; counts = refl }) (record { apart = λ c y. tt })

-- the numbers of nodes say nothing of which are members
member_same : (i : ℕ) (m : Node) → is_member (numbered i m) ≡ is_member m
member_same i (FieldDecl at n t e) = refl
member_same i (MethodDecl at n ps t body) = refl
member_same i (ConstructorDecl at ps calls arguments body) = refl
member_same i _ = refl

members_same : (i : ℕ) (ms : Node) → are_members (numbered i ms) ≡ are_members ms
members_same i (Then m rest) =
    ap (λ b. b && are_members (numbered (i + count_nodes m) rest)) (member_same i m) ∙ ap (λ b. is_member m && b) (members_same (i + count_nodes m) rest)
members_same i _ = refl

has_same : (i : ℕ) (d : Node) → has_members (numbered i d) ≡ has_members d
has_same i (ClassDecl at c above ms) = members_same (i + 1) ms
has_same i (ComponentDecl at c ms) = members_same (i + 1) ms
has_same i _ = refl

pub have_same : (i : ℕ) (ds : Node) → have_members (numbered i ds) ≡ have_members ds
have_same i (Then d rest) =
    ap (λ b. b && have_members (numbered (i + count_nodes d) rest)) (has_same i d) ∙ ap (λ b. has_members d && b) (have_same (i + count_nodes d) rest)
have_same i _ = refl
