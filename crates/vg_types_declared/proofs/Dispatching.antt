-- The own methods of classes by their names. A method that is added goes last, in the list and, where its name is new, in the map; and methods that
-- come behind change nothing
-- for those that are there.
use Rattle.std.proofs.Common.{◌≡◌, ℕ, zero, suc, ◌+◌, ◌<◌, Bool, true, false, List, [], ◌∷◌, ◌++◌, length, Option, Some, None, is_some, slice_get, bytes_eq}
use Rattle.std.proofs.Common.{if◌then◌else◌, refl, sym, ap, ◌∙◌, subst, arith}
use Rattle.vg_syntax.specs.Tree.{Node, Then, FieldDecl, MethodDecl, ClassDecl, ComponentDecl}
use Rattle.vg_syntax.specs.Numbering.{count_nodes}
use Rattle.vg_source.specs.Names.{Name}
use Rattle.vg_source.specs.Types.{StaticType}
use Rattle.vg_source.specs.Declared.{or_else, written_type}
use Rattle.vg_core.specs.declared.program.Owner.TheVariants.{InClass, InComponent}
use Rattle.vg_types_views.specs.ByText.{found, added}
use Rattle.vg_types_tables.specs.declared.declared.MemberNumber.{MemberNumber}
use Rattle.vg_types_tables.specs.declared.declared.MemberNumber.TheVariants.{Field, Method}
use Rattle.vg_types_tables.specs.Declares.{found_in}
use Rattle.vg_types_hierarchy.specs.Inherited.{own_at}
use Rattle.vg_types_members.specs.declared.member.Home.{Home}
use Rattle.vg_types_members.specs.Members.{MethodView, HomeView, with_field, with_method, with_member, with_members, written_params}
use Rattle.vg_types_members.proofs.Growing.{found_added}
use Rattle.vg_types_homes.specs.Homes.{HomesView, no_view, home_starts, with_class, with_component, with_declaration, with_declarations}
use Rattle.vg_types_declared.specs.Dispatch.{has_name, named_first, Leads, Dispatches}

-- ---- lists with one thing more

pub count_push : {A : Type 0} (xs : List A) (c : A) → length (xs ++ c ∷ []) ≡ suc (length xs)
count_push [] c = refl
count_push (x ∷ xs) c = ap suc (count_push xs c)

pub data Pushed {A : Type 0} (xs : List A) (y : A) (i : ℕ) : Type 0 where
  inside : slice_get (xs ++ y ∷ []) i ≡ slice_get xs i → Pushed xs y i
  at_end : slice_get (xs ++ y ∷ []) i ≡ Some y → i ≡ length xs → Pushed xs y i

pushed_later : {A : Type 0} (x : A) (xs : List A) (y : A) (i : ℕ) → Pushed xs y i → Pushed (x ∷ xs) y (suc i)
pushed_later x xs y i (inside e) = inside e
pushed_later x xs y i (at_end e f) = at_end e (ap suc f)

pub pushed : {A : Type 0} (xs : List A) (y : A) (i : ℕ) → Pushed xs y i
pushed [] y zero = at_end refl refl
pushed [] y (suc i) = inside refl
pushed (x ∷ xs) y zero = inside refl
pushed (x ∷ xs) y (suc i) = pushed_later x xs y i (pushed xs y i)

pub last_is : {A : Type 0} (xs : List A) (y : A) → slice_get (xs ++ y ∷ []) (length xs) ≡ Some y
last_is [] y = refl
last_is (x ∷ xs) y = last_is xs y

before_last : {A : Type 0} (xs : List A) (y : A) (i : ℕ) → i < length xs → slice_get (xs ++ y ∷ []) i ≡ slice_get xs i
before_last [] y i h = absurd (omega (arith, h))
before_last (x ∷ xs) y zero h = refl
before_last (x ∷ xs) y (suc i) h = before_last xs y i (omega (arith, h))

-- ---- methods that are there

abbrev pub Inside : List MethodView → List ℕ → Type 0
Inside methods [] = Unit {0}
Inside methods (m ∷ ms) = (m < length methods) × Inside methods ms

inside_more : (methods : List MethodView) (t : MethodView) (ms : List ℕ) → Inside methods ms → Inside (methods ++ t ∷ []) ms
inside_more methods t [] h = tt
inside_more methods t (m ∷ ms) h = let l = count_push methods t in let a = h.0 in (omega (arith, l, a), inside_more methods t ms h.1)

inside_push : (methods : List MethodView) (ms : List ℕ) (m : ℕ) → Inside methods ms → m < length methods → Inside methods (ms ++ m ∷ [])
inside_push methods [] m h l = (l, tt)
inside_push methods (n ∷ ms) m h l = (h.0, inside_push methods ms m h.1 l)

pub first_more : (methods : List MethodView) (t : MethodView) (ms : List ℕ) (y : Name) → Inside methods ms
    → named_first (methods ++ t ∷ []) ms y ≡ named_first methods ms y
first_more methods t [] y h = refl
first_more methods t (m ∷ ms) y h =
    ap (λ o. if has_name o y then Some m else named_first (methods ++ t ∷ []) ms y) (before_last methods t m h.0)
    ∙ ap (λ o. if has_name (slice_get methods m) y then Some m else o) (first_more methods t ms y h.1)

first_push : (methods : List MethodView) (ms : List ℕ) (m : ℕ) (y : Name)
    → named_first methods (ms ++ m ∷ []) y ≡ or_else (named_first methods ms y) (if has_name (slice_get methods m) y then Some m else None)
first_push methods [] m y = refl
first_push methods (n ∷ ms) m y = by (has_name (slice_get methods n) y) (first_push methods ms m y)
  where
    by : (b : Bool) → named_first methods (ms ++ m ∷ []) y ≡ or_else (named_first methods ms y) (if has_name (slice_get methods m) y then Some m else None)
        → (if b then Some n else named_first methods (ms ++ m ∷ []) y)
        ≡ or_else (if b then Some n else named_first methods ms y) (if has_name (slice_get methods m) y then Some m else None)
    by true e = refl
    by false e = e

-- ---- one home

pub record HomeLeads (v : HomeView) : Type 0 where
  pub leads : (y : Name) → Leads (found y v.own.members) (named_first v.methods v.own.methods y)
  pub within : Inside v.methods v.own.methods

pub field_leads : (h : Home) (n : Name) (t : StaticType) (v : HomeView) → HomeLeads v → HomeLeads (with_field h n t v)
field_leads h n t v l = record {
  leads = λ y.
      subst (λ o. Leads o (named_first v.methods v.own.methods y)) (sym (found_added v.own.members n (Field (length v.fields)) y))
      (by y (found y v.own.members) (bytes_eq n y) (l.leads y));
  within = l.within;
}
  where
    by : (y : Name) (o : Option MemberNumber) (b : Bool) → Leads o (named_first v.methods v.own.methods y)
        → Leads (if is_some o then o else if b then Some (Field (length v.fields)) else None) (named_first v.methods v.own.methods y)
    by y (Some k) b g = g
    by y None true g = tt
    by y None false g = g

-- the first method of a name, behind one more method
pub first_with : (h : Home) (n : Name) (ps : List StaticType) (t : StaticType) (k : ℕ) (v : HomeView) → HomeLeads v → (y : Name)
    → named_first (v.methods ++ record { owner = h.owner; name = n; params = ps; result = t; nodes = k } ∷ []) (v.own.methods ++ length v.methods ∷ []) y
    ≡ or_else (named_first v.methods v.own.methods y) (if bytes_eq n y then Some (length v.methods) else None)
first_with h n ps t k v l y =
    first_push (v.methods ++ record { owner = h.owner; name = n; params = ps; result = t; nodes = k } ∷ []) v.own.methods (length v.methods) y
    ∙ ap (λ o. or_else o
    (if has_name (slice_get (v.methods ++ record { owner = h.owner; name = n; params = ps; result = t; nodes = k } ∷ []) (length v.methods)) y
    then Some (length v.methods) else None)) (first_more v.methods _ v.own.methods y l.within)
    ∙ ap (λ o. or_else (named_first v.methods v.own.methods y) (if has_name o y then Some (length v.methods) else None)) (last_is v.methods _)

pub method_leads : (h : Home) (n : Name) (ps : List StaticType) (t : StaticType) (k : ℕ) (v : HomeView) → HomeLeads v
    → HomeLeads (with_method h n ps t k v)
method_leads h n ps t k v l = record {
  leads = λ y.
      subst (λ o. Leads o (named_first (v.methods ++ record { owner = h.owner; name = n; params = ps; result = t; nodes = k } ∷ [])
      (v.own.methods ++ length v.methods ∷ []) y))
      (sym (found_added v.own.members n (Method (length v.methods)) y))
      (subst (Leads (if is_some (found y v.own.members) then found y v.own.members else if bytes_eq n y then Some (Method (length v.methods)) else None))
      (sym (first_with h n ps t k v l y)) (by y (found y v.own.members) (bytes_eq n y) (l.leads y)));
  within =
      inside_push (v.methods ++ record { owner = h.owner; name = n; params = ps; result = t; nodes = k } ∷ []) v.own.methods (length v.methods)
      (inside_more v.methods _ v.own.methods l.within)
      (let c = count_push v.methods (record { owner = h.owner; name = n; params = ps; result = t; nodes = k }) in omega (arith, c));
}
  where
    by : (y : Name) (o : Option MemberNumber) (b : Bool) → Leads o (named_first v.methods v.own.methods y)
        → Leads (if is_some o then o else if b then Some (Method (length v.methods)) else None)
        (or_else (named_first v.methods v.own.methods y) (if b then Some (length v.methods) else None))
    by y (Some (Field f)) b g = tt
    by y (Some (Method m)) b g = ap (λ z. or_else z (if b then Some (length v.methods) else None)) g
    by y None true g = ap (λ z. or_else z (Some (length v.methods))) g
    by y None false g = ap (λ z. or_else z None) g

member_leads : (h : Home) (m : Node) (v : HomeView) → HomeLeads v → HomeLeads (with_member h m v)
member_leads h (FieldDecl at n t e) v l = field_leads h n (written_type t) v l
member_leads h (MethodDecl at n ps t body) v l = method_leads h n (written_params ps) (written_type t) (count_nodes body) v l
member_leads h _ v l = l

members_lead : (h : Home) (ms : Node) (v : HomeView) → HomeLeads v → HomeLeads (with_members h ms v)
members_lead h (Then m rest) v l = members_lead h rest (with_member h m v) (member_leads h m v l)
members_lead h _ v l = l

-- ---- methods that come behind

-- what holds of own methods stays as methods come behind
pub record Kept (old new : List MethodView) : Type 0 where
  pub first : (ms : List ℕ) (y : Name) → Inside old ms → named_first new ms y ≡ named_first old ms y
  pub within : (ms : List ℕ) → Inside old ms → Inside new ms

kept_itself : (old : List MethodView) → Kept old old
kept_itself old = record { first = λ ms y h. refl; within = λ ms h. h }

member_keeps : (h : Home) (m : Node) (v : HomeView) → Kept v.methods (with_member h m v).methods
member_keeps h (FieldDecl at n t e) v = kept_itself v.methods
member_keeps h (MethodDecl at n ps t body) v =
    record { first = λ ms y i. first_more v.methods _ ms y i; within = λ ms i. inside_more v.methods _ ms i }
member_keeps h _ v = kept_itself v.methods

pub members_keep : (h : Home) (ms : Node) (v : HomeView) → Kept v.methods (with_members h ms v).methods
members_keep h (Then m rest) v =
    let a = member_keeps h m v in
    let b = members_keep h rest (with_member h m v) in
    record { first = λ ms y i. b.first ms y (a.within ms i) ∙ a.first ms y i; within = λ ms i. b.within ms (a.within ms i) }
members_keep h _ v = kept_itself v.methods

-- ---- all classes

pub record AllLead (v : HomesView) : Type 0 where
  pub leads : (c : ℕ) (y : Name) → Leads (found_in y (slice_get v.class_members c)) (named_first v.methods (own_at (slice_get v.class_methods c)) y)
  pub within : (c : ℕ) → Inside v.methods (own_at (slice_get v.class_methods c))
  pub counts : length v.class_members ≡ length v.class_methods

pub class_leads : (v : HomesView) (ms : Node) → AllLead v → AllLead (with_class ms v)
class_leads v ms l = record {
  leads = λ c y. by_leads c y (pushed v.class_members h.own.members c) (pushed v.class_methods h.own.methods c);
  within = λ c. by_within c (pushed v.class_methods h.own.methods c);
  counts = count_push v.class_members h.own.members ∙ ap suc l.counts ∙ sym (count_push v.class_methods h.own.methods);
}
  where
    h : HomeView
    h = with_members (record { owner = InClass (length v.class_members); slot = 0 }) ms (home_starts v)

    k : Kept v.methods (with_class ms v).methods
    k = members_keep (record { owner = InClass (length v.class_members); slot = 0 }) ms (home_starts v)

    new : HomeLeads (with_members (record { owner = InClass (length v.class_members); slot = 0 }) ms (home_starts v))
    new = members_lead (record { owner = InClass (length v.class_members); slot = 0 }) ms (home_starts v) (record { leads = λ y. refl; within = tt })

    past : {A : Type 0} (xs : List A) (i : ℕ) → i ≡ length xs → slice_get xs i ≡ None
    past [] i e = refl
    past (x ∷ xs) i e = ap (λ z. slice_get (x ∷ xs) z) e ∙ past xs (length xs) refl

    by_leads : (c : ℕ) (y : Name) → Pushed v.class_members h.own.members c → Pushed v.class_methods h.own.methods c
        → Leads (found_in y (slice_get (with_class ms v).class_members c))
        (named_first (with_class ms v).methods (own_at (slice_get (with_class ms v).class_methods c)) y)
    by_leads c y (inside e) (inside f) =
        subst (λ o. Leads (found_in y o) (named_first (with_class ms v).methods (own_at (slice_get (with_class ms v).class_methods c)) y)) (sym e)
        (subst (λ o. Leads (found_in y (slice_get v.class_members c)) (named_first (with_class ms v).methods (own_at o) y)) (sym f)
        (subst (Leads (found_in y (slice_get v.class_members c))) (sym (k.first (own_at (slice_get v.class_methods c)) y (l.within c))) (l.leads c y)))
    by_leads c y (at_end e p) (at_end f q) =
        subst (λ o. Leads (found_in y o) (named_first (with_class ms v).methods (own_at (slice_get (with_class ms v).class_methods c)) y)) (sym e)
        (subst (λ o. Leads (found y h.own.members) (named_first (with_class ms v).methods (own_at o) y)) (sym f) (new.leads y))
    by_leads c y (inside e) (at_end f q) =
        let z : slice_get (v.class_members ++ h.own.members ∷ []) (length v.class_members) ≡ None =
        ap (slice_get (v.class_members ++ h.own.members ∷ [])) (l.counts ∙ sym q) ∙ e ∙ past v.class_members c (q ∙ sym l.counts) in
        let s : Some h.own.members ≡ None = sym (last_is v.class_members h.own.members) ∙ z in
        absurd (let t : true ≡ false = cc in cc)
    by_leads c y (at_end e p) (inside f) =
        let z : slice_get (v.class_methods ++ h.own.methods ∷ []) (length v.class_methods) ≡ None =
        ap (slice_get (v.class_methods ++ h.own.methods ∷ [])) (sym l.counts ∙ sym p) ∙ f ∙ past v.class_methods c (p ∙ l.counts) in
        let s : Some h.own.methods ≡ None = sym (last_is v.class_methods h.own.methods) ∙ z in
        absurd (let t : true ≡ false = cc in cc)

    by_within : (c : ℕ) → Pushed v.class_methods h.own.methods c → Inside (with_class ms v).methods (own_at (slice_get (with_class ms v).class_methods c))
    by_within c (inside f) =
        subst (λ o. Inside (with_class ms v).methods (own_at o)) (sym f) (k.within (own_at (slice_get v.class_methods c)) (l.within c))
    by_within c (at_end f q) = subst (λ o. Inside (with_class ms v).methods (own_at o)) (sym f) new.within

pub component_leads : (v : HomesView) (ms : Node) → AllLead v → AllLead (with_component ms v)
component_leads v ms l =
    let k = members_keep (record { owner = InComponent (length v.component_members); slot = length v.globals }) ms (home_starts v) in
    record {
      leads = λ c y.
          subst (Leads (found_in y (slice_get v.class_members c))) (sym (k.first (own_at (slice_get v.class_methods c)) y (l.within c))) (l.leads c y);
      within = λ c. k.within (own_at (slice_get v.class_methods c)) (l.within c);
      counts = l.counts;
    }

pub all_lead : (ds : Node) (v : HomesView) → AllLead v → AllLead (with_declarations ds v)
all_lead (Then (ClassDecl at x above ms) rest) v l = all_lead rest (with_class ms v) (class_leads v ms l)
all_lead (Then (ComponentDecl at x ms) rest) v l = all_lead rest (with_component ms v) (component_leads v ms l)
all_lead (Then _ rest) v l = all_lead rest v l
all_lead _ v l = l

pub dispatches : (ds : Node) → Dispatches (with_declarations ds no_view)
dispatches ds =
    let l = all_lead ds no_view (record { leads = λ c y. refl; within = λ c. tt; counts = refl }) in
    record { methods = l.leads }
