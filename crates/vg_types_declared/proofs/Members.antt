-- What is found under the name of a member. Members are added one by one: the first of a name is found, by the map and by the definition; and what
-- stands in the lists of
-- fields and methods stays there as others come behind it.
use Rattle.std.proofs.Common.{◌≡◌, ℕ, zero, suc, ◌+◌, ◌<◌, Bool, true, false, List}
use Rattle.std.proofs.Common.{[], ◌∷◌, ◌++◌, length, map, Option, Some, None, is_some, slice_get, bytes_eq}
use Rattle.std.proofs.Common.{if◌then◌else◌, Decides, refl, sym, ap, ◌∙◌, subst, arith}
use Rattle.std.proofs.lemmas.Slice.Eq.{bytes_eq-Decides}
use Rattle.vg_syntax.specs.Tree.{Param, Node, Then, FieldDecl, MethodDecl}
use Rattle.vg_syntax.specs.Numbering.{count_nodes}
use Rattle.vg_source.specs.Names.{Name}
use Rattle.vg_source.specs.Types.{StaticType, MoreTypes}
use Rattle.vg_source.specs.Declared.{Member, AField, AMethod, or_else, as_member, member_in, row_of, written_type}
use Rattle.vg_core.specs.declared.program.Owner.{Owner}
use Rattle.vg_types_views.specs.ByText.{found, added}
use Rattle.vg_types_tables.specs.declared.declared.MemberNumber.{MemberNumber}
use Rattle.vg_types_tables.specs.declared.declared.MemberNumber.TheVariants.{Field, Method}
use Rattle.vg_types_members.specs.declared.member.Home.{Home}
use Rattle.vg_types_members.specs.Members.{FieldView, MethodView, HomeView, with_field, with_method, with_member, with_members, written_params}
use Rattle.vg_types_members.proofs.Growing.{found_added}
use Rattle.vg_types_declared.specs.Members.{row_from, Shows}

at_end : {A : Type 0} (xs : List A) (y : A) → slice_get (xs ++ y ∷ []) (length xs) ≡ Some y
at_end [] y = refl
at_end (x ∷ xs) y = at_end xs y

before_end : {A : Type 0} (xs : List A) (y : A) (i : ℕ) (z : A) → slice_get xs i ≡ Some z → slice_get (xs ++ y ∷ []) i ≡ Some z
before_end [] y i z h = cc
before_end (x ∷ xs) y zero z h = h
before_end (x ∷ xs) y (suc i) z h = before_end xs y i z h

or_none : {A : Type 0} (o : Option A) → o ≡ or_else o None
or_none None = refl
or_none (Some a) = refl

or_assoc : {A : Type 0} (a b c : Option A) → or_else (or_else a b) c ≡ or_else a (or_else b c)
or_assoc None b c = refl
or_assoc (Some a) b c = refl

pub row_written : (ps : List Param) → row_of ps ≡ row_from (written_params ps)
row_written [] = refl
row_written (p ∷ ps) = ap (MoreTypes (written_type p.type)) (row_written ps)

-- what stands in a list stays
abbrev pub Stays : {A : Type 0} → List A → List A → Type 0
Stays {A} xs ys = (i : ℕ) (a : A) → slice_get xs i ≡ Some a → slice_get ys i ≡ Some a

pub shows_stay : (fs gs : List FieldView) (ms ns : List MethodView) (o : Owner) (x y : Name) (k : Option MemberNumber) (r : Option Member)
    → Stays fs gs → Stays ms ns
    → Shows fs ms o x y k r → Shows gs ns o x y k r
shows_stay fs gs ms ns o x y None r f m h = h
shows_stay fs gs ms ns o x y (Some (Field i)) r f m h = (h.0, f i h.0 h.1, h.2, h.3, h.4)
shows_stay fs gs ms ns o x y (Some (Method i)) r f m h = (h.0, m i h.0 h.1, h.2, h.3, h.4)

-- what is shown is there
there : (fs : List FieldView) (ms : List MethodView) (o : Owner) (x y : Name) (n : MemberNumber) (r s : Option Member) → Shows fs ms o x y (Some n) r
    → r ≡ or_else r s
there fs ms o x y (Field i) r s h = h.4 ∙ ap (λ z. or_else z s) (sym h.4)
there fs ms o x y (Method i) r s h = h.4 ∙ ap (λ z. or_else z s) (sym h.4)

-- ---- one member more

-- what a home shows so far
abbrev pub HomeShows : Home → (x : Name) → HomeView → (Name → Option Member) → Type 0
HomeShows h x v r = (y : Name) → Shows v.fields v.methods h.owner x y (found y v.own.members) (r y)

field_shows : (h : Home) (x n : Name) (t : StaticType) (v : HomeView) (r : Name → Option Member) → HomeShows h x v r
    → HomeShows h x (with_field h n t v) (λ y. or_else (r y) (if bytes_eq n y then Some (AField x t) else None))
field_shows h x n t v r s y =
    subst (λ o. Shows w.fields w.methods h.owner x y o (or_else (r y) (if bytes_eq n y then Some (AField x t) else None)))
    (sym (found_added v.own.members n (Field (length v.fields)) y)) (by (found y v.own.members) (bytes_eq n y) (bytes_eq-Decides n y) (s y))
  where
    w : HomeView
    w = with_field h n t v

    one : FieldView
    one = record { owner = h.owner; name = n; type = t; slot = h.slot + length v.own.fields }

    by : (o : Option MemberNumber) (b : Bool) → Decides b (n ≡ y) → Shows v.fields v.methods h.owner x y o (r y)
        → Shows (v.fields ++ record { owner = h.owner; name = n; type = t; slot = h.slot + length v.own.fields } ∷ []) v.methods h.owner x y
        (if is_some o then o else if b then Some (Field (length v.fields)) else None)
        (or_else (r y) (if b then Some (AField x t) else None))
    by (Some k) b d g =
        subst (Shows (v.fields ++ record { owner = h.owner; name = n; type = t; slot = h.slot + length v.own.fields } ∷ []) v.methods h.owner x y (Some k))
        (there v.fields v.methods h.owner x y k (r y) (if b then Some (AField x t) else None) g)
        (shows_stay v.fields _ v.methods v.methods h.owner x y (Some k) (r y) (λ i a e. before_end v.fields _ i a e) (λ i a e. e) g)
    by None true d g = (
      record { owner = h.owner; name = n; type = t; slot = h.slot + length v.own.fields },
      at_end v.fields _,
      refl,
      d.0 refl,
      ap (λ z. or_else z (Some (AField x t))) g,
    )
    by None false d g = ap (λ z. or_else z None) g

method_shows : (h : Home) (x n : Name) (ps : List StaticType) (t : StaticType) (k : ℕ) (v : HomeView) (r : Name → Option Member) → HomeShows h x v r
    → HomeShows h x (with_method h n ps t k v) (λ y. or_else (r y) (if bytes_eq n y then Some (AMethod (row_from ps) t) else None))
method_shows h x n ps t k v r s y =
    subst (λ o. Shows v.fields (v.methods ++ record { owner = h.owner; name = n; params = ps; result = t; nodes = k } ∷ []) h.owner x y o
    (or_else (r y) (if bytes_eq n y then Some (AMethod (row_from ps) t) else None)))
    (sym (found_added v.own.members n (Method (length v.methods)) y)) (by (found y v.own.members) (bytes_eq n y) (bytes_eq-Decides n y) (s y))
  where
    by : (o : Option MemberNumber) (b : Bool) → Decides b (n ≡ y) → Shows v.fields v.methods h.owner x y o (r y)
        → Shows v.fields (v.methods ++ record { owner = h.owner; name = n; params = ps; result = t; nodes = k } ∷ []) h.owner x y
        (if is_some o then o else if b then Some (Method (length v.methods)) else None)
        (or_else (r y) (if b then Some (AMethod (row_from ps) t) else None))
    by (Some f) b d g =
        subst (Shows v.fields (v.methods ++ record { owner = h.owner; name = n; params = ps; result = t; nodes = k } ∷ []) h.owner x y (Some f))
        (there v.fields v.methods h.owner x y f (r y) (if b then Some (AMethod (row_from ps) t) else None) g)
        (shows_stay v.fields v.fields v.methods _ h.owner x y (Some f) (r y) (λ i a e. e) (λ i a e. before_end v.methods _ i a e) g)
    by None true d g = (
      record { owner = h.owner; name = n; params = ps; result = t; nodes = k },
      at_end v.methods _,
      refl,
      d.0 refl,
      ap (λ z. or_else z (Some (AMethod (row_from ps) t))) g,
    )
    by None false d g = ap (λ z. or_else z None) g

member_shows : (h : Home) (x : Name) (m : Node) (v : HomeView) (r : Name → Option Member) → HomeShows h x v r
    → HomeShows h x (with_member h m v) (λ y. or_else (r y) (as_member x m y))
member_shows h x (FieldDecl at n t e) v r s y = field_shows h x n (written_type t) v r s y
member_shows h x (MethodDecl at n ps t body) v r s y =
    subst (λ z. Shows v.fields (v.methods ++ record {
      owner = h.owner;
      name = n;
      params = written_params ps;
      result = written_type t;
      nodes = count_nodes body;
    } ∷ []) h.owner x y (found y (added n (Method (length v.methods)) v.own.members))
    (or_else (r y) (if bytes_eq n y then Some (AMethod z (written_type t)) else None)))
    (sym (row_written ps)) (method_shows h x n (written_params ps) (written_type t) (count_nodes body) v r s y)
member_shows h x _ v r s y = subst (Shows v.fields v.methods h.owner x y (found y v.own.members)) (or_none (r y)) (s y)

pub members_show : (h : Home) (x : Name) (ms : Node) (v : HomeView) (r : Name → Option Member) → HomeShows h x v r
    → HomeShows h x (with_members h ms v) (λ y. or_else (r y) (member_in x ms y))
members_show h x (Then m rest) v r s y =
    subst (Shows (with_members h rest (with_member h m v)).fields (with_members h rest (with_member h m v)).methods h.owner x y
    (found y (with_members h rest (with_member h m v)).own.members))
    (or_assoc (r y) (as_member x m y) (member_in x rest y))
    (members_show h x rest (with_member h m v) (λ y. or_else (r y) (as_member x m y)) (member_shows h x m v r s) y)
members_show h x _ v r s y = subst (Shows v.fields v.methods h.owner x y (found y v.own.members)) (or_none (r y)) (s y)

-- ---- what stays

member_stays : (h : Home) (m : Node) (v : HomeView) → Stays v.fields (with_member h m v).fields × Stays v.methods (with_member h m v).methods
member_stays h (FieldDecl at n t e) v = (λ i a g. before_end v.fields _ i a g, λ i a g. g)
member_stays h (MethodDecl at n ps t body) v = (λ i a g. g, λ i a g. before_end v.methods _ i a g)
member_stays h _ v = (λ i a g. g, λ i a g. g)

pub members_stay : (h : Home) (ms : Node) (v : HomeView) → Stays v.fields (with_members h ms v).fields × Stays v.methods (with_members h ms v).methods
members_stay h (Then m rest) v =
    let k = member_stays h m v in
    let j = members_stay h rest (with_member h m v) in
    (λ i a g. j.0 i a (k.0 i a g), λ i a g. j.1 i a (k.1 i a g))
members_stay h _ v = (λ i a g. g, λ i a g. g)
