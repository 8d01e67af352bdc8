-- Fields and methods by their owners and their names: no two have one of both, since no two members of one class or component have one name.
use Rattle.std.proofs.Common.{◌≡◌, ℕ, suc, ◌<◌, true, false, List, [], ◌∷◌, ◌++◌, length, map, Some, slice_get, bytes_eq}
use Rattle.std.proofs.Common.{refl, sym, ap, ◌∙◌, subst, arith}
use Rattle.vg_syntax.specs.Tree.{Node, Then, FieldDecl, MethodDecl, ClassDecl, ComponentDecl}
use Rattle.vg_syntax.specs.Numbering.{count_nodes}
use Rattle.vg_source.specs.Names.{Name, is_among}
use Rattle.vg_source.specs.Declared.{written_type}
use Rattle.vg_core.specs.declared.program.Owner.{Owner}
use Rattle.vg_core.specs.declared.program.Owner.TheVariants.{InClass, InComponent}
use Rattle.vg_types_members.specs.declared.member.Home.{Home}
use Rattle.vg_types_members.specs.Members.{FieldView, MethodView, HomeView, with_field, with_method, with_members, written_params}
use Rattle.vg_types_homes.specs.Homes.{HomesView, no_view, home_starts, with_class, with_component, with_declarations}
use Rattle.vg_types_declared.proofs.Maps.{At, earlier, last, at_last}
use Rattle.vg_types_named.proofs.Lists.{count_push}
use Rattle.vg_types_named.proofs.Apart.{right, first_among, clash, Differ, AllDiffer}

-- an owner with a name
abbrev pub Key : Type 0
Key = Owner × Name

abbrev pub field_key : FieldView → Key
field_key t = (t.owner, t.name)

abbrev pub method_key : MethodView → Key
method_key t = (t.owner, t.name)

map_push : {A B : Type 0} (f : A → B) (xs : List A) (x : A) → map f (xs ++ x ∷ []) ≡ map f xs ++ f x ∷ []
map_push f [] x = refl
map_push f (y ∷ xs) x = ap (λ z. f y ∷ z) (map_push f xs x)

-- ---- keys of one owner

-- no two keys are the same
abbrev pub Ones : List Key → Type 0
Ones ks = (i j : ℕ) (a : Key) → slice_get ks i ≡ Some a → slice_get ks j ≡ Some a → i ≡ j

-- and those of this owner have these names
record Tells (o : Owner) (seen : List Name) (ks : List Key) : Type 0 where
  pub one : Ones ks
  pub mine : (i : ℕ) (x : Name) → slice_get ks i ≡ Some (o, x) → is_among seen x ≡ true

tells_more : (o : Owner) (seen : List Name) (x : Name) (ks : List Key) → Tells o seen ks → is_among seen x ≡ false → Tells o (x ∷ seen) (ks ++ (o, x) ∷ [])
tells_more o seen x ks t n = record {
  one = λ i j a e f. by_one i j a (at_last ks (o, x) i a e) (at_last ks (o, x) j a f);
  mine = λ i y e. by_mine i y (at_last ks (o, x) i (o, y) e);
}
  where
    by_one : (i j : ℕ) (a : Key) → At ks (o, x) i a → At ks (o, x) j a → i ≡ j
    by_one i j a (earlier e) (earlier f) = t.one i j a e f
    by_one i j a (last e g) (last f h) = e ∙ sym f
    by_one i j a (earlier e) (last f h) = clash (is_among seen x) (t.mine i x (e ∙ ap Some (sym h))) n
    by_one i j a (last e g) (earlier f) = clash (is_among seen x) (t.mine j x (f ∙ ap Some (sym g))) n

    by_mine : (i : ℕ) (y : Name) → At ks (o, x) i (o, y) → is_among (x ∷ seen) y ≡ true
    by_mine i y (earlier e) = right (bytes_eq x y) (is_among seen y) (t.mine i y e)
    by_mine i y (last e g) = first_among x y seen (ap (λ (k : Key). k.1) g)

tells_see : (o : Owner) (seen : List Name) (x : Name) (ks : List Key) → Tells o seen ks → Tells o (x ∷ seen) ks
tells_see o seen x ks t = record { one = t.one; mine = λ i y e. right (bytes_eq x y) (is_among seen y) (t.mine i y e) }

-- ---- one home

pub record HomeOnes (v : HomeView) : Type 0 where
  pub fields : Ones (map field_key v.fields)
  pub methods : Ones (map method_key v.methods)

home_ones : (h : Home) (ms : Node) (v : HomeView) (seen : List Name) → Differ seen ms → Tells h.owner seen (map field_key v.fields)
    → Tells h.owner seen (map method_key v.methods) → HomeOnes (with_members h ms v)
home_ones h (Then (FieldDecl at n t e) rest) v seen d f m =
    home_ones h rest (with_field h n (written_type t) v) (n ∷ seen) d.1
    (subst (Tells h.owner (n ∷ seen)) (sym (map_push field_key v.fields _)) (tells_more h.owner seen n (map field_key v.fields) f d.0))
    (tells_see h.owner seen n (map method_key v.methods) m)
home_ones h (Then (MethodDecl at n ps t body) rest) v seen d f m =
    home_ones h rest (with_method h n (written_params ps) (written_type t) (count_nodes body) v) (n ∷ seen) d.1
    (tells_see h.owner seen n (map field_key v.fields) f)
    (subst (Tells h.owner (n ∷ seen)) (sym (map_push method_key v.methods _)) (tells_more h.owner seen n (map method_key v.methods) m d.0))
home_ones h (Then _ rest) v seen d f m = home_ones h rest v seen d f m
home_ones h _ v seen d f m = record { fields = f.one; methods = m.one }

-- ---- owners that are there

-- a class or component of so many
abbrev pub InRange : (c k : ℕ) → Owner → Type 0
InRange c k (InClass a) = a < c
InRange c k (InComponent a) = a < k

abbrev pub AllOf : (Owner → Type 0) → List Key → Type 0
AllOf P ks = (i : ℕ) (a : Key) → slice_get ks i ≡ Some a → P a.0

all_of_more : (P : Owner → Type 0) (ks : List Key) (k : Key) → AllOf P ks → P k.0 → AllOf P (ks ++ k ∷ [])
all_of_more P ks k h p i a e = by (at_last ks k i a e)
  where
    by : At ks k i a → P a.0
    by (earlier f) = h i a f
    by (last f g) = subst (λ (z : Key). P z.0) g p

record HomeOf (P : Owner → Type 0) (v : HomeView) : Type 0 where
  pub fields : AllOf P (map field_key v.fields)
  pub methods : AllOf P (map method_key v.methods)

home_of : (P : Owner → Type 0) (h : Home) (ms : Node) (v : HomeView) → P h.owner → HomeOf P v → HomeOf P (with_members h ms v)
home_of P h (Then (FieldDecl at n t e) rest) v p a =
    home_of P h rest (with_field h n (written_type t) v) p (record {
      fields = subst (AllOf P) (sym (map_push field_key v.fields _)) (all_of_more P (map field_key v.fields) (h.owner, n) a.fields p);
      methods = a.methods;
    })
home_of P h (Then (MethodDecl at n ps t body) rest) v p a =
    home_of P h rest (with_method h n (written_params ps) (written_type t) (count_nodes body) v) p (record {
      fields = a.fields;
      methods = subst (AllOf P) (sym (map_push method_key v.methods _)) (all_of_more P (map method_key v.methods) (h.owner, n) a.methods p);
    })
home_of P h (Then _ rest) v p a = home_of P h rest v p a
home_of P h _ v p a = a

-- ---- all homes

pub record AllOnes (v : HomesView) : Type 0 where
  pub fields : Ones (map field_key v.fields)
  pub methods : Ones (map method_key v.methods)
  pub field_owners : AllOf (InRange (length v.class_members) (length v.component_members)) (map field_key v.fields)
  pub method_owners : AllOf (InRange (length v.class_members) (length v.component_members)) (map method_key v.methods)

class_wider : (c k : ℕ) (o : Owner) → InRange c k o → InRange (suc c) k o
class_wider c k (InClass a) h = omega (arith, h)
class_wider c k (InComponent a) h = h

component_wider : (c k : ℕ) (o : Owner) → InRange c k o → InRange c (suc k) o
component_wider c k (InClass a) h = h
component_wider c k (InComponent a) h = omega (arith, h)

class_ones : (v : HomesView) (ms : Node) → Differ [] ms → AllOnes v → AllOnes (with_class ms v)
class_ones v ms d a = record {
  fields = o.fields;
  methods = o.methods;
  field_owners =
      subst (λ c. AllOf (InRange c (length v.component_members)) (map field_key (with_class ms v).fields)) (sym (count_push v.class_members _)) r.fields;
  method_owners =
      subst (λ c. AllOf (InRange c (length v.component_members)) (map method_key (with_class ms v).methods)) (sym (count_push v.class_members _)) r.methods;
}
  where
    none : (c : ℕ) → InRange c (length v.component_members) (InClass c) → ⊥
    none c h = absurd (omega (arith, h))

    o : HomeOnes (with_members (record { owner = InClass (length v.class_members); slot = 0 }) ms (home_starts v))
    o = home_ones (record { owner = InClass (length v.class_members); slot = 0 }) ms (home_starts v) [] d
        (record { one = a.fields; mine = λ i x e. absurd (none (length v.class_members) (a.field_owners i (InClass (length v.class_members), x) e)) })
        (record { one = a.methods; mine = λ i x e. absurd (none (length v.class_members) (a.method_owners i (InClass (length v.class_members), x) e)) })

    r : HomeOf (InRange (suc (length v.class_members)) (length v.component_members))
        (with_members (record { owner = InClass (length v.class_members); slot = 0 }) ms (home_starts v))
    r = home_of (InRange (suc (length v.class_members)) (length v.component_members))
        (record { owner = InClass (length v.class_members); slot = 0 }) ms (home_starts v) (omega arith) (record {
          fields = λ i b e. class_wider (length v.class_members) (length v.component_members) b.0 (a.field_owners i b e);
          methods = λ i b e. class_wider (length v.class_members) (length v.component_members) b.0 (a.method_owners i b e);
        })

component_ones : (v : HomesView) (ms : Node) → Differ [] ms → AllOnes v → AllOnes (with_component ms v)
component_ones v ms d a = record {
  fields = o.fields;
  methods = o.methods;
  field_owners =
      subst (λ k. AllOf (InRange (length v.class_members) k) (map field_key (with_component ms v).fields)) (sym (count_push v.component_members _)) r.fields;
  method_owners =
      subst (λ k. AllOf (InRange (length v.class_members) k) (map method_key (with_component ms v).methods)) (sym (count_push v.component_members _))
      r.methods;
}
  where
    none : (k : ℕ) → InRange (length v.class_members) k (InComponent k) → ⊥
    none k h = absurd (omega (arith, h))

    o : HomeOnes (with_members (record { owner = InComponent (length v.component_members); slot = length v.globals }) ms (home_starts v))
    o = home_ones (record { owner = InComponent (length v.component_members); slot = length v.globals }) ms (home_starts v) [] d
        (record { one = a.fields; mine = λ i x e. absurd (none (length v.component_members) (a.field_owners i (InComponent _, x) e)) })
        (record { one = a.methods; mine = λ i x e. absurd (none (length v.component_members) (a.method_owners i (InComponent _, x) e)) })

    r : HomeOf (InRange (length v.class_members) (suc (length v.component_members)))
        (with_members (record { owner = InComponent (length v.component_members); slot = length v.globals }) ms (home_starts v))
    r = home_of (InRange (length v.class_members) (suc (length v.component_members)))
        (record { owner = InComponent (length v.component_members); slot = length v.globals }) ms (home_starts v) (omega arith) (record {
          fields = λ i b e. component_wider (length v.class_members) (length v.component_members) b.0 (a.field_owners i b e);
          methods = λ i b e. component_wider (length v.class_members) (length v.component_members) b.0 (a.method_owners i b e);
        })

all_ones : (ds : Node) (v : HomesView) → AllDiffer ds → AllOnes v → AllOnes (with_declarations ds v)
all_ones (Then (ClassDecl at x above ms) rest) v d a = all_ones rest (with_class ms v) d.1 (class_ones v ms d.0 a)
all_ones (Then (ComponentDecl at x ms) rest) v d a = all_ones rest (with_component ms v) d.1 (component_ones v ms d.0 a)
all_ones (Then _ rest) v d a = all_ones rest v d a
all_ones _ v d a = a

pub ones : (ds : Node) → AllDiffer ds → AllOnes (with_declarations ds no_view)
ones ds d = all_ones ds no_view d (record {
  fields = λ i j a e f. cc;
  methods = λ i j a e f. cc;
  field_owners = λ i a e. cc;
  method_owners = λ i a e. cc;
})
