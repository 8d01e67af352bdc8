-- Where the rules on what is inherited are kept, a class has under the name of a method of a class above it a method of the same types.
-- The rules are read off for one class (`class_kept`) and for one member of it (`member_keeps`); `types_kept` goes down the chain from the
-- class that declares the method: each class between has none of this name, or one of the same types.
use Rattle.std.proofs.Common.{◌≡◌, ℕ, zero, suc, ◌≤◌, ◌&&◌, ◌||◌, Bool, true, false, [], Option, Some, None, bytes_eq, if◌then◌else◌, refl, sym, ap}
use Rattle.std.proofs.Common.{◌∙◌, subst, arith}
use Rattle.std.proofs.lemmas.Slice.Eq.{bytes_eq-Decides}
use Rattle.vg_syntax.specs.Tree.{Spot, Node, Then, ClassDecl, FieldDecl, MethodDecl}
use Rattle.vg_syntax.specs.Classes.{ClassParts, class_named}
use Rattle.vg_source.specs.Names.{Name, is_among}
use Rattle.vg_source.specs.Types.{StaticType}
use Rattle.vg_source.specs.Declared.{written_type, row_of, length_of, Member, AField, AMethod, or_else, member_in, members_in, members_of}
use Rattle.vg_source.specs.Declared.{above_of, chain_from, member_on, class_member}
use Rattle.vg_rules.specs.Breach.{Breach, asks, ◌or◌}
use Rattle.vg_rules.specs.Fits.{same_type}
use Rattle.vg_rules.specs.Inherited.{is_free, is_no_field, overrides, overriding_breach, default_keeps, inherited_breach}
use Rattle.vg_types_tables.proofs.SameType.{one_static}

-- ---- parts without a breach

first_none : (a b : Option Breach) → a or b ≡ None → a ≡ None
first_none None b e = refl
first_none (Some x) b e = cc

second_none : (a b : Option Breach) → a or b ≡ None → b ≡ None
second_none None b e = e
second_none (Some x) b e = cc

holds : (b : Bool) (r : ℕ) (at : Spot) → asks b r at ≡ None → b ≡ true
holds true r at e = refl
holds false r at e = cc

-- ---- one class

some_is : {A : Type 0} {x y : A} → Some x ≡ Some y → x ≡ y
some_is e = cc

class_kept : (ds row : Node) (f g : Name) (k : ClassParts) → inherited_breach ds row ≡ None → class_named row f ≡ Some k → k.above ≡ Some g
    → overriding_breach ds g k.members ≡ None
class_kept ds (Then (ClassDecl at c (Some above) members) rest) f g k h e a = by (bytes_eq c f) e (λ q. class_kept ds rest f g k behind q a)
  where
    here : overriding_breach ds above members ≡ None
    here = first_none (overriding_breach ds above members) (asks (default_keeps ds above members) 10 at or inherited_breach ds rest) h

    behind : inherited_breach ds rest ≡ None
    behind = second_none (asks (default_keeps ds above members) 10 at) (inherited_breach ds rest)
        (second_none (overriding_breach ds above members) (asks (default_keeps ds above members) 10 at or inherited_breach ds rest) h)

    by : (b : Bool) → (if b then Some (record { at = at; above = Some above; members = members }) else class_named rest f) ≡ Some k
        → (class_named rest f ≡ Some k → overriding_breach ds g k.members ≡ None) → overriding_breach ds g k.members ≡ None
    by true q go =
        let z = some_is q in
        ap (λ m. overriding_breach ds g m) (ap (λ p. p.members) (sym z))
        ∙ ap (λ w. overriding_breach ds w members) (some_is (sym a ∙ ap (λ p. p.above) (sym z))) ∙ here
    by false q go = go q
class_kept ds (Then (ClassDecl at c None members) rest) f g k h e a = by (bytes_eq c f) e (λ q. class_kept ds rest f g k h q a)
  where
    by : (b : Bool) → (if b then Some (record { at = at; above = None; members = members }) else class_named rest f) ≡ Some k
        → (class_named rest f ≡ Some k → overriding_breach ds g k.members ≡ None) → overriding_breach ds g k.members ≡ None
    by true q go = let z : None ≡ Some g = ap (λ p. p.above) (some_is q) ∙ a in cc
    by false q go = go q
class_kept ds (Then d rest) f g k h e a = class_kept ds rest f g k h e a
class_kept ds _ f g k h e a = cc

-- ---- one member

same_name : (n x : Name) → bytes_eq n x ≡ true → n ≡ x
same_name n x e = (bytes_eq-Decides n x).0 e

-- what a member keeps beside what is inherited under its name
abbrev Keeps : Option Member → Member → Type 0
Keeps o (AField c t) = is_free o ≡ true
Keeps o (AMethod ps r) = overrides o ps r ≡ true

member_keeps : (ds : Node) (f g x : Name) (row : Node) (m : Member) → overriding_breach ds g row ≡ None → member_in f row x ≡ Some m
    → Keeps (class_member ds g x) m
member_keeps ds f g x (Then (FieldDecl at n t e) rest) m h q =
    by (bytes_eq n x) refl q
    (member_keeps ds f g x rest m (second_none (asks (is_free (class_member ds g n)) 6 at) (overriding_breach ds g rest) h))
  where
    by : (b : Bool) → bytes_eq n x ≡ b → or_else (if b then Some (AField f (written_type t)) else None) (member_in f rest x) ≡ Some m
        → (member_in f rest x ≡ Some m → Keeps (class_member ds g x) m) → Keeps (class_member ds g x) m
    by true k z go =
        subst (Keeps (class_member ds g x)) (some_is z)
        (ap (λ w. is_free (class_member ds g w)) (sym (same_name n x k))
        ∙ holds (is_free (class_member ds g n)) 6 at (first_none (asks (is_free (class_member ds g n)) 6 at) (overriding_breach ds g rest) h))
    by false k z go = go z
member_keeps ds f g x (Then (MethodDecl at n ps t body) rest) m h q =
    by (bytes_eq n x) refl q
    (member_keeps ds f g x rest m
    (second_none (asks (overrides (class_member ds g n) (row_of ps) (written_type t)) 7 at) (overriding_breach ds g rest) behind))
  where
    behind : asks (overrides (class_member ds g n) (row_of ps) (written_type t)) 7 at or overriding_breach ds g rest ≡ None
    behind = second_none (asks (is_no_field (class_member ds g n)) 6 at)
        (asks (overrides (class_member ds g n) (row_of ps) (written_type t)) 7 at or overriding_breach ds g rest) h

    by : (b : Bool) → bytes_eq n x ≡ b → or_else (if b then Some (AMethod (row_of ps) (written_type t)) else None) (member_in f rest x) ≡ Some m
        → (member_in f rest x ≡ Some m → Keeps (class_member ds g x) m) → Keeps (class_member ds g x) m
    by true k z go =
        subst (Keeps (class_member ds g x)) (some_is z)
        (ap (λ w. overrides (class_member ds g w) (row_of ps) (written_type t)) (sym (same_name n x k))
        ∙ holds (overrides (class_member ds g n) (row_of ps) (written_type t)) 7 at
        (first_none (asks (overrides (class_member ds g n) (row_of ps) (written_type t)) 7 at) (overriding_breach ds g rest) behind))
    by false k z go = go z
member_keeps ds f g x (Then d rest) m h q = member_keeps ds f g x rest m h q
member_keeps ds f g x _ m h q = cc

-- ---- chains

-- what a chain has, a longer one has
longer : (n m : ℕ) (ds : Node) (o : Option Name) (x : Name) (v : Member) → n ≤ m → member_on ds (chain_from n ds o) x ≡ Some v
    → member_on ds (chain_from m ds o) x ≡ Some v
longer zero m ds o x v l e = cc
longer (suc n) zero ds o x v l e = absurd (omega (arith, l))
longer (suc n) (suc m) ds None x v l e = cc
longer (suc n) (suc m) ds (Some c) x v l e =
    by (member_in c (members_of ds c) x) e (longer n m ds (above_of (class_named ds c)) x v (omega (arith, l)))
  where
    by : (w : Option Member) → or_else w (member_on ds (chain_from n ds (above_of (class_named ds c))) x) ≡ Some v
        → (member_on ds (chain_from n ds (above_of (class_named ds c))) x ≡ Some v → member_on ds (chain_from m ds (above_of (class_named ds c))) x ≡ Some v)
        → or_else w (member_on ds (chain_from m ds (above_of (class_named ds c))) x) ≡ Some v
    by (Some w) q go = q
    by None q go = go q

none_left : (n : ℕ) (ds : Node) → chain_from n ds None ≡ []
none_left zero ds = refl
none_left (suc n) ds = refl

both : (a b : Bool) → (a && b) ≡ true → (a ≡ true) × (b ≡ true)
both true b e = (refl, e)
both false b e = cc

-- beside a member of its name, what is inherited has the same types
beside : (own : Option Member) (up : Option Member) (ps r : StaticType) → up ≡ Some (AMethod ps r) → ((m : Member) → own ≡ Some m → Keeps up m)
    → (rest : Option Member) → rest ≡ Some (AMethod ps r) → or_else own rest ≡ Some (AMethod ps r)
beside None up ps r u k rest e = e
beside (Some (AField c t)) up ps r u k rest e = let z : false ≡ true = sym (ap is_free u) ∙ k (AField c t) refl in cc
beside (Some (AMethod qs s)) up ps r u k rest e =
    let z = both (same_type qs ps) (same_type s r) (sym (ap (λ o. overrides o qs s) u) ∙ k (AMethod qs s) refl) in
    ap (λ w. Some (AMethod w s)) (one_static qs ps z.0) ∙ ap (λ w. Some (AMethod ps w)) (one_static s r z.1)

-- a chain that has the class has the member
abbrev Higher : (n : ℕ) (ds : Node) (e x : Name) (ps r : StaticType) → Type 0
Higher n ds e x ps r =
    (g : Name) → is_among (chain_from n ds (Some g)) e ≡ true → member_on ds (chain_from n ds (Some g)) x ≡ Some (AMethod ps r)

pub types_kept : (n : ℕ) (ds : Node) (f e x : Name) (ps r : StaticType) → inherited_breach ds ds ≡ None → n ≤ length_of ds
    → is_among (chain_from n ds (Some f)) e ≡ true → member_in e (members_of ds e) x ≡ Some (AMethod ps r)
    → member_on ds (chain_from n ds (Some f)) x ≡ Some (AMethod ps r)
types_kept zero ds f e x ps r h l a q = cc
types_kept (suc n) ds f e x ps r h l a q = by (bytes_eq f e) refl a (λ g b. types_kept n ds g e x ps r h (omega (arith, l)) b q)
  where
    higher : (k : ClassParts) → class_named ds f ≡ Some k → Higher n ds e x ps r → (g : Option Name) → k.above ≡ g → is_among (chain_from n ds g) e ≡ true
        → or_else (member_in f k.members x) (member_on ds (chain_from n ds g) x) ≡ Some (AMethod ps r)
    higher k z go None w b = let y : false ≡ true = sym (ap (λ cs. is_among cs e) (none_left n ds)) ∙ b in cc
    higher k z go (Some g) w b =
        beside (member_in f k.members x) (class_member ds g x) ps r
        (longer n (length_of ds) ds (Some g) x (AMethod ps r) (omega (arith, l)) (go g b))
        (λ m y. member_keeps ds f g x k.members m (class_kept ds ds f g k h z w) y) (member_on ds (chain_from n ds (Some g)) x) (go g b)

    above : (o : Option ClassParts) → class_named ds f ≡ o → Higher n ds e x ps r → is_among (chain_from n ds (above_of o)) e ≡ true
        → or_else (member_in f (members_in o) x) (member_on ds (chain_from n ds (above_of o)) x) ≡ Some (AMethod ps r)
    above None k go b = let z : false ≡ true = sym (ap (λ cs. is_among cs e) (none_left n ds)) ∙ b in cc
    above (Some k) z go b = higher k z go k.above refl b

    by : (b : Bool) → bytes_eq f e ≡ b → (b || is_among (chain_from n ds (above_of (class_named ds f))) e) ≡ true → Higher n ds e x ps r
        → or_else (member_in f (members_of ds f) x) (member_on ds (chain_from n ds (above_of (class_named ds f))) x) ≡ Some (AMethod ps r)
    by true k b go =
        ap (λ w. or_else (member_in w (members_of ds w) x) (member_on ds (chain_from n ds (above_of (class_named ds f))) x)) (same_name f e k)
        ∙ ap (λ w. or_else w (member_on ds (chain_from n ds (above_of (class_named ds f))) x)) q
    by false k b go = above (class_named ds f) refl go b
