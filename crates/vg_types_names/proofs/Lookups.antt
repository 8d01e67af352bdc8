-- A look-up in the map of declarations finds what the definition finds.
use Rattle.std.proofs.Common.{◌≡◌, ℕ, suc, ◌≤◌, ◌==◌, Bool, true, false, not, ◌&&◌, ◌||◌, List, [], ◌∷◌, Option, Some, None}
use Rattle.std.proofs.Common.{bytes_eq, if◌then◌else◌, refl, sym, ap, ◌∙◌, subst, arith, Decides}
use Rattle.std.proofs.lemmas.Bool.{eq-eqb, eqb-true}
use Rattle.std.proofs.lemmas.Slice.Eq.{bytes_eq-Decides}
use Rattle.vg_syntax.specs.Tree.{Spot, Node, Then, ClassDecl, ComponentDecl, DeviceDecl, ProgramDecl}
use Rattle.vg_syntax.specs.Classes.{class_named}
use Rattle.vg_source.specs.Names.{Name, is_among}
use Rattle.vg_source.specs.Declared.{or_else, component_named, device_named}
use Rattle.vg_rules.specs.Breach.{Breach, asks, ◌or◌}
use Rattle.vg_rules.specs.Names.{names_breach}
use Rattle.vg_types_views.specs.ByText.{found}
use Rattle.vg_types_names.specs.declared.declaration.Sort.TheVariants.{Class, Component, Device, Program}
use Rattle.vg_types_names.specs.declared.declaration.Declaration.{Declaration}
use Rattle.vg_types_names.specs.declared.declaration.Counts.{Counts}
use Rattle.vg_types_names.specs.Declarations.{no_counts, next_declaration, counted, entries, is_declaration, are_declarations}
use Rattle.vg_types_names.specs.Lookups.{node_from, found_from, class_parts, component_parts, device_parts, Agrees}
use Rattle.vg_types_names.specs.Naming.{Named, named_as}
use Rattle.vg_types_names.proofs.Passing.{the, all_one}

both : (a b : Bool) → a && b ≡ true → (a ≡ true) × (b ≡ true)
both true b e = (refl, e)
both false b e = cc

-- ---- one declaration, with what stands behind it

pub record Heads (n : Counts) (seen : List Name) (d rest : Node) : Type 0 where
  pub head : Named
  pub named : named_as d ≡ Some head
  pub listed : entries n (Then d rest) ≡ (head.name, next_declaration head.sort n) ∷ entries (counted head.sort n) rest
  pub new : is_among seen head.name ≡ false
  pub others : names_breach (head.name ∷ seen) rest ≡ None

none_asked : (b : Bool) (at : Spot) (rest : Option Breach) → asks (not b) 1 at or rest ≡ None → (b ≡ false) × (rest ≡ None)
none_asked true at rest e = cc
none_asked false at rest e = (refl, e)

heads : (n : Counts) (seen : List Name) (d rest : Node) → is_declaration d ≡ true → names_breach seen (Then d rest) ≡ None → Heads n seen d rest
heads n seen (ClassDecl at c above members) rest h e =
    let k = none_asked (is_among seen c) at (names_breach (c ∷ seen) rest) e in record { head = _; named = refl; listed = refl; new = k.0; others = k.1 }
heads n seen (ComponentDecl at c members) rest h e =
    let k = none_asked (is_among seen c) at (names_breach (c ∷ seen) rest) e in record { head = _; named = refl; listed = refl; new = k.0; others = k.1 }
heads n seen (DeviceDecl at c registers) rest h e =
    let k = none_asked (is_among seen c) at (names_breach (c ∷ seen) rest) e in record { head = _; named = refl; listed = refl; new = k.0; others = k.1 }
heads n seen (ProgramDecl at c members) rest h e =
    let k = none_asked (is_among seen c) at (names_breach (c ∷ seen) rest) e in record { head = _; named = refl; listed = refl; new = k.0; others = k.1 }
heads n seen _ rest h e = cc

or_right : (a b : Bool) → b ≡ true → a || b ≡ true
or_right true b e = refl
or_right false b e = e

or_left : (a b : Bool) → a ≡ true → a || b ≡ true
or_left true b e = refl
or_left false b e = cc

one_seen : (n : Counts) (seen : List Name) (d rest : Node) (x : Name) (h : Heads n seen d rest) → is_among seen x ≡ true
    → (is_among (h.head.name ∷ seen) x ≡ true → found x (entries (counted h.head.sort n) rest) ≡ None) → found x (entries n (Then d rest)) ≡ None
one_seen n seen d rest x h s go = ap (found x) h.listed ∙ by (bytes_eq h.head.name x) (bytes_eq-Decides h.head.name x)
  where
    clash : {P : Type 0} → false ≡ true → P
    clash e = cc

    by : (b : Bool) → Decides b (h.head.name ≡ x)
        → (if b then Some (next_declaration h.head.sort n) else found x (entries (counted h.head.sort n) rest)) ≡ None
    by true k = clash (sym h.new ∙ ap (is_among seen) (k.0 refl) ∙ s)
    by false k = go (or_right (bytes_eq h.head.name x) (is_among seen x) s)

-- a name that was seen is not declared again
seen_before : (n : Counts) (seen : List Name) (ds : Node) (x : Name) → names_breach seen ds ≡ None → are_declarations ds ≡ true → is_among seen x ≡ true
    → found x (entries n ds) ≡ None
seen_before n seen (Then d rest) x e a s =
    let k = both (is_declaration d) (are_declarations rest) a in
    let h = heads n seen d rest k.0 e in
    one_seen n seen d rest x h s (seen_before (counted h.head.sort n) (h.head.name ∷ seen) rest x h.others k.1)
seen_before n seen _ x e a s = refl

-- ---- places

-- what is found stands at this place or behind it
abbrev Late : ℕ → Option Declaration → Type 0
Late k None = Unit {0}
Late k (Some d) = k ≤ d.place

late_one : (k : ℕ) (c x : Name) (v : Declaration) (es : List (Name × Declaration)) → k ≤ v.place → Late (suc k) (found x es) → Late k (found x ((c, v) ∷ es))
late_one k c x v es h l = by (bytes_eq c x)
  where
    earlier : (o : Option Declaration) → Late (suc k) o → Late k o
    earlier None e = tt
    earlier (Some d) e = omega (arith, e)

    by : (b : Bool) → Late k (if b then Some v else found x es)
    by true = h
    by false = earlier (found x es) l

late : (n : Counts) (ds : Node) (x : Name) → Late n.all (found x (entries n ds))
late n (Then (ClassDecl at c above members) rest) x = late_one n.all c x _ _ (omega arith) (late (counted Class n) rest x)
late n (Then (ComponentDecl at c members) rest) x = late_one n.all c x _ _ (omega arith) (late (counted Component n) rest x)
late n (Then (DeviceDecl at c registers) rest) x = late_one n.all c x _ _ (omega arith) (late (counted Device n) rest x)
late n (Then (ProgramDecl at c members) rest) x = late_one n.all c x _ _ (omega arith) (late (counted Program n) rest x)
late n _ x = tt

skip : (k : ℕ) (d rest : Node) (o : Option Declaration) → Late (suc k) o → found_from k (Then d rest) o ≡ found_from (suc k) rest o
skip k d rest None l = refl
skip k d rest (Some v) l = by (k == v.place) refl
  where
    by : (b : Bool) → (k == v.place) ≡ b → (if b then Some d else node_from (suc k) rest v.place) ≡ node_from (suc k) rest v.place
    by true e = let q = eqb-true k v.place e in absurd (omega (arith, q, l))
    by false e = refl

first_place : (k : ℕ) (d rest : Node) → node_from k (Then d rest) k ≡ Some d
first_place k d rest = ap (λ b. if b then Some d else node_from (suc k) rest k) (eq-eqb k k refl)

-- ---- the look-ups

or_nothing : {P : Type 0} (p o : Option P) → o ≡ None → or_else p o ≡ p
or_nothing None o e = e
or_nothing (Some a) o e = refl

-- a look-up goes from declaration to declaration
abbrev Steps : {P : Type 0} → (Node → Name → Option P) → (Option Node → Option P) → Type 0
Steps look parts = (d rest : Node) (x : Name) (y : Named) → named_as d ≡ Some y
    → look (Then d rest) x ≡ (if bytes_eq y.name x then or_else (parts (Some d)) (look rest x) else look rest x)

abbrev not_then : Node → Bool
not_then (Then d rest) = false
not_then _ = true

abbrev Ends : {P : Type 0} → (Node → Name → Option P) → Type 0
Ends look = (ds : Node) (x : Name) → not_then ds ≡ true → look ds x ≡ None

one_agrees : {P : Type 0} (look : Node → Name → Option P) (parts : Option Node → Option P) → Steps look parts → parts None ≡ None
    → (n : Counts) (seen : List Name) (d rest : Node) (x : Name) (h : Heads n seen d rest)
    → look rest x ≡ parts (found_from (counted h.head.sort n).all rest (found x (entries (counted h.head.sort n) rest)))
    → (is_among (h.head.name ∷ seen) x ≡ true → found x (entries (counted h.head.sort n) rest) ≡ None)
    → look (Then d rest) x ≡ parts (found_from n.all (Then d rest) (found x (entries n (Then d rest))))
one_agrees {P} look parts step none n seen d rest x h ih absent =
    step d rest x h.head h.named ∙ by (bytes_eq h.head.name x) refl
    ∙ ap (λ es. parts (found_from n.all (Then d rest) (found x es))) (sym h.listed)
  where
    behind : Option Declaration
    behind = found x (entries (counted h.head.sort n) rest)

    by : (b : Bool) → bytes_eq h.head.name x ≡ b
        → (if b then or_else (parts (Some d)) (look rest x) else look rest x)
        ≡ parts (found_from n.all (Then d rest) (if b then Some (next_declaration h.head.sort n) else found x (entries (counted h.head.sort n) rest)))
    by true e =
        or_nothing (parts (Some d)) (look rest x)
        (ih ∙ ap (λ o. parts (found_from (counted h.head.sort n).all rest o)) (absent (or_left (bytes_eq h.head.name x) (is_among seen x) e)) ∙ none)
        ∙ sym (ap parts (first_place n.all d rest))
    by false e =
        ih ∙ ap (λ k. parts (found_from k rest (found x (entries (counted h.head.sort n) rest)))) (all_one h.head.sort n)
        ∙ sym (ap parts (skip n.all d rest (found x (entries (counted h.head.sort n) rest))
        (subst (λ k. Late k (found x (entries (counted h.head.sort n) rest))) (all_one h.head.sort n) (late (counted h.head.sort n) rest x))))

agrees_from : {P : Type 0} (look : Node → Name → Option P) (parts : Option Node → Option P) → Steps look parts → Ends look → parts None ≡ None
    → (n : Counts) (seen : List Name) (ds : Node) (x : Name) → names_breach seen ds ≡ None → are_declarations ds ≡ true
    → look ds x ≡ parts (found_from n.all ds (found x (entries n ds)))
agrees_from look parts step ends none n seen (Then d rest) x e a =
    let k = both (is_declaration d) (are_declarations rest) a in
    let h = heads n seen d rest k.0 e in
    one_agrees look parts step none n seen d rest x h
    (agrees_from look parts step ends none (counted h.head.sort n) (h.head.name ∷ seen) rest x h.others k.1)
    (seen_before (counted h.head.sort n) (h.head.name ∷ seen) rest x h.others k.1)
agrees_from look parts step ends none n seen ds x e a = ends ds x refl ∙ sym none

same_if : {P : Type 0} (b : Bool) (z : P) → z ≡ (if b then z else z)
same_if true z = refl
same_if false z = refl

one_or : {P : Type 0} (b : Bool) (p : P) (z : Option P) → or_else (if b then Some p else None) z ≡ (if b then Some p else z)
one_or true p z = refl
one_or false p z = refl

class_steps : Steps class_named class_parts
class_steps (ClassDecl at c above members) rest x y e =
    ap (λ o. if bytes_eq (the o).name x then Some (record { at = at; above = above; members = members }) else class_named rest x) e
class_steps (ComponentDecl at c members) rest x y e = same_if (bytes_eq y.name x) (class_named rest x)
class_steps (DeviceDecl at d registers) rest x y e = same_if (bytes_eq y.name x) (class_named rest x)
class_steps (ProgramDecl at p members) rest x y e = same_if (bytes_eq y.name x) (class_named rest x)
class_steps _ rest x y e = cc

class_ends : Ends class_named
class_ends (Then d rest) x e = cc
class_ends _ x e = refl

component_steps : Steps component_named component_parts
component_steps (ClassDecl at c above members) rest x y e = same_if (bytes_eq y.name x) (component_named rest x)
component_steps (ComponentDecl at c members) rest x y e =
    one_or (bytes_eq c x) members (component_named rest x) ∙ ap (λ o. if bytes_eq (the o).name x then Some members else component_named rest x) e
component_steps (DeviceDecl at d registers) rest x y e = same_if (bytes_eq y.name x) (component_named rest x)
component_steps (ProgramDecl at p members) rest x y e = same_if (bytes_eq y.name x) (component_named rest x)
component_steps _ rest x y e = cc

component_ends : Ends component_named
component_ends (Then d rest) x e = cc
component_ends _ x e = refl

device_steps : Steps device_named device_parts
device_steps (ClassDecl at c above members) rest x y e = same_if (bytes_eq y.name x) (device_named rest x)
device_steps (ComponentDecl at c members) rest x y e = same_if (bytes_eq y.name x) (device_named rest x)
device_steps (DeviceDecl at d registers) rest x y e =
    one_or (bytes_eq d x) registers (device_named rest x) ∙ ap (λ o. if bytes_eq (the o).name x then Some registers else device_named rest x) e
device_steps (ProgramDecl at p members) rest x y e = same_if (bytes_eq y.name x) (device_named rest x)
device_steps _ rest x y e = cc

device_ends : Ends device_named
device_ends (Then d rest) x e = cc
device_ends _ x e = refl

pub class_agrees : Agrees class_named class_parts
class_agrees = agrees_from class_named class_parts class_steps class_ends refl no_counts []

pub component_agrees : Agrees component_named component_parts
component_agrees = agrees_from component_named component_parts component_steps component_ends refl no_counts []

pub device_agrees : Agrees device_named device_parts
device_agrees = agrees_from device_named device_parts device_steps device_ends refl no_counts []
