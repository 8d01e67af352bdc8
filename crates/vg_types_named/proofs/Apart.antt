-- Names apart: those of classes and those of components, and those of the members of one class or component.
use Rattle.std.proofs.Common.{◌≡◌, ℕ, zero, suc, Bool, true, false, not, ◌&&◌, ◌||◌, List, [], ◌∷◌, Option, Some, None, slice_get, bytes_eq}
use Rattle.std.proofs.Common.{refl, sym, ap, ◌∙◌}
use Rattle.std.proofs.lemmas.Slice.Eq.{bytes_eq-Decides}
use Rattle.vg_syntax.specs.Tree.{Spot, Node, Then, ClassDecl, ComponentDecl, DeviceDecl, ProgramDecl, FieldDecl, MethodDecl, ConstructorDecl}
use Rattle.vg_syntax.specs.Classes.{ClassParts}
use Rattle.vg_source.specs.Names.{Name, is_among}
use Rattle.vg_rules.specs.Breach.{Breach, asks, ◌or◌}
use Rattle.vg_rules.specs.Names.{is_new, names_breach}
use Rattle.vg_rules.specs.Written.{type_keeps, param_types_keep}
use Rattle.vg_rules.specs.Signatures.{Home, OfComponent, home_of, constructor_keeps, params_differ, members_breach, registers_breach, signatures_breach}
use Rattle.vg_types_names.specs.Declarations.{are_declarations}
use Rattle.vg_types_declared.specs.Lists.{class_list, component_list}
use Rattle.vg_types_declared.specs.Apart.{are_members, have_members}

none_or : (a b : Option Breach) → a or b ≡ None → (a ≡ None) × (b ≡ None)
none_or None b e = (refl, e)
none_or (Some a) b e = cc

none_of_three : (a b c : Option Breach) → a or b or c ≡ None → (a ≡ None) × (c ≡ None)
none_of_three a b c e = let k = none_or a (b or c) e in (k.0, (none_or b c k.1).1)

none_of_four : (a b c d : Option Breach) → a or b or c or d ≡ None → (a ≡ None) × (d ≡ None)
none_of_four a b c d e = let k = none_or a (b or c or d) e in (k.0, (none_of_three b c d k.1).1)

none_asked : (b : Bool) (rule : ℕ) (at : Spot) → asks b rule at ≡ None → b ≡ true
none_asked true rule at e = refl
none_asked false rule at e = cc

not_true : (b : Bool) → not b ≡ true → b ≡ false
not_true true e = cc
not_true false e = refl

pub both : (a b : Bool) → a && b ≡ true → (a ≡ true) × (b ≡ true)
both true b e = (refl, e)
both false b e = cc

pub right : (a b : Bool) → b ≡ true → a || b ≡ true
right true b e = refl
right false b e = e

pub first_among : (x y : Name) (seen : List Name) → x ≡ y → is_among (x ∷ seen) y ≡ true
first_among x y seen e = ap (λ b. b || is_among seen y) ((bytes_eq-Decides x y).1 e)

pub clash : {P : Type 0} (b : Bool) → b ≡ true → b ≡ false → P
clash b e f = absurd (let t : true ≡ false = sym e ∙ f in cc)

abbrev first_of : {A : Type 0} → Option (Name × A) → Name
first_of (Some e) = e.0
first_of None = []

-- ---- declarations

-- a declaration has a new name
new_name : (seen : List Name) (x : Name) (at : Spot) (rest : Option Breach) → is_new seen x at or rest ≡ None → (is_among seen x ≡ false) × (rest ≡ None)
new_name seen x at rest e =
    let k = none_or (is_new seen x at) rest e in
    (not_true (is_among seen x) (none_asked (not (is_among seen x)) 1 at k.0), k.1)

unseen_class : (seen : List Name) (ds : Node) → names_breach seen ds ≡ None → are_declarations ds ≡ true → (i : ℕ) (x : Name) (p : ClassParts)
    → slice_get (class_list ds) i ≡ Some (x, p) → is_among seen x ≡ true → ⊥
unseen_class seen (Then (ClassDecl at c above members) rest) e d zero x p h m =
    clash (is_among seen x) m (ap (is_among seen) (sym (ap first_of h)) ∙ (new_name seen c at (names_breach (c ∷ seen) rest) e).0)
unseen_class seen (Then (ClassDecl at c above members) rest) e d (suc i) x p h m =
    unseen_class (c ∷ seen) rest (new_name seen c at (names_breach (c ∷ seen) rest) e).1 d i x p h (right (bytes_eq c x) (is_among seen x) m)
unseen_class seen (Then (ComponentDecl at c members) rest) e d i x p h m =
    unseen_class (c ∷ seen) rest (new_name seen c at (names_breach (c ∷ seen) rest) e).1 d i x p h (right (bytes_eq c x) (is_among seen x) m)
unseen_class seen (Then (DeviceDecl at c members) rest) e d i x p h m =
    unseen_class (c ∷ seen) rest (new_name seen c at (names_breach (c ∷ seen) rest) e).1 d i x p h (right (bytes_eq c x) (is_among seen x) m)
unseen_class seen (Then (ProgramDecl at c members) rest) e d i x p h m =
    unseen_class (c ∷ seen) rest (new_name seen c at (names_breach (c ∷ seen) rest) e).1 d i x p h (right (bytes_eq c x) (is_among seen x) m)
unseen_class seen (Then _ rest) e d i x p h m = cc
unseen_class seen _ e d i x p h m = cc

unseen_component : (seen : List Name) (ds : Node) → names_breach seen ds ≡ None → are_declarations ds ≡ true → (i : ℕ) (x : Name) (ms : Node)
    → slice_get (component_list ds) i ≡ Some (x, ms) → is_among seen x ≡ true → ⊥
unseen_component seen (Then (ComponentDecl at c members) rest) e d zero x p h m =
    clash (is_among seen x) m (ap (is_among seen) (sym (ap first_of h)) ∙ (new_name seen c at (names_breach (c ∷ seen) rest) e).0)
unseen_component seen (Then (ComponentDecl at c members) rest) e d (suc i) x p h m =
    unseen_component (c ∷ seen) rest (new_name seen c at (names_breach (c ∷ seen) rest) e).1 d i x p h (right (bytes_eq c x) (is_among seen x) m)
unseen_component seen (Then (ClassDecl at c above members) rest) e d i x p h m =
    unseen_component (c ∷ seen) rest (new_name seen c at (names_breach (c ∷ seen) rest) e).1 d i x p h (right (bytes_eq c x) (is_among seen x) m)
unseen_component seen (Then (DeviceDecl at c members) rest) e d i x p h m =
    unseen_component (c ∷ seen) rest (new_name seen c at (names_breach (c ∷ seen) rest) e).1 d i x p h (right (bytes_eq c x) (is_among seen x) m)
unseen_component seen (Then (ProgramDecl at c members) rest) e d i x p h m =
    unseen_component (c ∷ seen) rest (new_name seen c at (names_breach (c ∷ seen) rest) e).1 d i x p h (right (bytes_eq c x) (is_among seen x) m)
unseen_component seen (Then _ rest) e d i x p h m = cc
unseen_component seen _ e d i x p h m = cc

-- no class and no component have one name
pub homes_apart : (seen : List Name) (ds : Node) → names_breach seen ds ≡ None → are_declarations ds ≡ true → (i j : ℕ) (x : Name) (p : ClassParts) (ms : Node)
    → slice_get (class_list ds) i ≡ Some (x, p) → slice_get (component_list ds) j ≡ Some (x, ms) → ⊥
homes_apart seen (Then (ClassDecl at c above members) rest) e d zero j x p ms h g =
    unseen_component (c ∷ seen) rest (new_name seen c at (names_breach (c ∷ seen) rest) e).1 d j x ms g (first_among c x seen (ap first_of h))
homes_apart seen (Then (ClassDecl at c above members) rest) e d (suc i) j x p ms h g =
    homes_apart (c ∷ seen) rest (new_name seen c at (names_breach (c ∷ seen) rest) e).1 d i j x p ms h g
homes_apart seen (Then (ComponentDecl at c members) rest) e d i zero x p ms h g =
    unseen_class (c ∷ seen) rest (new_name seen c at (names_breach (c ∷ seen) rest) e).1 d i x p h (first_among c x seen (ap first_of g))
homes_apart seen (Then (ComponentDecl at c members) rest) e d i (suc j) x p ms h g =
    homes_apart (c ∷ seen) rest (new_name seen c at (names_breach (c ∷ seen) rest) e).1 d i j x p ms h g
homes_apart seen (Then (DeviceDecl at c members) rest) e d i j x p ms h g =
    homes_apart (c ∷ seen) rest (new_name seen c at (names_breach (c ∷ seen) rest) e).1 d i j x p ms h g
homes_apart seen (Then (ProgramDecl at c members) rest) e d i j x p ms h g =
    homes_apart (c ∷ seen) rest (new_name seen c at (names_breach (c ∷ seen) rest) e).1 d i j x p ms h g
homes_apart seen (Then _ rest) e d i j x p ms h g = cc
homes_apart seen _ e d i j x p ms h g = cc

-- ---- members

-- no two of these members have one name, and none has one of these names
abbrev pub Differ : (seen : List Name) → Node → Type 0
Differ seen (Then (FieldDecl at x t e) rest) = (is_among seen x ≡ false) × Differ (x ∷ seen) rest
Differ seen (Then (MethodDecl at x ps t body) rest) = (is_among seen x ≡ false) × Differ (x ∷ seen) rest
Differ seen (Then _ rest) = Differ seen rest
Differ seen _ = Unit {0}

-- so it is in all classes and components
abbrev pub AllDiffer : Node → Type 0
AllDiffer (Then (ClassDecl at c above members) rest) = Differ [] members × AllDiffer rest
AllDiffer (Then (ComponentDecl at c members) rest) = Differ [] members × AllDiffer rest
AllDiffer (Then _ rest) = AllDiffer rest
AllDiffer _ = Unit {0}

differ : (ds : Node) (home : Home) (seen : List Name) (made : Bool) (ms : Node) → members_breach ds home seen made ms ≡ None → are_members ms ≡ true
    → Differ seen ms
differ ds home seen made (Then (FieldDecl at x t e) rest) b a =
    let k = none_of_three (asks (not (is_among seen x)) 6 at) (asks (type_keeps ds t) 8 at) (members_breach ds home (x ∷ seen) made rest) b in
    (not_true (is_among seen x) (none_asked (not (is_among seen x)) 6 at k.0), differ ds home (x ∷ seen) made rest k.1 a)
differ ds home seen made (Then (MethodDecl at x ps t body) rest) b a =
    let k = none_of_four (asks (not (is_among seen x)) 6 at) (asks (param_types_keep ds ps && type_keeps ds t) 8 at) (asks (params_differ ps) 11 at)
    (members_breach ds home (x ∷ seen) made rest) b in
    (not_true (is_among seen x) (none_asked (not (is_among seen x)) 6 at k.0), differ ds home (x ∷ seen) made rest k.1 a)
differ ds home seen made (Then (ConstructorDecl at ps calls args body) rest) b a =
    let k = none_of_four (asks (param_types_keep ds ps) 8 at) (asks (constructor_keeps home ps calls) 9 at) (asks (params_differ ps) 11 at)
    (members_breach ds home seen true rest)
    (none_or (asks (not made) 6 at) (asks (param_types_keep ds ps) 8 at or asks (constructor_keeps home ps calls) 9 at
    or asks (params_differ ps) 11 at or members_breach ds home seen true rest) b).1 in
    differ ds home seen true rest k.1 a
differ ds home seen made (Then _ rest) b a = cc
differ ds home seen made _ b a = tt

pub all_differ : (ds rest : Node) → signatures_breach ds rest ≡ None → have_members rest ≡ true → AllDiffer rest
all_differ ds (Then (ClassDecl at c above members) rest) b a =
    let k = none_or (members_breach ds (home_of above) [] false members) (signatures_breach ds rest) b in
    let m = both (are_members members) (have_members rest) a in
    (differ ds (home_of above) [] false members k.0 m.0, all_differ ds rest k.1 m.1)
all_differ ds (Then (ComponentDecl at c members) rest) b a =
    let k = none_or (members_breach ds OfComponent [] false members) (signatures_breach ds rest) b in
    let m = both (are_members members) (have_members rest) a in
    (differ ds OfComponent [] false members k.0 m.0, all_differ ds rest k.1 m.1)
all_differ ds (Then (DeviceDecl at c registers) rest) b a =
    all_differ ds rest (none_or (registers_breach [] registers) (signatures_breach ds rest) b).1 a
all_differ ds (Then _ rest) b a = all_differ ds rest b a
all_differ ds _ b a = tt
