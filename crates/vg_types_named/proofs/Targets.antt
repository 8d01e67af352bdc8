-- All that can be called, in order of the text: methods are numbered one by one.
use Rattle.std.proofs.Common.{◌≡◌, ℕ, suc, ◌+◌, List, [], ◌∷◌, ◌++◌, length, map, Some, slice_get, refl, sym, ap, ◌∙◌, subst, arith}
use Rattle.std.proofs.lemmas.List.{append_assoc}
use Rattle.vg_syntax.specs.Tree.{TypeTree, Param, Node, Then, ClassDecl, ComponentDecl, FieldDecl, MethodDecl}
use Rattle.vg_syntax.specs.Numbering.{count_nodes}
use Rattle.vg_source.specs.Names.{Name}
use Rattle.vg_source.specs.Declared.{written_type}
use Rattle.vg_core.specs.declared.program.Owner.{Owner}
use Rattle.vg_core.specs.declared.program.Owner.TheVariants.{InClass, InComponent}
use Rattle.vg_core.specs.declared.program.Target.TheVariants.{Run, Construct, Start}
use Rattle.vg_types_members.specs.declared.member.Home.{Home}
use Rattle.vg_types_members.specs.Members.{MethodView, HomeView, with_field, with_method, with_members, written_params}
use Rattle.vg_types_homes.specs.Homes.{HomesView, no_view, home_starts, with_class, with_component, with_declarations}
use Rattle.vg_types_declared.proofs.Members.{Stays, members_stay}
use Rattle.vg_types_named.specs.Targets.{count_methods, method_targets, targets_from}
use Rattle.vg_types_named.proofs.Lists.{append-none, count_push, at_end}

pub map_push : {A B : Type 0} (f : A → B) (xs : List A) (x : A) → map f (xs ++ x ∷ []) ≡ map f xs ++ f x ∷ []
map_push f [] x = refl
map_push f (y ∷ xs) x = ap (λ z. f y ∷ z) (map_push f xs x)

-- ---- one home

pub home_count : (h : Home) (ms : Node) (v : HomeView) (m : ℕ) → length v.methods ≡ m → length (with_members h ms v).methods ≡ m + count_methods ms
home_count h (Then (MethodDecl at n ps t body) rest) v m e =
    let q = home_count h rest (with_method h n (written_params ps) (written_type t) (count_nodes body) v) (suc m) (count_push v.methods _ ∙ ap suc e) in
    let r : suc m + count_methods rest ≡ m + suc (count_methods rest) = omega arith in
    q ∙ r
home_count h (Then (FieldDecl at n t e) rest) v m q = home_count h rest (with_field h n (written_type t) v) m q
home_count h (Then _ rest) v m e = home_count h rest v m e
home_count h _ v m e = let q : m ≡ m + 0 = omega arith in e ∙ q

home_targets : (h : Home) (ms : Node) (v : HomeView) (m : ℕ) → length v.methods ≡ m
    → map Run (with_members h ms v).own.methods ≡ map Run v.own.methods ++ method_targets m ms
home_targets h (Then (MethodDecl at n ps t body) rest) v m e =
    home_targets h rest (with_method h n (written_params ps) (written_type t) (count_nodes body) v) (suc m) (count_push v.methods _ ∙ ap suc e)
    ∙ ap (λ z. z ++ method_targets (suc m) rest) (map_push Run v.own.methods (length v.methods))
    ∙ append_assoc (map Run v.own.methods) (Run (length v.methods) ∷ []) (method_targets (suc m) rest)
    ∙ ap (λ z. map Run v.own.methods ++ Run z ∷ method_targets (suc m) rest) e
home_targets h (Then (FieldDecl at n t e) rest) v m q = home_targets h rest (with_field h n (written_type t) v) m q
home_targets h (Then _ rest) v m e = home_targets h rest v m e
home_targets h _ v m e = append-none (map Run v.own.methods)

-- ---- all homes

three : {A : Type 0} (xs : List A) (y : A) (ys zs : List A) → ((xs ++ y ∷ []) ++ ys) ++ zs ≡ xs ++ y ∷ (ys ++ zs)
three xs y ys zs = append_assoc (xs ++ y ∷ []) ys zs ∙ append_assoc xs (y ∷ []) (ys ++ zs)

-- so many classes, components and methods
pub record Counted (v : HomesView) (c k m : ℕ) : Type 0 where
  pub classes : length v.class_members ≡ c
  pub components : length v.component_members ≡ k
  pub methods : length v.methods ≡ m

pub class_counted : (v : HomesView) (ms : Node) (c k m : ℕ) → Counted v c k m → Counted (with_class ms v) (suc c) k (m + count_methods ms)
class_counted v ms c k m n = record {
  classes = count_push v.class_members _ ∙ ap suc n.classes;
  components = n.components;
  methods = home_count (record { owner = InClass (length v.class_members); slot = 0 }) ms (home_starts v) m n.methods;
}

pub component_counted : (v : HomesView) (ms : Node) (c k m : ℕ) → Counted v c k m → Counted (with_component ms v) c (suc k) (m + count_methods ms)
component_counted v ms c k m n = record {
  classes = n.classes;
  components = count_push v.component_members _ ∙ ap suc n.components;
  methods = home_count (record { owner = InComponent (length v.component_members); slot = length v.globals }) ms (home_starts v) m n.methods;
}

all_targets : (ds : Node) (v : HomesView) (c k m : ℕ) → Counted v c k m → (with_declarations ds v).targets ≡ v.targets ++ targets_from c k m ds
all_targets (Then (ClassDecl at x above ms) rest) v c k m n =
    all_targets rest (with_class ms v) (suc c) k (m + count_methods ms) (class_counted v ms c k m n)
    ∙ three v.targets (Construct (length v.class_members)) _ (targets_from (suc c) k (m + count_methods ms) rest)
    ∙ ap (λ z. v.targets ++ Construct z ∷ (map Run (with_members (record { owner = InClass (length v.class_members); slot = 0 }) ms
    (home_starts v)).own.methods ++ targets_from (suc c) k (m + count_methods ms) rest)) n.classes
    ∙ ap (λ z. v.targets ++ Construct c ∷ (z ++ targets_from (suc c) k (m + count_methods ms) rest))
    (home_targets (record { owner = InClass (length v.class_members); slot = 0 }) ms (home_starts v) m n.methods)
all_targets (Then (ComponentDecl at x ms) rest) v c k m n =
    all_targets rest (with_component ms v) c (suc k) (m + count_methods ms) (component_counted v ms c k m n)
    ∙ three v.targets (Start (length v.component_members)) _ (targets_from c (suc k) (m + count_methods ms) rest)
    ∙ ap (λ z. v.targets ++ Start z ∷ (map Run (with_members (record { owner = InComponent (length v.component_members); slot = length v.globals }) ms
    (home_starts v)).own.methods ++ targets_from c (suc k) (m + count_methods ms) rest)) n.components
    ∙ ap (λ z. v.targets ++ Start k ∷ (z ++ targets_from c (suc k) (m + count_methods ms) rest))
    (home_targets (record { owner = InComponent (length v.component_members); slot = length v.globals }) ms (home_starts v) m n.methods)
all_targets (Then _ rest) v c k m n = all_targets rest v c k m n
all_targets _ v c k m n = append-none v.targets

pub no_counted : Counted no_view 0 0 0
no_counted = record { classes = refl; components = refl; methods = refl }

pub targets_made : (ds : Node) → (with_declarations ds no_view).targets ≡ targets_from 0 0 0 ds
targets_made ds = all_targets ds no_view 0 0 0 no_counted

-- ---- the methods that are written

-- a method of this owner, as it is written
abbrev pub written : Owner → (name : Name) → List Param → TypeTree → (body : Node) → MethodView
written o n ps t body = record { owner = o; name = n; params = written_params ps; result = written_type t; nodes = count_nodes body }

-- the methods among members, the first of which has this number
abbrev pub WrittenIn : List MethodView → Owner → ℕ → Node → Type 0
WrittenIn methods o m (Then (MethodDecl at n ps t body) rest) = (slice_get methods m ≡ Some (written o n ps t body)) × WrittenIn methods o (suc m) rest
WrittenIn methods o m (Then _ rest) = WrittenIn methods o m rest
WrittenIn methods o m _ = Unit {0}

-- the methods of declarations
abbrev pub AllWritten : List MethodView → (c k m : ℕ) → Node → Type 0
AllWritten methods c k m (Then (ClassDecl at x above ms) rest) =
    WrittenIn methods (InClass c) m ms × AllWritten methods (suc c) k (m + count_methods ms) rest
AllWritten methods c k m (Then (ComponentDecl at x ms) rest) =
    WrittenIn methods (InComponent k) m ms × AllWritten methods c (suc k) (m + count_methods ms) rest
AllWritten methods c k m (Then _ rest) = AllWritten methods c k m rest
AllWritten methods c k m _ = Unit {0}

written_stays : (old new : List MethodView) (o : Owner) (m : ℕ) (ms : Node) → Stays old new → WrittenIn old o m ms → WrittenIn new o m ms
written_stays old new o m (Then (MethodDecl at n ps t body) rest) s w = (s m _ w.0, written_stays old new o (suc m) rest s w.1)
written_stays old new o m (Then _ rest) s w = written_stays old new o m rest s w
written_stays old new o m _ s w = tt

home_written : (h : Home) (ms : Node) (v : HomeView) (m : ℕ) → length v.methods ≡ m → WrittenIn (with_members h ms v).methods h.owner m ms
home_written h (Then (MethodDecl at n ps t body) rest) v m e = (
  (members_stay h rest (with_method h n (written_params ps) (written_type t) (count_nodes body) v)).1 m (written h.owner n ps t body)
      (at_end v.methods _ m (sym e)),
  home_written h rest (with_method h n (written_params ps) (written_type t) (count_nodes body) v) (suc m) (count_push v.methods _ ∙ ap suc e),
)
home_written h (Then (FieldDecl at n t e) rest) v m q = home_written h rest (with_field h n (written_type t) v) m q
home_written h (Then _ rest) v m e = home_written h rest v m e
home_written h _ v m e = tt

pub all_stay : (ds : Node) (v : HomesView) → Stays v.methods (with_declarations ds v).methods
all_stay (Then (ClassDecl at x above ms) rest) v i t e =
    all_stay rest (with_class ms v) i t ((members_stay (record { owner = InClass (length v.class_members); slot = 0 }) ms (home_starts v)).1 i t e)
all_stay (Then (ComponentDecl at x ms) rest) v i t e =
    all_stay rest (with_component ms v) i t
    ((members_stay (record { owner = InComponent (length v.component_members); slot = length v.globals }) ms (home_starts v)).1 i t e)
all_stay (Then _ rest) v i t e = all_stay rest v i t e
all_stay _ v i t e = e

all_written : (ds : Node) (v : HomesView) (c k m : ℕ) → Counted v c k m → AllWritten (with_declarations ds v).methods c k m ds
all_written (Then (ClassDecl at x above ms) rest) v c k m n = (
  written_stays (with_class ms v).methods (with_declarations rest (with_class ms v)).methods (InClass c) m ms (all_stay rest (with_class ms v))
      (subst (λ z. WrittenIn (with_class ms v).methods (InClass z) m ms) n.classes
      (home_written (record { owner = InClass (length v.class_members); slot = 0 }) ms (home_starts v) m n.methods)),
  all_written rest (with_class ms v) (suc c) k (m + count_methods ms) (class_counted v ms c k m n),
)
all_written (Then (ComponentDecl at x ms) rest) v c k m n = (
  written_stays (with_component ms v).methods (with_declarations rest (with_component ms v)).methods (InComponent k) m ms
      (all_stay rest (with_component ms v))
      (subst (λ z. WrittenIn (with_component ms v).methods (InComponent z) m ms) n.components
      (home_written (record { owner = InComponent (length v.component_members); slot = length v.globals }) ms (home_starts v) m n.methods)),
  all_written rest (with_component ms v) c (suc k) (m + count_methods ms) (component_counted v ms c k m n),
)
all_written (Then _ rest) v c k m n = all_written rest v c k m n
all_written _ v c k m n = tt

pub methods_written : (ds : Node) → AllWritten (with_declarations ds no_view).methods 0 0 0 ds
methods_written ds = all_written ds no_view 0 0 0 no_counted
