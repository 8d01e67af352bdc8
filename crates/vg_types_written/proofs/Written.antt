-- The fields in the tables, one by one as the text declares them, and the chains of classes.
use Rattle.std.proofs.Common.{◌≡◌, ℕ, zero, suc, ◌+◌, ◌<◌, ◌==◌, ◌||◌, Bool, true, false, List, [], ◌∷◌, ◌++◌, length, map, Option, Some, None, slice_get, refl, sym, ap, ◌∙◌, subst, arith}
use Rattle.std.specs.List.{AllByRecursion}
use Rattle.std.proofs.lemmas.List.{append_assoc}
use Rattle.std.proofs.lemmas.Option.{slice_get_within}
use mathlib.Core.Logic.{inl, inr}
use Rattle.vg_syntax.specs.Tree.{Node, Then, ClassDecl, ComponentDecl, FieldDecl, MethodDecl}
use Rattle.vg_syntax.specs.Numbering.{count_nodes}
use Rattle.vg_source.specs.Declared.{written_type, length_of}
use Rattle.vg_source.specs.Program.{declarations_of}
use Rattle.vg_source.specs.Resolved as source
use Rattle.vg_core.specs.declared.program.Owner.TheVariants.{InClass, InComponent}
use Rattle.vg_core.specs.declared.program.Class.{Class}
use Rattle.vg_core.specs.declared.program.Field.{Field}
use Rattle.vg_core.specs.Tables.{is_in}
use Rattle.vg_core.specs.Naming.{Naming, naming_of}
use Rattle.vg_numbers.specs.Numbers.{IsChain}
use Rattle.vg_static_source.specs.Fields.{DeclaredField, fields_among, fields_in}
use Rattle.vg_calls_source.specs.Methods.{methods_in}
use Rattle.vg_written.specs.Written.{named_owner, named_field, IsOwner, AreWritten}
use Rattle.vg_types_chains.specs.Chains.{above_at, chain_up, chain_at, Close}
use Rattle.vg_types_interned.specs.declared.table.Types.{Types}
use Rattle.vg_types_members.specs.declared.member.Home.{Home}
use Rattle.vg_types_members.specs.Members.{FieldView, HomeView, field_view, with_field, with_method, with_members, written_params}
use Rattle.vg_types_heads.specs.declared.heads.Heads.{Heads}
use Rattle.vg_types_hierarchy.specs.Classes.{above_number, the_class}
use Rattle.vg_types_hierarchy.specs.Slots.{with_slot}
use Rattle.vg_types_homes.specs.declared.homes.Homes.{Homes}
use Rattle.vg_types_homes.specs.Homes.{HomesView, no_view, home_starts, with_class, with_component, with_declarations}
use Rattle.vg_types_tables.specs.declared.declared.Declared.{Declared}
use Rattle.vg_types_declared.specs.Named.{Keeps, IsLeft}
use Rattle.vg_types_declared.proofs.Forming.{class_at, class_within, class_is, wide, narrow}
use Rattle.vg_types_declared.proofs.Naming.{text_same, close, view_same}
use Rattle.vg_types_named.specs.Left.{Left}
use Rattle.vg_types_named.specs.Targets.{count_methods, AreSigned}
use Rattle.vg_types_named.proofs.Lists.{append-none, count_push}
use Rattle.vg_types_named.proofs.Targets.{map_push}
use Rattle.vg_types_named.proofs.Signed.{signed}
use Rattle.vg_types_written.proofs.Methods.{methods_written, functions_told}

all_push : {A : Type 0} (P : A → Type 0) (xs : List A) (x : A) → AllByRecursion P xs → P x → AllByRecursion P (xs ++ x ∷ [])
all_push P [] x a h = (h, tt)
all_push P (y ∷ xs) x a h = (a.0, all_push P xs x a.1 h)

all_at : {A : Type 0} (P : A → Type 0) (xs : List A) (i : ℕ) (x : A) → AllByRecursion P xs → slice_get xs i ≡ Some x → P x
all_at P [] i x a e = cc
all_at P (y ∷ xs) zero x a e = subst P (let q : y ≡ x = cc in q) a.0
all_at P (y ∷ xs) (suc i) x a e = all_at P xs i x a.1 e

module _ (texts : List (List ℕ)) (ds : Node) (types : Types) (heads : Heads) (homes : Homes) (d : Declared) (kept : Keeps ds)
    (left : IsLeft texts ds types heads homes d) where
  abbrev n : Naming
  n = naming_of texts d.tables

  -- ---- fields

  -- a field that was passed, under its names
  abbrev shown : FieldView → DeclaredField
  shown t = record { owner = named_owner n t.owner; name = t.name; type = t.type }

  home_shown : (h : Home) (o : source.Owner) (ms : Node) (v : HomeView) → named_owner n h.owner ≡ o
      → map shown (with_members h ms v).fields ≡ map shown v.fields ++ fields_among o ms
  home_shown h o (Then (FieldDecl at x t e) rest) v q =
      home_shown h o rest (with_field h x (written_type t) v) q
      ∙ ap (λ z. z ++ fields_among o rest) (map_push shown v.fields _)
      ∙ append_assoc (map shown v.fields) (record { owner = named_owner n h.owner; name = x; type = written_type t } ∷ []) (fields_among o rest)
      ∙ ap (λ z. map shown v.fields ++ (record { owner = z; name = x; type = written_type t } ∷ fields_among o rest)) q
  home_shown h o (Then (MethodDecl at x ps t body) rest) v q =
      home_shown h o rest (with_method h x (written_params ps) (written_type t) (count_nodes body) v) q
  home_shown h o (Then _ rest) v q = home_shown h o rest v q
  home_shown h o _ v q = append-none (map shown v.fields)

  all_shown : (rest : Node) (v : HomesView) (c k m : ℕ) → length v.class_members ≡ c → length v.component_members ≡ k → AreSigned texts d c k m rest
      → map shown (with_declarations rest v).fields ≡ map shown v.fields ++ fields_in rest
  all_shown (Then (ClassDecl at x above ms) rest) v c k m ec ek w =
      all_shown rest (with_class ms v) (suc c) k (m + count_methods ms) (count_push v.class_members _ ∙ ap suc ec) ek w.2
      ∙ ap (λ z. z ++ fields_in rest)
      (home_shown (record { owner = InClass (length v.class_members); slot = 0 }) (source.InClass x) ms (home_starts v)
      (ap (λ z. source.InClass (n.class z)) ec ∙ ap source.InClass w.0.named))
      ∙ append_assoc (map shown v.fields) (fields_among (source.InClass x) ms) (fields_in rest)
  all_shown (Then (ComponentDecl at x ms) rest) v c k m ec ek w =
      all_shown rest (with_component ms v) c (suc k) (m + count_methods ms) ec (count_push v.component_members _ ∙ ap suc ek) w.2
      ∙ ap (λ z. z ++ fields_in rest)
      (home_shown (record { owner = InComponent (length v.component_members); slot = length v.globals }) (source.InComponent x) ms (home_starts v)
      (ap (λ z. source.InComponent (n.component z)) ek ∙ ap source.InComponent w.0.named))
      ∙ append_assoc (map shown v.fields) (fields_among (source.InComponent x) ms) (fields_in rest)
  all_shown (Then _ rest) v c k m ec ek w = all_shown rest v c k m ec ek w
  all_shown _ v c k m ec ek w = append-none (map shown v.fields)

  viewed : (ys : List Field) → map (named_field texts d.tables) (map (with_slot d.tables.classes homes.class_fields) ys)
      ≡ map shown (map (field_view texts types) ys)
  viewed [] = refl
  viewed (y ∷ ys) =
      ap (λ z. record { owner = named_owner n y.owner; name = z; type = (named_field texts d.tables y).type }
      ∷ map (named_field texts d.tables) (map (with_slot d.tables.classes homes.class_fields) ys)) (text_same texts y.name)
      ∙ ap (λ z. record { owner = named_owner n y.owner; name = (field_view texts types y).name; type = z }
      ∷ map (named_field texts d.tables) (map (with_slot d.tables.classes homes.class_fields) ys)) (view_same texts ds types heads homes d kept left y.type_)
      ∙ ap (λ z. shown (field_view texts types y) ∷ z) (viewed ys)

  pub fields_written : map (named_field texts d.tables) d.tables.fields ≡ fields_in ds
  fields_written =
      ap (map (named_field texts d.tables)) left.built.field_table ∙ viewed homes.making.fields ∙ ap (λ w. map shown w.fields) left.homes_left
      ∙ all_shown ds no_view 0 0 0 refl refl (signed texts ds types heads homes d kept left)

  -- ---- owners

  abbrev IsOwned : FieldView → Type 0
  IsOwned t = IsOwner d.tables t.owner

  home_owned : (h : Home) (ms : Node) (v : HomeView) → IsOwner d.tables h.owner → AllByRecursion IsOwned v.fields
      → AllByRecursion IsOwned (with_members h ms v).fields
  home_owned h (Then (FieldDecl at x t e) rest) v o a =
      home_owned h rest (with_field h x (written_type t) v) o (all_push IsOwned v.fields _ a o)
  home_owned h (Then (MethodDecl at x ps t body) rest) v o a =
      home_owned h rest (with_method h x (written_params ps) (written_type t) (count_nodes body) v) o a
  home_owned h (Then _ rest) v o a = home_owned h rest v o a
  home_owned h _ v o a = a

  all_owned : (rest : Node) (v : HomesView) (c k m : ℕ) → length v.class_members ≡ c → length v.component_members ≡ k → AreSigned texts d c k m rest
      → AllByRecursion IsOwned v.fields → AllByRecursion IsOwned (with_declarations rest v).fields
  all_owned (Then (ClassDecl at x above ms) rest) v c k m ec ek w a =
      all_owned rest (with_class ms v) (suc c) k (m + count_methods ms) (count_push v.class_members _ ∙ ap suc ec) ek w.2
      (home_owned (record { owner = InClass (length v.class_members); slot = 0 }) ms (home_starts v)
      (subst (λ z. z < length d.tables.classes) (sym ec) (slice_get_within d.tables.classes c w.0.class w.0.there)) a)
  all_owned (Then (ComponentDecl at x ms) rest) v c k m ec ek w a =
      all_owned rest (with_component ms v) c (suc k) (m + count_methods ms) ec (count_push v.component_members _ ∙ ap suc ek) w.2
      (home_owned (record { owner = InComponent (length v.component_members); slot = length v.globals }) ms (home_starts v) tt a)
  all_owned (Then _ rest) v c k m ec ek w a = all_owned rest v c k m ec ek w a
  all_owned _ v c k m ec ek w a = a

  abbrev IsHeld : Field → Type 0
  IsHeld y = IsOwner d.tables y.owner

  of_views : (ys : List Field) → AllByRecursion IsOwned (map (field_view texts types) ys)
      → AllByRecursion IsHeld (map (with_slot d.tables.classes homes.class_fields) ys)
  of_views [] a = tt
  of_views (y ∷ ys) a = (a.0, of_views ys a.1)

  pub owners_there : (f : ℕ) (y : Field) → slice_get d.tables.fields f ≡ Some y → IsOwner d.tables y.owner
  owners_there f y e =
      all_at IsHeld (map (with_slot d.tables.classes homes.class_fields) homes.making.fields) f y
      (of_views homes.making.fields
      (subst (λ w. AllByRecursion IsOwned w.fields) (sym left.homes_left)
      (all_owned ds no_view 0 0 0 refl refl (signed texts ds types heads homes d kept left) tt)))
      (ap (λ z. slice_get z f) (sym left.built.field_table) ∙ e)

  -- ---- chains

  abbrev above : List (Option ℕ)
  above = map (above_number texts heads.classes) heads.above

  abbrev most : ℕ
  most = length_of ds

  closed : Close most above
  closed = close texts ds types heads homes d kept left

  nothing_up : (k : ℕ) → chain_up k above None ≡ []
  nothing_up zero = refl
  nothing_up (suc k) = refl

  none_one : (x : ℕ) (xs : List ℕ) → [] ≡ x ∷ xs → ⊥
  none_one x xs e = cc

  -- a chain begins with its class
  in_chain : (m b : ℕ) → (m ≡ 0 → ⊥) → is_in (chain_up m above (Some b)) b ≡ true
  in_chain zero b h = absurd (h refl)
  in_chain (suc m) b h = ap (λ z. z || is_in (chain_up m above (above_at (slice_get above b))) b) (same b)
    where
      same : (k : ℕ) → (k == k) ≡ true
      same k = grind arith

  or_true : (b : Bool) → (b || true) ≡ true
  or_true true = refl
  or_true false = refl

  abbrev the : ℕ → Class
  the = the_class most heads.class_names above homes.class_fields homes.class_methods homes.class_params

  there : (c : ℕ) → c < length heads.class_names → slice_get d.tables.classes c ≡ Some (the c)
  there = class_at texts types homes most heads.class_names above d.tables left.built closed

  chain_of_class : (c : ℕ) → c < length heads.class_names → IsChain d.tables c (the c).above
  chain_of_class c lt = by (above_at (slice_get above c)) refl
    where
      inside : c < length above
      inside = wide texts types homes most heads.class_names above d.tables left.built closed c lt

      by : (o : Option ℕ) → above_at (slice_get above c) ≡ o → IsChain d.tables c (chain_at most above c)
      by None e = inl (closed.steps c inside ∙ ap (λ z. c ∷ chain_up most above z) e ∙ ap (λ z. c ∷ z) (nothing_up most))
      by (Some b) e =
          inr (b, the b, there b (narrow texts types homes most heads.class_names above d.tables left.built closed b (above_within b e)), step b e)
        where
          step : (b : ℕ) → above_at (slice_get above c) ≡ Some b → chain_at most above c ≡ c ∷ chain_at most above b
          step b e = closed.steps c inside ∙ ap (λ z. c ∷ chain_up most above z) e

          above_within : (b : ℕ) → above_at (slice_get above c) ≡ Some b → b < length above
          above_within b e = closed.within c b inside (in_second b e)
            where
              in_second : (b : ℕ) → above_at (slice_get above c) ≡ Some b → is_in (chain_at most above c) b ≡ true
              in_second b e =
                  ap (λ z. is_in z b) (step b e)
                  ∙ ap (λ z. c == b || z) (in_chain most b (λ q. none_one c _ (ap (λ z. chain_up z above (Some c)) (sym q) ∙ closed.steps c inside)))
                  ∙ or_true (c == b)

  pub classes_chained : (c : ℕ) (k : Class) → slice_get d.tables.classes c ≡ Some k → IsChain d.tables c k.above
  classes_chained c k e =
      subst (λ z. IsChain d.tables c z.above) (sym (class_is texts types homes most heads.class_names above d.tables left.built closed c k e))
      (chain_of_class c (class_within texts types homes most heads.class_names above d.tables left.built closed c k e))

pub written : (texts : List (List ℕ)) (ds : Node) (d : Declared) → Keeps ds → Left texts ds d → (text : Node) → declarations_of text ≡ ds
    → AreWritten texts text d.tables
written texts ds d kept l text same = record {
  fields = fields_written texts ds l.types l.heads l.homes d kept l.left ∙ ap fields_in (sym same);
  methods = methods_written texts ds l.types l.heads l.homes d kept l.left ∙ ap methods_in (sym same);
  functions = functions_told texts ds l.types l.heads l.homes d kept l.left;
  owners = owners_there texts ds l.types l.heads l.homes d kept l.left;
  chains = classes_chained texts ds l.types l.heads l.homes d kept l.left;
}
