-- A test of members by their names tells what is live.
use Rattle.std.proofs.Common.{◌≡◌, refl, sym, ap, ◌∙◌, subst, arith, ℕ, zero, suc, ◌<◌, ◌&&◌, ◌||◌, Bool, true, false, List, length, Option, Some, None}
use Rattle.std.proofs.Common.{slice_get, is_some, bytes_eq}
use Rattle.std.proofs.lemmas.Slice.Eq.{bytes_eq-Decides}
use Rattle.std.proofs.lemmas.Option.{slice_get_within}
use Rattle.vg_source.specs.Names.{Name}
use Rattle.vg_core.specs.declared.heap.Heap.{Heap}
use Rattle.vg_core.specs.declared.member.Member.{Member}
use Rattle.vg_core.specs.declared.member.Member.TheVariants.{Method, Field, Cell}
use Rattle.vg_core.specs.Heap.{Kind}
use Rattle.vg_core.specs.Naming.{Key, Naming, named_heap, named}
use Rattle.vg_core.specs.Program.{Program}
use Rattle.vg_core.specs.Typing.{WellTyped}
use Rattle.vg_sound.specs.Good.{TypedHeap}
use Rattle.vg_renamed.specs.NamesTell.{NamesTell}
use Rattle.vg_live.specs.declared.live_set.LiveSet.{LiveSet}
use Rattle.vg_live.specs.declared.live_set.Reason.{Reason}
use Rattle.vg_live.specs.Rules.{Live}
use Rattle.vg_live.specs.Sets.{IsLiveSet, flat}
use Rattle.vg_live_source.specs.Members as source
use Rattle.vg_live_source.specs.Rules as source_rules
use Rattle.vg_live_named.specs.Members.{named_member}
use Rattle.vg_live_named.proofs.Forth.{forth}
use Rattle.vg_live_named.proofs.Whole.{live_alike, live_back}
use Rattle.vg_number.specs.Numbering.{has_reason}
use Rattle.vg_static_source.specs.Sums.{Tells}

true_false : true ≡ false → ⊥
true_false e = cc

one_truth : (a b : Bool) → (a ≡ true → b ≡ true) → (b ≡ true → a ≡ true) → a ≡ b
one_truth true b f g = sym (f refl)
one_truth false true f g = g refl
one_truth false false f g = refl

both : (a b : Bool) → (a && b) ≡ true → (a ≡ true) × (b ≡ true)
both true b e = (refl, e)
both false b e = absurd (true_false (sym e))

and_true : (a b : Bool) → a ≡ true → b ≡ true → (a && b) ≡ true
and_true a b e f = ap (λ z. z && b) e ∙ f

-- ---- a test holds of some number

-- one of the first n numbers
abbrev pub any_of : (ℕ → Bool) → (n : ℕ) → Bool
any_of f zero = false
any_of f (suc n) = f n || any_of f n

or_true : (b : Bool) → (b || true) ≡ true
or_true true = refl
or_true false = refl

any_some : (f : ℕ → Bool) (n i : ℕ) → i < n → f i ≡ true → any_of f n ≡ true
any_some f zero i lt e = absurd (omega (arith, lt))
any_some f (suc n) i lt e = by (f n) refl (λ l. any_some f n i l e)
  where
    by : (b : Bool) → f n ≡ b → (i < n → any_of f n ≡ true) → (b || any_of f n) ≡ true
    by true q h = refl
    by false q h = h (less lt (λ z. true_false (sym e ∙ (ap f z ∙ q))))
      where
        less : i < suc n → (i ≡ n → ⊥) → i < n
        less l h = grind (arith, l, h)

some_any : (f : ℕ → Bool) (n : ℕ) → any_of f n ≡ true → (i : ℕ) × (i < n) × (f i ≡ true)
some_any f zero e = absurd (true_false (sym e))
some_any f (suc n) e = by (f n) refl e (some_any f n)
  where
    further : ((i : ℕ) × (i < n) × (f i ≡ true)) → (i : ℕ) × (i < suc n) × (f i ≡ true)
    further (i, lt, q) = (i, omega (arith, lt), q)

    by : (b : Bool) → f n ≡ b → (b || any_of f n) ≡ true → (any_of f n ≡ true → (i : ℕ) × (i < n) × (f i ≡ true)) → (i : ℕ) × (i < suc n) × (f i ≡ true)
    by true q h g = (n, omega arith, q)
    by false q h g = further (g h)

-- ---- members by their names

-- a member of these names, which has a reason
abbrev pub names : (key : ℕ → Key) → (reasons : List (Option Reason)) → (c x : Name) → ℕ → Bool
names key reasons c x i = has_reason reasons i && (bytes_eq (key i).owner c && bytes_eq (key i).name x)

-- the test of members by their names
abbrev pub live_by : Naming → LiveSet → source.Member → Bool
live_by n s (source.Method c x) = any_of (names n.method s.methods c x) (length s.methods)
live_by n s (source.Field c x) = any_of (names n.field s.fields c x) (length s.fields)
live_by n s (source.Cell k) = has_reason s.cells k

has_within : (reasons : List (Option Reason)) (i : ℕ) → has_reason reasons i ≡ true → i < length reasons
has_within reasons i e = by (slice_get reasons i) refl e
  where
    by : (o : Option (Option Reason)) → slice_get reasons i ≡ o → is_some (flat o) ≡ true → i < length reasons
    by (Some r) q h = slice_get_within reasons i r q
    by None q h = absurd (true_false (sym h))

named_by : (key : ℕ → Key) (reasons : List (Option Reason)) (i : ℕ) → has_reason reasons i ≡ true
    → any_of (names key reasons (key i).owner (key i).name) (length reasons) ≡ true
named_by key reasons i e =
    any_some (names key reasons (key i).owner (key i).name) (length reasons) i (has_within reasons i e)
    (and_true (has_reason reasons i) _ e
    (and_true (bytes_eq (key i).owner (key i).owner) _ ((bytes_eq-Decides (key i).owner (key i).owner).1 refl)
    ((bytes_eq-Decides (key i).name (key i).name).1 refl)))

module _ (n : Naming) (p : Program) (tell : NamesTell n p) (good : WellTyped p) (h : Heap) (κ : List Kind) (typed : TypedHeap p.tables κ h) (s : LiveSet)
    (set : IsLiveSet p h s) where
  some_reason : (o : Option Reason) → is_some o ≡ true → (r : Reason) × (o ≡ Some r)
  some_reason (Some r) e = (r, refl)
  some_reason None e = absurd (true_false (sym e))

  -- what has a reason is live, and what is live has one
  abbrev has : Member → Bool
  has (Method m) = has_reason s.methods m
  has (Field f) = has_reason s.fields f
  has (Cell k) = has_reason s.cells k

  has_live : (y : Member) → has y ≡ true → Live p h (Some y)
  has_live (Method m) e = set.live (Method m) (some_reason (flat (slice_get s.methods m)) e)
  has_live (Field f) e = set.live (Field f) (some_reason (flat (slice_get s.fields f)) e)
  has_live (Cell k) e = set.live (Cell k) (some_reason (flat (slice_get s.cells k)) e)

  live_has : (y : Member) → Live p h (Some y) → has y ≡ true
  live_has (Method m) a = let r = set.all (Method m) a in ap is_some r.1
  live_has (Field f) a = let r = set.all (Field f) a in ap is_some r.1
  live_has (Cell k) a = let r = set.all (Cell k) a in ap is_some r.1

  abbrev LiveHere : source.Member → Type 0
  LiveHere z = source_rules.Live (named n p) (named_heap n p.tables h) (Some z)

  here : (y : Member) → has y ≡ true → LiveHere (named_member n y)
  here y e = forth n p tell good h κ typed (Some y) (has_live y e)

  same_method : (c x d y : Name) → d ≡ c → y ≡ x → LiveHere (source.Method d y) → LiveHere (source.Method c x)
  same_method c x d y e f a = subst (λ z. LiveHere (source.Method c z)) f (subst (λ z. LiveHere (source.Method z y)) e a)

  same_field : (c x d y : Name) → d ≡ c → y ≡ x → LiveHere (source.Field d y) → LiveHere (source.Field c x)
  same_field c x d y e f a = subst (λ z. LiveHere (source.Field c z)) f (subst (λ z. LiveHere (source.Field z y)) e a)

  told_live : (y : source.Member) → live_by n s y ≡ true → LiveHere y
  told_live (source.Method c x) e = by (some_any (names n.method s.methods c x) (length s.methods) e)
    where
      by : ((i : ℕ) × (i < length s.methods) × (names n.method s.methods c x i ≡ true)) → LiveHere (source.Method c x)
      by (i, lt, q) =
          let (r, k) = both (has_reason s.methods i) _ q in
          let (o, m) = both (bytes_eq (n.method i).owner c) (bytes_eq (n.method i).name x) k in
          same_method c x (n.method i).owner (n.method i).name ((bytes_eq-Decides (n.method i).owner c).0 o) ((bytes_eq-Decides (n.method i).name x).0 m)
          (here (Method i) r)
  told_live (source.Field c x) e = by (some_any (names n.field s.fields c x) (length s.fields) e)
    where
      by : ((i : ℕ) × (i < length s.fields) × (names n.field s.fields c x i ≡ true)) → LiveHere (source.Field c x)
      by (i, lt, q) =
          let (r, k) = both (has_reason s.fields i) _ q in
          let (o, m) = both (bytes_eq (n.field i).owner c) (bytes_eq (n.field i).name x) k in
          same_field c x (n.field i).owner (n.field i).name ((bytes_eq-Decides (n.field i).owner c).0 o) ((bytes_eq-Decides (n.field i).name x).0 m)
          (here (Field i) r)
  told_live (source.Cell k) e = here (Cell k) e

  has_told : (y : Member) → has y ≡ true → live_by n s (named_member n y) ≡ true
  has_told (Method m) e = named_by n.method s.methods m e
  has_told (Field f) e = named_by n.field s.fields f e
  has_told (Cell k) e = e

  live_told : (z : source.Member) → LiveHere z → live_by n s z ≡ true
  live_told z a = by (live_back n p tell good h κ typed z a)
    where
      by : ((y : Member) × (z ≡ named_member n y) × Live p h (Some y)) → live_by n s z ≡ true
      by (y, e, l) = ap (live_by n s) e ∙ has_told y (live_has y l)

  pub tells : Tells (named n p) (named_heap n p.tables h) (live_by n s)
  tells y = (told_live y, live_told y)

  -- a field that is there is live by its names where it has a reason
  pub field_told : (f : ℕ) → f < length p.tables.fields → live_by n s (source.Field (n.field f).owner (n.field f).name) ≡ has_reason s.fields f
  field_told f there =
      one_truth _ (has_reason s.fields f)
      (λ e. live_has (Field f) (live_alike n p tell good h κ typed (Field f) there (told_live (source.Field (n.field f).owner (n.field f).name) e)))
      (λ e. has_told (Field f) e)
