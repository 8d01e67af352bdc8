-- What is live under names is live under numbers: members that are there.
use Rattle.std.proofs.Common.{◌≡◌, ℕ, ◌==◌, ◌&&◌, List, [], Option, Some, None, slice_get}
use Rattle.std.proofs.Common.{sym, ap, ◌∙◌, subst}
use Rattle.std.specs.Prelude.{bytes_eq}
use Rattle.std.proofs.lemmas.Bool.{eqb-true}
use Rattle.vg_source.specs.Names.{Name}
use Rattle.vg_core.specs.declared.member.Member.{Member}
use Rattle.vg_core.specs.declared.member.Member.TheVariants.{Method, Field, Cell}
use Rattle.vg_core.specs.declared.heap.Heap.{Heap}
use Rattle.vg_core.specs.declared.program.Method as program
use Rattle.vg_core.specs.declared.program.Field as field
use Rattle.vg_core.specs.Program.{Program}
use Rattle.vg_core.specs.Heap.{Kind}
use Rattle.vg_core.specs.Naming.{Naming, named_heap, named}
use Rattle.vg_core.specs.Typing.{WellTyped}
use Rattle.vg_sound.specs.Good.{TypedHeap}
use Rattle.vg_sound.proofs.Values.{the_same, none_some, eq_refl}
use Rattle.vg_renamed.specs.NamesTell.{NamesTell}
use Rattle.vg_live.specs.Rules.{IsThere, Live}
use Rattle.vg_live.specs.Rules as rules
use Rattle.vg_live_source.specs.Members as source
use Rattle.vg_live_source.specs.Rules as source_rules
use Rattle.vg_live_named.specs.Members.{named_member, named_one}
use Rattle.vg_live_named.proofs.Steps.{within}
use Rattle.vg_live_named.proofs.Back.{back}

-- ---- members that are there have different names

abbrev owner_in : source.Member → Name
owner_in (source.Method c m) = c
owner_in (source.Field c f) = c
owner_in (source.Cell k) = []

abbrev name_in : source.Member → Name
name_in (source.Method c m) = m
name_in (source.Field c f) = f
name_in (source.Cell k) = []

abbrev number_in : source.Member → ℕ
number_in (source.Cell k) = k
number_in _ = 0

-- two numbers are one where the names of the one tell it from the other, and both have the same names
one_number : (i j : ℕ) (c d m x : Name) → (bytes_eq c c && bytes_eq m m) ≡ (i == i) → (bytes_eq c d && bytes_eq m x) ≡ (i == j) → c ≡ d → m ≡ x → i ≡ j
one_number i j c d m x self other ec em = eqb-true i j
    (sym other ∙ (ap (λ z. bytes_eq c z && bytes_eq m x) (sym ec) ∙ (ap (λ z. bytes_eq c c && bytes_eq m z) (sym em) ∙ (self ∙ eq_refl i))))

module _ (n : Naming) (p : Program) (tell : NamesTell n p) (h : Heap) where
  same_method : (i j : ℕ) → (x : program.Method) × (slice_get p.tables.methods i ≡ Some x) → (y : program.Method) × (slice_get p.tables.methods j ≡ Some y)
      → named_member n (Method i) ≡ named_member n (Method j) → i ≡ j
  same_method i j (x, ex) (y, ey) e = one_number i j (n.method i).owner (n.method j).owner (n.method i).name (n.method j).name
      (tell.methods i i x x ex ex) (tell.methods i j x y ex ey) (ap owner_in e) (ap name_in e)

  same_field : (i j : ℕ) → (x : field.Field) × (slice_get p.tables.fields i ≡ Some x) → (y : field.Field) × (slice_get p.tables.fields j ≡ Some y)
      → named_member n (Field i) ≡ named_member n (Field j) → i ≡ j
  same_field i j (x, ex) (y, ey) e = one_number i j (n.field i).owner (n.field j).owner (n.field i).name (n.field j).name
      (tell.fields i i x x ex ex) (tell.fields j i y x ey ex) (ap owner_in e) (ap name_in e)

  pub one_member : (x y : Member) → IsThere p h x → IsThere p h y → named_member n x ≡ named_member n y → x ≡ y
  one_member (Method i) (Method j) a b e = ap Method (same_method i j (within p.tables.methods i a) (within p.tables.methods j b) e)
  one_member (Field i) (Field j) a b e = ap Field (same_field i j (within p.tables.fields i a) (within p.tables.fields j b) e)
  one_member (Cell i) (Cell j) a b e = ap (λ z. Cell (number_in z)) e
  one_member (Method i) (Field j) a b e = absurd (let clash : named_member n (Method i) ≡ named_member n (Field j) = e in cc)
  one_member (Method i) (Cell j) a b e = absurd (let clash : named_member n (Method i) ≡ named_member n (Cell j) = e in cc)
  one_member (Field i) (Method j) a b e = absurd (let clash : named_member n (Field i) ≡ named_member n (Method j) = e in cc)
  one_member (Field i) (Cell j) a b e = absurd (let clash : named_member n (Field i) ≡ named_member n (Cell j) = e in cc)
  one_member (Cell i) (Method j) a b e = absurd (let clash : named_member n (Cell i) ≡ named_member n (Method j) = e in cc)
  one_member (Cell i) (Field j) a b e = absurd (let clash : named_member n (Cell i) ≡ named_member n (Field j) = e in cc)

-- what is live is there
pub live_there : (p : Program) (h : Heap) (y : Member) → Live p h (Some y) → IsThere p h y
live_there p h y (rules.by rule there a b) = there

module _ (n : Naming) (p : Program) (tell : NamesTell n p) (good : WellTyped p) (h : Heap) (κ : List Kind) (typed : TypedHeap p.tables κ h) where
  pub live_back : (z : source.Member) → source_rules.Live (named n p) (named_heap n p.tables h) (Some z)
      → (y : Member) × (z ≡ named_member n y) × Live p h (Some y)
  live_back z a = by (back n p tell good h κ typed (Some z) a)
    where
      by : ((o : Option Member) × (Some z ≡ named_one n o) × Live p h o) → (y : Member) × (z ≡ named_member n y) × Live p h (Some y)
      by (Some y, e, l) = (y, the_same _ _ e, l)
      by (None, e, l) = none_some z (sym e)

  pub live_alike : (y : Member) → IsThere p h y → source_rules.Live (named n p) (named_heap n p.tables h) (Some (named_member n y)) → Live p h (Some y)
  live_alike y there a = by (live_back (named_member n y) a)
    where
      by : ((x : Member) × (named_member n y ≡ named_member n x) × Live p h (Some x)) → Live p h (Some y)
      by (x, e, l) = subst (λ z. Live p h (Some z)) (sym (one_member n p tell h y x there (live_there p h x l) e)) l
