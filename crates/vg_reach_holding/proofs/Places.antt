-- What stands at a live place is live by a rule.
use Rattle.std.proofs.Common.{◌≡◌, ◌⊎◌, ℕ, zero, suc, ◌+◌, ◌<◌, ◌≤◌, Bool, true, false, List, [], ◌∷◌, length, get_or, Option, Some, None, slice_get, refl, sym, ap, subst, ◌∙◌, arith}
use Rattle.std.specs.Option.{is_some}
use Rattle.std.specs.Prelude.{Result, Ok, Err, OnOk}
use Rattle.std.proofs.lemmas.Option.{same_Some, none-some, slice_get_within, get_or_from_slice_get}
use mathlib.Core.Logic.{inl, inr}
use Rattle.vg_core.specs.declared.member.Member.{Member}
use Rattle.vg_core.specs.declared.member.Member.TheVariants.{Method, Field, Cell}
use Rattle.vg_core.specs.declared.value.CoreValue.{CoreValue}
use Rattle.vg_core.specs.declared.value.CoreValue.TheVariants.{Int, Bool as Truth, Char, Raw, Null, Obj, Arr, Bound}
use Rattle.vg_core.specs.declared.heap.Cell as cells
use Rattle.vg_core.specs.declared.heap.Cell.TheVariants.{Object, Array}
use Rattle.vg_core.specs.declared.heap.Heap.{Heap}
use Rattle.vg_core.specs.declared.program.Tables.{Tables}
use Rattle.vg_core.specs.Program.{Program}
use Rattle.vg_core.specs.declared.program.Class.{Class}
use Rattle.vg_core.specs.declared.program.Field.{Field as Field'}
use Rattle.vg_core.specs.declared.program.Owner.{Owner}
use Rattle.vg_core.specs.declared.program.Owner.TheVariants.{InClass, InComponent}
use Rattle.vg_core.specs.Tables.{is_in, above_in, has_fields_of, slot_where, slot_in, slot_of}
use Rattle.vg_core.specs.Heap.{Place, OfComponent, OfObject, OfArray, class_in, items_in, field_in, value_in, value_at, item_in}
use Rattle.vg_live.specs.Rules.{Rule, in_component, in_delegate, in_object, in_array, cell_in, Keeps, method, receiver, holder, owner}
use Rattle.vg_live.specs.Sets.{reason_of, IsIn}
use Rattle.vg_reach_index.specs.declared.class_row.ClassRow.{ClassRow}
use Rattle.vg_reach_index.specs.declared.index.Index.{Index}
use Rattle.vg_reach_index.specs.Indexed.{Has, Indexes, cells_at, fields_at, fields_in}
use Rattle.vg_reach_marks.specs.Marked.{Marked}
use Rattle.vg_reach_marks.specs.Growing.{Sound, Goes, AreIn, Draws, Drawn}
use Rattle.vg_reach_marks.proofs.Marking.{stays, goes_then, are_still, drawn_still, in_still, none_past}
use Rattle.vg_reach_marks.proofs.Order.{same_or_not}
use Rattle.vg_reach_holding.specs.Done.{Refers, to_cell, to_kept, PlaceDone, rule_at, StandsBy, HoldsAll, KeepsAll}

-- what follows from a success
pub on_ok : {A E X Y : Type 0} (r : Result A E) → (X → Y) → OnOk r X → OnOk r Y
on_ok (Ok a) f x = f x
on_ok (Err e) f x = x

-- ---- values

place_rule : (p : Program) (h : Heap) (v : CoreValue) (x : Place) (k : ℕ) → value_at p.tables h x ≡ Some v → cell_in v ≡ Some k
    → Rule p h (Cell k) (rule_at x) (holder x) (owner x)
place_rule p h v (OfComponent f) k e c = in_component v e c
place_rule p h v (OfObject o f) k e c = in_object v e c
place_rule p h v (OfArray a i) k e c = in_array i v e c

cell_rule : (p : Program) (h : Heap) (v : CoreValue) (rule : ℕ) (from also : Option Member) (k : ℕ) → StandsBy p h v rule from also → cell_in v ≡ Some k
    → Rule p h (Cell k) rule from also
cell_rule p h v rule from also k s c =
    subst (λ z. Rule p h (Cell k) rule from z) s.also_is
    (subst (λ z. Rule p h (Cell k) rule z (owner s.place)) s.from_is
    (subst (λ z. Rule p h (Cell k) z (holder s.place) (owner s.place)) s.rule_is (place_rule p h v s.place k s.value c)))

kept_rule : (p : Program) (h : Heap) (v : CoreValue) (rule : ℕ) (from also : Option Member) (y : Member) → StandsBy p h v rule from also → Keeps v y
    → Rule p h y 8 from also
kept_rule p h v rule from also y s k =
    subst (λ z. Rule p h y 8 from z) s.also_is (subst (λ z. Rule p h y 8 z (owner s.place)) s.from_is (in_delegate s.place v s.value k))

cell_only : (p : Program) (h : Heap) (b : Marked) (w : CoreValue) (n : ℕ) → cell_in w ≡ Some n → ((y : Member) → Keeps w y → ⊥) → Drawn p h b (Cell n)
    → (y : Member) → Refers w y → Drawn p h b y
cell_only p h b w n c keeps g _ (to_cell u {k} e) = subst (λ m. Drawn p h b (Cell m)) (same_Some n k (sym c ∙ e)) g
cell_only p h b w n c keeps g y (to_kept r) = absurd (keeps y r)

-- a reference to a cell
holds_cell : (a b : Marked) (v w : CoreValue) (rule : ℕ) (from also : Option Member) (k : ℕ) → v ≡ w → cell_in w ≡ Some k
    → ((y : Member) → Keeps w y → ⊥) → Draws a b (Cell k) rule from also → HoldsAll a b v rule from also
holds_cell a b v w rule from also k vw c keeps d p h q s hf ha =
    let z = d p h q (cell_rule p h v rule from also k s (ap cell_in vw ∙ c)) hf ha in
    (z.0, λ y r. cell_only p h b w k c keeps z.1 y (subst (λ u. Refers u y) vw r))

-- a delegate alone keeps something
abbrev binds : CoreValue → Bool
binds (Bound r m) = true
binds _ = false

keeps_binds : (v : CoreValue) (y : Member) → Keeps v y → binds v ≡ true
keeps_binds _ _ method = refl
keeps_binds _ _ receiver = refl

no_delegate : (v : CoreValue) → binds v ≡ false → (y : Member) → Keeps v y → ⊥
no_delegate v e y k = let f = keeps_binds v y k in cc

pub holds_object : (a b : Marked) (v : CoreValue) (rule : ℕ) (from also : Option Member) (k : ℕ) → v ≡ Obj k → Draws a b (Cell k) rule from also
    → HoldsAll a b v rule from also
holds_object a b v rule from also k e d = holds_cell a b v (Obj k) rule from also k e refl (no_delegate (Obj k) refl) d

pub holds_array : (a b : Marked) (v : CoreValue) (rule : ℕ) (from also : Option Member) (k : ℕ) → v ≡ Arr k → Draws a b (Cell k) rule from also
    → HoldsAll a b v rule from also
holds_array a b v rule from also k e d = holds_cell a b v (Arr k) rule from also k e refl (no_delegate (Arr k) refl) d

pub holds_delegate : (a b : Marked) (v : CoreValue) (rule : ℕ) (from also : Option Member) (r : Option ℕ) (m : ℕ) → v ≡ Bound r m
    → KeepsAll a b r m from also → HoldsAll a b v rule from also
holds_delegate a b v rule from also r m e d p h q s hf ha =
    let z = d p h rule q (subst (λ u. StandsBy p h u rule from also) e s) hf ha in (z.0, λ y g. by' y (subst (λ u. Refers u y) e g) z.1)
  where
    by' : (y : Member) → Refers (Bound r m) y → ((y : Member) → Keeps (Bound r m) y → Drawn p h b y) → Drawn p h b y
    by' _ (to_cell u {k} c) g = absurd (none-some k c)
    by' y (to_kept k) g = g y k

-- ---- delegates

-- the method of a delegate without a receiver
pub keeps_method : (a b : Marked) (r : Option ℕ) (m : ℕ) (from also : Option Member) → r ≡ None → Draws a b (Method m) 8 from also → KeepsAll a b r m from also
keeps_method a b r m from also e d p h rule q s hf ha =
    let z = d p h q (kept_rule p h (Bound r m) rule from also (Method m) s method) hf ha in
    (z.0, λ y k. by' y (subst (λ u. Keeps (Bound u m) y) e k) z.1)
  where
    by' : (y : Member) → Keeps (Bound None m) y → Drawn p h b (Method m) → Drawn p h b y
    by' _ method g = g

-- the method of a delegate, and its receiver
pub keeps_both : (a b c : Marked) (r : Option ℕ) (k m : ℕ) (from also : Option Member) → r ≡ Some k → Draws a b (Method m) 8 from also
    → Draws b c (Cell k) 8 from also → KeepsAll a c r m from also
keeps_both a b c r k m from also e d1 d2 p h rule q s hf ha =
    let z1 = d1 p h q (kept_rule p h (Bound r m) rule from also (Method m) s method) hf ha in
    let z2 = d2 p h z1.0.0 (kept_rule p h (Bound r m) rule from also (Cell k) s (subst (λ u. Keeps (Bound u m) (Cell k)) (sym e) receiver))
    (are_still p h a b from z1.0 hf) (are_still p h a b also z1.0 ha) in
    (goes_then p h a b c z1.0 z2.0, λ y g. by' y (subst (λ u. Keeps (Bound u m) y) e g) (drawn_still p h b c (Method m) z2.0 z1.1) z2.1)
  where
    by' : (y : Member) → Keeps (Bound (Some k) m) y → Drawn p h c (Method m) → Drawn p h c (Cell k) → Drawn p h c y
    by' _ method g1 g2 = g1
    by' _ receiver g1 g2 = g2

-- ---- places

pub place_still : (p : Program) (h : Heap) (a b : Marked) (x : Place) → Goes p h a b → PlaceDone p h a x → PlaceDone p h b x
place_still p h a b x g d v y e r = drawn_still p h a b y g (d v y e r)

pub place_holds : (p : Program) (h : Heap) (a b : Marked) (x : Place) (v : CoreValue) → value_at p.tables h x ≡ Some v
    → HoldsAll a b v (rule_at x) (holder x) (owner x) → Sound p h a → AreIn a (holder x) → AreIn a (owner x) → Goes p h a b × PlaceDone p h b x
place_holds p h a b x v e d q hf ha =
    let z = d p h q (record { place = x; value = e; rule_is = refl; from_is = refl; also_is = refl }) hf ha in
    (z.0, λ w y g r. z.1 y (subst (λ u. Refers u y) (same_Some w v (sym g ∙ e)) r))

-- ---- loops over numbers in a list

abbrev pub SoFarIn : Program → Heap → List ℕ → (Marked → ℕ → Type 0) → (Marked → ℕ → Type 0) → Marked → Marked → ℕ → Type 0
SoFarIn p h xs Given Done s a n = Goes p h s a × ((i k : ℕ) → i < n → slice_get xs i ≡ Some k → Given s k → Done a k)

pub so_far_in : (p : Program) (h : Heap) (xs : List ℕ) (Given Done : Marked → ℕ → Type 0) → ((s t : Marked) (k : ℕ) → Goes p h s t → Given s k → Given t k)
    → ((s t : Marked) (k : ℕ) → Goes p h s t → Done s k → Done t k)
    → (s a b : Marked) (n : ℕ) → SoFarIn p h xs Given Done s a n → Goes p h a b × (Given a (get_or xs n 0) → Done b (get_or xs n 0))
    → SoFarIn p h xs Given Done s b (n + 1)
so_far_in p h xs Given Done up keep s a b n (g, d) (g2, d2) = (goes_then p h s a b g g2, λ i k lt e f. by' i k lt e f (same_or_not i n))
  where
    by' : (i k : ℕ) → i < n + 1 → slice_get xs i ≡ Some k → Given s k → (i ≡ n) ⊎ ((i ≡ n) → ⊥) → Done b k
    by' i k lt e f (inl kn) =
        let is = get_or_from_slice_get xs n k 0 (ap (slice_get xs) (sym kn) ∙ e) in
        subst (λ z. Done b z) is (d2 (subst (λ z. Given a z) (sym is) (up s a k g f)))
    by' i k lt e f (inr ne) = keep a b k g2 (d i k (omega (arith, lt, ne)) e f)

-- ---- fields of objects

-- a field of an object has a place by its class
pub field_place : (t : Tables) (f : ℕ) (o : Option cells.Cell) (v : CoreValue) → field_in t f o ≡ Some v
    → (d : ℕ) × (class_in o ≡ Some d) × ((i : ℕ) × (slot_of t d f ≡ Some i))
field_place t f None v e = absurd (none-some v e)
field_place t f (Some (Array u vs)) v e = absurd (none-some v e)
field_place t f (Some (Object d vs)) v e = (d, refl, by' (slot_of t d f) refl e)
  where
    by' : (s : Option ℕ) → slot_of t d f ≡ s → value_in s vs ≡ Some v → (i : ℕ) × (slot_of t d f ≡ Some i)
    by' None g q = absurd (none-some v q)
    by' (Some i) g q = (i, g)

-- it has a place only in objects of a class that is there
pub slot_class : (t : Tables) (d f i : ℕ) → slot_of t d f ≡ Some i → d < length t.classes
slot_class t d f i e = field (slice_get t.fields f) e
  where
    class : (o : Option Class) → slice_get t.classes d ≡ o → (c : ℕ) (y : Field') → slot_where (is_in (above_in o) c) y ≡ Some i → d < length t.classes
    class None g c y q = absurd (none-some i q)
    class (Some k) g c y q = slice_get_within t.classes d k g

    owned : (y : Field') (w : Owner) → slot_where (has_fields_of t d w) y ≡ Some i → d < length t.classes
    owned y (InClass c) q = class (slice_get t.classes d) refl c y q
    owned y (InComponent k) q = absurd (none-some i q)

    field : (o : Option Field') → slot_in t d o ≡ Some i → d < length t.classes
    field None q = absurd (none-some i q)
    field (Some y) q = owned y y.owner q

-- what holds for each class holds for all objects
pub by_class : (p : Program) (h : Heap) (a : Marked) (f : ℕ) (G : ℕ → Type 0)
    → ((d k : ℕ) → d < length p.tables.classes → class_in (slice_get h.cells k) ≡ Some d → G k → PlaceDone p h a (OfObject k f))
    → (k : ℕ) → G k → PlaceDone p h a (OfObject k f)
by_class p h a f G all k g v y e r =
    let z = field_place p.tables f (slice_get h.cells k) v e in
    all z.0 k (slot_class p.tables z.0 f z.2.0 z.2.1) z.1 g v y e r

-- the objects of a class that have a field are in the row of the class
pub by_row : (p : Program) (h : Heap) (x : Index) (a : Marked) (f d : ℕ) (G : ℕ → Type 0) → Indexes p.tables h x
    → ((i k : ℕ) → slice_get (cells_at x d) i ≡ Some k → G k → PlaceDone p h a (OfObject k f))
    → (k : ℕ) → class_in (slice_get h.cells k) ≡ Some d → G k → PlaceDone p h a (OfObject k f)
by_row p h x a f d G ix all k c g v y e r =
    let z = field_place p.tables f (slice_get h.cells k) v e in
    let same = same_Some z.0 d (sym z.1 ∙ c) in
    let there = subst (λ n. n < length p.tables.classes) same (slot_class p.tables z.0 f z.2.0 z.2.1) in
    let has = ix.cells k d c there in
    all has.0 k has.1 g v y e r

-- where objects of a class don't have a field
pub without_field : (p : Program) (h : Heap) (a : Marked) (f d : ℕ) → is_some (slot_of p.tables d f) ≡ false → (k : ℕ) → class_in (slice_get h.cells k) ≡ Some d
    → PlaceDone p h a (OfObject k f)
without_field p h a f d e k c v y g r =
    let z = field_place p.tables f (slice_get h.cells k) v g in
    let same = same_Some z.0 d (sym z.1 ∙ c) in
    absurd (not_both (slot_of p.tables d f) z.2.0 (subst (λ n. slot_of p.tables n f ≡ Some z.2.0) same z.2.1) e)
  where
    not_both : (o : Option ℕ) (i : ℕ) → o ≡ Some i → is_some o ≡ false → ⊥
    not_both None i q n = none-some i q
    not_both (Some j) i q n = cc

-- the fields that an object has are in the row of its class
pub by_fields : (p : Program) (h : Heap) (x : Index) (a : Marked) (d k : ℕ) (G : ℕ → Type 0) → Indexes p.tables h x → class_in (slice_get h.cells k) ≡ Some d
    → ((i f : ℕ) → slice_get (fields_at x d) i ≡ Some f → G f → PlaceDone p h a (OfObject k f))
    → (f : ℕ) → G f → PlaceDone p h a (OfObject k f)
by_fields p h x a d k G ix c all f g v y e r =
    let z = field_place p.tables f (slice_get h.cells k) v e in
    let same = same_Some z.0 d (sym z.1 ∙ c) in
    let slot = subst (λ n. slot_of p.tables n f ≡ Some z.2.0) same z.2.1 in
    let has = row f z.2.0 slot (slice_get x.classes d) refl in
    all has.0 f has.1 g v y e r
  where
    row : (f i : ℕ) → slot_of p.tables d f ≡ Some i → (o : Option ClassRow) → slice_get x.classes d ≡ o → Has (fields_in o) f
    row f i s (Some w) q = (ix.rows d w q).fields f i s
    row f i s None q = let l = slot_class p.tables d f i s in let n = ix.classes in absurd (none_past x.classes d (omega (arith, l, n)) q)

-- ---- elements of arrays

pub item_is : (o : Option cells.Cell) (vs : List CoreValue) (i : ℕ) (v : CoreValue) → items_in o ≡ Some vs → slice_get vs i ≡ Some v → item_in i o ≡ Some v
item_is None vs i v e g = absurd (none-some vs e)
item_is (Some (Object d ws)) vs i v e g = absurd (none-some vs e)
item_is (Some (Array t ws)) vs i v e g = ap (λ z. slice_get z i) (same_Some ws vs e) ∙ g

pub is_item : (o : Option cells.Cell) (vs : List CoreValue) (i : ℕ) (v : CoreValue) → items_in o ≡ Some vs → item_in i o ≡ Some v → slice_get vs i ≡ Some v
is_item None vs i v e g = absurd (none-some vs e)
is_item (Some (Object d ws)) vs i v e g = absurd (none-some vs e)
is_item (Some (Array t ws)) vs i v e g = ap (λ z. slice_get z i) (sym (same_Some ws vs e)) ∙ g

-- the elements so far
abbrev pub HeldSoFar : Program → Heap → List CoreValue → Marked → Marked → ℕ → Type 0
HeldSoFar p h vs s a n = Goes p h s a × ((i : ℕ) (v : CoreValue) (y : Member) → i < n → slice_get vs i ≡ Some v → Refers v y → Drawn p h a y)

pub held_more : (p : Program) (h : Heap) (vs : List CoreValue) (s a b : Marked) (n k : ℕ) (v : CoreValue) → items_in (slice_get h.cells k) ≡ Some vs
    → slice_get vs n ≡ Some v → IsIn s.set (Cell k) → HoldsAll a b v 10 (Some (Cell k)) None → HeldSoFar p h vs s a n → HeldSoFar p h vs s b (n + 1)
held_more p h vs s a b n k v es e i d (g, w) =
    (goes_then p h s a b g z.0, λ j u y lt q r. by' j u y lt q r (same_or_not j n))
  where
    z : Goes p h a b × ((y : Member) → Refers v y → Drawn p h b y)
    z = d p h g.0 (record { place = OfArray k n; value = item_is (slice_get h.cells k) vs n v es e; rule_is = refl; from_is = refl; also_is = refl })
        (in_still p h s a (Cell k) g i) tt

    by' : (j : ℕ) (u : CoreValue) (y : Member) → j < n + 1 → slice_get vs j ≡ Some u → Refers u y → (j ≡ n) ⊎ ((j ≡ n) → ⊥) → Drawn p h b y
    by' j u y lt q r (inl jn) = z.1 y (subst (λ c. Refers c y) (same_Some u v (sym q ∙ (ap (slice_get vs) jn ∙ e))) r)
    by' j u y lt q r (inr ne) = drawn_still p h a b y z.0 (w j u y (omega (arith, lt, ne)) q r)

pub held_all : (p : Program) (h : Heap) (vs : List CoreValue) (s a : Marked) (n k : ℕ) → items_in (slice_get h.cells k) ≡ Some vs → length vs ≤ n
    → HeldSoFar p h vs s a n → Goes p h s a × ((i : ℕ) → PlaceDone p h a (OfArray k i))
held_all p h vs s a n k es le (g, w) =
    (g, λ i v y e r. let at = is_item (slice_get h.cells k) vs i v es e in w i v y (let l = slice_get_within vs i v at in omega (arith, l, le)) at r)
