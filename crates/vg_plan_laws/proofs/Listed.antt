-- Which columns there are.
use Rattle.std.proofs.Common.{◌≡◌, ◌⊎◌, refl, sym, ap, subst, ◌∙◌, arith, ℕ, zero, suc, ◌+◌, ◌*◌, ◌<◌, ◌≤◌, ◌==◌, ◌&&◌, ◌||◌, not, nat_lt, Bool, true, false}
use Rattle.std.proofs.Common.{List, [], ◌∷◌, ◌++◌, length, map, Some, slice_get, if◌then◌else◌}
use Rattle.std.proofs.lemmas.Option.{same_Some, none-some}
use Rattle.std.proofs.lemmas.List.{length-append, length-map}
use mathlib.Core.Logic.{inl, inr}
use Rattle.vg_core.specs.declared.program.Field.{Field}
use Rattle.vg_core.specs.declared.program.Tables.{Tables}
use Rattle.vg_core.specs.Heap.{Kind, ObjectOf, ArrayOf}
use Rattle.vg_core.specs.Tables.{is_in}
use Rattle.vg_firm.specs.declared.step.Home.{Home}
use Rattle.vg_firm.specs.declared.step.Home.TheVariants.{Ram, Flash}
use Rattle.vg_placement.specs.declared.column.Held.{Held}
use Rattle.vg_placement.specs.declared.column.Held.TheVariants.{Initial, Field as TheField, Elements as TheItems, Table as TheTable}
use Rattle.vg_placement.specs.declared.column.Column.{Column}
use Rattle.vg_placement.specs.Columns.{bytes_of, items_count, owner_count, Needs, unless_empty, field_column, field_columns, array_types, item_width, item_columns, columns}
use Rattle.vg_placement.specs.Columns.{table_of, table_columns, placed, bytes_where, home_bytes, all_columns}
use Rattle.vg_placement.specs.Columns.{ram_behind, flash_behind}
use Rattle.vg_plan_laws.proofs.Items.{At, here, there}

-- ---- the types of kept arrays

pub types_listed : (kept : ℕ → Bool) (seen : List ℕ) (at : ℕ) (κ : List Kind) (j t size : ℕ) → slice_get κ j ≡ Some (ArrayOf t size) → kept (at + j) ≡ true
    → (is_in seen t ≡ true) ⊎ (is_in (array_types kept seen at κ) t ≡ true)
types_listed kept seen at [] j t size e k = absurd (none-some (ArrayOf t size) e)
types_listed kept seen at (ObjectOf c ∷ κ) zero t size e k = absurd (let clash : ObjectOf c ≡ ArrayOf t size = same_Some (ObjectOf c) (ArrayOf t size) e in cc)
types_listed kept seen at (ObjectOf c ∷ κ) (suc j) t size e k =
    let z : at + suc j ≡ suc at + j = omega arith in types_listed kept seen (suc at) κ j t size e (subst (λ w. kept w ≡ true) z k)
types_listed kept seen at (ArrayOf u n ∷ κ) zero t size e k = by (is_in seen t) refl
  where
    kept_at : kept at ≡ true
    kept_at = let z : at + 0 ≡ at = omega arith in subst (λ w. kept w ≡ true) z k

    ut : u ≡ t
    ut = let q : ArrayOf u n ≡ ArrayOf t size = same_Some (ArrayOf u n) (ArrayOf t size) e in cc

    here_it : is_in (t ∷ array_types kept (t ∷ seen) (suc at) κ) t ≡ true
    here_it = let q : (t == t) ≡ true = grind arith in ap (λ b. b || is_in (array_types kept (t ∷ seen) (suc at) κ) t) q

    by : (b : Bool) → is_in seen t ≡ b → (is_in seen t ≡ true) ⊎ (is_in (array_types kept seen at (ArrayOf u n ∷ κ)) t ≡ true)
    by true q = inl q
    by false q =
        inr (subst (λ w. is_in (if kept at && not (is_in seen w) then w ∷ array_types kept (w ∷ seen) (suc at) κ else array_types kept seen (suc at) κ) t ≡ true) (sym ut)
        (ap (λ b. is_in (if b && not (is_in seen t) then t ∷ array_types kept (t ∷ seen) (suc at) κ else array_types kept seen (suc at) κ) t) kept_at
        ∙ (ap (λ b. is_in (if true && not b then t ∷ array_types kept (t ∷ seen) (suc at) κ else array_types kept seen (suc at) κ) t) q ∙ here_it)))
types_listed kept seen at (ArrayOf u n ∷ κ) (suc j) t size e k =
    let z : at + suc j ≡ suc at + j = omega arith in
    let k1 : kept (suc at + j) ≡ true = subst (λ w. kept w ≡ true) z k in
    by (kept at && not (is_in seen u)) (types_listed kept (u ∷ seen) (suc at) κ j t size e k1) (types_listed kept seen (suc at) κ j t size e k1)
  where
    more : (b : Bool) → (u == t) ≡ b
        → (is_in (u ∷ seen) t ≡ true) ⊎ (is_in (array_types kept (u ∷ seen) (suc at) κ) t ≡ true)
        → (is_in seen t ≡ true) ⊎ (is_in (u ∷ array_types kept (u ∷ seen) (suc at) κ) t ≡ true)
    more true q x = inr (ap (λ b. b || is_in (array_types kept (u ∷ seen) (suc at) κ) t) q)
    more false q (inl x) = inl (sym (ap (λ b. b || is_in seen t) q) ∙ x)
    more false q (inr x) = inr (ap (λ b. b || is_in (array_types kept (u ∷ seen) (suc at) κ) t) q ∙ x)

    by : (b : Bool) → (is_in (u ∷ seen) t ≡ true) ⊎ (is_in (array_types kept (u ∷ seen) (suc at) κ) t ≡ true)
        → (is_in seen t ≡ true) ⊎ (is_in (array_types kept seen (suc at) κ) t ≡ true) → (is_in seen t ≡ true)
        ⊎ (is_in (if b then u ∷ array_types kept (u ∷ seen) (suc at) κ else array_types kept seen (suc at) κ) t ≡ true)
    by true x y = more (u == t) refl x
    by false x y = y

types_few : (kept : ℕ → Bool) (seen : List ℕ) (at : ℕ) (κ : List Kind) → length (array_types kept seen at κ) ≤ length κ
types_few kept seen at [] = omega arith
types_few kept seen at (ObjectOf c ∷ κ) = let h = types_few kept seen (suc at) κ in omega (arith, h)
types_few kept seen at (ArrayOf u n ∷ κ) = by (kept at && not (is_in seen u)) (types_few kept (u ∷ seen) (suc at) κ) (types_few kept seen (suc at) κ)
  where
    by : (b : Bool) → length (array_types kept (u ∷ seen) (suc at) κ) ≤ length κ → length (array_types kept seen (suc at) κ) ≤ length κ
        → length (if b then u ∷ array_types kept (u ∷ seen) (suc at) κ else array_types kept seen (suc at) κ) ≤ suc (length κ)
    by true g h = omega (arith, g)
    by false g h = omega (arith, h)

-- ---- columns that hold something

at_left : (w : Held) (a : ℕ) (xs ys : List Column) → At w a xs → At w a (xs ++ ys)
at_left w a [] ys h = elim h [ ]
at_left w a (x ∷ xs) ys (here q e) = here q e
at_left w a (x ∷ xs) ys (there h) = there (at_left w a xs ys h)

at_right : (w : Held) (a : ℕ) (xs ys : List Column) → At w a ys → At w a (xs ++ ys)
at_right w a [] ys h = h
at_right w a (x ∷ xs) ys h = there (at_right w a xs ys h)

-- placed columns hold the same
at_placed : (w : Held) (a ram flash : ℕ) (cs : List Column) → At w a cs → (b : ℕ) × At w b (placed ram flash cs)
at_placed w a ram flash [] h = elim h [ ]
at_placed w a ram flash (c ∷ cs) (here q e) = (_, here q refl)
at_placed w a ram flash (c ∷ cs) (there h) =
    let r = at_placed w a (ram_behind c.home ram (bytes_of c)) (flash_behind c.home flash (bytes_of c)) cs h in (r.0, there r.1)

pub at_place : (w : Held) (a : ℕ) (cs : List Column) → At w a cs → (i : ℕ) × (c : Column) × (slice_get cs i ≡ Some c) × (c.what ≡ w) × (c.at ≡ a)
at_place w a [] h = elim h [ ]
at_place w a (c ∷ cs) (here q e) = (0, c, refl, q, e)
at_place w a (c ∷ cs) (there h) = let r = at_place w a cs h in (suc r.0, r.1, r.2, r.3, r.4)

item_there : (p : Tables) (n : Needs) (κ : List Kind) (ts : List ℕ) (t : ℕ) → is_in ts t ≡ true
    → 0 < item_width (slice_get p.types t) * items_count n.kept t κ → At (TheItems t) 0 (item_columns p n κ ts)
item_there p n κ [] t e pos = let clash : false ≡ true = e in absurd (grind (arith, clash))
item_there p n κ (u ∷ ts) t e pos = by (u == t) refl (λ i. item_there p n κ ts t i pos)
  where
    first : List Column
    first = unless_empty (record {
      what = TheItems u;
      home = Ram;
      at = 0;
      width = item_width (slice_get p.types u);
      count = items_count n.kept u κ;
    })

    same : (b : Bool) → (u == t) ≡ b → b ≡ true → u ≡ t
    same b q r = let x : (u == t) ≡ true = q ∙ r in grind (arith, x)

    at_t : At (TheItems t) 0 (unless_empty (record {
      what = TheItems t;
      home = Ram;
      at = 0;
      width = item_width (slice_get p.types t);
      count = items_count n.kept t κ;
    }))
    at_t =
        let q : nat_lt 0 (item_width (slice_get p.types t) * items_count n.kept t κ) ≡ true = grind (arith, pos) in
        subst (λ b. At (TheItems t) 0 (if b then record {
          what = TheItems t;
          home = Ram;
          at = 0;
          width = item_width (slice_get p.types t);
          count = items_count n.kept t κ;
        } ∷ [] else [])) (sym q) (here refl refl)

    by : (b : Bool) → (u == t) ≡ b → (is_in ts t ≡ true → At (TheItems t) 0 (item_columns p n κ ts)) → At (TheItems t) 0 (first ++ item_columns p n κ ts)
    by true q rest =
        at_left (TheItems t) 0 first (item_columns p n κ ts) (subst (λ w. At (TheItems t) 0 (unless_empty (record {
          what = TheItems w;
          home = Ram;
          at = 0;
          width = item_width (slice_get p.types w);
          count = items_count n.kept w κ;
        }))) (sym (same true q refl)) at_t)
    by false q rest = at_right (TheItems t) 0 first (item_columns p n κ ts) (rest (sym (ap (λ b. b || is_in ts t) q) ∙ e))

table_there : (kept : ℕ → Bool) (κ : List Kind) (ts : List ℕ) (t : ℕ) → is_in ts t ≡ true → At (TheTable t) 0 (map (table_of kept κ) ts)
table_there kept κ [] t e = let clash : false ≡ true = e in absurd (grind (arith, clash))
table_there kept κ (u ∷ ts) t e = by (u == t) refl (table_there kept κ ts t)
  where
    by : (b : Bool) → (u == t) ≡ b → (is_in ts t ≡ true → At (TheTable t) 0 (map (table_of kept κ) ts)) → At (TheTable t) 0 (table_of kept κ u ∷ map (table_of kept κ) ts)
    by true q rest = let ut : u ≡ t = grind (arith, q) in here (ap TheTable ut) refl
    by false q rest = there (rest (sym (ap (λ b. b || is_in ts t) q) ∙ e))

-- ---- what is true of each column

abbrev pub All : (Column → Type 0) → List Column → Type 0
All P [] = Unit {0}
All P (c ∷ cs) = P c × All P cs

pub all_append : (P : Column → Type 0) (xs ys : List Column) → All P xs → All P ys → All P (xs ++ ys)
all_append P [] ys a b = b
all_append P (x ∷ xs) ys (h, a) b = (h, all_append P xs ys a b)

pub all_get : (P : Column → Type 0) (cs : List Column) (i : ℕ) (c : Column) → All P cs → slice_get cs i ≡ Some c → P c
all_get P [] i c a e = absurd (none-some c e)
all_get P (x ∷ xs) zero c (h, a) e = subst P (same_Some x c e) h
all_get P (x ∷ xs) (suc i) c (h, a) e = all_get P xs i c a e

pub all_unless : (P : Column → Type 0) (c : Column) → P c → All P (unless_empty c)
all_unless P c h = by (nat_lt 0 (bytes_of c))
  where
    by : (b : Bool) → All P (if b then c ∷ [] else [])
    by true = (h, tt)
    by false = tt

module _ (p : Tables) (n : Needs) (κ : List Kind) where
  -- a column is one of those of the plain layout
  abbrev pub RightOf : Held → Home → (width count : ℕ) → Type 0
  RightOf Initial h w m = h ≡ Flash
  RightOf (TheField f) h w m = (h ≡ Ram) × ((y : Field) → slice_get p.fields f ≡ Some y → m ≡ owner_count n.count y.owner)
  RightOf (TheItems t) h w m = (h ≡ Ram) × (w ≡ item_width (slice_get p.types t)) × (m ≡ items_count n.kept t κ)
  RightOf (TheTable t) h w m = h ≡ Flash

  abbrev pub Right : Column → Type 0
  Right c = RightOf c.what c.home c.width c.count

  fields_right : (f : ℕ) (ys : List Field) → ((i : ℕ) → slice_get ys i ≡ slice_get p.fields (i + f)) → All Right (field_columns n f ys)
  fields_right f [] at = tt
  fields_right f (y ∷ ys) at = all_append Right _ (field_columns n (suc f) ys) (by (n.live f)) (fields_right (suc f) ys next)
    where
      next : (i : ℕ) → slice_get ys i ≡ slice_get p.fields (i + suc f)
      next i = at (suc i) ∙ ap (slice_get p.fields) (omega arith)

      here_it : slice_get p.fields f ≡ Some y
      here_it = ap (slice_get p.fields) (omega arith) ∙ sym (at 0)

      right : Right (field_column n f y)
      right = (refl, λ z e. ap (λ w. owner_count n.count w.owner) (same_Some y z (sym here_it ∙ e)))

      by : (b : Bool) → All Right (if b then unless_empty (field_column n f y) else [])
      by true = all_unless Right (field_column n f y) right
      by false = tt

  items_right : (ts : List ℕ) → All Right (item_columns p n κ ts)
  items_right [] = tt
  items_right (t ∷ ts) = all_append Right _ (item_columns p n κ ts) (all_unless Right _ (refl, refl, refl)) (items_right ts)

  tables_right : (ts : List ℕ) → All Right (map (table_of n.kept κ) ts)
  tables_right [] = tt
  tables_right (t ∷ ts) = (refl, tables_right ts)

  placed_right : (ram flash : ℕ) (cs : List Column) → All Right cs → All Right (placed ram flash cs)
  placed_right ram flash [] a = tt
  placed_right ram flash (c ∷ cs) (h, a) = (h, placed_right (ram_behind c.home ram (bytes_of c)) (flash_behind c.home flash (bytes_of c)) cs a)

  pub all_right : (ram flash : ℕ) → All Right (placed ram flash (all_columns p n κ))
  all_right ram flash =
      placed_right ram flash (all_columns p n κ) (
        refl,
        all_append Right (columns p n κ) (table_columns n κ)
            (all_append Right (field_columns n 0 p.fields) _ (fields_right 0 p.fields (λ i. ap (slice_get p.fields) (omega arith))) (items_right (array_types n.kept [] 0 κ)))
            (tables_right (array_types n.kept [] 0 κ)),
      )

  -- the columns of a kept array
  type_there : (j t size : ℕ) → slice_get κ j ≡ Some (ArrayOf t size) → n.kept j ≡ true → is_in (array_types n.kept [] 0 κ) t ≡ true
  type_there j t size e k = by (types_listed n.kept [] 0 κ j t size e (let z : 0 + j ≡ j = omega arith in subst (λ w. n.kept w ≡ true) (sym z) k))
    where
      by : (false ≡ true) ⊎ (is_in (array_types n.kept [] 0 κ) t ≡ true) → is_in (array_types n.kept [] 0 κ) t ≡ true
      by (inl clash) = absurd (grind (arith, clash))
      by (inr q) = q

  pub items_at : (ram flash j t size : ℕ) → slice_get κ j ≡ Some (ArrayOf t size) → n.kept j ≡ true
      → 0 < item_width (slice_get p.types t) * items_count n.kept t κ → (a : ℕ) × At (TheItems t) a (placed ram flash (all_columns p n κ))
  items_at ram flash j t size e k pos =
      at_placed (TheItems t) 0 ram flash (all_columns p n κ) (there (at_left (TheItems t) 0 (columns p n κ) (table_columns n κ)
      (at_right (TheItems t) 0 (field_columns n 0 p.fields) _ (item_there p n κ (array_types n.kept [] 0 κ) t (type_there j t size e k) pos))))

  pub table_at : (ram flash j t size : ℕ) → slice_get κ j ≡ Some (ArrayOf t size) → n.kept j ≡ true
      → (a : ℕ) × At (TheTable t) a (placed ram flash (all_columns p n κ))
  table_at ram flash j t size e k =
      at_placed (TheTable t) 0 ram flash (all_columns p n κ) (there (at_right (TheTable t) 0 (columns p n κ) (table_columns n κ)
      (table_there n.kept κ (array_types n.kept [] 0 κ) t (type_there j t size e k))))

  -- ---- how many there are

  -- a column in RAM with bytes adds to the sum
  abbrev Counts : Column → Type 0
  Counts c = (c.home ≡ Ram) × (0 < bytes_of c)

  counts_few : (cs : List Column) → All Counts cs → length cs ≤ home_bytes Ram cs
  counts_few [] a = omega arith
  counts_few (c ∷ cs) ((q, pos), a) =
      let h = counts_few cs a in let b : bytes_where Ram c.home (bytes_of c) ≡ bytes_of c = ap (λ z. bytes_where Ram z (bytes_of c)) q in omega (arith, h, pos, b)

  counts_unless : (c : Column) → c.home ≡ Ram → All Counts (unless_empty c)
  counts_unless c q = by (nat_lt 0 (bytes_of c)) refl
    where
      by : (b : Bool) → nat_lt 0 (bytes_of c) ≡ b → All Counts (if b then c ∷ [] else [])
      by true e = ((q, grind (arith, e)), tt)
      by false e = tt

  fields_count : (f : ℕ) (ys : List Field) → All Counts (field_columns n f ys)
  fields_count f [] = tt
  fields_count f (y ∷ ys) = all_append Counts _ (field_columns n (suc f) ys) (by (n.live f)) (fields_count (suc f) ys)
    where
      by : (b : Bool) → All Counts (if b then unless_empty (field_column n f y) else [])
      by true = counts_unless (field_column n f y) refl
      by false = tt

  items_count_ : (ts : List ℕ) → All Counts (item_columns p n κ ts)
  items_count_ [] = tt
  items_count_ (t ∷ ts) = all_append Counts _ (item_columns p n κ ts) (counts_unless _ refl) (items_count_ ts)

  sum_append : (h : Home) (xs ys : List Column) → home_bytes h (xs ++ ys) ≡ home_bytes h xs + home_bytes h ys
  sum_append h [] ys = omega arith
  sum_append h (x ∷ xs) ys = let s = sum_append h xs ys in omega (arith, s)

  placed_length : (ram flash : ℕ) (cs : List Column) → length (placed ram flash cs) ≡ length cs
  placed_length ram flash [] = refl
  placed_length ram flash (c ∷ cs) = ap suc (placed_length (ram_behind c.home ram (bytes_of c)) (flash_behind c.home flash (bytes_of c)) cs)

  pub few_columns : (ram flash : ℕ) → length κ ≤ 60000 → home_bytes Ram (all_columns p n κ) ≤ 4096 → length (placed ram flash (all_columns p n κ)) < 65536
  few_columns ram flash few le =
      let l = placed_length ram flash (all_columns p n κ) in
      let a = length-append (columns p n κ) (table_columns n κ) in
      let t = length-map (array_types n.kept [] 0 κ) (table_of n.kept κ) in
      let f = types_few n.kept [] 0 κ in
      let s = sum_append Ram (columns p n κ) (table_columns n κ) in
      let c = counts_few (columns p n κ) (all_append Counts (field_columns n 0 p.fields) _ (fields_count 0 p.fields) (items_count_ (array_types n.kept [] 0 κ))) in
      omega (arith, l, a, t, f, s, c, few, le)
