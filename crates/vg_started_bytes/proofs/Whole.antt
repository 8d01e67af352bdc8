-- All columns and all tables among the bytes.
use Rattle.std.proofs.Common.{◌≡◌, ◌≢◌, ◌⊎◌, inl, inr, refl, sym, ap, subst, ◌∙◌, arith, ℕ, zero, suc, ◌+◌, ◌-◌, ◌*◌, ◌<◌, ◌≤◌, ◌^◌}
use Rattle.std.proofs.Common.{List, [], ◌∷◌, ◌++◌, length, map, Some, slice_get}
use Rattle.std.proofs.lemmas.List.{append_assoc, length-append}
use Rattle.std.specs.List.{AllByRecursion}
use Rattle.vg_codes.specs.Codes.{Codes}
use Rattle.vg_firm.specs.declared.step.ArrayPlace.{ArrayPlace}
use Rattle.vg_flatten_shapes.specs.declared.layout.Place.{Place}
use Rattle.vg_flatten_shapes.proofs.Temps.{some_is, none_is_not}
use Rattle.vg_lin.specs.State.{number_at}
use Rattle.vg_placement.specs.declared.column.Column.{Column}
use Rattle.vg_placement.specs.Columns.{bytes_of}
use Rattle.vg_table_bytes.specs.Bytes.{arrays_bytes, column_bytes, columns_bytes, entries_bytes, rows_bytes}
use Rattle.vg_tables.specs.declared.datum.Datum.{Datum}
use Rattle.vg_tables.specs.declared.entry.Entry.{Entry}
use Rattle.vg_tables.specs.Entries.{number_in}
use Rattle.vg_packed.specs.Packed.{count_of}
use Rattle.vg_started_bytes.specs.Started.{address_of, bytes_in, place_of, HoldsTable}
use Rattle.vg_table_bytes.specs.Rows.{ArrayFits, RowsFit}
use Rattle.vg_started_bytes.proofs.Placed.{at_address, stacked, total, width_in_column}
use Rattle.vg_started_bytes.proofs.Rows.{arrays_held, arrays_length, entries_held, entries_length}

-- ---- lists

head_is : (x y : ℕ) (xs ys : List ℕ) → x ∷ xs ≡ y ∷ ys → x ≡ y
head_is x y xs ys e = ap head_of e
  where
    head_of : List ℕ → ℕ
    head_of [] = x
    head_of (z ∷ zs) = z

tail_is : (x y : ℕ) (xs ys : List ℕ) → x ∷ xs ≡ y ∷ ys → xs ≡ ys
tail_is x y xs ys e = ap tail_of e
  where
    tail_of : List ℕ → List ℕ
    tail_of [] = xs
    tail_of (z ∷ zs) = zs

found : (pre : List ℕ) (x : ℕ) (rest : List ℕ) → slice_get (pre ++ x ∷ rest) (length pre) ≡ Some x
found [] x rest = refl
found (y ∷ pre) x rest = found pre x rest

one_longer : (pre : List ℕ) (x : ℕ) → suc (length pre) ≡ length (pre ++ x ∷ [])
one_longer [] x = refl
one_longer (y ∷ pre) x = ap suc (one_longer pre x)

-- ---- the bytes of all columns

abbrev pub body : List Column → List (List Entry) → List Datum
body [] rows = []
body (c ∷ cs) [] = []
body (c ∷ cs) (es ∷ rows) = entries_bytes c.width es ++ body cs rows

not_longer : {B : Type 0} (x : ℕ) (xs : List ℕ) → x ∷ xs ≡ [] → B
not_longer x xs e = none_is_not x (sym (ap (λ z. slice_get z 0) e))

pub columns_are : (cs : List Column) (rows : List (List Entry)) → map length rows ≡ map count_of cs → (pre : List ℕ)
    → columns_bytes (pre ++ map width_in_column cs) (length pre) rows ≡ body cs rows
columns_are [] [] e pre = refl
columns_are [] (es ∷ rows) e pre = not_longer (length es) (map length rows) e
columns_are (c ∷ cs) [] e pre = refl
columns_are (c ∷ cs) (es ∷ rows) e pre =
    ap (λ z. column_bytes z es ++ columns_bytes (pre ++ c.width ∷ map width_in_column cs) (suc (length pre)) rows) (found pre c.width (map width_in_column cs))
    ∙ ap (λ z. entries_bytes c.width es ++ z) (ap (λ z. columns_bytes z (suc (length pre)) rows) (sym (append_assoc pre (c.width ∷ []) (map width_in_column cs)))
    ∙ (ap (λ z. columns_bytes ((pre ++ c.width ∷ []) ++ map width_in_column cs) z rows) (one_longer pre c.width)
    ∙ columns_are cs rows (tail_is (length es) c.count (map length rows) (map count_of cs) e) (pre ++ c.width ∷ [])))

module _ (k : Codes) where
  pub body_length : (a : ℕ) (cs : List Column) (rows : List (List Entry)) → map length rows ≡ map count_of (stacked a cs) → RowsFit k (stacked a cs) rows
      → length (body (stacked a cs) rows) ≡ total cs
  body_length a [] rows e h = refl
  body_length a (c ∷ cs) [] e h = not_longer c.count (map count_of (stacked (a + bytes_of c) cs)) (sym e)
  body_length a (c ∷ cs) (es ∷ rows) e h =
      length-append (entries_bytes c.width es) (body (stacked (a + bytes_of c) cs) rows)
      ∙ (ap (λ z. z + length (body (stacked (a + bytes_of c) cs) rows)) (entries_length k c.width es h.0
      ∙ ap (λ z. c.width * z) (head_is (length es) c.count (map length rows) (map count_of (stacked (a + bytes_of c) cs)) e))
      ∙ ap (λ z. c.width * c.count + z) (body_length (a + bytes_of c) cs rows
      (tail_is (length es) c.count (map length rows) (map count_of (stacked (a + bytes_of c) cs)) e) h.1))

  -- ---- each column

  abbrev pub HeldAt : List Datum → (first : ℕ) → Place → List ℕ → Type 0
  HeldAt all first place vs =
      (i v : ℕ) → slice_get vs i ≡ Some v
      → (number_at (bytes_in k all) place.width (place.address - first + place.width * i) ≡ Some v) × (v < 256 ^ place.width)

  abbrev pub numbers : List (List Entry) → List (List ℕ)
  numbers rows = map (λ entries. map (number_in k) entries) rows

  pub columns_held : (first a : ℕ) (cs : List Column) (rows : List (List Entry)) → map length rows ≡ map count_of (stacked a cs)
      → RowsFit k (stacked a cs) rows → (pre post : List Datum) → first + length pre ≡ a → (c : ℕ) (place : Place) (vs : List ℕ)
      → slice_get (map place_of (stacked a cs)) c ≡ Some place → slice_get (numbers rows) c ≡ Some vs
      → HeldAt (pre ++ (body (stacked a cs) rows ++ post)) first place vs
  columns_held first a [] rows e h pre post ea c place vs e1 e2 = none_is_not place e1
  columns_held first a (c ∷ cs) [] e h pre post ea j place vs e1 e2 = none_is_not vs e2
  columns_held first a (c ∷ cs) (es ∷ rows) e h pre post ea zero place vs e1 e2 =
      subst (λ z. HeldAt all first z vs) (some_is (place_of (at_address c a)) place e1)
      (subst (λ z. HeldAt all first (place_of (at_address c a)) z) (some_is (map (number_in k) es) vs e2) here)
    where
      rest : List Datum
      rest = body (stacked (a + bytes_of c) cs) rows

      all : List Datum
      all = pre ++ ((entries_bytes c.width es ++ rest) ++ post)

      index : (i : ℕ) → a - first + c.width * i ≡ length pre + c.width * i
      index i = ap (λ z. z + c.width * i) (less first (length pre) a ea)
        where
          less : (x y z : ℕ) → x + y ≡ z → z - x ≡ y
          less x y z ez = omega (arith, ez)

      here : HeldAt all first (place_of (at_address c a)) (map (number_in k) es)
      here =
          λ i v ev. (
            ap (λ z. number_at (bytes_in k z) c.width (a - first + c.width * i))
                (ap (λ z. pre ++ z) (append_assoc (entries_bytes c.width es) rest post))
                ∙ (ap (number_at (bytes_in k (pre ++ (entries_bytes c.width es ++ (rest ++ post)))) c.width) (index i)
                ∙ (entries_held k c.width es h.0 pre (rest ++ post) i v ev).0),
            (entries_held k c.width es h.0 pre (rest ++ post) i v ev).1,
          )
  columns_held first a (c ∷ cs) (es ∷ rows) e h pre post ea (suc j) place vs e1 e2 =
      subst (λ z. HeldAt z first place vs) (sym split)
      (columns_held first (a + bytes_of c) cs rows (tail_is (length es) c.count (map length rows) (map count_of (stacked (a + bytes_of c) cs)) e) h.1
      (pre ++ entries_bytes c.width es) post address j place vs e1 e2)
    where
      rest : List Datum
      rest = body (stacked (a + bytes_of c) cs) rows

      split : pre ++ ((entries_bytes c.width es ++ rest) ++ post) ≡ (pre ++ entries_bytes c.width es) ++ (rest ++ post)
      split = ap (λ z. pre ++ z) (append_assoc (entries_bytes c.width es) rest post) ∙ sym (append_assoc pre (entries_bytes c.width es) (rest ++ post))

      sums : (x y z m n : ℕ) → x + y ≡ z → m ≡ n → x + (y + m) ≡ z + n
      sums x y z m n ez em = omega (arith, ez, em)

      address : first + length (pre ++ entries_bytes c.width es) ≡ a + c.width * c.count
      address =
          ap (λ z. first + z) (length-append pre (entries_bytes c.width es))
          ∙ sums first (length pre) a (length (entries_bytes c.width es)) (c.width * c.count) ea (entries_length k c.width es h.0
          ∙ ap (λ z. c.width * z) (head_is (length es) c.count (map length rows) (map count_of (stacked (a + bytes_of c) cs)) e))

  -- ---- between which addresses they stand

  abbrev pub Between : (low high : ℕ) → Place → List ℕ → Type 0
  Between low high place vs = (low ≤ place.address) × (place.address + place.width * length vs ≤ high)

  mapped : (es : List Entry) → length (map (number_in k) es) ≡ length es
  mapped [] = refl
  mapped (x ∷ es) = ap suc (mapped es)

  pub columns_counted : (cs : List Column) (rows : List (List Entry)) → map length rows ≡ map count_of cs → (c : ℕ) (place : Place) (vs : List ℕ)
      → slice_get (map place_of cs) c ≡ Some place → slice_get (numbers rows) c ≡ Some vs → length vs ≡ place.count
  columns_counted [] rows e c place vs e1 e2 = none_is_not place e1
  columns_counted (c ∷ cs) [] e j place vs e1 e2 = none_is_not vs e2
  columns_counted (c ∷ cs) (es ∷ rows) e zero place vs e1 e2 =
      ap length (sym (some_is (map (number_in k) es) vs e2))
      ∙ (mapped es ∙ (head_is (length es) c.count (map length rows) (map count_of cs) e ∙ ap (λ (z : Place). z.count) (some_is (place_of c) place e1)))
  columns_counted (c ∷ cs) (es ∷ rows) e (suc j) place vs e1 e2 =
      columns_counted cs rows (tail_is (length es) c.count (map length rows) (map count_of cs) e) j place vs e1 e2

  -- the first column
  first_between : (a : ℕ) (c : Column) (t : ℕ) (es : List Entry) → length es ≡ c.count → (place : Place) (vs : List ℕ)
      → place_of (at_address c a) ≡ place → map (number_in k) es ≡ vs → Between a (a + bytes_of c + t) place vs
  first_between a c t es en place vs ep ev =
      subst (λ z. Between a (a + bytes_of c + t) z vs) ep (subst (λ z. Between a (a + bytes_of c + t) (place_of (at_address c a)) z) ev
      (same a, subst (λ z. a + c.width * z ≤ a + c.width * c.count + t) (sym (mapped es ∙ en)) (more (a + c.width * c.count) t)))
    where
      same : (x : ℕ) → x ≤ x
      same x = omega arith

      more : (x y : ℕ) → x ≤ x + y
      more x y = omega arith

  pub columns_between : (a : ℕ) (cs : List Column) (rows : List (List Entry)) → map length rows ≡ map count_of (stacked a cs)
      → (c : ℕ) (place : Place) (vs : List ℕ)
      → slice_get (map place_of (stacked a cs)) c ≡ Some place → slice_get (numbers rows) c ≡ Some vs → Between a (a + total cs) place vs
  columns_between a [] rows e c place vs e1 e2 = none_is_not place e1
  columns_between a (c ∷ cs) [] e j place vs e1 e2 = none_is_not vs e2
  columns_between a (c ∷ cs) (es ∷ rows) e zero place vs e1 e2 =
      subst (λ z. Between a z place vs) (sums a (bytes_of c) (total cs)) (first_between a c (total cs) es
      (head_is (length es) c.count (map length rows) (map count_of (stacked (a + bytes_of c) cs)) e) place vs
      (some_is (place_of (at_address c a)) place e1) (some_is (map (number_in k) es) vs e2))
    where
      sums : (x y z : ℕ) → x + y + z ≡ x + (y + z)
      sums x y z = omega arith
  columns_between a (c ∷ cs) (es ∷ rows) e (suc j) place vs e1 e2 =
      let more = columns_between (a + bytes_of c) cs rows (tail_is (length es) c.count (map length rows) (map count_of (stacked (a + bytes_of c) cs)) e) j place vs e1 e2
      in (low a (bytes_of c) place.address more.0, high a (bytes_of c) (total cs) (place.address + place.width * length vs) more.1)
    where
      low : (x y z : ℕ) → x + y ≤ z → x ≤ z
      low x y z le = omega (arith, le)

      high : (x y z m : ℕ) → m ≤ x + y + z → m ≤ x + (y + z)
      high x y z m le = omega (arith, le)

  pub columns_apart : (a : ℕ) (cs : List Column) (rows : List (List Entry)) → map length rows ≡ map count_of (stacked a cs)
      → (c d : ℕ) (one two : Place) (vs us : List ℕ) → c ≢ d → slice_get (map place_of (stacked a cs)) c ≡ Some one → slice_get (numbers rows) c ≡ Some vs
      → slice_get (map place_of (stacked a cs)) d ≡ Some two → slice_get (numbers rows) d ≡ Some us
      → (one.address + one.width * length vs ≤ two.address) ⊎ (two.address + two.width * length us ≤ one.address)
  columns_apart a [] rows e c d one two vs us ne e1 e2 e3 e4 = none_is_not one e1
  columns_apart a (x ∷ cs) [] e c d one two vs us ne e1 e2 e3 e4 = none_is_not vs e2
  columns_apart a (x ∷ cs) (es ∷ rows) e zero zero one two vs us ne e1 e2 e3 e4 = absurd (ne refl)
  columns_apart a (x ∷ cs) (es ∷ rows) e zero (suc d) one two vs us ne e1 e2 e3 e4 =
      inl (joins (one.address + one.width * length vs) (a + bytes_of x) two.address
      (first_between a x 0 es (head_is (length es) x.count (map length rows) (map count_of (stacked (a + bytes_of x) cs)) e) one vs
      (some_is (place_of (at_address x a)) one e1) (some_is (map (number_in k) es) vs e2)).1
      (columns_between (a + bytes_of x) cs rows (tail_is (length es) x.count (map length rows) (map count_of (stacked (a + bytes_of x) cs)) e) d two us e3 e4).0)
    where
      joins : (m n o : ℕ) → m ≤ n + 0 → n ≤ o → m ≤ o
      joins m n o le more = omega (arith, le, more)
  columns_apart a (x ∷ cs) (es ∷ rows) e (suc c) zero one two vs us ne e1 e2 e3 e4 =
      inr (joins (two.address + two.width * length us) (a + bytes_of x) one.address
      (first_between a x 0 es (head_is (length es) x.count (map length rows) (map count_of (stacked (a + bytes_of x) cs)) e) two us
      (some_is (place_of (at_address x a)) two e3) (some_is (map (number_in k) es) us e4)).1
      (columns_between (a + bytes_of x) cs rows (tail_is (length es) x.count (map length rows) (map count_of (stacked (a + bytes_of x) cs)) e) c one vs e1 e2).0)
    where
      joins : (m n o : ℕ) → m ≤ n + 0 → n ≤ o → m ≤ o
      joins m n o le more = omega (arith, le, more)
  columns_apart a (x ∷ cs) (es ∷ rows) e (suc c) (suc d) one two vs us ne e1 e2 e3 e4 =
      columns_apart (a + bytes_of x) cs rows (tail_is (length es) x.count (map length rows) (map count_of (stacked (a + bytes_of x) cs)) e) c d one two vs us
      (λ same. ne (ap suc same)) e1 e2 e3 e4

  -- ---- tables

  pub tables_held : (first a : ℕ) (cs : List Column) (rows : List (List ArrayPlace)) → AllByRecursion (λ c. c.width ≡ 4) cs
      → map length rows ≡ map count_of (stacked a cs) → AllByRecursion (AllByRecursion ArrayFits) rows → (pre : List Datum) → first + length pre ≡ a
      → a + total cs ≤ 65536 → (t address : ℕ) (arrays : List ArrayPlace)
      → slice_get (map address_of (stacked a cs)) t ≡ Some address → slice_get rows t ≡ Some arrays
      → HoldsTable (bytes_in k (pre ++ rows_bytes rows)) first address arrays
  tables_held first a [] rows four e h pre ea le t address arrays e1 e2 = none_is_not address e1
  tables_held first a (c ∷ cs) [] four e h pre ea le t address arrays e1 e2 = none_is_not arrays e2
  tables_held first a (c ∷ cs) (r ∷ rows) four e h pre ea le zero address arrays e1 e2 =
      subst (λ z. HoldsTable (bytes_in k (pre ++ (arrays_bytes r ++ rows_bytes rows))) first z arrays) (some_is a address e1)
      (subst (λ z. HoldsTable (bytes_in k (pre ++ (arrays_bytes r ++ rows_bytes rows))) first a z) (some_is r arrays e2) here)
    where
      less : (x y z m : ℕ) → x + y ≡ z → y + m ≡ z - x + m
      less x y z m ez = omega (arith, ez)

      fits : (x y z n m : ℕ) → n ≡ m → x + (4 * m + z) ≤ 65536 → x + 4 * n ≤ 65536
      fits x y z n m en lt = omega (arith, en, lt)

      here : HoldsTable (bytes_in k (pre ++ (arrays_bytes r ++ rows_bytes rows))) first a r
      here =
          record {
            behind = low first (length pre) a ea;
            short = fits a 0 (total cs) (length r) c.count (head_is (length r) c.count (map length rows) (map count_of (stacked (a + bytes_of c) cs)) e)
                (subst (λ z. a + (z * c.count + total cs) ≤ 65536) four.0 le);
            addresses = λ i x ex. subst (λ z. (number_at (bytes_in k (pre ++ (arrays_bytes r ++ rows_bytes rows))) 2 z ≡ Some x.address) × (x.address < 65536))
                (less first (length pre) a (4 * i) ea) (arrays_held k r h.0 pre (rows_bytes rows) i x ex).0;
            lengths = λ i x ex. subst (λ z. (number_at (bytes_in k (pre ++ (arrays_bytes r ++ rows_bytes rows))) 2 (z + 2) ≡ Some x.length) × (x.length < 65536))
                (less first (length pre) a (4 * i) ea) (arrays_held k r h.0 pre (rows_bytes rows) i x ex).1;
          }
        where
          low : (x y z : ℕ) → x + y ≡ z → x ≤ z
          low x y z ez = omega (arith, ez)
  tables_held first a (c ∷ cs) (r ∷ rows) four e h pre ea le (suc t) address arrays e1 e2 =
      subst (λ z. HoldsTable (bytes_in k z) first address arrays) (append_assoc pre (arrays_bytes r) (rows_bytes rows))
      (tables_held first (a + bytes_of c) cs rows four.1 (tail_is (length r) c.count (map length rows) (map count_of (stacked (a + bytes_of c) cs)) e) h.1
      (pre ++ arrays_bytes r) start (room a (bytes_of c) (total cs) le) t address arrays e1 e2)
    where
      room : (x y z : ℕ) → x + (y + z) ≤ 65536 → x + y + z ≤ 65536
      room x y z lt = omega (arith, lt)

      sums : (x y z m n : ℕ) → x + y ≡ z → m ≡ n → x + (y + m) ≡ z + n
      sums x y z m n ez em = omega (arith, ez, em)

      start : first + length (pre ++ arrays_bytes r) ≡ a + c.width * c.count
      start =
          ap (λ z. first + z) (length-append pre (arrays_bytes r))
          ∙ sums first (length pre) a (length (arrays_bytes r)) (c.width * c.count) ea (arrays_length r
          ∙ (ap (λ z. 4 * z) (head_is (length r) c.count (map length rows) (map count_of (stacked (a + bytes_of c) cs)) e)
          ∙ ap (λ z. z * c.count) (sym four.0)))
