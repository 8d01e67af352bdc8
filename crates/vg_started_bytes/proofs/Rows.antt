-- Rows of entries and of arrays among bytes.
use Rattle.std.proofs.Common.{◌≡◌, refl, sym, ap, subst, ◌∙◌, arith, ℕ, zero, suc, ◌+◌, ◌*◌, ◌/◌, ◌<◌, ◌^◌}
use Rattle.std.proofs.Common.{List, [], ◌∷◌, ◌++◌, length, map, Some, slice_get}
use Rattle.std.proofs.lemmas.List.{append_assoc, length-append}
use Rattle.std.specs.List.{AllByRecursion}
use Rattle.vg_codes.specs.Codes.{Codes, delegate}
use Rattle.vg_firm.specs.declared.step.ArrayPlace.{ArrayPlace}
use Rattle.vg_flatten_shapes.proofs.Temps.{some_is, none_is_not}
use Rattle.vg_lin.specs.State.{joined, number_at}
use Rattle.vg_table_bytes.specs.Bytes.{arrays_bytes, entries_bytes}
use Rattle.vg_tables.specs.declared.datum.Datum.{Datum}
use Rattle.vg_tables.specs.declared.entry.Entry.{Entry}
use Rattle.vg_tables.specs.declared.entry.Entry.TheVariants.{Number, Delegate}
use Rattle.vg_tables.specs.Bytes.{array_bytes, byte_of, entry_bytes, low_bytes, number_of}
use Rattle.vg_tables.specs.Entries.{number_in}
use Rattle.vg_tables.proofs.Holding.{holds, delegate_holds}
use Rattle.vg_started_bytes.specs.Started.{bytes_in}
use Rattle.vg_table_bytes.specs.Rows.{ArrayFits, EntryFits}

-- ---- bytes in the midst of others

behind_one : (pre : List Datum) (d : Datum) (rest : List Datum) → pre ++ d ∷ rest ≡ (pre ++ d ∷ []) ++ rest
behind_one pre d rest = sym (append_assoc pre (d ∷ []) rest)

one_longer : (pre : List Datum) (d : Datum) → suc (length pre) ≡ length (pre ++ d ∷ [])
one_longer [] d = refl
one_longer (x ∷ pre) d = ap suc (one_longer pre d)

found : (k : Codes) (pre : List Datum) (d : Datum) (rest : List Datum) → slice_get (bytes_in k (pre ++ d ∷ rest)) (length pre) ≡ Some (byte_of k d)
found k [] d rest = refl
found k (x ∷ pre) d rest = found k pre d rest

pub midst : (k : Codes) (pre ds post : List Datum) → number_at (bytes_in k (pre ++ (ds ++ post))) (length ds) (length pre) ≡ Some (number_of k ds)
midst k pre [] post = refl
midst k pre (d ∷ ds) post =
    ap (λ z. joined z (number_at (bytes_in k (pre ++ d ∷ (ds ++ post))) (length ds) (suc (length pre)))) (found k pre d (ds ++ post))
    ∙ ap (joined (Some (byte_of k d))) (moved ∙ midst k (pre ++ d ∷ []) ds post)
  where
    moved : number_at (bytes_in k (pre ++ d ∷ (ds ++ post))) (length ds) (suc (length pre))
        ≡ number_at (bytes_in k ((pre ++ d ∷ []) ++ (ds ++ post))) (length ds) (length (pre ++ d ∷ []))
    moved =
        ap (λ z. number_at (bytes_in k z) (length ds) (suc (length pre))) (behind_one pre d (ds ++ post))
        ∙ ap (number_at (bytes_in k ((pre ++ d ∷ []) ++ (ds ++ post))) (length ds)) (one_longer pre d)

-- the same, where the number of bytes and the index are known otherwise
pub midst_at : (k : Codes) (all pre ds post : List Datum) (w i v : ℕ) → all ≡ pre ++ (ds ++ post) → length ds ≡ w → length pre ≡ i → number_of k ds ≡ v
    → number_at (bytes_in k all) w i ≡ Some v
midst_at k all pre ds post w i v ea ew ei ev =
    ap (λ z. number_at (bytes_in k z) w i) ea
    ∙ (ap (λ z. number_at (bytes_in k (pre ++ (ds ++ post))) z i) (sym ew)
    ∙ (ap (number_at (bytes_in k (pre ++ (ds ++ post))) (length ds)) (sym ei)
    ∙ (midst k pre ds post ∙ ap Some ev)))

-- ---- entries

low_length : (w n : ℕ) → length (low_bytes w n) ≡ w
low_length zero n = refl
low_length (suc w) n = ap suc (low_length w (n / 256))

entry_length : (k : Codes) (w : ℕ) (e : Entry) → EntryFits k w e → length (entry_bytes w e) ≡ w
entry_length k w (Number n) h = low_length w n
entry_length k w (Delegate q r) h = sym h.0

entry_number : (k : Codes) (w : ℕ) (e : Entry) → EntryFits k w e → number_of k (entry_bytes w e) ≡ number_in k e
entry_number k w (Number n) h = holds k w n h
entry_number k w (Delegate q r) h = delegate_holds k q r h.2

entry_small : (k : Codes) (w : ℕ) (e : Entry) → EntryFits k w e → number_in k e < 256 ^ w
entry_small k w (Number n) h = h
entry_small k w (Delegate q r) h = subst (λ z. delegate k q r < 256 ^ z) (sym h.0) (four (k.code q) r h.1 h.2)
  where
    four : (c s : ℕ) → c < 65536 → s < 65536 → c + 65536 * s < 4294967296
    four c s hc hs = omega (arith, hc, hs)

one_more : (w i : ℕ) → w + w * i ≡ w * suc i
one_more w i = grind arith

pub entries_length : (k : Codes) (w : ℕ) (es : List Entry) → AllByRecursion (EntryFits k w) es → length (entries_bytes w es) ≡ w * length es
entries_length k w [] h = nothing w
  where
    nothing : (z : ℕ) → 0 ≡ z * 0
    nothing z = omega arith
entries_length k w (e ∷ es) h =
    length-append (entry_bytes w e) (entries_bytes w es)
    ∙ (ap (λ z. z + length (entries_bytes w es)) (entry_length k w e h.0)
    ∙ (ap (λ z. w + z) (entries_length k w es h.1) ∙ one_more w (length es)))

-- entries one behind another, with other bytes before and behind them
pub entries_held : (k : Codes) (w : ℕ) (es : List Entry) → AllByRecursion (EntryFits k w) es → (pre post : List Datum) (i v : ℕ)
    → slice_get (map (number_in k) es) i ≡ Some v
    → (number_at (bytes_in k (pre ++ (entries_bytes w es ++ post))) w (length pre + w * i) ≡ Some v) × (v < 256 ^ w)
entries_held k w [] h pre post i v e = none_is_not v e
entries_held k w (x ∷ es) h pre post zero v e = (
  midst_at k (pre ++ ((entry_bytes w x ++ entries_bytes w es) ++ post)) pre (entry_bytes w x) (entries_bytes w es ++ post) w (length pre + w * 0) v
      (ap (λ z. pre ++ z) (append_assoc (entry_bytes w x) (entries_bytes w es) post)) (entry_length k w x h.0) (at_front (length pre) w)
      (entry_number k w x h.0 ∙ some_is (number_in k x) v e),
  subst (λ z. z < 256 ^ w) (some_is (number_in k x) v e) (entry_small k w x h.0),
)
  where
    at_front : (n z : ℕ) → n ≡ n + z * 0
    at_front n z = omega arith
entries_held k w (x ∷ es) h pre post (suc i) v e =
    let more = entries_held k w es h.1 (pre ++ entry_bytes w x) post i v e in (
      ap (λ z. number_at (bytes_in k z) w (length pre + w * suc i)) apart
          ∙ (ap (number_at (bytes_in k ((pre ++ entry_bytes w x) ++ (entries_bytes w es ++ post))) w) index ∙ more.0),
      more.1,
    )
  where
    apart : pre ++ ((entry_bytes w x ++ entries_bytes w es) ++ post) ≡ (pre ++ entry_bytes w x) ++ (entries_bytes w es ++ post)
    apart =
        ap (λ z. pre ++ z) (append_assoc (entry_bytes w x) (entries_bytes w es) post)
        ∙ sym (append_assoc pre (entry_bytes w x) (entries_bytes w es ++ post))

    sums : (n m z j : ℕ) → m ≡ z → n + z * suc j ≡ n + m + z * j
    sums n m z j em = ap (λ y. n + y) (sym (one_more z j)) ∙ (ap (λ y. n + (y + z * j)) (sym em) ∙ again n m (z * j))
      where
        again : (a b c : ℕ) → a + (b + c) ≡ a + b + c
        again a b c = omega arith

    index : length pre + w * suc i ≡ length (pre ++ entry_bytes w x) + w * i
    index =
        sums (length pre) (length (entry_bytes w x)) w i (entry_length k w x h.0)
        ∙ ap (λ z. z + w * i) (sym (length-append pre (entry_bytes w x)))

-- ---- arrays

pub arrays_length : (rs : List ArrayPlace) → length (arrays_bytes rs) ≡ 4 * length rs
arrays_length [] = refl
arrays_length (a ∷ rs) = four_more (length (arrays_bytes rs)) (length rs) (arrays_length rs)
  where
    four_more : (n m : ℕ) → n ≡ 4 * m → suc (suc (suc (suc n))) ≡ 4 * suc m
    four_more n m h = omega (arith, h)

pub arrays_held : (k : Codes) (rs : List ArrayPlace) → AllByRecursion ArrayFits rs → (pre post : List Datum) (i : ℕ) (a : ArrayPlace)
    → slice_get rs i ≡ Some a
    → ((number_at (bytes_in k (pre ++ (arrays_bytes rs ++ post))) 2 (length pre + 4 * i) ≡ Some a.address) × (a.address < 65536))
    × ((number_at (bytes_in k (pre ++ (arrays_bytes rs ++ post))) 2 (length pre + 4 * i + 2) ≡ Some a.length) × (a.length < 65536))
arrays_held k [] h pre post i a e = none_is_not a e
arrays_held k (x ∷ rs) h pre post zero a e = subst (λ y. Held y) (some_is x a e) ((first, h.0.0), (second, h.0.1))
  where
    bytes : List Datum
    bytes = pre ++ (arrays_bytes (x ∷ rs) ++ post)

    Held : ArrayPlace → Type 0
    Held y =
        ((number_at (bytes_in k bytes) 2 (length pre + 4 * 0) ≡ Some y.address) × (y.address < 65536))
        × ((number_at (bytes_in k bytes) 2 (length pre + 4 * 0 + 2) ≡ Some y.length) × (y.length < 65536))

    at_front : (n : ℕ) → n ≡ n + 4 * 0
    at_front n = omega arith

    two_behind : (n m : ℕ) → n ≡ m + 2 → n ≡ m + 4 * 0 + 2
    two_behind n m he = omega (arith, he)

    first : number_at (bytes_in k bytes) 2 (length pre + 4 * 0) ≡ Some x.address
    first =
        midst_at k bytes pre (low_bytes 2 x.address) (low_bytes 2 x.length ++ (arrays_bytes rs ++ post)) 2 (length pre + 4 * 0) x.address
        refl refl (at_front (length pre)) (holds k 2 x.address h.0.0)

    second : number_at (bytes_in k bytes) 2 (length pre + 4 * 0 + 2) ≡ Some x.length
    second =
        midst_at k bytes (pre ++ low_bytes 2 x.address) (low_bytes 2 x.length) (arrays_bytes rs ++ post) 2 (length pre + 4 * 0 + 2) x.length
        (sym (append_assoc pre (low_bytes 2 x.address) (low_bytes 2 x.length ++ (arrays_bytes rs ++ post)))) refl
        (two_behind (length (pre ++ low_bytes 2 x.address)) (length pre) (length-append pre (low_bytes 2 x.address))) (holds k 2 x.length h.0.1)
arrays_held k (x ∷ rs) h pre post (suc i) a e =
    let more = arrays_held k rs h.1 (pre ++ array_bytes x) post i a e in (
      (moved 2 (length pre + 4 * suc i) (length (pre ++ array_bytes x) + 4 * i) first ∙ more.0.0, more.0.1),
      (moved 2 (length pre + 4 * suc i + 2) (length (pre ++ array_bytes x) + 4 * i + 2) (ap (λ z. z + 2) first) ∙ more.1.0, more.1.1),
    )
  where
    apart : pre ++ (arrays_bytes (x ∷ rs) ++ post) ≡ (pre ++ array_bytes x) ++ (arrays_bytes rs ++ post)
    apart = sym (append_assoc pre (array_bytes x) (arrays_bytes rs ++ post))

    moved : (w m n : ℕ) → m ≡ n
        → number_at (bytes_in k (pre ++ (arrays_bytes (x ∷ rs) ++ post))) w m ≡ number_at (bytes_in k ((pre ++ array_bytes x) ++ (arrays_bytes rs ++ post))) w n
    moved w m n em =
        ap (λ z. number_at (bytes_in k z) w m) apart ∙ ap (number_at (bytes_in k ((pre ++ array_bytes x) ++ (arrays_bytes rs ++ post))) w) em

    four_on : (n m j : ℕ) → m ≡ n + 4 → n + 4 * suc j ≡ m + 4 * j
    four_on n m j he = omega (arith, he)

    first : length pre + 4 * suc i ≡ length (pre ++ array_bytes x) + 4 * i
    first = four_on (length pre) (length (pre ++ array_bytes x)) i (length-append pre (array_bytes x))
