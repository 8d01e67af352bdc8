-- Pieces that do the same: values that wait, checks, objects and arrays behind their null checks.
use Rattle.std.proofs.Common.{◌≡◌, refl, sym, ap, subst, ◌∙◌, arith, ℕ, zero, suc, ◌+◌, ◌<◌, ◌==◌, Bool, true, false, List, [], ◌∷◌, ◌++◌, length, map, take}
use Rattle.std.proofs.Common.{drop}
use Rattle.std.proofs.Common.{Option, Some, None, option_map, slice_get}
use Rattle.std.proofs.lemmas.Option.{slice_get-map}
use Rattle.std.proofs.lemmas.List.{take-map, drop-map, map-append}
use Rattle.std.specs.Cmp.{unsigned_Decides}
use Rattle.vg_meaning.specs.World.{World}
use Rattle.vg_meaning.specs.Answer.{Signal, Piece}
use Rattle.vg_meaning.specs.Same.{Nowhere}
use Rattle.vg_fair.specs.Fair.{IsFair, Alike, gives, wrong}
use Rattle.vg_fair.proofs.Fair.{alike_stops, alike_nowhere}
use Rattle.vg_codes.specs.Codes.{Codes}
use Rattle.vg_source.specs.Operators.{Scalar, AnInt, ATruth, AChar, Bits, Computed, Is, Fails, Unfit}
use Rattle.vg_core.specs.declared.types.CoreType.{CoreType}
use Rattle.vg_core.specs.declared.value.CoreValue.{CoreValue}
use Rattle.vg_core.specs.declared.value.CoreValue.TheVariants.{Int, Bool as Truth, Char, Raw, Null, Obj, Arr, Bound}
use Rattle.vg_core.specs.declared.heap.Cell.{Cell}
use Rattle.vg_core.specs.declared.heap.Cell.TheVariants.{Object, Array}
use Rattle.vg_core.specs.declared.heap.Heap.{Heap}
use Rattle.vg_core.specs.declared.program.Owner.{Owner}
use Rattle.vg_core.specs.Heap.{Kind, ArrayOf, kind_of, class_in}
use Rattle.vg_core.specs.Operators.{scalar_value}
use Rattle.vg_core.specs.Program.{Program}
use Rattle.vg_core.specs.State.{State}
use Rattle.vg_core.specs.Tables.{is_below}
use Rattle.vg_core.specs.Types.{HasType, HasTypes, SelfOf}
use Rattle.vg_core.specs.Meaning as core
use Rattle.vg_sound.specs.Good.{TypedHeap}
use Rattle.vg_firm.specs.Program.{Program as FirmProgram}
use Rattle.vg_firm.specs.Meaning as firm
use Rattle.vg_firm.specs.Meaning.{State as FirmState}
use Rattle.vg_coded.specs.Numbers.{scalar_number, coded, IsInRange}
use Rattle.vg_coded.specs.Kept.{IsKept}
use Rattle.vg_coded.specs.Operators.{StandsFor}
use Rattle.vg_packing.specs.Layout.{Layout}
use Rattle.vg_packing.specs.Allowed.{IsObject, IsArray}
use Rattle.vg_packing.specs.Packs.{Holds, Packs, packs}
use Rattle.vg_packing.proofs.Lists.{kept_get, kept_append, kept_take, kept_drop}

-- A state in a body of this owner, whose parameters and locals have the types ts and where values of the types x wait, with cells of the
-- kinds κ.
pub record Typed (p : Program) (κ : List Kind) (ts : List CoreType) (o : Owner) (x : List CoreType) (s : State) : Type 0 where
  pub heap : TypedHeap p.tables κ s.heap
  pub values : HasTypes p.tables κ s.values x
  pub locals : HasTypes p.tables κ s.locals ts
  pub self : SelfOf p.tables κ s.self o

-- nothing is known of a state
abbrev pub Any : State → Type 0
Any s = Unit {0}

-- ---- scalars

pub kept_scalar : (l : Layout) (s : Scalar) → IsInRange s → IsKept l.numbering (scalar_value s)
kept_scalar l (AnInt n) h = h
kept_scalar l (ATruth b) h = tt
kept_scalar l (AChar c) h = h
kept_scalar l (Bits j b) h = h

pub coded_scalar : (l : Layout) (k : Codes) (s : Scalar) → coded l.numbering k (scalar_value s) ≡ scalar_number s
coded_scalar l k (AnInt n) = refl
coded_scalar l k (ATruth b) = refl
coded_scalar l k (AChar c) = refl
coded_scalar l k (Bits j b) = refl

-- a cell that is there is of the kind that the layout has
pub kind_there : (p : Program) (l : Layout) (k : Codes) (f : FirmProgram) (h : Heap) (cols : List (List ℕ)) → Holds p.tables l k f h cols
    → (j : ℕ) (c : Cell) → slice_get h.cells j ≡ Some c → slice_get l.kinds j ≡ Some (kind_of c)
kind_there p l k f h cols q j c e = ap (λ z. slice_get z j) (sym q.shaped) ∙ (slice_get-map kind_of h.cells j ∙ ap (option_map kind_of) e)

module _ {K : Type 0} (p : Program) (l : Layout) (k : Codes) (f : FirmProgram) (o : Owner) (J : State → Type 0)
    (L : Signal → State → FirmState → Type 0) where
  -- from related states of which J holds
  abbrev pub SameFrom : Piece State K → Piece FirmState K → Type 0
  SameFrom a b =
      (s : State) (t : FirmState) (w : World K) → IsFair w → Packs p.tables l k f o s t → J s → Alike (Packs p.tables l k f o) L (a s w) (b t w)

module _ {K : Type 0} (p : Program) (l : Layout) (k : Codes) (f : FirmProgram) (o : Owner) where
  -- what is known of the state may be forgotten
  pub forget : (J : State → Type 0) (L : Signal → State → FirmState → Type 0) (a : Piece State K) (b : Piece FirmState K) → SameFrom p l k f o Any L a b
      → SameFrom p l k f o J L a b
  forget J L a b h s t w i q j = h s t w i q tt

  -- calls leave in no way
  pub weak : (J : State → Type 0) (L : Signal → State → FirmState → Type 0) (a : Piece State K) (b : Piece FirmState K)
      → SameFrom p l k f o J Nowhere a b → SameFrom p l k f o J L a b
  weak J L a b h s t w i q j = alike_nowhere L _ _ (h s t w i q j)

  module _ (J : State → Type 0) (L : Signal → State → FirmState → Type 0) where
    abbrev From : Piece State K → Piece FirmState K → Type 0
    From a b = SameFrom p l k f o J L a b

    -- ---- values that wait

    pub same_put : (v : CoreValue) → IsKept l.numbering v → From (core.put v) (firm.put (coded l.numbering k v))
    same_put v kept _ _ w i (packs a b c d e) j = gives i (packs (kept, a) b c d e)

    pub same_take : (a : CoreValue → Piece State K) (b : ℕ → Piece FirmState K)
        → ((v : CoreValue) → IsKept l.numbering v → SameFrom p l k f o Any L (a v) (b (coded l.numbering k v))) → From (core.taking a) (firm.taking b)
    same_take a b h _ _ w i (packs {vs = []} x y z r q) j = wrong
    same_take a b h _ _ w i (packs {vs = v ∷ vs} (x, xs) y z r q) j = h v x _ _ w i (packs xs y z r q) tt

    pub same_computed : (at : ℕ) (b : Bool) (n : Option ℕ) (c : Computed) → StandsFor b n c
        → From (core.computed at c) (firm.checked b (firm.put_computed n))
    same_computed at b n (Is s) (r, e, d) =
        subst (λ z. From (core.computed at (Is s)) (firm.checked z (firm.put_computed n))) (sym e)
        (subst (λ z. From (core.computed at (Is s)) (firm.put_computed z)) (sym d)
        (subst (λ z. From (core.computed at (Is s)) (firm.put z)) (coded_scalar l k s) (same_put (scalar_value s) (kept_scalar l s r))))
    same_computed at b n (Fails code) (r, e, d) =
        subst (λ z. From (core.computed at (Fails code)) (firm.checked z (firm.put_computed n))) (sym e)
        (subst (λ z. From (core.computed at (Fails code)) (firm.put_computed z)) (sym d)
        (subst (λ z. From (core.computed at (Fails z)) (firm.put_computed None)) (sym r)
        (λ s t w i q j. alike_stops (Packs p.tables l k f o) (Packs p.tables l k f o) L 3 at 0 s t w i q)))
    same_computed at b n Unfit h = λ s t w i q j. wrong

    -- ---- checks

    pub same_checked : (c : Bool) (a : Piece State K) (b : Piece FirmState K) → (c ≡ true → From a b) → From (core.checked c a) b
    same_checked true a b h = h refl
    same_checked false a b h = λ s t w i q j. wrong

    pub same_stop_unless : (c : Bool) (code at : ℕ) (a : Piece State K) (b : Piece FirmState K) → (c ≡ true → From a b)
        → From (core.stop_unless c code at a) (firm.stop_unless c code b)
    same_stop_unless true code at a b h = h refl
    same_stop_unless false code at a b h =
        λ s t w i q j. alike_stops (Packs p.tables l k f o) (Packs p.tables l k f o) L code at 0 s t w i q

    -- a value that so many bytes hold
    pub same_of_width : (width n : ℕ) (a : Piece State K) (b : ℕ → Piece FirmState K) → firm.fits width n ≡ true → From a (b n)
        → From a (firm.of_width width b n)
    same_of_width width n a b e h = subst (λ z. From a (firm.checked z (b n))) (sym e) h

    -- ---- objects

    pub not_null_of : (b : ℕ → Piece FirmState K) (n : ℕ) → 0 < n → firm.not_null b n ≡ b n
    not_null_of b zero h = absurd (omega (arith, h))
    not_null_of b (suc n) h = refl

    pub same_class : (a : ℕ → Piece State K) (b : Piece FirmState K) (j : ℕ) → 0 < l.numbering.number j
        → ((d : ℕ) → IsObject l j d → From (a d) b) → From (core.with_class j a) b
    same_class a b j pos h _ _ w i (packs {vs = vs} {ls = ls} {self = self} {h = heap} {number = number} {cols = cols} x y z r q) known =
        by (slice_get heap.cells j) refl
      where
        by : (c : Option Cell) → slice_get heap.cells j ≡ c
            → Alike (Packs p.tables l k f o) L (core.with_found (class_in c) a (record { values = vs; locals = ls; self = self; heap = heap }) w)
            (b (record { values = map (coded l.numbering k) vs; locals = map (coded l.numbering k) ls; self = number; columns = cols }) w)
        by None e = wrong
        by (Some (Array t us)) e = wrong
        by (Some (Object d us)) e = h d (kind_there p l k f heap cols q j (Object d us) e, pos) _ _ w i (packs x y z r q) known

    -- any object behind its null check
    pub same_object : (at : ℕ) (a : ℕ → Piece State K) (b : ℕ → Piece FirmState K)
        → ((j : ℕ) → 0 < l.numbering.number j → From (a j) (b (l.numbering.number j))) → (v : CoreValue) → IsKept l.numbering v
        → From (core.with_object at a v) (firm.not_null b (coded l.numbering k v))
    same_object at a b h Null kept = λ s t w i q j. alike_stops (Packs p.tables l k f o) (Packs p.tables l k f o) L 1 at 0 s t w i q
    same_object at a b h (Obj j) kept =
        subst (From (core.with_object at a (Obj j))) (sym (not_null_of b (l.numbering.number j) kept)) (h j kept)
    same_object at a b h (Int n) kept = λ s t w i q j. wrong
    same_object at a b h (Truth n) kept = λ s t w i q j. wrong
    same_object at a b h (Char n) kept = λ s t w i q j. wrong
    same_object at a b h (Raw n m) kept = λ s t w i q j. wrong
    same_object at a b h (Arr n) kept = λ s t w i q j. wrong
    same_object at a b h (Bound n m) kept = λ s t w i q j. wrong

    -- an object of class c or below it
    pub same_object_of : (at c : ℕ) (a : ℕ → ℕ → Piece State K) (b : ℕ → Piece FirmState K)
        → ((j d : ℕ) → IsObject l j d → is_below p.tables d c ≡ true → From (a j d) (b (l.numbering.number j))) → (v : CoreValue) → IsKept l.numbering v
        → From (core.with_object_of p.tables at c a v) (firm.not_null b (coded l.numbering k v))
    same_object_of at c a b h =
        same_object at (λ j. core.with_class j (λ d. core.checked (is_below p.tables d c) (a j d))) b
        (λ j pos. same_class (λ d. core.checked (is_below p.tables d c) (a j d)) (b (l.numbering.number j)) j pos
        (λ d is. same_checked (is_below p.tables d c) (a j d) (b (l.numbering.number j)) (h j d is)))

    -- ---- arrays

    pub same_array : (at t : ℕ) (a : ℕ → List CoreValue → Piece State K) (b : ℕ → Piece FirmState K)
        → ((j : ℕ) (vs : List CoreValue) → IsArray l j t (length vs) → From (a j vs) (b (l.numbering.number j))) → (v : CoreValue) → IsKept l.numbering v
        → From (core.with_array at t a v) (firm.not_null b (coded l.numbering k v))
    same_array at t a b h Null kept = λ s u w i q j. alike_stops (Packs p.tables l k f o) (Packs p.tables l k f o) L 1 at 0 s u w i q
    same_array at t a b h (Int n) kept = λ s u w i q j. wrong
    same_array at t a b h (Truth n) kept = λ s u w i q j. wrong
    same_array at t a b h (Char n) kept = λ s u w i q j. wrong
    same_array at t a b h (Raw n m) kept = λ s u w i q j. wrong
    same_array at t a b h (Obj n) kept = λ s u w i q j. wrong
    same_array at t a b h (Bound n m) kept = λ s u w i q j. wrong
    same_array at t a b h (Arr j) kept =
        subst (From (core.with_array at t a (Arr j))) (sym (not_null_of b (l.numbering.number j) kept)) there
      where
        there : From (core.with_array at t a (Arr j)) (b (l.numbering.number j))
        there _ _ w i (packs {vs = vs} {ls = ls} {self = self} {h = heap} {number = number} {cols = cols} x y z r q) known =
            by (slice_get heap.cells j) refl
          where
            by : (c : Option Cell) → slice_get heap.cells j ≡ c
                → Alike (Packs p.tables l k f o) L (core.in_array t (a j) c (record { values = vs; locals = ls; self = self; heap = heap }) w)
                (b (l.numbering.number j) (record {
                  values = map (coded l.numbering k) vs;
                  locals = map
                      (coded l.numbering k) ls;
                  self = number;
                  columns = cols;
                }) w)
            by None e = wrong
            by (Some (Object d us)) e = wrong
            by (Some (Array u us)) e =
                same_checked (u == t) (a j us) (b (l.numbering.number j))
                (λ same. h j us (
                  kind_there p l k f heap cols q j (Array u us) e
                      ∙ ap (λ z2. Some (ArrayOf z2 (length us))) ((unsigned_Decides u t).0 same),
                  kept,
                ))
                _ _ w i (packs x y z r q) known

  -- ---- values that wait, with their types

  pub same_take_typed : (ts : List CoreType) (u : CoreType) (x : List CoreType) (L : Signal → State → FirmState → Type 0)
      (a : CoreValue → Piece State K) (b : ℕ → Piece FirmState K)
      → ((v : CoreValue) → IsKept l.numbering v → HasType p.tables l.kinds v u
      → SameFrom p l k f o (Typed p l.kinds ts o x) L (a v) (b (coded l.numbering k v)))
      → SameFrom p l k f o (Typed p l.kinds ts o (u ∷ x)) L (core.taking a) (firm.taking b)
  same_take_typed ts u x L a b h _ _ w i (packs {vs = []} xs y z r q) j = wrong
  same_take_typed ts u x L a b h _ _ w i (packs {vs = v ∷ vs} (v1, xs) y z r q) j =
      h v v1 j.values.0 _ _ w i (packs xs y z r q) (record { heap = j.heap; values = j.values.1; locals = j.locals; self = j.self })

  -- the value below arguments, where J holds of the state and I of the state without it
  pub same_below : (J I : State → Type 0) (L : Signal → State → FirmState → Type 0) (count : ℕ) (a : CoreValue → Piece State K) (b : ℕ → Piece FirmState K)
      → ((s : State) → J s → I (record s { values = take count s.values ++ drop (count + 1) s.values }))
      → ((s : State) (v : CoreValue) → J s → slice_get s.values count ≡ Some v → IsKept l.numbering v
      → SameFrom p l k f o I L (a v) (b (coded l.numbering k v)))
      → SameFrom p l k f o J L (core.from_below count a) (firm.from_below count b)
  same_below J I L count a b less h _ _ w i (packs {vs = vs} {ls = ls} {self = self} {h = heap} {number = number} {cols = cols} x y z r q) j =
      subst (λ c. Alike (Packs p.tables l k f o) L (core.with_found (slice_get vs count) a before w)
      (firm.with_found c b (behind (take count (map (coded l.numbering k) vs) ++ drop (count + 1) (map (coded l.numbering k) vs))) w))
      (sym (slice_get-map (coded l.numbering k) vs count))
      (subst (λ c. Alike (Packs p.tables l k f o) L (core.with_found (slice_get vs count) a before w)
      (firm.with_found (option_map (coded l.numbering k) (slice_get vs count)) b (behind c) w)) rests (by (slice_get vs count) refl))
    where
      rest : List CoreValue
      rest = take count vs ++ drop (count + 1) vs

      before : State
      before = record { values = rest; locals = ls; self = self; heap = heap }

      behind : List ℕ → FirmState
      behind us = record { values = us; locals = map (coded l.numbering k) ls; self = number; columns = cols }

      rests : map (coded l.numbering k) rest ≡ take count (map (coded l.numbering k) vs) ++ drop (count + 1) (map (coded l.numbering k) vs)
      rests =
          map-append (coded l.numbering k) (take count vs) (drop (count + 1) vs)
          ∙ sym (rw (take-map (coded l.numbering k) count vs) (rw (drop-map (coded l.numbering k) (count + 1) vs) refl))

      by : (c : Option CoreValue) → slice_get vs count ≡ c
          → Alike (Packs p.tables l k f o) L (core.with_found c a before w)
          (firm.with_found (option_map (coded l.numbering k) c) b (behind (map (coded l.numbering k) rest)) w)
      by None e = wrong
      by (Some v) e =
          h (record { values = vs; locals = ls; self = self; heap = heap }) v j e (kept_get l vs count v x e) _ _ w i
          (packs (kept_append l (take count vs) (drop (count + 1) vs) (kept_take l count vs x) (kept_drop l (count + 1) vs x)) y z r q)
          (less (record { values = vs; locals = ls; self = self; heap = heap }) j)
