-- Procedures that are put into a set one behind another, and the marks that keep it.
use Rattle.std.proofs.Common.{◌≡◌, ◌⊎◌, refl, sym, ap, subst, ◌∙◌, arith, ℕ, zero, suc, ◌+◌, ◌<◌, ◌==◌, Bool, true, false, List, [], ◌∷◌}
use Rattle.std.proofs.Common.{◌++◌, append_assoc, drop, length, get_or, replicate, Option, Some, slice_get, slice_set, if◌then◌else◌}
use Rattle.std.proofs.lemmas.Option.{same_Some, none-some, slice_get_within, slice_get_read, get_or_from_slice_get}
use Rattle.std.proofs.lemmas.List.{drop_more, length-replicate, length-set}
use Rattle.std.proofs.lemmas.Bool.Decides.{eqb_tells}
use mathlib.Core.Logic.{inl, inr}
use Rattle.vg_codes.specs.declared.case.Case.{Case}
use Rattle.vg_core.specs.declared.heap.Cell.{Cell}
use Rattle.vg_core.specs.declared.heap.Heap.{Heap}
use Rattle.vg_core.specs.declared.program.Field.{Field}
use Rattle.vg_core.specs.declared.program.Method.{Method}
use Rattle.vg_core.specs.declared.program.Tables.{Tables}
use Rattle.vg_core.specs.Heap.{OfComponent, value_at}
use Rattle.vg_core.specs.Program.{Program}
use Rattle.vg_firm.specs.Session.{is_among}
use Rattle.vg_live.specs.declared.live_set.LiveSet.{LiveSet}
use Rattle.vg_live.specs.declared.live_set.Reason.{Reason}
use Rattle.vg_live.specs.Uses.{steps_of}
use Rattle.vg_number.specs.Numbering.{has_reason}
use Rattle.vg_pack_code.specs.declared.plan.Plan.{Plan}
use Rattle.vg_plan_uses.specs.Sets.{ProcedureSet, set_of, IsSet, with_procedure, with_all}
use Rattle.vg_plan_uses.specs.Held.{in_option, in_components, in_cell, in_cells}
use Rattle.vg_plan_uses.specs.Calling.{called, edges_from}

-- one list behind another
pub with_both : (room : ℕ) (qs xs ys : List ℕ) → with_all room qs (xs ++ ys) ≡ with_all room (with_all room qs xs) ys
with_both room qs [] ys = refl
with_both room qs (x ∷ xs) ys = with_both room (with_procedure room qs x) xs ys

-- what is put in behind what was there, where this is what is left
pub more : (room : ℕ) (qs new whole piece rest all : List ℕ) → with_all room qs all ≡ whole → all ≡ piece ++ rest → new ≡ with_all room qs piece
    → with_all room new rest ≡ whole
more room qs new whole piece rest all h e en =
    ap (λ z. with_all room z rest) en ∙ (sym (with_both room qs piece rest) ∙ (ap (with_all room qs) (sym e) ∙ h))

-- the rest of a list from a place that is there
pub rest_at : {A : Type 0} (xs : List A) (i : ℕ) (x : A) → slice_get xs i ≡ Some x → drop i xs ≡ x ∷ drop (i + 1) xs
rest_at xs i x e = drop_more xs i x (slice_get_within xs i x e) ∙ ap (λ z. z ∷ drop (i + 1) xs) (get_or_from_slice_get xs i x x e)

-- ---- marks

get_set : {A : Type 0} (xs : List A) (i : ℕ) (x : A) → i < length xs → slice_get (slice_set xs i x) i ≡ Some x
get_set [] i x lt = absurd (omega (arith, lt))
get_set (z ∷ xs) zero x lt = refl
get_set (z ∷ xs) (suc i) x lt = get_set xs i x (omega (arith, lt))

get_other : {A : Type 0} (xs : List A) (i j : ℕ) (x : A) → ((i ≡ j) → ⊥) → slice_get (slice_set xs i x) j ≡ slice_get xs j
get_other [] i j x ne = refl
get_other (z ∷ xs) zero zero x ne = absurd (ne refl)
get_other (z ∷ xs) zero (suc j) x ne = refl
get_other (z ∷ xs) (suc i) zero x ne = refl
get_other (z ∷ xs) (suc i) (suc j) x ne = get_other xs i j x (λ q. ne (ap suc q))

-- whether a number is among these and one more
pub among_more : (qs : List ℕ) (q p : ℕ) → is_among (qs ++ q ∷ []) p ≡ (if q == p then true else is_among qs p)
among_more [] q p = refl
among_more (x ∷ xs) q p = by (x == p) (q == p) (among_more xs q p)
  where
    by : (b c : Bool) → is_among (xs ++ q ∷ []) p ≡ (if c then true else is_among xs p)
        → (if b then true else is_among (xs ++ q ∷ []) p) ≡ (if c then true else if b then true else is_among xs p)
    by true true h = refl
    by true false h = refl
    by false true h = h
    by false false h = h

-- one mark more
pub marked_more : (s : ProcedureSet) (marks marks1 : List Bool) (list new : List ℕ) (q place : ℕ) → set_of marks list ≡ s → IsSet s → place ≡ q
    → marks1 ≡ slice_set marks place true → new ≡ list ++ q ∷ [] → IsSet (set_of marks1 new)
marked_more s marks marks1 list new q place e is ep em en = record { marked = at }
  where
    h : (p : ℕ) → p < length marks → slice_get marks p ≡ Some (is_among list p)
    h p lt = subst (λ z. slice_get z.marks p ≡ Some (is_among z.list p)) (sym e) (is.marked p (subst (λ z. p < length z.marks) e lt))

    em1 : marks1 ≡ slice_set marks q true
    em1 = em ∙ ap (λ z. slice_set marks z true) ep

    at : (p : ℕ) → p < length marks1 → slice_get marks1 p ≡ Some (is_among new p)
    at p lt = ap (λ z. slice_get z p) em1 ∙ (by (eqb_tells q p) ∙ ap (λ z. Some (is_among z p)) (sym en))
      where
        lt1 : p < length marks
        lt1 = let a = ap length em1 in let b = length-set marks q true in omega (arith, lt, a, b)

        by : (((q == p) ≡ true) × (q ≡ p)) ⊎ (((q == p) ≡ false) × ((q ≡ p) → ⊥))
            → slice_get (slice_set marks q true) p ≡ Some (is_among (list ++ q ∷ []) p)
        by (inl (b, qp)) =
            ap (λ z. slice_get (slice_set marks z true) p) qp
            ∙ (get_set marks p true lt1 ∙ ap (λ z. Some z) (sym (among_more list q p ∙ ap (λ z. if z then true else is_among list p) b)))
        by (inr (b, ne)) =
            get_other marks q p true ne
            ∙ (h p lt1 ∙ ap (λ z. Some z) (sym (among_more list q p ∙ ap (λ z. if z then true else is_among list p) b)))

-- ---- loops

-- a turn puts in what stands at one place
pub turn : (room m m1 : ℕ) (qs new whole piece rest all : List ℕ) → with_all room qs all ≡ whole → all ≡ piece ++ rest → m ≡ room
    → new ≡ with_all m qs piece → with_all room new rest ≡ whole
turn room m m1 qs new whole piece rest all h e em en = more room qs new whole piece rest all h e (en ∙ ap (λ z. with_all z qs piece) em)

suc_is : (i : ℕ) → suc i ≡ i + 1
suc_is i = omega arith

module _ (p : Tables) (h : Heap) (s : LiveSet) (x : Plan) where
  components_at : (i f : ℕ) (ys : List Field) → i < length ys
      → in_components p h s x f (drop i ys)
      ≡ (if has_reason s.fields f then in_option x (value_at p h (OfComponent f)) else []) ++ in_components p h s x (suc f) (drop (suc i) ys)
  components_at i f [] lt = absurd (omega (arith, lt))
  components_at zero f (y ∷ ys) lt = refl
  components_at (suc i) f (y ∷ ys) lt = components_at i f ys (omega (arith, lt))

  pub components_rest : (i : ℕ) (ys : List Field) → i < length ys
      → in_components p h s x i (drop i ys)
      ≡ (if has_reason s.fields i then in_option x (value_at p h (OfComponent i)) else []) ++ in_components p h s x (i + 1) (drop (i + 1) ys)
  components_rest i ys lt =
      components_at i i ys lt
      ∙ ap (λ z. (if has_reason s.fields i then in_option x (value_at p h (OfComponent i)) else []) ++ in_components p h s x z (drop z ys)) (suc_is i)

  cells_at : (i k : ℕ) (cs : List Cell) (c : Cell) → slice_get cs i ≡ Some c
      → in_cells p h s x k (drop i cs) ≡ (if has_reason s.cells k then in_cell p h s x k c else []) ++ in_cells p h s x (suc k) (drop (suc i) cs)
  cells_at i k [] c e = absurd (none-some c e)
  cells_at zero k (d ∷ cs) c e =
      ap (λ z. (if has_reason s.cells k then in_cell p h s x k z else []) ++ in_cells p h s x (suc k) cs) (same_Some d c e)
  cells_at (suc i) k (d ∷ cs) c e = cells_at i k cs c e

  pub cells_rest : (i : ℕ) (cs cells : List Cell) (c : Cell) → cells ≡ cs → i < length cells → c ≡ get_or cells i c
      → in_cells p h s x i (drop i cs) ≡ (if has_reason s.cells i then in_cell p h s x i c else []) ++ in_cells p h s x (i + 1) (drop (i + 1) cs)
  cells_rest i cs cells c q lt is =
      cells_at i i cs c (ap (λ z. slice_get z i) (sym q) ∙ slice_get_read cells (length cells) i c refl lt is)
      ∙ ap (λ z. (if has_reason s.cells i then in_cell p h s x i c else []) ++ in_cells p h s x z (drop z cs)) (suc_is i)

module _ (p : Program) (x : Plan) (ds : List (List Case)) (room : ℕ) (live : List (Option Reason)) where
  abbrev row : (live_ : Bool) (m : ℕ) → List ℕ
  row b m = if b then with_all room [] (called p.tables x ds (steps_of p m)) else []

  edges_at : (i m : ℕ) (ys : List Method) → i < length ys
      → edges_from p x ds room live m (drop i ys) ≡ row (has_reason live m) m ∷ edges_from p x ds room live (suc m) (drop (suc i) ys)
  edges_at i m [] lt = absurd (omega (arith, lt))
  edges_at zero m (y ∷ ys) lt = refl
  edges_at (suc i) m (y ∷ ys) lt = edges_at i m ys (omega (arith, lt))

  pub more_edges : (ys : List Method) (i count : ℕ) (b : Bool) (rows new whole : List (List ℕ)) (one : List ℕ) → i < count → count ≡ length ys
      → b ≡ has_reason live i → rows ++ edges_from p x ds room live i (drop i ys) ≡ whole
      → one ≡ (if b then with_all room [] (called p.tables x ds (steps_of p i)) else []) → new ≡ rows ++ one ∷ []
      → new ++ edges_from p x ds room live (i + 1) (drop (i + 1) ys) ≡ whole
  more_edges ys i count b rows new whole one lt ec eb h eo en =
      subst (λ z. new ++ edges_from p x ds room live z (drop z ys) ≡ whole) (suc_is i)
      (ap (λ z. z ++ edges_from p x ds room live (suc i) (drop (suc i) ys)) en
      ∙ (append_assoc rows (one ∷ []) (edges_from p x ds room live (suc i) (drop (suc i) ys))
      ∙ (ap (λ z. rows ++ z ∷ edges_from p x ds room live (suc i) (drop (suc i) ys)) (eo ∙ ap (λ z. row z i) eb)
      ∙ (ap (λ z. rows ++ z) (sym (edges_at i i ys (let e = ec in omega (arith, lt, e)))) ∙ h))))

-- ---- the sets of steps, of components and of cells, one behind another
pub bound_is : (room : ℕ) (a b c d : ProcedureSet) (xs ys zs : List ℕ) → a ≡ set_of (replicate room false) [] → length b.marks ≡ length a.marks
    → b.list ≡ with_all (length a.marks) a.list xs → length c.marks ≡ length b.marks → c.list ≡ with_all (length b.marks) b.list ys
    → length d.marks ≡ length c.marks → d.list ≡ with_all (length c.marks) c.list zs
    → (length d.marks ≡ room) × (d.list ≡ with_all room (with_all room (with_all room [] xs) ys) zs)
bound_is room a b c d xs ys zs ea lb eb lc ec ld ed =
    let la : length a.marks ≡ room = ap (λ z. length z.marks) ea ∙ length-replicate room false in
    let mb : length b.marks ≡ room = lb ∙ la in let mc : length c.marks ≡ room = lc ∙ mb in (
      ld ∙ mc,
      ed ∙ (ap (λ z. with_all z c.list zs) mc
          ∙ ap (λ z. with_all room z zs) (ec ∙ (ap (λ z. with_all z b.list ys) mb
          ∙ ap (λ z. with_all room z ys) (eb ∙ (ap (λ z. with_all z a.list xs) la ∙ ap (λ z. with_all room z.list xs) ea))))),
    )
