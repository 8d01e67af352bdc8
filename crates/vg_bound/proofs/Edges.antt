-- One edge more.
use Rattle.std.proofs.Common.{◌≡◌, ◌⊎◌, refl, sym, ap, ◌∙◌, arith, ℕ, zero, suc, ◌<◌, List, [], ◌∷◌, ◌++◌, get_or, length, Some, slice_get, slice_set}
use Rattle.std.specs.Prelude.{Result, Ok, Err, OnOk, OnErr}
use Rattle.std.proofs.lemmas.Option.{slice_get_read, get_or_from_slice_get}
use Rattle.std.proofs.lemmas.List.{length-set}
use mathlib.Core.Logic.{inl, inr}
use Rattle.vg_bound.specs.declared.root.Root.{Root}
use Rattle.vg_bound.specs.Searched.{Searched}
use Rattle.vg_bound.specs.Kept.{IsSound}
use Rattle.vg_bound.proofs.Lists.{get_either}

row_set : (xs : List (List ℕ)) (i : ℕ) (y : List ℕ) (a k b : ℕ) → slice_get (get_or (slice_set xs i y) a []) k ≡ Some b
    → ((a ≡ i) × (slice_get y k ≡ Some b)) ⊎ (slice_get (get_or xs a []) k ≡ Some b)
row_set [] i y a k b e = inr e
row_set (x ∷ xs) zero y zero k b e = inl (refl, e)
row_set (x ∷ xs) zero y (suc a) k b e = inr e
row_set (x ∷ xs) (suc i) y zero k b e = inr e
row_set (x ∷ xs) (suc i) y (suc a) k b e = by' (row_set xs i y a k b e)
  where
    by' : ((a ≡ i) × (slice_get y k ≡ Some b)) ⊎ (slice_get (get_or xs a []) k ≡ Some b)
        → ((suc a ≡ suc i) × (slice_get y k ≡ Some b)) ⊎ (slice_get (get_or xs a []) k ≡ Some b)
    by' (inl (p, q)) = inl (ap suc p, q)
    by' (inr h) = inr h

-- what a row has after a push that may have failed
row_more : {A E : Type 0} (r : Result A E) (row new : List ℕ) (to k b : ℕ) → OnOk r (new ≡ row ++ to ∷ []) → OnErr r (new ≡ row)
    → slice_get new k ≡ Some b → (slice_get row k ≡ Some b) ⊎ (to ≡ b)
row_more (Ok x) row new to k b ok err e = by' (get_either row to b k (sym (ap (λ z. slice_get z k) ok) ∙ e))
  where
    by' : (slice_get row k ≡ Some b) ⊎ ((k ≡ length row) × (to ≡ b)) → (slice_get row k ≡ Some b) ⊎ (to ≡ b)
    by' (inl h) = inl h
    by' (inr (l, q)) = inr q
row_more (Err x) row new to k b ok err e = inl (sym (ap (λ z. slice_get z k) err) ∙ e)

pub sound_edge : {A E : Type 0} (frames : List ℕ) (calls : List (List ℕ)) (roots : List Root) (s : Searched) (r : Result A E) (i to : ℕ) (row new : List ℕ)
    → IsSound frames calls roots s → i < length frames → to < length frames → row ≡ get_or calls i row
    → OnOk r (new ≡ row ++ to ∷ []) → OnErr r (new ≡ row) → IsSound frames (slice_set calls i new) roots s
sound_edge frames calls roots s r i to row new q below lt is ok err =
    record {
      shaped = record {
        nodes = length-set calls i new ∙ q.shaped.nodes;
        few = q.shaped.few;
        small = q.shaped.small;
        targets = λ a b e. by' a b e.0 (row_set calls i new a e.0 b e.1);
      };
      roots_ = q.roots_;
      nodes = q.nodes;
      room = q.room;
      stacked = q.stacked;
    }
  where
    same : get_or calls i [] ≡ row
    same = get_or_from_slice_get calls i row [] (slice_get_read calls (length calls) i row refl (omega (arith, below, q.shaped.nodes)) is)

    new_one : (b k : ℕ) → (slice_get row k ≡ Some b) ⊎ (to ≡ b) → b < length frames
    new_one b k (inl h) = q.shaped.targets i b (k, ap (λ z. slice_get z k) same ∙ h)
    new_one b k (inr e) = omega (arith, lt, e)

    by' : (a b k : ℕ) → ((a ≡ i) × (slice_get new k ≡ Some b)) ⊎ (slice_get (get_or calls a []) k ≡ Some b) → b < length frames
    by' a b k (inl (p, h)) = new_one b k (row_more r row new to k b ok err h)
    by' a b k (inr h) = q.shaped.targets a b (k, h)
