-- Each handler has a stub, and the slot of its vector leads there.
use Rattle.std.specs.Prelude.{ℕ, suc, ◌+◌, ◌*◌, ◌<◌, ◌≤◌, ◌==◌, nat_lt, Bool, true, false, if◌then◌else◌, List, [], ◌∷◌, ◌++◌, length, Option, Some, None}
use Rattle.std.proofs.Common.{◌≡◌, refl, sym, ap, ◌∙◌, subst, arith, inl, inr}
use Rattle.std.proofs.lemmas.Option.{none-some, same_Some, slice_get_past}
use Rattle.avr_view.proofs.Going.{below_or_not}
use Rattle.vg_image.specs.Image.{flattened, slot_in}
use Rattle.vg_laid.specs.Laid.{index_in}
use Rattle.vg_laid.proofs.Stubs.{index_low}
use Rattle.vg_laid.proofs.Turns.{counted, got}
use Rattle.vg_link.specs.declared.unlinked.Handler.{Handler}
use Rattle.vg_link.specs.Linking.{handler_in, with_new, with_handlers, stubs_of, slot_of, slots_upto}

same_number : (a b : ℕ) → (a == b) ≡ true → a ≡ b
same_number a b e = grind arith

is_below : (a b : ℕ) → nat_lt a b ≡ true → a < b
is_below a b e = grind arith

-- ---- a number in a list

abbrev pub Has : List ℕ → ℕ → Type 0
Has xs m = index_in xs m < length xs

has_behind : (xs : List ℕ) (m x : ℕ) → Has xs m → Has (xs ++ x ∷ []) m
has_behind [] m x h = absurd (omega (arith, h))
has_behind (y ∷ xs) m x h = test (y == m) h (has_behind xs m x)
  where
    test : (b : Bool) → (if b then 0 else suc (index_in xs m)) < suc (length xs) → (Has xs m → Has (xs ++ x ∷ []) m)
        → (if b then 0 else suc (index_in (xs ++ x ∷ []) m)) < suc (length (xs ++ x ∷ []))
    test true g behind = omega arith
    test false g behind = let rest = behind (omega (arith, g)) in omega (arith, rest)

has_last : (xs : List ℕ) (m : ℕ) → Has (xs ++ m ∷ []) m
has_last [] m = subst (λ b. (if b then 0 else 1) < 1) (sym (is_itself m)) (omega arith)
  where
    is_itself : (a : ℕ) → (a == a) ≡ true
    is_itself a = grind arith
has_last (y ∷ xs) m = test (y == m) (has_last xs m)
  where
    test : (b : Bool) → Has (xs ++ m ∷ []) m → (if b then 0 else suc (index_in (xs ++ m ∷ []) m)) < suc (length (xs ++ m ∷ []))
    test true rest = omega arith
    test false rest = omega (arith, rest)

has_new : (xs : List ℕ) (m : ℕ) → Has (with_new xs m) m
has_new xs m = test (nat_lt (index_in xs m) (length xs)) refl
  where
    test : (b : Bool) → nat_lt (index_in xs m) (length xs) ≡ b → Has (if b then xs else xs ++ m ∷ []) m
    test true e = is_below (index_in xs m) (length xs) e
    test false e = has_last xs m

has_still : (xs : List ℕ) (m x : ℕ) → Has xs m → Has (with_new xs x) m
has_still xs m x h = test (nat_lt (index_in xs x) (length xs))
  where
    test : (b : Bool) → Has (if b then xs else xs ++ x ∷ []) m
    test true = h
    test false = has_behind xs m x h

has_all : (xs : List ℕ) (hs : List Handler) (m : ℕ) → Has xs m → Has (with_handlers xs hs) m
has_all xs [] m h = h
has_all xs (k ∷ hs) m h = has_all (with_new xs k.procedure) hs m (has_still xs m k.procedure h)

handlers_there : (xs : List ℕ) (hs : List Handler) (v m : ℕ) → handler_in hs v ≡ Some m → Has (with_handlers xs hs) m
handlers_there xs [] v m e = absurd (none-some _ e)
handlers_there xs (h ∷ hs) v m e = test (h.vector == v) e (handlers_there (with_new xs h.procedure) hs v m)
  where
    test : (b : Bool) → (if b then Some h.procedure else handler_in hs v) ≡ Some m
        → (handler_in hs v ≡ Some m → Has (with_handlers (with_new xs h.procedure) hs) m) → Has (with_handlers (with_new xs h.procedure) hs) m
    test true q behind =
        has_all (with_new xs h.procedure) hs m (subst (λ z. Has (with_new xs h.procedure) z) (same_Some _ _ q) (has_new xs h.procedure))
    test false q behind = behind q

pub handler_there : (hs : List Handler) (v m : ℕ) → handler_in hs v ≡ Some m → index_in (stubs_of hs) m < length (stubs_of hs)
handler_there hs v m e = handlers_there [] hs v m e

-- ---- slots

module _ (hs : List Handler) (stubs : List ℕ) (at : ℕ) where
  pub slot_is : (v : ℕ) → v < 35 → slot_in (slots_upto hs stubs at 35) v ≡ slot_of stubs at (handler_in hs v)
  slot_is v h = ap flattened (got (λ k. slot_of stubs at (handler_in hs k)) (slots_upto hs stubs at) refl (λ k. refl) 35 v h)

  pub slot_low : at + 3 * length stubs < 65536 → (v to : ℕ) → slot_in (slots_upto hs stubs at 35) v ≡ Some to → to < 65536
  slot_low room v to e = elim (below_or_not v 35) [
    | inl less ↦ led (handler_in hs v) (sym (slot_is v less) ∙ e)
    | inr past ↦
        absurd (none-some _ (sym (ap flattened (slice_get_past (slots_upto hs stubs at 35) v
        (subst (λ n. n ≤ v) (sym (counted (λ k. slot_of stubs at (handler_in hs k)) (slots_upto hs stubs at) refl (λ k. refl) 35)) past))) ∙ e))
  ]
    where
      led : (o : Option ℕ) → slot_of stubs at o ≡ Some to → to < 65536
      led None q = absurd (none-some _ q)
      led (Some m) q = let same = same_Some _ _ q in let i = index_low stubs m in omega (arith, same, i, room)
