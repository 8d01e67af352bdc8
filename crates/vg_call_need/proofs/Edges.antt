-- The edges of the call graph of a packed program are what its procedures name, of those that are there.
use Rattle.std.specs.Prelude.{ℕ, zero, suc, ◌+◌, ◌<◌, Bool, true, false, ◌==◌, nat_lt, List, [], ◌∷◌, ◌++◌, length, get_or, Option, Some, None, slice_get, if◌then◌else◌}
use Rattle.std.proofs.Common.{◌≡◌, refl, sym, ap, ◌∙◌, subst, arith}
use Rattle.std.proofs.lemmas.Option.{same_Some, none-some, slice_get_within}
use Rattle.vg_firm.specs.declared.procedure.Procedure.{Procedure as Held}
use Rattle.vg_firm.specs.Session.{is_among}
use Rattle.vg_bound.specs.Graph.{HasEdge, cost}
use Rattle.vg_calls_packed.specs.Ways.{Calls, CallsAs, cost_at, way_cost}
use Rattle.vg_call_need.specs.Graph.{below, frames_of, named}

pub same_number : (a b : ℕ) → (a == b) ≡ true → a ≡ b
same_number a b e = grind arith

pub is_same : (a b : ℕ) → a ≡ b → (a == b) ≡ true
is_same a b e = grind arith

is_less : (a b : ℕ) → nat_lt a b ≡ true → a < b
is_less a b e = grind arith

less_is : (a b : ℕ) → a < b → nat_lt a b ≡ true
less_is a b e = grind arith

pub false_true : false ≡ true → ⊥
false_true e = cc

-- ---- lists of procedures

pub among_first : (q b : ℕ) (qs : List ℕ) → q ≡ b → is_among (q ∷ qs) b ≡ true
among_first q b qs e = ap (λ t. if t then true else is_among qs b) (is_same q b e)

pub among_more : (q b : ℕ) (qs : List ℕ) → is_among qs b ≡ true → is_among (q ∷ qs) b ≡ true
among_more q b qs e = by (q == b)
  where
    by : (t : Bool) → (if t then true else is_among qs b) ≡ true
    by true = refl
    by false = e

pub below_at : (n : ℕ) (qs : List ℕ) (k b : ℕ) → slice_get (below n qs) k ≡ Some b → (b < n) × (is_among qs b ≡ true)
below_at n [] k b e = absurd (none-some b e)
below_at n (q ∷ qs) k b e = by (λ j h. below_at n qs j b h) (nat_lt q n) refl k e
  where
    Behind : Type 0
    Behind = (j : ℕ) → slice_get (below n qs) j ≡ Some b → (b < n) × (is_among qs b ≡ true)

    later : Behind → (j : ℕ) → slice_get (below n qs) j ≡ Some b → (b < n) × (is_among (q ∷ qs) b ≡ true)
    later behind j h = let (lt, among) = behind j h in (lt, among_more q b qs among)

    by : Behind → (t : Bool) → nat_lt q n ≡ t → (j : ℕ) → slice_get ((if t then q ∷ [] else []) ++ below n qs) j ≡ Some b
        → (b < n) × (is_among (q ∷ qs) b ≡ true)
    by behind true less zero h = let same = same_Some q b h in (subst (λ z. z < n) same (is_less q n less), among_first q b qs same)
    by behind true less (suc j) h = later behind j h
    by behind false less j h = later behind j h

pub below_of : (n : ℕ) (qs : List ℕ) (b : ℕ) → b < n → is_among qs b ≡ true → (k : ℕ) × (slice_get (below n qs) k ≡ Some b)
below_of n [] b lt e = absurd (false_true e)
below_of n (q ∷ qs) b lt e = by (λ h. below_of n qs b lt h) (q == b) refl e
  where
    further : (t : Bool) → (k : ℕ) × (slice_get (below n qs) k ≡ Some b)
        → (k : ℕ) × (slice_get ((if t then q ∷ [] else []) ++ below n qs) k ≡ Some b)
    further true (k, h) = (suc k, h)
    further false (k, h) = (k, h)

    by : (is_among qs b ≡ true → (k : ℕ) × (slice_get (below n qs) k ≡ Some b)) → (t : Bool) → (q == b) ≡ t
        → (if t then true else is_among qs b) ≡ true → (k : ℕ) × (slice_get (below n (q ∷ qs)) k ≡ Some b)
    by behind true same h =
        let is = same_number q b same in
        (0, ap (λ t. slice_get ((if t then q ∷ [] else []) ++ below n qs) 0) (less_is q n (subst (λ z. z < n) (sym is) lt)) ∙ ap Some is)
    by behind false same h = further (nat_lt q n) (behind h)

-- ---- edges

pub edge_told : (n : ℕ) (ms : List Held) (a b : ℕ) → HasEdge (named n ms) a b → (b < n) × Calls ms a b
edge_told n [] a b (k, e) = absurd (none-some b e)
edge_told n (m ∷ ms) zero b (k, e) = below_at n m.calls k b e
edge_told n (m ∷ ms) (suc a) b h = edge_told n ms a b h

pub edge_of : (n : ℕ) (ms : List Held) (a b : ℕ) → b < n → Calls ms a b → HasEdge (named n ms) a b
edge_of n [] a b lt c = absurd c
edge_of n (m ∷ ms) zero b lt c = below_of n m.calls b lt c
edge_of n (m ∷ ms) (suc a) b lt c = edge_of n ms a b lt c

pub calls_within : (ms : List Held) (a b : ℕ) → Calls ms a b → a < length ms
calls_within ms a b c = by (slice_get ms a) refl c
  where
    by : (o : Option Held) → slice_get ms a ≡ o → CallsAs o b → a < length ms
    by (Some m) e h = slice_get_within ms a m e
    by None e h = absurd h

pub some_calls : (ms : List Held) (a b : ℕ) (m : Held) → slice_get ms a ≡ Some m → is_among m.calls b ≡ true → Calls ms a b
some_calls ms a b m e h = subst (λ z. CallsAs z b) (sym e) h

-- ---- frames

frame_at : (frames : List ℕ) (ms : List Held) (q : ℕ) → get_or (frames_of frames ms) q 0 ≡ cost_at ms frames q
frame_at frames [] q = refl
frame_at frames (m ∷ ms) zero = refl
frame_at frames (m ∷ ms) (suc q) = frame_at frames ms q

both : (a b c d : ℕ) → a ≡ b → c ≡ d → a + c ≡ b + d
both a b c d e f = ap (λ z. z + c) e ∙ ap (λ z. b + z) f

pub path_cost : (frames : List ℕ) (ms : List Held) (path : List ℕ) → cost (frames_of frames ms) path ≡ way_cost ms frames path
path_cost frames ms [] = refl
path_cost frames ms (q ∷ qs) =
    both (get_or (frames_of frames ms) q 0) (cost_at ms frames q) (cost (frames_of frames ms) qs) (way_cost ms frames qs) (frame_at frames ms q)
    (path_cost frames ms qs)
