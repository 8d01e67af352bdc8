-- Locals of linear code: what a write leaves, and where waiting values are behind it.
use Rattle.std.specs.Prelude.{ℕ, zero, suc, ◌+◌, ◌<◌, ◌≤◌, ◌^◌, Bool, true, false, ◌==◌, List, [], ◌∷◌, length, Option, Some, None}
use Rattle.std.specs.Prelude.{slice_get}
use Rattle.std.proofs.Common.{◌≡◌, ◌≢◌, ◌⊎◌, inl, inr, refl, sym, ap, ◌∙◌, subst, arith}
use Rattle.vg_firm.specs.Meaning.{State as Firm}
use Rattle.vg_lin.specs.declared.instr.Operand.{Operand}
use Rattle.vg_lin.specs.declared.instr.Operand.TheVariants.{Local, Known}
use Rattle.vg_lin.specs.Values.{low}
use Rattle.vg_lin.specs.State.{LocalState, State, value_in, value, with_local, sets}
use Rattle.vg_flatten_shapes.specs.declared.layout.Layout.{Layout}
use Rattle.vg_flatten_shapes.specs.declared.room.Room.{Room}
use Rattle.vg_flatten_shapes.specs.Shapes.{temp}
use Rattle.vg_flatten_shapes.proofs.Temps.{some_is, none_is_not, temp_is}
use Rattle.vg_flattened.proofs.Related.{IsPlaced, ArePlaced, IsAt, AreAt, AreWidths, IsReceiver, AreKept, AreSame}
use Rattle.vg_flattened.proofs.Numbers.{low_same}

-- the local that was written
pub written_is : (ls : List LocalState) (i x : ℕ) (l : LocalState) → slice_get ls i ≡ Some l
    → slice_get (with_local ls i x) i ≡ Some (record l { value = Some (low l.width x) })
written_is [] i x l e = none_is_not l e
written_is (l1 ∷ ls) zero x l e = ap {A = LocalState} (λ z. Some (record z { value = Some (low z.width x) })) (some_is l1 l e)
written_is (l1 ∷ ls) (suc i) x l e = written_is ls i x l e

-- all others stay
pub others_stay : (ls : List LocalState) (i j x : ℕ) → j ≢ i → slice_get (with_local ls i x) j ≡ slice_get ls j
others_stay [] i j x ne = refl
others_stay (l ∷ ls) zero zero x ne = absurd (ne refl)
others_stay (l ∷ ls) zero (suc j) x ne = refl
others_stay (l ∷ ls) (suc i) zero x ne = refl
others_stay (l ∷ ls) (suc i) (suc j) x ne = others_stay ls i j x (λ e. ne (ap suc e))

-- ---- the homes of waiting values

home_stays : (n j k x : ℕ) (h : Operand) (v : ℕ) (ls : List LocalState) → j < k → IsPlaced n j h → IsAt h v ls → IsAt h v (with_local ls (n + k) x)
home_stays n j k x (Local i) v ls lt (inl low') at =
    let ne : i ≢ n + k = omega arith in ap value_in (others_stay ls (n + k) i x ne) ∙ at
home_stays n j k x (Local i) v ls lt (inr e) at =
    let ne : i ≢ n + k = omega arith in ap value_in (others_stay ls (n + k) i x ne) ∙ at
home_stays n j k x (Known c) v ls lt placed at = at

-- a write to the temporary of a height touches nothing below it
pub homes_stay : (n k x : ℕ) (hs : List Operand) (vs : List ℕ) (ls : List LocalState) → length hs ≤ k → ArePlaced n hs → AreAt hs vs ls
    → AreAt hs vs (with_local ls (n + k) x)
homes_stay n k x [] [] ls le placed at = tt
homes_stay n k x [] (v ∷ vs) ls le placed at = absurd at
homes_stay n k x (h ∷ hs) [] ls le placed at = absurd at
homes_stay n k x (h ∷ hs) (v ∷ vs) ls le placed at = (
  (home_stays n (length hs) k x h v ls (omega arith) placed.0 at.0.0, at.0.1),
  homes_stay n k x hs vs ls (omega arith) placed.1 at.1,
)

pub value_of_home : (h : Operand) (v : ℕ) (t : State) → IsAt h v t.locals → value h t ≡ Some v
value_of_home (Local i) v t at = at
value_of_home (Known c) v t at = ap Some at

-- ---- the locals of the procedure

pub kept_there : (r : Room) (ws : List ℕ) (self : Option ℕ) (vs : List ℕ) (ls : List LocalState) (to x : ℕ) → AreKept r ws self vs ls
    → (i w : ℕ) → slice_get ws i ≡ Some w → (o : Option ℕ) × (slice_get (with_local ls to x) i ≡ Some (record { width = w; value = o }))
kept_there r ws self vs ls to x kept i w e = by_place (i == to) refl (kept.there i w e)
  where
    by_place : (b : Bool) → (i == to) ≡ b → (o : Option ℕ) × (slice_get ls i ≡ Some (record { width = w; value = o }))
        → (o : Option ℕ) × (slice_get (with_local ls to x) i ≡ Some (record { width = w; value = o }))
    by_place true same (o, at) =
        let is : i ≡ to = grind arith in
        (Some (low w x), subst (λ z. slice_get (with_local ls z x) i ≡ Some (record { width = w; value = Some (low w x) })) is (written_is ls i x _ at))
    by_place false same (o, at) = let ne : i ≢ to = grind arith in (o, others_stay ls to i x ne ∙ at)

-- the receiver stays where another local is written
pub receiver_stays : (r : Room) (self : Option ℕ) (ls : List LocalState) (to x : ℕ) → ((n : ℕ) → self ≡ Some n → 0 < r.receiver → 0 < r.locals → 0 ≢ to)
    → IsReceiver r self ls → IsReceiver r self (with_local ls to x)
receiver_stays r None ls to x ne h = tt
receiver_stays r (Some n) ls to x ne h = (h.0, ap value_in (others_stay ls to 0 x (ne n refl h.0.0 h.0.1)) ∙ h.1, h.2)

pub kept_behind_temp : (r : Room) (ws : List ℕ) (self : Option ℕ) (vs : List ℕ) (ls : List LocalState) (k x : ℕ) → AreKept r ws self vs ls
    → AreKept r ws self vs (with_local ls (r.locals + k) x)
kept_behind_temp r ws self vs ls k x kept =
    record {
      receiver = receiver_stays r self ls (r.locals + k) x (λ n e l1 l2. let ne : 0 ≢ r.locals + k = omega (arith, l2) in ne) kept.receiver;
      object = kept.object;
      there = kept_there r ws self vs ls (r.locals + k) x kept;
      locals = λ i v lt e. let ne : r.receiver + i ≢ r.locals + k = omega (arith, lt) in (
        ap value_in (others_stay ls (r.locals + k) (r.receiver + i) x ne) ∙ (kept.locals i v lt e).0,
        (kept.locals i v lt e).1,
      );
    }

-- ---- temporaries

-- A number of four bytes is put into the temporary above what waits.
pub put_temp : (lay : Layout) (r : Room) (widths ws : List ℕ) (hs : List Operand) (s : Firm) (t : State) (to z : ℕ) → AreWidths r widths ws
    → ArePlaced r.locals hs
    → temp r hs ≡ Some to → z < 2 ^ 32 → AreSame lay r ws hs s t → AreSame lay r ws (Local to ∷ hs) (record s { values = z ∷ s.values }) (sets to z t)
put_temp lay r widths ws hs s t to z wide placed e small same = by_temp (temp_is r hs to e).0 (temp_is r hs to e).1
  where
    is_there : (o : Option ℕ) × (slice_get t.locals (r.locals + length hs) ≡ Some (record { width = 4; value = o }))
        → value_in (slice_get (with_local t.locals (r.locals + length hs) z) (r.locals + length hs)) ≡ Some z
    is_there (o, at) = ap value_in (written_is t.locals (r.locals + length hs) z _ at) ∙ ap Some (low_same z small)

    by_temp : to ≡ r.locals + length hs → length hs < r.temps → AreSame lay r ws (Local to ∷ hs) (record s { values = z ∷ s.values }) (sets to z t)
    by_temp is lt =
        subst (λ x. AreSame lay r ws (Local x ∷ hs) (record s { values = z ∷ s.values }) (sets x z t)) (sym is)
        (record {
          waits = (
            (is_there (same.kept.there (r.locals + length hs) 4 (wide.temps (length hs) lt)), small),
            homes_stay r.locals (length hs) z hs s.values t.locals (omega arith) placed same.waits,
          );
          kept = kept_behind_temp r ws s.self s.locals t.locals (length hs) z same.kept;
          none = same.none;
          ram = same.ram;
        })

pub placed_temp : (r : Room) (hs : List Operand) (to : ℕ) → temp r hs ≡ Some to → ArePlaced r.locals hs → ArePlaced r.locals (Local to ∷ hs)
placed_temp r hs to e placed = (inr (temp_is r hs to e).0, placed)

-- An operand that waits above a value keeps its own, where that value's temporary is written.
pub value_stays : (r : Room) (hs : List Operand) (y x : Operand) (v : ℕ) (t : State) (to z : ℕ) → temp r hs ≡ Some to → ArePlaced r.locals (y ∷ x ∷ hs)
    → value y t ≡ Some v → value y (sets to z t) ≡ Some v
value_stays r hs (Local i) x v t to z e placed at = ap value_in (others_stay t.locals to i z apart) ∙ at
  where
    by_home : (i < r.locals) ⊎ (i ≡ r.locals + length (x ∷ hs)) → to ≡ r.locals + length hs → i ≢ to
    by_home (inl lt) is = omega (arith, lt, is)
    by_home (inr at1) is = omega (arith, at1, is)

    apart : i ≢ to
    apart = by_home placed.0 (temp_is r hs to e).0
value_stays r hs (Known c) x v t to z e placed at = at
