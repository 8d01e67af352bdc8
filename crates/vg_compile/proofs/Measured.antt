-- What is known of the frames of a linear program, and where costs pay for them.
use Rattle.std.specs.Prelude.{◌≡◌, ◌⊎◌, ℕ, zero, suc, ◌+◌, ◌<◌, ◌≤◌, List, [], ◌∷◌, length, take, Option, Some, None, slice_get}
use Rattle.std.proofs.Common.{refl, sym, ap, subst, ◌∙◌, arith, inl, inr}
use Rattle.std.proofs.lemmas.Option.{same_Some, none-some}
use Rattle.vg_source.specs.Peak.{cost_of}
use Rattle.vg_firm.specs.declared.procedure.Procedure.{Procedure as HeldProcedure}
use Rattle.vg_firm.specs.Held.{procedure_of}
use Rattle.vg_firm.specs.Program.{Procedure as FirmProcedure}
use Rattle.vg_lin.specs.Program.{Procedure}
use Rattle.vg_calls_packed.specs.Ways.{cost_at, cost_in, way_cost}
use Rattle.vg_call_need.specs.Need.{IsNeed}
use Rattle.vg_call_need.specs.Within.{IsSpentBy, IsSpentWithin}
use Rattle.vg_call_need.specs.declared.need.Need.{Need}
use Rattle.vg_call_need.specs.declared.need.Need.TheVariants as needs
use Rattle.vg_flatten.specs.Flattened.{IsFlat, start_of}
use Rattle.vg_frame_costs.specs.declared.frames.Frames.{Frames}
use Rattle.vg_frame_costs.specs.Bytes.{opening_bytes, procedure_bytes}
use Rattle.vg_frame_costs.specs.Fitting.{ArePaid, IsMethodWithin, IsStartIn}
use Rattle.vg_linear.specs.declared.whole.Linear.{Linear}
use Rattle.vg_linear.specs.Expanded.{IsExpandedTo}
use Rattle.vg_linear.specs.Routines.{four_for}
use Rattle.vg_linear.specs.Whole.{IsLinear, first_routine, packed_of}
use Rattle.vg_linear.proofs.Lists.{from_map, get_left, one_of, zip_at}
use Rattle.vg_packed.specs.declared.program.FirmProgram.{FirmProgram}
use Rattle.vg_placement.specs.declared.column.Column.{Column}
use Rattle.vg_finding.specs.Finders.{with_finders}
use Rattle.vg_trimming.specs.declared.facts.Facts.{Facts}
use Rattle.vg_trimming.specs.Trimmed.{IsTrimmedTo, Trims}
use Rattle.vg_compile.specs.Bounds.{AreFramesOf, ArePaidFor}
use Rattle.vg_compile.specs.Measured.{IsMainFramed}
use Rattle.vg_compile.proofs.Found.{found_there}

-- ---- what lies beside frames

start_bytes : (start below : ℕ) (o : Option Procedure) → IsStartIn start below o → 4 ≤ below
start_bytes start below None h = absurd h
start_bytes start below (Some p) h = let b = h.bytes in omega (arith, b)

-- the four bytes of idling lie beside all frames
pub four_beside : (l : Linear) (frames : Frames) → AreFramesOf l frames → 4 ≤ frames.beside
four_beside l frames h =
    let four = start_bytes l.start h.below _ h.within.first in let e = h.beside in omega (arith, four, e)

-- ---- the frame of main

-- a procedure takes its return address
takes_some : (p : Procedure) → 0 < opening_bytes p
unfolding opening_bytes
takes_some p = omega arith

some_bytes : (p : Procedure) → 0 < procedure_bytes p
some_bytes p = let some = takes_some p in omega (arith, some)

get_taken : {A : Type 0} (xs : List A) (n i : ℕ) (x : A) → i < n → slice_get xs i ≡ Some x → slice_get (take n xs) i ≡ Some x
get_taken [] n i x lt e = absurd (none-some x e)
get_taken (y ∷ xs) zero i x lt e = absurd (omega (arith, lt))
get_taken (y ∷ xs) (suc n) zero x lt e = e
get_taken (y ∷ xs) (suc n) (suc i) x lt e = get_taken xs n i x (omega (arith, lt)) e

trimmed_method : (old new : Procedure) → IsTrimmedTo old new → new.method ≡ old.method
trimmed_method old new t = by t.how
  where
    by : (new ≡ old) ⊎ ((fs : List Facts) × (places : List ℕ) × Trims fs places old new) → new.method ≡ old.method
    by (inl e) = ap (λ (z : Procedure). z.method) e
    by (inr (fs, places, h)) = h.method

module _ (cs : List Column) (f : FirmProgram) (l : Linear) (whole : IsLinear cs f l) where
  -- the linear procedure of a packed one is that method
  method_there : (q : ℕ) (m : FirmProcedure) → slice_get (packed_of f) q ≡ Some m
      → (new : Procedure) × (slice_get l.procedures q ≡ Some new) × (new.method ≡ Some m.method)
  method_there q m e =
      let s = zip_at (IsFlat l.layout) (packed_of f) whole.made.flats whole.made.are_flat q m e in
      let b : slice_get whole.made.begun q ≡ Some s.0 =
      ap (λ z. slice_get z q) whole.made.with_start.behind
      ∙ get_left whole.made.flats (start_of f.main whole.made.with_start.main.receives ∷ []) q s.0 s.1 in
      let t = zip_at IsTrimmedTo whole.made.begun whole.made.trimmed whole.made.are_trimmed q s.0 b in
      let x = zip_at (IsExpandedTo (first_routine f)) whole.made.trimmed whole.made.expanded whole.made.are_expanded q t.0 t.1 in (
        with_finders whole.made.found.numbers x.0,
        found_there (length f.procedures) f.dispatches l.dispatches whole.made.routined l.procedures whole.made.found q x.0
            (ap (λ z. slice_get z q) whole.made.routines ∙ get_left whole.made.expanded (four_for (first_routine f) whole.made.expanded) q x.0 x.1),
        x.2.expands.method ∙ (trimmed_method s.0 t.0 t.2 ∙ s.2.method),
      )

  pub main_framed : (frames : Frames) → AreFramesOf l frames → f.main < length f.procedures → IsMainFramed f frames
  main_framed frames are there =
      let m = whole.made.with_start.main in
      let held = from_map procedure_of f.procedures f.main m whole.made.with_start.is_main in
      let new = method_there f.main m whole.made.with_start.is_main in
      let within : IsMethodWithin l.start frames.by_method new.0 =
      one_of (IsMethodWithin l.start frames.by_method) (take l.start l.procedures) f.main new.0 are.within.methods
      (get_taken l.procedures l.start f.main new.0 (subst (λ z. f.main < z) (sym whole.start) there) new.1) in
      let same : within.method ≡ held.0.method =
      same_Some within.method held.0.method (sym within.named ∙ (new.2 ∙ ap (λ (z : FirmProcedure). Some z.method) (sym held.2))) in
      let some = some_bytes new.0 in
      let bytes : procedure_bytes new.0 ≤ cost_of frames.by_method held.0.method =
      subst (λ z. procedure_bytes new.0 ≤ cost_of frames.by_method z) same within.bytes in
      let framed : 0 < cost_of frames.by_method held.0.method = omega (arith, some, bytes) in
      subst (λ z. 0 < cost_in frames.by_method z) (sym held.1) framed

-- ---- ways that costs pay

-- where costs pay for frames, each cost is as much, and pays for what lies beside too where there is a frame
paid_at : (beside extra : ℕ) (frames costs : List ℕ) → ArePaid beside extra frames costs → (n : ℕ)
    → (cost_of frames n ≤ cost_of costs n) × (0 < cost_of frames n → cost_of frames n + beside ≤ extra + cost_of costs n)
paid_at beside extra [] costs h n = (omega arith, λ some. absurd (omega (arith, some)))
paid_at beside extra (g ∷ gs) [] h n = absurd h
paid_at beside extra (g ∷ gs) (c ∷ cs) (least, all, h) zero = (least, λ some. all)
paid_at beside extra (g ∷ gs) (c ∷ cs) (least, all, h) (suc n) = paid_at beside extra gs cs h n

module _ (beside extra : ℕ) (frames costs : List ℕ) (paid : ArePaid beside extra frames costs) (all : List HeldProcedure) where
  one_paid : (o : Option HeldProcedure) → (cost_in frames o ≤ cost_in costs o) × (0 < cost_in frames o → cost_in frames o + beside ≤ extra + cost_in costs o)
  one_paid None = (omega arith, λ some. absurd (omega (arith, some)))
  one_paid (Some m) = paid_at beside extra frames costs paid m.method

  least : (way : List ℕ) → way_cost all frames way ≤ way_cost all costs way
  least [] = omega arith
  least (q ∷ way) = let a = (one_paid (slice_get all q)).0 in let more = least way in omega (arith, a, more)

  -- what lies beside is paid once
  once : (way : List ℕ) → 0 < way_cost all frames way → way_cost all frames way + beside ≤ extra + way_cost all costs way
  once [] some = absurd (omega (arith, some))
  once (q ∷ way) some = by (cost_at all frames q) refl (once way)
    where
      by : (n : ℕ) → cost_at all frames q ≡ n
          → (0 < way_cost all frames way → way_cost all frames way + beside ≤ extra + way_cost all costs way)
          → cost_at all frames q + way_cost all frames way + beside ≤ extra + (cost_at all costs q + way_cost all costs way)
      by zero e behind =
          let rest : 0 < way_cost all frames way = omega (arith, some, e) in
          let more = behind rest in omega (arith, more, e)
      by (suc n) e behind =
          let a = (one_paid (slice_get all q)).1 (let z : 0 < cost_at all frames q = omega (arith, e) in z) in
          let more = least way in omega (arith, a, more)

-- where costs pay for all frames, with what lies beside them but for four bytes, the calls of some way cost as much as is needed, but for four bytes
pub spent_by : (f : FirmProgram) (frames : Frames) (row costs : List ℕ) (need : Need) → row ≡ frames.by_method → ArePaid frames.beside 4 row costs
    → 4 ≤ frames.beside → IsMainFramed f frames → IsNeed frames.beside f frames.by_method need → IsSpentBy f costs need
spent_by f frames row costs (needs.Cycle procedures) same row_paid four framed is = tt
spent_by f frames row costs (needs.Bytes need) same row_paid four framed (none, (bytes, sum, enough, (way, q, is_way, exact))) = by bytes refl
  where
    paid : ArePaid frames.beside 4 frames.by_method costs
    paid = subst (λ z. ArePaid frames.beside 4 z costs) same row_paid

    lone : bytes ≡ 0 → need ≤ 4 + (cost_at f.procedures costs f.main + 0)
    lone e =
        let a = (one_paid frames.beside 4 frames.by_method costs paid f.procedures (slice_get f.procedures f.main)).1 framed in
        omega (arith, a, sum, e)

    by : (n : ℕ) → bytes ≡ n → IsSpentWithin f costs need
    by zero e =
        (omega (arith, four, sum), (cost_at f.procedures costs f.main + 0, lone e, (f.main ∷ [], f.main, (inl refl, refl), refl)))
    by (suc n) e =
        let some : 0 < way_cost f.procedures frames.by_method way = omega (arith, exact, e) in
        let all = once frames.beside 4 frames.by_method costs paid f.procedures way some in
        (omega (arith, four, sum), (way_cost f.procedures costs way, omega (arith, all, sum, exact), (way, q, is_way, refl)))

pub paid_for : (frames : Frames) (row costs : List ℕ) (need : Need) → row ≡ frames.by_method → ArePaid frames.beside 4 row costs
    → ArePaidFor frames costs need
paid_for frames row costs (needs.Bytes need) same paid = tt
paid_for frames row costs (needs.Cycle procedures) same paid = subst (λ z. ArePaid frames.beside 4 z costs) same paid
