-- Costs that can pay procedures pay for their frames, as these are noted one by one.
use Rattle.std.specs.Prelude.{ℕ, zero, suc, ◌≡◌, ◌+◌, ◌^◌, ◌<◌, ◌≤◌, false, true, List, [], ◌∷◌, take, drop, length, get_or, replicate}
use Rattle.std.specs.Prelude.{slice_get, slice_set, Option, Some, None, IfSome, IsSome}
use Rattle.std.specs.List.{AllByRecursion}
use Rattle.std.proofs.Common.{sym, ap, subst, ◌∙◌, arith}
use Rattle.std.proofs.lemmas.List.{length-replicate, length-set}
use Rattle.vg_lin.specs.declared.instr.Callee.{Callee}
use Rattle.vg_lin.specs.declared.instr.Callee.TheVariants.{Procedure as ByNumber, Code as ByCode}
use Rattle.vg_lin.specs.declared.instr.Instr.{Instr}
use Rattle.vg_lin.specs.declared.instr.Instr.TheVariants.{Plain, When, Unless, Jump, Call, Return, Idle}
use Rattle.vg_lin.specs.Program.{Procedure}
use Rattle.vg_source.specs.Peak.{cost_of}
use Rattle.vg_frame_costs.specs.declared.frames.Frames.{Frames}
use Rattle.vg_frame_costs.specs.Fitting.{ArePaid, BeginsWithCall, IsBefore, IsByNumber, IsMethodWithin, IsOfStart, IsRoutineWithin, IsStartIn, IsStartWithin}
use Rattle.vg_frame_costs.specs.Noted.{HoldsAll, IsPaidBy, Pays}
use Rattle.vg_frame_costs.specs.Payable.{CanBePaid, HasPaid, IsMethodPaid, IsRoutineShort, IsStartThere}
use Rattle.vg_frame_costs.proofs.Counted.{cost_at}
use Rattle.vg_frame_costs.proofs.Grown.{grown, same_frames, set_at}

-- ---- rows of frames

none_paid : (b x : ℕ) (cs : List ℕ) → ((m : ℕ) → m < length cs → b ≤ x + cost_of cs m) → ArePaid b x (replicate (length cs) 0) cs
none_paid b x [] few = tt
none_paid b x (c ∷ cs) few =
    let one = few 0 (omega arith) in (omega arith, omega (arith, one), none_paid b x cs (λ m less. few (suc m) (omega (arith, less))))

noted_paid : (b x : ℕ) (fs cs : List ℕ) (m bytes : ℕ) → ArePaid b x fs cs → bytes ≤ cost_of cs m → bytes + b ≤ x + cost_of cs m
    → ArePaid b x (slice_set fs m bytes) cs
noted_paid b x [] cs m bytes paid cost beside = tt
noted_paid b x (f ∷ fs) [] m bytes paid cost beside = absurd paid
noted_paid b x (f ∷ fs) (c ∷ cs) zero bytes paid cost beside = (cost, beside, paid.2)
noted_paid b x (f ∷ fs) (c ∷ cs) (suc m) bytes paid cost beside = (paid.0, paid.1, noted_paid b x fs cs m bytes paid.2 cost beside)

less_beside : (a b x : ℕ) (fs cs : List ℕ) → a ≤ b → ArePaid b x fs cs → ArePaid a x fs cs
less_beside a b x [] cs le paid = tt
less_beside a b x (f ∷ fs) [] le paid = absurd paid
less_beside a b x (f ∷ fs) (c ∷ cs) le paid = let beside = paid.1 in (paid.0, omega (arith, le, beside), less_beside a b x fs cs le paid.2)

-- ---- what is noted

pub pays_noted : (above : ℕ) (costs frames : List ℕ) (m bytes : ℕ) → Pays above costs frames → IsPaidBy above costs m bytes
    → Pays above costs (slice_set frames m bytes)
pays_noted above costs frames m bytes h by = record {
  each = h.each ∙ sym (length-set frames m bytes);
  small = h.small;
  paid = noted_paid (6 + above) 4 frames costs m bytes h.paid by.1 by.2;
}

-- what is needed where a frame is noted
pub ruleset noting = (cost_at, set_at, grown, same_frames, pays_noted)

-- ---- procedures that can be paid

by_number : (start : ℕ) (q : Callee) → IsByNumber q → IsBefore start q → 0 < start
by_number start (ByNumber q) first less = omega (arith, less)
by_number start (ByCode a) first less = absurd first

-- where the procedure with which a run begins calls one before it, there is one
calls_before : (start : ℕ) (code : List Instr) → BeginsWithCall code → AllByRecursion (IsOfStart start) code → 0 < start
calls_before start [] first all = absurd first
calls_before start (Plain p ∷ is) first all = absurd first
calls_before start (When t at ∷ is) first all = absurd first
calls_before start (Unless t at ∷ is) first all = absurd first
calls_before start (Jump at ∷ is) first all = absurd first
calls_before start (Call c ∷ is) first all = by_number start c.callee first all.0
calls_before start (Return w v ∷ is) first all = absurd first
calls_before start (Idle ∷ is) first all = absurd first

-- so there is a method that has a cost
some_cost : (ps : List Procedure) (at start above : ℕ) (costs : List ℕ) → 0 < at → IsStartThere start (slice_get ps at)
    → AllByRecursion (IsMethodPaid start above costs) (take at ps) → (m : ℕ) × (m < length costs)
some_cost [] at start above costs less there methods = absurd there
some_cost (p ∷ ps) zero start above costs less there methods = absurd (omega (arith, less))
some_cost (p ∷ ps) (suc at) start above costs less there methods = (methods.0.method, methods.0.known)

start_calls : (ps : List Procedure) (at start : ℕ) → IsStartThere start (slice_get ps at) → 0 < start
start_calls [] at start there = absurd there
start_calls (p ∷ ps) zero start there = calls_before start p.code there.within.first there.within.code
start_calls (p ∷ ps) (suc at) start there = start_calls ps at start there

pub above_small : (ps : List Procedure) (start : ℕ) (costs : List ℕ) (can : CanBePaid ps start costs) → can.above < 2 ^ 31
above_small ps start costs can =
    let known = some_cost ps start start can.above costs (start_calls ps start start can.first) can.first can.methods in
    let few = can.few known.0 known.1 in let small = can.small known.0 in omega (arith, few, small)

pub nothing_noted : (ps : List Procedure) (start methods : ℕ) (costs frames : List ℕ) (can : CanBePaid ps start costs) → length costs ≡ methods
    → frames ≡ replicate methods 0 → Pays can.above costs frames
nothing_noted ps start methods costs frames can each none =
    let same : frames ≡ replicate (length costs) 0 = none ∙ ap (λ n. replicate n 0) (sym each) in record {
      each = sym (ap length same ∙ length-replicate (length costs) 0);
      small = can.small;
      paid = subst (λ fs. ArePaid (6 + can.above) 4 fs costs) (sym same) (none_paid (6 + can.above) 4 costs can.few);
    }

pub routines_short : (ps : List Procedure) (start : ℕ) (costs : List ℕ) (can : CanBePaid ps start costs)
    → AllByRecursion (IsRoutineShort can.above) (drop (start + 1) ps)
routines_short ps start costs can =
    subst (λ n. AllByRecursion (IsRoutineShort can.above) (drop n ps)) (let one : suc start ≡ start + 1 = omega arith in one) can.routines

-- ---- frames that are answered

pub start_in : (start below : ℕ) (ps : List Procedure) (at : ℕ) (p : Procedure) → at < length ps → p ≡ get_or ps at p → IsStartWithin start below p
    → IsStartIn start below (slice_get ps at)
start_in start below [] at p less e h = absurd (omega (arith, less))
start_in start below (q ∷ ps) zero p less e h = subst (IsStartWithin start below) e h
start_in start below (q ∷ ps) (suc at) p less e h = start_in start below ps at p (omega (arith, less)) e h

-- frames with these bytes by method, and so many beside them
abbrev pub IsMadeOf : (frames : List ℕ) (beside : ℕ) → Frames → Type 0
IsMadeOf frames beside f = (f.by_method ≡ frames) × (f.beside ≡ beside)

pub holds_all : (ps : List Procedure) (start : ℕ) (o : Option Frames) (frames : List ℕ) (below above : ℕ) → IfSome o (IsMadeOf frames (below + above))
    → AllByRecursion (IsMethodWithin start frames) (take start ps) → IsStartIn start below (slice_get ps start)
    → AllByRecursion (IsRoutineWithin above) (drop (start + 1) ps) → below ≤ 6 → IfSome o (HoldsAll ps start)
holds_all ps start (Some f) frames below above made methods first routines few = record {
  below = below;
  above = above;
  within = record {
    methods = subst (λ fs. AllByRecursion (IsMethodWithin start fs) (take start ps)) (sym made.0) methods;
    first = first;
    routines =
        subst (λ n. AllByRecursion (IsRoutineWithin above) (drop n ps)) (let one : start + 1 ≡ suc start = omega arith in one) routines;
  };
  beside = made.1;
  few = few;
}
holds_all ps start None frames below above made methods first routines few = tt

pub has_paid : (o : Option Frames) (frames costs : List ℕ) (below routines above : ℕ) → IfSome o (IsMadeOf frames (below + routines))
    → (below + routines < 2 ^ 32 → IsSome o) → below ≤ 6 → routines ≤ above → above < 2 ^ 31 → Pays above costs frames → HasPaid costs o
has_paid (Some f) frames costs below routines above made there low high small pays =
    subst (λ fs. ArePaid f.beside 4 fs costs) (sym made.0)
    (less_beside f.beside (6 + above) 4 frames costs (let beside = made.1 in omega (arith, beside, low, high)) pays.paid)
has_paid None frames costs below routines above made there low high small pays =
    absurd (let clash : false ≡ true = there (omega (arith, low, high, small)) in cc)
