-- The spots of locals, one behind the other, are those of the layout of the procedure.
use Rattle.std.proofs.Common.{◌≡◌, ℕ, zero, suc, ◌+◌, ◌-◌, ◌*◌, ◌<◌, ◌≤◌, Bool, true, false, nat_lt, if◌then◌else◌}
use Rattle.std.proofs.Common.{subst, ap, refl, sym, ◌∙◌, arith, List, [], ◌∷◌, ◌++◌, length, take, drop, Some, slice_get, slice_index}
use Rattle.std.proofs.Common.{length-append, length-take, length-drop}
use Rattle.std.proofs.lemmas.List.{take_all}
use Rattle.std.specs.List.{AllByRecursion}
use Rattle.vg_lin.specs.declared.instr.Instr.{Instr}
use Rattle.vg_lin.specs.Program.{Procedure}
use Rattle.vg_lin.specs.Sound.{IsSound, IsWidth}
use Rattle.vg_templates.specs.Spots.{InFrame}
use Rattle.vg_templates.specs.Layouts.{IsLayout, frame_size}
use Rattle.vg_templates.specs.Calls.{sum_of, behind_width, by_registers, lives_from}
use Rattle.vg_templates.specs.Living.{is_live, lasts}
use Rattle.vg_templates.specs.Framed.{Taken, taken, Seat, Lasting, Passing, Slot, seat_for, seat_spot, with_seat, spots_from, spot_at, all_taken, saved_for, is_pointed}
use Rattle.vg_templates.specs.Framed.{on_stack, arriving, lying, framed, CanBeFramed}
use Rattle.vg_templates.proofs.Framing.{both_parts, framed-layout, framed-bytes}
use Rattle.vg_alloc.specs.declared.spot.Spot.{Spot}
use Rattle.vg_alloc.specs.declared.spot.Spot.TheVariants.{Frame}
use Rattle.vg_alloc.specs.declared.seats.Taken.{Taken as Held}
use Rattle.vg_alloc.specs.Locations.{Located, located, place, place_in, layout, CanArrive}
use Rattle.vg_alloc.specs.Frames.{taken_of, pushed_spots, held_spot, held_spots, all_located, code_located}

-- ---- the spots

at_front : (n : ℕ) (ws : List ℕ) (more : List Spot) (k : ℕ) → k < length ws
    → slice_get (pushed_spots n ws ++ more) k ≡ Some (Frame (n + behind_width ws k))
at_front n [] more k h = absurd (omega arith)
at_front n (w ∷ ws) more zero h = refl
at_front n (w ∷ ws) more (suc k) h = at_front n ws more k (omega arith)

at_back : (n : ℕ) (ws : List ℕ) (more : List Spot) (k : ℕ) → length ws ≤ k → slice_get (pushed_spots n ws ++ more) k ≡ slice_get more (k - length ws)
at_back n [] more k h = let e : k ≡ k - 0 = omega arith in ap (slice_get more) e
at_back n (w ∷ ws) more zero h = absurd (omega arith)
at_back n (w ∷ ws) more (suc k) h =
    let e : k - length ws ≡ suc k - suc (length ws) = omega arith in at_back n ws more k (omega arith) ∙ ap (slice_get more) e

held_is : (t : Taken) (s : Seat) → place (held_spot t s) ≡ seat_spot t s
held_is t Lasting = refl
held_is t Passing = refl
held_is t Slot = refl

held_at : (c : ℕ → Bool) (k : ℕ) (ws : List ℕ) (t : Taken) (j : ℕ) → place_in (slice_get (held_spots c k ws t) j) ≡ spot_at (spots_from c k ws t) j
held_at c k [] t j = refl
held_at c k (w ∷ ws) t zero = held_is t (seat_for t (c k) w)
held_at c k (w ∷ ws) t (suc j) = held_at c (suc k) ws (with_seat t (seat_for t (c k) w) w) j

each_counted : (n : ℕ) (ws : List ℕ) → length (pushed_spots n ws) ≡ length ws
each_counted n [] = refl
each_counted n (w ∷ ws) = ap suc (each_counted n ws)

held_counted : (c : ℕ → Bool) (k : ℕ) (ws : List ℕ) (t : Taken) → length (held_spots c k ws t) ≡ length ws
held_counted c k [] t = refl
held_counted c k (w ∷ ws) t = ap suc (held_counted c (suc k) ws (with_seat t (seat_for t (c k) w) w))

-- ---- the layout

module _ (c : ℕ → Bool) (bs : List Bool) (ws : List ℕ) (p : ℕ) (low : p ≤ length ws) where
  abbrev end : Taken
  end = all_taken c ws p

  abbrev front : ℕ
  front = end.slots + end.lasting + 4

  abbrev behind : List Spot
  behind = held_spots c p (drop p ws) (taken 0 0 0)

  params_long : length (take p ws) ≡ p
  params_long = omega (arith, length-take p ws, low)

  spot_by : (b : Bool) (k : ℕ) → nat_lt k p ≡ b → place_in (slice_get (pushed_spots front (take p ws) ++ behind) k)
      ≡ (if b then InFrame (front + behind_width (take p ws) k) else spot_at (spots_from c p (drop p ws) (taken 0 0 0)) (k - p))
  spot_by true k e =
      let less : k < p = grind (arith, e) in
      ap place_in (at_front front (take p ws) behind k (omega (arith, params_long, less)))
  spot_by false k e =
      let beyond : p ≤ k = grind (arith, e) in
      let same : k - length (take p ws) ≡ k - p = omega (arith, params_long) in
      ap place_in (at_back front (take p ws) behind k (omega (arith, params_long, beyond)) ∙ ap (slice_get behind) same)
      ∙ held_at c p (drop p ws) (taken 0 0 0) (k - p)

  located_is : layout (all_located c bs ws p) ≡ lying c bs ws p
  located_is =
      λ i. record {
        widths = ws;
        spots = λ k. spot_by (nat_lt k p) k refl i;
        slots = end.slots;
        saved = saved_for (is_pointed p end.slots) end.lasting;
        pointed = is_pointed p end.slots;
        pushed = sum_of (take p ws);
        arrives = bs;
      }

-- what is put together so is the whole
pub located_whole : (c : ℕ → Bool) (bs : List Bool) (ws : List ℕ) (p : ℕ) (vs : List ℕ) (held : Held) (pushed : ℕ) (spots : List Spot) (saved : List ℕ) (pointed : Bool)
    → vs ≡ ws → taken_of held ≡ all_taken c ws p
    → spots ≡ pushed_spots (held.slots + held.lasting + 4) (take p ws) ++ held_spots c p (drop p ws) (taken 0 0 0) → pointed ≡ is_pointed p held.slots
    → saved ≡ saved_for pointed held.lasting → pushed ≡ sum_of (take p ws)
    → located vs spots held.slots saved pointed pushed bs ≡ all_located c bs ws p
located_whole c bs ws p vs held pushed spots saved pointed e t s b v q =
    let slots : held.slots ≡ (all_taken c ws p).slots = ap (λ (x : Taken). x.slots) t in
    let lasting : held.lasting ≡ (all_taken c ws p).lasting = ap (λ (x : Taken). x.lasting) t in
    let spots_are = s ∙ (λ i. pushed_spots (slots i + lasting i + 4) (take p ws) ++ held_spots c p (drop p ws) (taken 0 0 0)) in
    let pointed_is = b ∙ ap (is_pointed p) slots in
    let saved_are : saved ≡ saved_for (is_pointed p (all_taken c ws p).slots) (all_taken c ws p).lasting = v ∙ (λ i. saved_for (pointed_is i) (lasting i)) in
    λ i. located (e i) (spots_are i) (slots i) (saved_are i) (pointed_is i) (q i) bs

pub spots_counted : (c : ℕ → Bool) (front p : ℕ) (ws : List ℕ) (t : Taken) → p ≤ length ws
    → length (pushed_spots front (take p ws) ++ held_spots c p (drop p ws) t) ≡ length ws
spots_counted c front p ws t low =
    omega (
      arith,
      low,
      length-append (pushed_spots front (take p ws)) (held_spots c p (drop p ws) t),
      each_counted front (take p ws),
      held_counted c p (drop p ws) t,
      length-take p ws,
      length-drop p ws,
    )

pub others_are : (ws : List ℕ) (p : ℕ) → take (length ws - p) (drop p ws) ≡ drop p ws
others_are ws p = take_all (length ws - p) (drop p ws) (omega (arith, length-drop p ws))

-- ---- its premises

narrow : (ws : List ℕ) → AllByRecursion IsWidth ws → (k : ℕ) → k < length ws → slice_index ws k ≤ 4
narrow [] all k h = absurd (omega arith)
narrow (w ∷ ws) all zero h = all.0.1
narrow (w ∷ ws) all (suc k) h = narrow ws all.1 k (omega arith)

sum_small : (ws : List ℕ) → AllByRecursion IsWidth ws → sum_of ws ≤ 4 * length ws
sum_small [] all = omega arith
sum_small (w ∷ ws) all = let rest = sum_small ws all.1 in let one = all.0.1 in omega (arith, rest, one)

pub all_small : (p : Procedure) → IsSound p → sum_of p.widths ≤ 1008
all_small p s = let some = sum_small p.widths s.widths in let few = s.few in omega (arith, some, few)

pub can_be_framed : (p : Procedure) → IsSound p → CanBeFramed p.widths p.params
can_be_framed p s =
    record {
      narrow = narrow p.widths s.widths;
      params = s.params;
      small = let all = all_small p s in omega (arith, all);
    }

on_stack_low : (ws : List ℕ) (p : ℕ) → p ≤ length ws → on_stack ws p ≤ length ws
on_stack_low ws p low = by_way (by_registers (take p ws))
  where
    by_way : (b : Bool) → (if b then 0 else p) ≤ length ws
    by_way true = omega arith
    by_way false = low

pub layout_is : (p : Procedure) → IsSound p → layout (code_located p.code p.widths p.params) ≡ framed p
layout_is p s =
    located_is (lasts p.code) (arriving (λ k. is_live p.code k 0) p.widths p.params) p.widths (on_stack p.widths p.params)
    (on_stack_low p.widths p.params s.params)

pub layout_stands : (p : Procedure) → IsSound p → IsLayout (layout (code_located p.code p.widths p.params))
layout_stands p s = subst IsLayout (sym (layout_is p s)) (framed-layout p (can_be_framed p s))

-- ---- the same of lists and counts that are the procedure's

module _ (p : Procedure) (s : IsSound p) (is : List Instr) (ws : List ℕ) (n : ℕ) (d : is ≡ p.code) (e : ws ≡ p.widths) (f : n ≡ p.params) where
  pub all_fit : sum_of ws < 0x1000
  all_fit = subst (λ vs. sum_of vs < 0x1000) (sym e) (let small = all_small p s in omega (arith, small))

  pub widths_few : length ws < 256
  widths_few = subst (λ vs. length vs < 256) (sym e) (let few = s.few in omega (arith, few))

  same_located : code_located is ws n ≡ code_located p.code p.widths p.params
  same_located = λ i. code_located (d i) (e i) (f i)

  pub layout_fits : IsLayout (layout (code_located is ws n))
  layout_fits = subst (λ l. IsLayout (layout l)) (sym same_located) (layout_stands p s)

  pub params_fit : n ≤ length ws
  params_fit = subst (λ vs. n ≤ length vs) (sym e) (subst (λ m. m ≤ length p.widths) (sym f) s.params)

  pub locations_are : (l : Located) → l ≡ code_located is ws n → layout l ≡ framed p
  locations_are l same = ap layout (same ∙ same_located) ∙ layout_is p s

  pub widths_are : (l : Located) → l ≡ code_located is ws n → l.widths ≡ p.widths
  widths_are l same = ap (λ (x : Located). x.widths) same ∙ e

-- ---- what is laid out of them

pub front_small : (ws : List ℕ) (n : ℕ) → sum_of ws < 0x1000 → sum_of (take n ws) < 0x1000
front_small ws n small = let parts = both_parts ws n in omega (arith, small, parts)

pub back_small : (ws : List ℕ) (n : ℕ) → sum_of ws < 0x1000 → sum_of (drop n ws) < 0x1000
back_small ws n small = let parts = both_parts ws n in omega (arith, small, parts)

lives_counted : (live : ℕ → Bool) (k n : ℕ) → length (lives_from live k n) ≡ n
lives_counted live k zero = refl
lives_counted live k (suc n) = ap suc (lives_counted live (suc k) n)

can_arrive : (live : ℕ → Bool) (ws : List ℕ) (p : ℕ) → p ≤ length ws → CanArrive ws (arriving live ws p)
can_arrive live ws p low = by_way (by_registers (take p ws)) refl
  where
    by_way : (b : Bool) → by_registers (take p ws) ≡ b → CanArrive ws (if b then lives_from live 0 p else [])
    by_way false e = (omega arith, omega arith, omega arith)
    by_way true e =
        let many = lives_counted live 0 p in
        let few : length (take p ws) ≤ 4 = grind (arith, e) in
        let small : sum_of (take p ws) ≤ 8 = grind (arith, e) in
        let long = length-take p ws in
        (omega (arith, many, few, long, low), omega (arith, many, low), subst (λ n. sum_of (take n ws) ≤ 8) (sym many) small)

module _ (is : List Instr) (ws : List ℕ) (p n : ℕ) (bs : List Bool) (low : p ≤ length ws) (e : n ≡ on_stack ws p) (f : bs ≡ arriving (λ k. is_live is k 0) ws p)
  where
    pub stack_fits : n ≤ length ws
    stack_fits = subst (λ m. m ≤ length ws) (sym e) (on_stack_low ws p low)

    pub arrivals_fit : CanArrive ws bs
    arrivals_fit = subst (CanArrive ws) (sym f) (can_arrive (λ k. is_live is k 0) ws p low)

    pub same_laid : all_located (lasts is) bs ws n ≡ code_located is ws p
    same_laid = λ i. all_located (lasts is) (f i) ws (e i)

    pub laid_fits : IsLayout (layout (code_located is ws p)) → IsLayout (layout (all_located (lasts is) bs ws n))
    laid_fits = subst (λ l. IsLayout (layout l)) (sym same_laid)

    pub laid_is : (l : Located) → l ≡ all_located (lasts is) bs ws n → l ≡ code_located is ws p
    laid_is l same = same ∙ same_laid

pub frame_counted : (p : Procedure) → frame_size (framed p) ≤ sum_of p.widths + 4
frame_counted p = framed-bytes p

pub frame_few : (p : Procedure) → IsSound p → frame_size (framed p) ≤ 4 * length p.widths + 4
frame_few p s = let all = sum_small p.widths s.widths in let counted = frame_counted p in omega (arith, all, counted)
