-- Arguments that a call carries in registers go to the spots of the parameters.
use Rattle.std.proofs.Common.{◌≡◌, ◌≢◌, ℕ, zero, suc, ◌+◌, ◌<◌, ◌≤◌, ◌⊎◌, inl, inr, Bool, true, false, not, ◌&&◌, ◌||◌, ◌==◌, nat_lt}
use Rattle.std.proofs.Common.{List, [], ◌∷◌, ◌++◌, length, Some, None, refl, sym, ap, ◌∙◌, subst, arith, length-append, slice_get, slice_index}
use Rattle.std.specs.Prelude.{map}
use Rattle.avr_isa.specs.Machine.{State as MachineState}
use Rattle.avr_isa.specs.Standing.{widths, StandsAt, AllStandAt}
use Rattle.avr_isa.proofs.Standing.{front_stands, back_stands, widths-append}
use Rattle.vg_lin.specs.declared.instr.Call.{Call}
use Rattle.vg_lin.specs.Steps.{Result, Frame}
use Rattle.vg_lin.specs.State.{LocalState, State, Waiting, value_in, with_local, sets}
use Rattle.vg_lin.specs.Meaning.{begun, same_widths, values_of}
use Rattle.vg_lin.specs.Values.{low as cut_low}
use Rattle.avr_view.specs.Registers.{Regs}
use Rattle.avr_view.specs.Run.{Run, Goes}
use Rattle.avr_view.specs.View.{View, At}
use Rattle.avr_view.proofs.Going.{goes_then, goes_fewer, goes_wider}
use Rattle.vg_templates.specs.Spots.{number}
use Rattle.vg_templates.specs.Layouts.{Layout, IsLayout, frame_size, width_of}
use Rattle.vg_templates.specs.Linkage.{saves, settles_one, settles_from, prologue}
use Rattle.vg_templates.specs.Frames.{bytes_of, width_at, number_at, Places, word_bytes, back_to, needed}
use Rattle.vg_templates.specs.CallOutcomes.{Begun}
use Rattle.vg_templates.specs.Pieces.{Sees, Takes}
use Rattle.vg_templates.specs.Held.{Held, IsSet, gives, Given}
use Rattle.vg_templates.specs.Outcomes.{Lies}
use Rattle.vg_templates.specs.Calls.{Way, call_code, call_words, leads_to, lives_from, HasArriving, Carried, begins_on}
use Rattle.vg_templates.proofs.Composing.{takes_none, takes_then, takes_wider}
use Rattle.vg_templates.proofs.Computing.{number_kept}
use Rattle.vg_templates.proofs.Saving.{fits_fewer}
use Rattle.vg_templates.proofs.Openings.{saved-length}
use Rattle.vg_templates.proofs.Storing.{held_fewer}
use Rattle.vg_templates.proofs.Holding.{takes_gives}
use Rattle.vg_templates.proofs.Calling.{goes_begin_from}
use Rattle.vg_templates.proofs.Entering.{goes_way}

-- ---- tests

both_true : (a b : Bool) → (a && b) ≡ true → (a ≡ true) × (b ≡ true)
both_true true b e = (refl, e)
both_true false b e = absurd (let clash : false ≡ true = e in cc)

both_hold : (a b : Bool) → a ≡ true → b ≡ true → (a && b) ≡ true
both_hold true b e f = f
both_hold false b e f = e

either : (a b : Bool) → (a || b) ≡ true → (a ≡ true) ⊎ (b ≡ true)
either true b e = inl refl
either false b e = inr e

one_holds : (a b : Bool) → a ≡ true → (a || b) ≡ true
one_holds true b e = refl
one_holds false b e = absurd (let clash : false ≡ true = e in cc)

other_holds : (a b : Bool) → b ≡ true → (a || b) ≡ true
other_holds true b e = refl
other_holds false b e = e

below : (k n : ℕ) → nat_lt k n ≡ true → k < n
below k n h = grind (arith, h)

is_below : (k n : ℕ) → k < n → nat_lt k n ≡ true
is_below k n h = grind (arith, h)

not_below : (k n : ℕ) → nat_lt k n ≡ false → n ≤ k
not_below k n h = grind (arith, h)

-- ---- the locals of a procedure that begins

-- a parameter that gets the value that it has
set_begun : (ws : List ℕ) (ps : List Waiting) (k : ℕ) → k < length ps → with_local (begun ws (values_of ps)) k (number_at ps k) ≡ begun ws (values_of ps)
set_begun [] ps k low = refl
set_begun (w ∷ ws) [] k low = absurd (omega arith)
set_begun (w ∷ ws) (p ∷ ps) zero low = refl
set_begun (w ∷ ws) (p ∷ ps) (suc k) low =
    let one : LocalState = record { width = w; value = Some (cut_low w p.value) } in ap (λ ls. one ∷ ls) (set_begun ws ps k (omega arith))

begun-none : (ws : List ℕ) (ps : List Waiting) (k x : ℕ) → length ps ≤ k → value_in (slice_get (begun ws (values_of ps)) k) ≡ Some x → ⊥
begun-none [] ps k x h e = let clash : None ≡ Some x = e in cc
begun-none (w ∷ ws) [] zero x h e = let clash : None ≡ Some x = e in cc
begun-none (w ∷ ws) [] (suc k) x h e = begun-none ws [] k x (omega arith) e
begun-none (w ∷ ws) (p ∷ ps) zero x h e = absurd (omega arith)
begun-none (w ∷ ws) (p ∷ ps) (suc k) x h e = begun-none ws ps k x (omega arith) e

begun-widths : (ws xs : List ℕ) → map (λ (s : LocalState). s.width) (begun ws xs) ≡ ws
begun-widths [] xs = refl
begun-widths (w ∷ ws) [] = ap (λ l. w ∷ l) (begun-widths ws [])
begun-widths (w ∷ ws) (x ∷ xs) = ap (λ l. w ∷ l) (begun-widths ws xs)

params_few : (ws : List ℕ) (ps : List Waiting) → same_widths ws ps ≡ true → length ps ≤ length ws
params_few ws [] h = omega arith
params_few [] (p ∷ ps) h = absurd (let clash : false ≡ true = h in cc)
params_few (w ∷ ws) (p ∷ ps) h = let rest = params_few ws ps (both_true (w == p.width) (same_widths ws ps) h).1 in omega (arith, rest)

-- the last of them from one on, with their widths
record Last (ws : List ℕ) (all : List Waiting) (k : ℕ) (rest : List Waiting) : Type 0 where
  pub count : k + length rest ≡ length all
  pub each : (j : ℕ) → j < length rest → (slice_index ws (k + j) ≡ width_at rest j) × (number_at all (k + j) ≡ number_at rest j)

all_last : (ws : List ℕ) (ps : List Waiting) → same_widths ws ps ≡ true → (j : ℕ) → j < length ps → slice_index ws j ≡ width_at ps j
all_last ws [] h j low = absurd (omega arith)
all_last [] (p ∷ ps) h j low = absurd (let clash : false ≡ true = h in cc)
all_last (w ∷ ws) (p ∷ ps) h zero low = let same = (both_true (w == p.width) (same_widths ws ps) h).0 in grind (arith, same)
all_last (w ∷ ws) (p ∷ ps) h (suc j) low = all_last ws ps (both_true (w == p.width) (same_widths ws ps) h).1 j (omega arith)

from_first : (ws : List ℕ) (ps : List Waiting) → same_widths ws ps ≡ true → Last ws ps 0 ps
from_first ws ps same = record { count = omega arith; each = each }
  where
    each : (j : ℕ) → j < length ps → (slice_index ws (0 + j) ≡ width_at ps j) × (number_at ps (0 + j) ≡ number_at ps j)
    each j low = let here : 0 + j ≡ j = omega arith in (ap (slice_index ws) here ∙ all_last ws ps same j low, ap (number_at ps) here)

last_head : (ws : List ℕ) (all : List Waiting) (k : ℕ) (p : Waiting) (rest : List Waiting) → Last ws all k (p ∷ rest)
    → (slice_index ws k ≡ p.width) × (number_at all k ≡ p.value)
last_head ws all k p rest h =
    let here : k + 0 ≡ k = omega arith in
    let both = h.each 0 (omega arith) in
    (ap (slice_index ws) (sym here) ∙ both.0, ap (number_at all) (sym here) ∙ both.1)

last_tail : (ws : List ℕ) (all : List Waiting) (k : ℕ) (p : Waiting) (rest : List Waiting) → Last ws all k (p ∷ rest) → Last ws all (suc k) rest
last_tail ws all k p rest h = let count = h.count in record { count = omega (arith, count); each = each }
  where
    each : (j : ℕ) → j < length rest → (slice_index ws (suc k + j) ≡ width_at rest j) × (number_at all (suc k + j) ≡ number_at rest j)
    each j low =
        let there : suc k + j ≡ k + suc j = omega arith in
        let both = h.each (suc j) (omega (arith, low)) in
        (ap (slice_index ws) there ∙ both.0, ap (number_at all) there ∙ both.1)

-- ---- what registers carry

pub carried_kept : (old new : Regs) (r : ℕ) (ps : List Waiting) → ((x : ℕ) → r ≤ x → x < r + bytes_of ps → new.of x ≡ old.of x) → Carried old r ps
    → Carried new r ps
carried_kept old new r [] h c = tt
carried_kept old new r (p ∷ ps) h (one, c) = (
  number_kept old new r p.width (λ x lo hi. h x lo (omega (arith, hi))) ∙ one,
  carried_kept old new (r + p.width) ps (λ x lo hi. h x (omega (arith, lo)) (omega (arith, hi))) c,
)

module _ (i : Places) (ok : (m : ℕ) → IsLayout (i.layouts m)) (e : Run) (deep : Type 0) where
  module _ (q : ℕ) (live : ℕ → Bool) (ps : List Waiting) (ram : List ℕ) (frames : List (Frame State)) (same : same_widths (i.layouts q).widths ps ≡ true)
      (numbered : (k : ℕ) → live k ≡ true → k < length (i.layouts q).widths) where
    abbrev l : Layout
    l = i.layouts q

    abbrev now : State
    now = record { locals = begun l.widths (values_of ps); waiting = []; ram = ram }

    -- the locals that lie at their spots once the parameters before one do: these, and those that are no parameters
    abbrev among : (k j : ℕ) → Bool
    among k j = live j && (nat_lt j k || not (nat_lt j (length ps)))

    among_live : (k j : ℕ) → among k j ≡ true → live j ≡ true
    among_live k j h = (both_true (live j) _ h).0

    -- one parameter more
    among_more : (k j : ℕ) → among (suc k) j ≡ true → j ≢ k → among k j ≡ true
    among_more k j h ne =
        let b = both_true (live j) _ h in
        both_hold (live j) _ b.0
        (elim (either (nat_lt j (suc k)) _ b.1) [
          | inl less ↦ one_holds (nat_lt j k) _ (is_below j k (let up = below j (suc k) less in omega (arith, up, ne)))
          | inr past ↦ other_holds (nat_lt j k) _ past
        ])

    -- all of them
    among_all : (k : ℕ) → k ≡ length ps → (j : ℕ) → live j ≡ true → among k j ≡ true
    among_all k e j alive = both_hold (live j) _ alive (by_test (nat_lt j (length ps)) refl)
      where
        by_test : (b : Bool) → nat_lt j (length ps) ≡ b → (nat_lt j k || not b) ≡ true
        by_test true f = one_holds (nat_lt j k) _ (subst (λ n. nat_lt j n ≡ true) (sym e) f)
        by_test false f = other_holds (nat_lt j k) _ refl

    set_one : (k : ℕ) → k < length ps → IsSet l (among k) (among (suc k)) k
    set_one k low =
        record {
          there = let few = params_few l.widths ps same in omega (arith, few, low);
          others = λ j alive ne. (
            among_more k j alive ne,
            (ok q).apart k j (let few = params_few l.widths ps same in omega (arith, few, low)) (numbered j (among_live (suc k) j alive)) (λ e. ne (sym e)),
          );
        }

    takes_settles : (k r : ℕ) (rest : List Waiting) (v : View) → Last l.widths ps k rest → 18 ≤ r → r + bytes_of rest ≤ 28 → Carried v.regs r rest
        → Held i q (among k) now frames v
        → Takes e deep v (settles_from l k r (lives_from live k (length rest))) (Lies i q live now frames v.out)
    takes_settles k r [] v last low top c h =
        takes_none e deep v (Lies i q live now frames v.out)
        (record {
          held = held_fewer i q (among k) live now frames v (λ j alive. among_all k (let count = last.count in omega (arith, count)) j alive) h;
          out = refl;
        })
    takes_settles k r (p ∷ rest) v last low top c h =
        by_live (live k) refl
        (λ u d g. let wide = (last_head l.widths ps k p rest last).0 in
        takes_settles (suc k) (r + width_of l k) rest u (last_tail l.widths ps k p rest last) (omega (arith, low)) (omega (arith, wide, top)) d g)
      where
        wide : width_of l k ≡ p.width
        wide = (last_head l.widths ps k p rest last).0

        few : k < length ps
        few = let count = last.count in omega (arith, count)

        by_live : (b : Bool) → live k ≡ b
            → ((u : View) → Carried u.regs (r + width_of l k) rest → Held i q (among (suc k)) now frames u
            → Takes e deep u (settles_from l (suc k) (r + width_of l k) (lives_from live (suc k) (length rest))) (Lies i q live now frames u.out))
            → Takes e deep v (settles_one b l k r ++ settles_from l (suc k) (r + width_of l k) (lives_from live (suc k) (length rest)))
            (Lies i q live now frames v.out)
        by_live false dead again =
            again v (subst (λ w. Carried v.regs (r + w) rest) (sym wide) c.1)
            (held_fewer i q (among k) (among (suc k)) now frames v
            (λ j alive. among_more k j alive (λ is. let clash : false ≡ true = sym dead ∙ ap live (sym is) ∙ among_live (suc k) j alive in absurd (false_true clash))) h)
          where
            false_true : false ≡ true → ⊥
            false_true f = cc
        by_live true alive again =
            let w = width_of l k in
            let value = (last_head l.widths ps k p rest last).1 in
            let read : number v.regs r w ≡ number_at ps k = ap (number v.regs r) wide ∙ c.0 ∙ sym value in
            let after : sets k (number v.regs r w) now ≡ now =
            ap (λ y. sets k y now) read ∙ ap (λ ls. record now { locals = ls }) (set_begun l.widths ps k few) in
            takes_then e deep v (gives l k r w) (settles_from l (suc k) (r + w) (lives_from live (suc k) (length rest)))
            (Given i q (among (suc k)) (sets k (number v.regs r w) now) frames v) (Lies i q live now frames v.out)
            (takes_gives i ok q frames e deep (among k) (among (suc k)) now k r w v (set_one k few) low (omega (arith, wide, top)) h)
            (λ u g. takes_wider e deep u (settles_from l (suc k) (r + w) (lives_from live (suc k) (length rest))) (Lies i q live now frames u.out)
            (Lies i q live now frames v.out) (λ t z. record { held = z.held; out = z.out ∙ g.out })
            (again u
            (subst (λ n. Carried u.regs (r + n) rest) (sym wide)
            (carried_kept v.regs u.regs (r + p.width) rest (λ y lo hi. g.scratch y (omega (arith, lo, low)) (omega (arith, hi, top))) c.1))
            (subst (λ s. Held i q (among (suc k)) s frames u) after g.held)))

  -- behind the first part of the prologue
  begins_held : (q : ℕ) (f : Frame State) (frames : List (Frame State)) (pc : ℕ) (v : View) (u : MachineState) (live : ℕ → Bool) (ps : List Waiting)
      (ram : List ℕ) → v.regs.of 1 ≡ 0 → v.static ≡ ram → (i.layouts q).pushed ≡ 0 → ((k : ℕ) → live k ≡ true → length ps ≤ k)
      → Begun e i q f frames [] pc v u
      → Sees e (λ t. Held i q live (record { locals = begun (i.layouts q).widths (values_of ps); waiting = []; ram = ram }) (f ∷ frames) t
      × (t ≡ record v { regs = t.regs; stack = t.stack }) × ((x : ℕ) → x < 28 → t.regs.of x ≡ v.regs.of x)) pc u
  begins_held q f frames pc v u live ps ram one columns none beyond b =
      let l = i.layouts q in
      let saved = map v.regs.of l.saved in
      let back = word_bytes (back_to i f.awaits q f.proc f.pc) in
      let frame = b.slots ++ (saved ++ (back ++ [])) in
      let sum = length-append b.slots (saved ++ (back ++ [])) in
      let sum' = length-append saved (back ++ []) in
      let many = saved-length v.regs l.saved in
      let enough = b.enough in
      let long : length frame ≡ frame_size l = omega (arith, sum, sum', many, enough, none) in
      record {
        view = record v { regs = b.regs; stack = frame ++ b.under };
        kind = (
          record {
            stacked =
                record {
                  wait = [];
                  own = frame;
                  under = b.under;
                  cut = refl;
                  points = b.points;
                  waits = refl;
                  fits =
                      record {
                        each = λ k x low alive got. absurd (begun-none l.widths ps k x (beyond k alive) got);
                        widths = begun-widths l.widths (values_of ps);
                        long = long;
                      };
                  callers = b.callers;
                };
            r1 = b.others 1 (inl (omega arith)) ∙ one;
            ram = columns;
          },
          refl,
          λ x low. b.others x (inl low),
        );
        at = b.at;
      }

  pub goes_enters_on : (way : Way) (q m pc place entry : ℕ) (call : Call) (live live' : ℕ → Bool) (s : State) (ps : List Waiting)
      (frames : List (Frame State)) (v : View) (t : MachineState) → StandsAt e.flash place (call_code way) → place + call_words way < 65536
      → i.behind m pc ≡ place + call_words way → leads_to way place v.regs ≡ entry → AllStandAt e.flash entry (prologue (i.layouts q))
      → entry + widths (prologue (i.layouts q)) < 65536 → same_widths (i.layouts q).widths ps ≡ true → HasArriving (i.layouts q) live' (length ps)
      → bytes_of ps ≤ 8 → Carried v.regs 18 ps → ((k : ℕ) → needed i m (Result call) pc k ≡ true → live k ≡ true) → Held i m live s frames v
      → (0x1100 < e.floor + length v.stack + 2 + length (i.layouts q).saved + (i.layouts q).slots → deep) → At e place v t
      → Goes e deep 1 t
      (Sees e (Lies i q live' (begins_on (i.layouts q) ps s) (record { proc = m; pc = pc; kept = s; awaits = Result call } ∷ frames) v.out)
      (entry + widths (prologue (i.layouts q))))
  goes_enters_on way q m pc place entry call live live' s ps frames v t stand room behind leads code low same lie few c fewer k full a =
      let l = i.layouts q in
      let f : Frame State = record { proc = m; pc = pc; kept = s; awaits = Result call } in
      let h = k.stacked in
      let is = settles_from l 0 18 l.arrives in
      let wide = widths-append (saves l) is in
      let there = entry + widths (saves l) in
      let end = entry + widths (prologue l) in
      let goal = Sees e (Lies i q live' (begins_on l ps s) (f ∷ frames) v.out) end in
      let first : Goes e deep 1 t (At e entry (record v { stack = word_bytes (i.behind m pc) ++ v.stack })) =
      subst (λ w. Goes e deep 1 t (At e entry (record v { stack = word_bytes w ++ v.stack }))) (sym behind)
      (subst (λ w. Goes e deep 1 t (At e w (record v { stack = word_bytes (place + call_words way) ++ v.stack }))) leads
      (goes_way i ok e deep way place v t stand room (λ x. full (omega arith)) a)) in
      let among' = among q live' ps s.ram (f ∷ frames) same lie.numbered 0 in
      goes_fewer e deep (1 + length is) 1 t goal (omega arith)
      (goes_then e deep 1 (length is) t (Begun e i q f frames [] there v) goal
      (goes_begin_from e deep i ok q entry f frames [] h.wait h.own h.under v t first (front_stands e.flash entry (saves l) is code) (omega (arith, low, wide))
      h.cut h.points h.waits (fits_fewer (i.layouts m) live (needed i m (Result call) pc) s.locals h.own v.regs fewer h.fits) h.callers full)
      (λ u b.
      let z = begins_held q f frames there v u among' ps s.ram k.r1 k.ram lie.bytes beyond b in
      let last = from_first l.widths ps same in
      let to : there + widths is ≡ end = omega (arith, wide) in
      let settled : Takes e deep z.view is (Lies i q live' (begins_on l ps s) (f ∷ frames) z.view.out) =
      subst (λ bs. Takes e deep z.view (settles_from l 0 18 bs) (Lies i q live' (begins_on l ps s) (f ∷ frames) z.view.out)) (sym lie.kept)
      (takes_settles q live' ps s.ram (f ∷ frames) same lie.numbered 0 18 ps z.view last (omega arith) (omega (arith, few))
      (carried_kept v.regs z.view.regs 18 ps (λ x lo hi. z.kind.2 x (omega (arith, hi, few))) c) z.kind.0) in
      let out : z.view.out ≡ v.out = ap (λ (y : View). y.out) z.kind.1 in
      goes_wider e deep (length is) u (Sees e (Lies i q live' (begins_on l ps s) (f ∷ frames) z.view.out) (there + widths is)) goal
      (λ w y. record {
        view = y.view;
        kind = record { held = y.kind.held; out = y.kind.out ∙ out };
        at = subst (λ n. At e n y.view w) to y.at;
      })
      (settled there u (back_stands e.flash entry (saves l) is code) (omega (arith, to, low)) z.at)))
    where
      beyond : (k : ℕ) → among q live' ps s.ram (record { proc = m; pc = pc; kept = s; awaits = Result call } ∷ frames) same lie.numbered 0 k ≡ true
          → length ps ≤ k
      beyond k h = by_test (nat_lt k (length ps)) refl (both_true (live' k) _ h).1
        where
          by_test : (b : Bool) → nat_lt k (length ps) ≡ b → (nat_lt k 0 || not b) ≡ true → length ps ≤ k
          by_test true f g = elim (either (nat_lt k 0) (not true) g) [
            | inl less ↦ let none = below k 0 less in omega (arith, none)
            | inr past ↦ absurd (let clash : false ≡ true = past in cc)
          ]
          by_test false f g = not_below k (length ps) f
