-- A call leads into the frame of the procedure that is called.
use Rattle.std.proofs.Common.{◌≡◌, ℕ, zero, suc, ◌+◌, ◌-◌, ◌%◌, ◌^◌, ◌<◌, ◌≤◌, ◌⊎◌, inl, inr, Bool, true, false, ◌&&◌, ◌==◌, nat_lt}
use Rattle.std.proofs.Common.{List, [], ◌∷◌, ◌++◌, length, Some, None, refl, sym, ap, ◌∙◌, subst, arith, append_assoc, length-append, slice_get, slice_index}
use Rattle.std.specs.Prelude.{map, take, drop}
use Rattle.std.proofs.Math.Nat.{mod-eq_of_lt}
use Rattle.std.proofs.lemmas.List.{get_or_append_left, get_or-append_right, append-nil}
use Rattle.avr_isa.specs.Machine.{State as MachineState}
use Rattle.avr_isa.specs.Standing.{widths, StandsAt, AllStandAt}
use Rattle.vg_lin.specs.declared.instr.Call.{Call}
use Rattle.vg_lin.specs.Steps.{Result, Frame}
use Rattle.vg_lin.specs.State.{State, Waiting, value_in}
use Rattle.vg_lin.specs.Meaning.{begun, same_widths, values_of}
use Rattle.avr_view.specs.Registers.{Regs}
use Rattle.avr_view.specs.Run.{Run, Goes}
use Rattle.avr_view.specs.View.{View, At}
use Rattle.avr_view.proofs.Going.{below_or_not, goes_wider}
use Rattle.avr_view.proofs.CallSteps.{goes_call, goes_rcall, goes_icall}
use Rattle.vg_templates.specs.Spots.{InFrame, value_at}
use Rattle.vg_templates.specs.Layouts.{Layout, IsLayout, frame_size, link_size, width_of}
use Rattle.vg_templates.specs.Linkage.{saves, settles_from, prologue}
use Rattle.vg_templates.specs.Frames.{Fits, Waits, Pushed, bytes_of, bytes_behind, width_at, number_at, Places, word_bytes, needed}
use Rattle.vg_templates.specs.CallOutcomes.{Begun}
use Rattle.vg_templates.proofs.Arguments.{waits-pushed, arguments_fit}
use Rattle.vg_templates.proofs.Saving.{fits_fewer}
use Rattle.vg_templates.proofs.Openings.{saved-length}
use Rattle.vg_templates.proofs.Calling.{goes_begin_from}
use Rattle.vg_templates.specs.Pieces.{Sees}
use Rattle.vg_templates.specs.Held.{Held}
use Rattle.vg_templates.specs.Outcomes.{Lies}
use Rattle.vg_templates.proofs.Bytes.{stack_below, read_small}
use Rattle.vg_templates.specs.Calls.{Way, Far, Near, ByZ, call_code, call_words, leads_to, sum_of, behind_width, by_registers, lives_from, HasPushed, HasBy, HasParameters, taken_by, kept_by, begins_with}

-- ---- what waits, cut in two

record Cut (n : ℕ) (ws : List Waiting) (bytes : List ℕ) : Type 0 where
  pub front : List ℕ
  pub back : List ℕ
  pub whole : bytes ≡ front ++ back
  pub first : Waits (take n ws) front
  pub rest : Waits (drop n ws) back

waits_cut : (n : ℕ) (ws : List Waiting) (bytes : List ℕ) → Waits ws bytes → Cut n ws bytes
waits_cut zero ws bytes h = record { front = []; back = bytes; whole = refl; first = refl; rest = h }
waits_cut (suc n) [] bytes h = record { front = []; back = bytes; whole = refl; first = refl; rest = h }
waits_cut (suc n) (w ∷ ws) bytes (one, more, cut, long, value, rest) =
    let c = waits_cut n ws more rest in
    record {
      front = one ++ c.front;
      back = c.back;
      whole = cut ∙ ap (λ k. one ++ k) c.whole ∙ sym (append_assoc one c.front c.back);
      first = (one, c.front, refl, long, value, c.first);
      rest = c.rest;
    }

-- ---- widths of parameters

both_true : (a b : Bool) → (a && b) ≡ true → (a ≡ true) × (b ≡ true)
both_true true b h = (refl, h)
both_true false b h = absurd (let clash : false ≡ true = h in cc)

widths_of-pushed : (ws : List ℕ) (ps : List Waiting) → same_widths ws ps ≡ true → sum_of (take (length ps) ws) ≡ bytes_of ps
widths_of-pushed ws [] h = refl
widths_of-pushed [] (p ∷ ps) h = absurd (let clash : false ≡ true = h in cc)
widths_of-pushed (w ∷ ws) (p ∷ ps) h =
    let k = both_true (w == p.width) (same_widths ws ps) h in
    let same : w ≡ p.width = let test = k.0 in grind (arith, test) in
    let rest = widths_of-pushed ws ps k.1 in
    omega (arith, same, rest)

behind-pushed : (ws : List ℕ) (ps : List Waiting) (k : ℕ) → same_widths ws ps ≡ true → k < length ps
    → behind_width (take (length ps) ws) k ≡ bytes_behind ps k
behind-pushed ws [] k h low = absurd (omega arith)
behind-pushed [] (p ∷ ps) k h low = absurd (let clash : false ≡ true = h in cc)
behind-pushed (w ∷ ws) (p ∷ ps) zero h low = widths_of-pushed ws ps (both_true (w == p.width) (same_widths ws ps) h).1
behind-pushed (w ∷ ws) (p ∷ ps) (suc k) h low = behind-pushed ws ps k (both_true (w == p.width) (same_widths ws ps) h).1 (omega arith)

-- locals that are no parameters have no value
begun-none : (ws : List ℕ) (ps : List Waiting) (k x : ℕ) → length ps ≤ k → value_in (slice_get (begun ws (values_of ps ++ [])) k) ≡ Some x → ⊥
begun-none [] ps k x h e = let clash : None ≡ Some x = e in cc
begun-none (w ∷ ws) [] zero x h e = let clash : None ≡ Some x = e in cc
begun-none (w ∷ ws) [] (suc k) x h e = begun-none ws [] k x (omega arith) e
begun-none (w ∷ ws) (p ∷ ps) zero x h e = absurd (omega arith)
begun-none (w ∷ ws) (p ∷ ps) (suc k) x h e = begun-none ws ps k x (omega arith) e

-- each value that waits was cut to its width
abbrev AreCut : List Waiting → Type 0
AreCut ps = (k : ℕ) → k < length ps → number_at ps k % 256 ^ width_at ps k ≡ number_at ps k

pushed_bytes : (ps : List Waiting) (bytes : List ℕ) → Pushed ps bytes → length bytes ≡ bytes_of ps
pushed_bytes [] bytes h = ap length h
pushed_bytes (p ∷ ps) bytes (front, back, cut, size, own, value, more) =
    let whole = ap length cut ∙ length-append front back in omega (arith, whole, size, own)

abbrev AreSmall : List ℕ → Type 0
AreSmall bytes = (j : ℕ) → j < length bytes → slice_index bytes j < 256

front_small : (xs ys : List ℕ) → AreSmall (xs ++ ys) → AreSmall xs
front_small xs ys h j low =
    let whole = length-append xs ys in
    let byte = h j (omega (arith, low, whole)) in
    let same : slice_index (xs ++ ys) j ≡ slice_index xs j = get_or_append_left xs ys 0 j low in
    omega (arith, byte, same)

back_small : (xs ys : List ℕ) → AreSmall (xs ++ ys) → AreSmall ys
back_small xs ys h j low =
    let whole = length-append xs ys in
    let byte = h (length xs + j) (omega (arith, low, whole)) in
    let there : length xs + j - length xs ≡ j = omega arith in
    let same : slice_index (xs ++ ys) (length xs + j) ≡ slice_index ys j =
    get_or-append_right xs ys (length xs) (length xs + j) 0 refl (omega arith) ∙ ap (slice_index ys) there in
    omega (arith, byte, same)

-- what was read from bytes is cut to its width
pushed_cut : (ps : List Waiting) (bytes : List ℕ) → Pushed ps bytes → AreSmall bytes → AreCut ps
pushed_cut [] bytes h b k low = absurd (omega arith)
pushed_cut (p ∷ ps) bytes (front, back, cut, size, own, value, more) b zero low =
    let bytes' = back_small front back (subst AreSmall cut b) in
    mod-eq_of_lt (subst (λ x. x < 256 ^ p.width) value (read_small back 0 p.width bytes' (omega (arith, own))))
pushed_cut (p ∷ ps) bytes (front, back, cut, size, own, value, more) b (suc k) low =
    pushed_cut ps front more (front_small front back (subst AreSmall cut b)) k (omega arith)

-- ---- the locals of a procedure that begins

fits_begun : (l : Layout) (live : ℕ → Bool) (ps : List Waiting) (front args : List ℕ) (g : Regs) → same_widths l.widths ps ≡ true
    → HasPushed l (length ps) → length front ≡ l.slots + link_size l → AreCut ps → Pushed ps args
    → Fits l live (begun l.widths (values_of ps ++ [])) (front ++ args) g
fits_begun l live ps front args g same lie long cut pushed =
    let inner = arguments_fit l (λ k. nat_lt k (length ps)) ps [] front args g same spots cut (λ k h. grind (arith, h)) pushed whole in
    record { each = λ k x low alive got. at inner k x low got (below_or_not k (length ps)); widths = inner.widths; long = inner.long }
  where
    spots : (k : ℕ) → k < length ps → l.spots k ≡ InFrame (length front + bytes_behind ps k)
    spots k low =
        lie.spots k low ∙ ap (λ n. InFrame (n + behind_width (take (length ps) l.widths) k)) (sym long)
        ∙ ap (λ n. InFrame (length front + n)) (behind-pushed l.widths ps k same low)

    whole : length (front ++ args) ≡ frame_size l
    whole =
        let sum = length-append front args in
        let all = pushed_bytes ps args pushed in
        let bytes = lie.bytes in
        let parameters = widths_of-pushed l.widths ps same in
        omega (arith, sum, all, bytes, parameters, long)

    at : Fits l (λ k. nat_lt k (length ps)) (begun l.widths (values_of ps ++ [])) (front ++ args) g → (k x : ℕ) → k < length l.widths
        → value_in (slice_get (begun l.widths (values_of ps ++ [])) k) ≡ Some x → (k < length ps) ⊎ (length ps ≤ k)
        → value_at (l.spots k) (width_of l k) (front ++ args) g ≡ x
    at inner k x low got (inl here) = inner.each k x low (grind (arith, here)) got
    at inner k x low got (inr beyond) = absurd (begun-none l.widths ps k x beyond got)

-- nothing goes to its spot where nothing arrives in registers
pub unsettled : (l : Layout) → l.arrives ≡ [] → prologue l ≡ saves l
unsettled l none = ap (λ bs. saves l ++ settles_from l 0 18 bs) none ∙ append-nil (saves l)

-- a procedure without parameters has none on the stack, and none that arrives
pub no_parameters : (l : Layout) (live : ℕ → Bool) (n : ℕ) → HasParameters l live n → n ≡ 0 → (l.pushed ≡ 0) × (l.arrives ≡ [])
no_parameters l live n has none = by_case (by_registers (take n l.widths)) has
  where
    by_case : (b : Bool) → HasBy b l live n → (l.pushed ≡ 0) × (l.arrives ≡ [])
    by_case false h = (h.bytes ∙ ap (λ k. sum_of (take k l.widths)) none, h.arrive)
    by_case true h = (h.bytes, h.kept ∙ ap (lives_from live 0) none)

module _ (i : Places) (ok : (m : ℕ) → IsLayout (i.layouts m)) (e : Run) (deep : Type 0) where
  -- one call by each way
  pub goes_way : (way : Way) (place : ℕ) (v : View) (t : MachineState) → StandsAt e.flash place (call_code way) → place + call_words way < 65536
      → (0x1100 < e.floor + length v.stack + 2 → deep) → At e place v t
      → Goes e deep 1 t (At e (leads_to way place v.regs) (record v { stack = word_bytes (place + call_words way) ++ v.stack }))
  goes_way (Far entry) place v t stand room full a = goes_call e deep place v t a entry stand room full
  goes_way (Near k) place v t stand room full a = goes_rcall e deep place v t a k stand room full
  goes_way ByZ place v t stand room full a = goes_icall e deep place v t a stand room full

  goes_enters_saved : (way : Way) (q m pc place n entry : ℕ) (call : Call) (live live' : ℕ → Bool) (s : State) (frames : List (Frame State)) (v : View)
      (t : MachineState) → StandsAt e.flash place (call_code way) → place + call_words way < 65536 → i.behind m pc ≡ place + call_words way
      → leads_to way place v.regs ≡ entry → AllStandAt e.flash entry (saves (i.layouts q)) → entry + widths (saves (i.layouts q)) < 65536
      → same_widths (i.layouts q).widths (taken_by n s) ≡ true → HasPushed (i.layouts q) (length (taken_by n s))
      → ((k : ℕ) → needed i m (Result call) pc k ≡ true → live k ≡ true) → Held i m live s frames v
      → (0x1100 < e.floor + length v.stack + 2 + length (i.layouts q).saved + (i.layouts q).slots → deep) → At e place v t
      → Goes e deep 1 t
      (Sees e (Lies i q live' (begins_with (i.layouts q) n s) (record { proc = m; pc = pc; kept = kept_by n s; awaits = Result call } ∷ frames) v.out)
      (entry + widths (saves (i.layouts q))))
  goes_enters_saved way q m pc place n entry call live live' s frames v t stand room behind leads code low same lie fewer k full a =
      let f : Frame State = record { proc = m; pc = pc; kept = kept_by n s; awaits = Result call } in
      let l = i.layouts q in
      let to = entry + widths (saves l) in
      let h = k.stacked in
      let c = waits_cut n s.waiting h.wait h.waits in
      let goal = Sees e (Lies i q live' (begins_with l n s) (f ∷ frames) v.out) to in
      let cut : v.stack ≡ c.front ++ (c.back ++ (h.own ++ h.under)) =
      h.cut ∙ ap (λ w. w ++ (h.own ++ h.under)) c.whole ∙ append_assoc c.front c.back (h.own ++ h.under) in
      let small : AreSmall c.front = front_small c.front (c.back ++ (h.own ++ h.under)) (subst AreSmall cut (stack_below e place v t a)) in
      let first : Goes e deep 1 t (At e entry (record v { stack = word_bytes (i.behind m pc) ++ v.stack })) =
      subst (λ w. Goes e deep 1 t (At e entry (record v { stack = word_bytes w ++ v.stack }))) (sym behind)
      (subst (λ w. Goes e deep 1 t (At e w (record v { stack = word_bytes (place + call_words way) ++ v.stack }))) leads
      (goes_way way place v t stand room (λ x. full (omega arith)) a)) in
      goes_wider e deep 1 t (Begun e i q f frames c.front to v) goal (λ u b. entered u c.front c.first small b)
      (goes_begin_from e deep i ok q entry f frames c.front c.back h.own h.under v t first code low cut h.points c.rest
      (fits_fewer (i.layouts m) live (needed i m (Result call) pc) s.locals h.own v.regs fewer h.fits) h.callers full)
    where
      f : Frame State
      f = record { proc = m; pc = pc; kept = kept_by n s; awaits = Result call }

      entered : (u : MachineState) (args : List ℕ) → Waits (take n s.waiting) args → AreSmall args
          → Begun e i q (record { proc = m; pc = pc; kept = kept_by n s; awaits = Result call }) frames args (entry + widths (saves (i.layouts q))) v u
          → Sees e (Lies i q live' (begins_with (i.layouts q) n s) (record { proc = m; pc = pc; kept = kept_by n s; awaits = Result call } ∷ frames) v.out)
          (entry + widths (saves (i.layouts q))) u
      entered u args waits small b =
          let l = i.layouts q in
          let saved = map v.regs.of l.saved in
          let front = b.slots ++ (saved ++ word_bytes (i.behind m pc)) in
          let frame = b.slots ++ (saved ++ (word_bytes (i.behind m pc) ++ args)) in
          let joined : front ++ args ≡ frame =
          append_assoc b.slots (saved ++ word_bytes (i.behind m pc)) args ∙ ap (λ x. b.slots ++ x) (append_assoc saved (word_bytes (i.behind m pc)) args) in
          let sum = length-append b.slots (saved ++ word_bytes (i.behind m pc)) in
          let sum' = length-append saved (word_bytes (i.behind m pc)) in
          let many = saved-length v.regs l.saved in
          let enough = b.enough in
          let long : length front ≡ l.slots + link_size l = omega (arith, sum, sum', many, enough) in
          let pushed = waits-pushed (take n s.waiting) args waits in
          let fits = fits_begun l live' (taken_by n s) front args b.regs same lie long (pushed_cut (taken_by n s) args pushed small) pushed in
          record {
            view = record v { regs = b.regs; stack = frame ++ b.under };
            kind =
                record {
                  held =
                      record {
                        stacked =
                            record {
                              wait = [];
                              own = frame;
                              under = b.under;
                              cut = refl;
                              points = b.points;
                              waits = refl;
                              fits = subst (λ x. Fits l live' (begins_with l n s).locals x b.regs) joined fits;
                              callers = b.callers;
                            };
                        r1 = b.others 1 (inl (omega arith)) ∙ k.r1;
                        ram = k.ram;
                      };
                  out = refl;
                };
            at = b.at;
          }

  pub goes_enters : (way : Way) (q m pc place n entry : ℕ) (call : Call) (live live' : ℕ → Bool) (s : State) (frames : List (Frame State)) (v : View)
      (t : MachineState) → StandsAt e.flash place (call_code way) → place + call_words way < 65536 → i.behind m pc ≡ place + call_words way
      → leads_to way place v.regs ≡ entry → AllStandAt e.flash entry (prologue (i.layouts q)) → entry + widths (prologue (i.layouts q)) < 65536
      → same_widths (i.layouts q).widths (taken_by n s) ≡ true → HasPushed (i.layouts q) (length (taken_by n s))
      → ((k : ℕ) → needed i m (Result call) pc k ≡ true → live k ≡ true) → Held i m live s frames v
      → (0x1100 < e.floor + length v.stack + 2 + length (i.layouts q).saved + (i.layouts q).slots → deep) → At e place v t
      → Goes e deep 1 t
      (Sees e (Lies i q live' (begins_with (i.layouts q) n s) (record { proc = m; pc = pc; kept = kept_by n s; awaits = Result call } ∷ frames) v.out)
      (entry + widths (prologue (i.layouts q))))
  goes_enters way q m pc place n entry call live live' s frames v t stand room behind leads code low same lie fewer k full a =
      let l = i.layouts q in
      let none = unsettled l lie.arrive in
      subst (λ is. Goes e deep 1 t
      (Sees e (Lies i q live' (begins_with l n s) (record { proc = m; pc = pc; kept = kept_by n s; awaits = Result call } ∷ frames) v.out) (entry + widths is)))
      (sym none)
      (goes_enters_saved way q m pc place n entry call live live' s frames v t stand room behind leads (subst (AllStandAt e.flash entry) none code)
      (subst (λ is. entry + widths is < 65536) none low) same lie fewer k full a)
