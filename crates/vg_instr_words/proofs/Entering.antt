-- How many words prologues take, and that the layouts of procedures are narrow.
use Rattle.std.specs.Prelude.{ℕ, zero, suc, ◌+◌, ◌*◌, ◌≤◌, Bool, true, false, not, ◌&&◌, nat_le, if◌then◌else◌, List, [], ◌∷◌}
use Rattle.std.specs.Prelude.{length, take, drop, slice_index}
use Rattle.std.proofs.Common.{◌≡◌, refl, ap, arith, length-take}
use Rattle.avr_isa.specs.Standing.{widths}
use Rattle.avr_isa.proofs.Standing.{widths-append}
use Rattle.vg_lin.specs.Program.{Procedure}
use Rattle.vg_templates.specs.Layouts.{Layout, width_of}
use Rattle.vg_templates.specs.Linkage.{pushes, frame_pointer, saves, settles_one, settles_from, prologue}
use Rattle.vg_templates.specs.Calls.{sum_of, by_registers, lives_from}
use Rattle.vg_templates.specs.Living.{is_live, lasts}
use Rattle.vg_templates.specs.Framed.{Taken, taken, Lasting, Passing, Slot, seat_for, with_seat, taken_from}
use Rattle.vg_templates.specs.Framed.{saved_for, is_pointed, on_stack, all_taken, framed, CanBeFramed}
use Rattle.vg_templates.proofs.Framing.{registers-counted}
use Rattle.vg_instr_words.specs.Words.{IsNarrow}
use Rattle.vg_instr_words.specs.Entries.{prologue_words, entry_words}
use Rattle.vg_instr_words.proofs.Chains.{pushes_words, pointer_words}
use Rattle.vg_instr_words.proofs.Operands.{gives_by_width}

-- ---- any layout

widths_split : (ws : List ℕ) (k n : ℕ) → sum_of (take (suc n) (drop k ws)) ≡ slice_index ws k + sum_of (take n (drop (suc k) ws))
widths_split [] zero zero = refl
widths_split [] zero (suc n) = refl
widths_split [] (suc k) zero = refl
widths_split [] (suc k) (suc n) = refl
widths_split (w ∷ ws) zero n = refl
widths_split (w ∷ ws) (suc k) n = widths_split ws k n

module _ (l : Layout) where
  one_settled : (b : Bool) (k r : ℕ) → widths (settles_one b l k r) ≤ 3 + width_of l k
  one_settled true k r = gives_by_width l k r (width_of l k)
  one_settled false k r = omega arith

  all_settled : (k r : ℕ) (bs : List Bool) → widths (settles_from l k r bs) ≤ 3 * length bs + sum_of (take (length bs) (drop k l.widths))
  all_settled k r [] = omega arith
  all_settled k r (b ∷ bs) =
      let one = one_settled b k r in
      let rest = all_settled (suc k) (r + width_of l k) bs in
      let split = widths_split l.widths k (length bs) in
      let all = widths-append (settles_one b l k r) (settles_from l (suc k) (r + width_of l k) bs) in omega (arith, one, rest, split, all)

  pub entered_words : IsNarrow l → widths (prologue l) ≤ prologue_words l
  entered_words ok =
      let push = pushes_words l.saved in
      let few = ok.saved in
      let point = pointer_words l.pointed l.slots in
      let settled = all_settled 0 18 l.arrives in
      let one = widths-append (saves l) (settles_from l 0 18 l.arrives) in
      let two = widths-append (pushes l.saved) (frame_pointer l.pointed l.slots) in omega (arith, push, few, point, settled, one, two)

-- ---- the layout of a procedure

seat_few : (t : Taken) (c : Bool) (w : ℕ) → t.lasting ≤ 6 → (with_seat t (seat_for t c w) w).lasting ≤ 6
seat_few t c w few = by_room (not c && nat_le (t.passing + w) 10) (nat_le (t.lasting + w) 6) refl
  where
    by_room : (a b : Bool) → nat_le (t.lasting + w) 6 ≡ b → (with_seat t (if a then Passing else if b then Lasting else Slot) w).lasting ≤ 6
    by_room true b e = few
    by_room false true e = grind (arith, e)
    by_room false false e = few

taken_few : (c : ℕ → Bool) (k : ℕ) (ws : List ℕ) (t : Taken) → t.lasting ≤ 6 → (taken_from c k ws t).lasting ≤ 6
taken_few c k [] t few = few
taken_few c k (w ∷ ws) t few = taken_few c (suc k) ws (with_seat t (seat_for t (c k) w) w) (seat_few t (c k) w few)

saved_few : (b : Bool) (n : ℕ) → length (saved_for b n) ≤ 2 + n
saved_few true n = let all = registers-counted 2 n in omega (arith, all)
saved_few false n = let all = registers-counted 2 n in omega (arith, all)

lives_counted : (live : ℕ → Bool) (k n : ℕ) → length (lives_from live k n) ≡ n
lives_counted live k zero = refl
lives_counted live k (suc n) = let rest = lives_counted live (suc k) n in omega (arith, rest)

module _ (m : Procedure) (can : CanBeFramed m.widths m.params) where
  pub framed_narrow : IsNarrow (framed m)
  framed_narrow =
      record {
        widths = can.narrow;
        saved =
            let p = on_stack m.widths m.params in
            let t = all_taken (lasts m.code) m.widths p in
            let few = taken_few (lasts m.code) p (drop p m.widths) (taken 0 0 0) (omega arith) in
            let all = saved_few (is_pointed p t.slots) t.lasting in omega (arith, few, all);
      }

  arrived : (b : Bool) → (let bs = if b then lives_from (λ k. is_live m.code k 0) 0 m.params else [] in
      3 * length bs + sum_of (take (length bs) m.widths) ≡ (if b then 3 * m.params + sum_of (take m.params m.widths) else 0))
  arrived true = ap (λ n. 3 * n + sum_of (take n m.widths)) (lives_counted (λ k. is_live m.code k 0) 0 m.params)
  arrived false = refl

  pub framed_words : widths (prologue (framed m)) ≤ entry_words m
  framed_words =
      let few = entered_words (framed m) framed_narrow in
      let same = arrived (by_registers (take m.params m.widths)) in omega (arith, few, same)

  pub entries_few : entry_words m ≤ 34
  entries_few = by_widths (nat_le (length (take m.params m.widths)) 4) (nat_le (sum_of (take m.params m.widths)) 8) refl refl
    where
      by_widths : (a b : Bool) → nat_le (length (take m.params m.widths)) 4 ≡ a → nat_le (sum_of (take m.params m.widths)) 8 ≡ b
          → 14 + (if a && b then 3 * m.params + sum_of (take m.params m.widths) else 0) ≤ 34
      by_widths true true e f =
          let few : length (take m.params m.widths) ≤ 4 = grind (arith, e) in
          let small : sum_of (take m.params m.widths) ≤ 8 = grind (arith, f) in
          let long = length-take m.params m.widths in
          let inside = can.params in omega (arith, few, small, long, inside)
      by_widths true false e f = omega arith
      by_widths false b e f = omega arith
