-- The size of a procedure by its locations.
use Rattle.std.specs.Prelude.{ℕ, suc, ◌+◌, ◌^◌, ◌<◌, ◌≤◌, Bool, true, false, not, ◌&&◌, nat_le, if◌then◌else◌, List, [], ◌∷◌, drop, length}
use Rattle.std.specs.Prelude.{Option, Some, None, IfSome, IsSome}
use Rattle.std.proofs.Common.{◌≡◌, refl, sym, ap, subst, arith}
use Rattle.vg_lin.specs.Program.{Procedure}
use Rattle.vg_templates.specs.Layouts.{Layout}
use Rattle.vg_templates.specs.Framed.{Taken, Lasting, Passing, Slot, taken, seat_for, with_seat, taken_from, all_taken, on_stack, is_pointed, saved_for, framed}
use Rattle.vg_templates.specs.Living.{lasts}
use Rattle.vg_templates.proofs.Framing.{registers-counted}
use Rattle.vg_alloc.specs.Locations.{Located, layout}
use Rattle.vg_frame_costs.specs.Bytes.{most_kept, opening_bytes, pushed_bytes, procedure_bytes}

own : (l : Located) (p : Procedure) → layout l ≡ framed p → 2 + length l.saved + l.slots + l.pushed ≡ opening_bytes p + pushed_bytes p
unfolding opening_bytes pushed_bytes
own l p e = ap (λ (x : Layout). 2 + length x.saved + x.slots + x.pushed) e

pub size_is : (p : Procedure) (l : Located) (kept : ℕ) (o : Option ℕ) → layout l ≡ framed p → kept ≡ most_kept [] p.code
    → IfSome o (λ bytes. bytes ≡ 2 + length l.saved + l.slots + l.pushed + kept) → IfSome o (λ bytes. bytes ≡ procedure_bytes p)
size_is p l kept (Some bytes) e most h = let both = own l p e in omega (arith, both, most, h)
size_is p l kept None e most h = tt

-- a procedure that begins takes two bytes at least
pub opens : (p : Procedure) → 2 ≤ opening_bytes p
unfolding opening_bytes
opens p = omega arith

-- ---- when there is a size

seat_lasting : (t : Taken) (lasts : Bool) (w : ℕ) → t.lasting ≤ 6 → (with_seat t (seat_for t lasts w) w).lasting ≤ 6
seat_lasting t lasts w few = by_tests (not lasts && nat_le (t.passing + w) 10) (nat_le (t.lasting + w) 6) refl
  where
    by_tests : (a b : Bool) → nat_le (t.lasting + w) 6 ≡ b → (with_seat t (if a then Passing else if b then Lasting else Slot) w).lasting ≤ 6
    by_tests true b e = few
    by_tests false true e = grind (arith, e)
    by_tests false false e = few

all_lasting : (lasts : ℕ → Bool) (k : ℕ) (ws : List ℕ) (t : Taken) → t.lasting ≤ 6 → (taken_from lasts k ws t).lasting ≤ 6
all_lasting lasts k [] t few = few
all_lasting lasts k (w ∷ ws) t few = all_lasting lasts (suc k) ws (with_seat t (seat_for t (lasts k) w) w) (seat_lasting t (lasts k) w few)

saved_few : (pointed : Bool) (n : ℕ) → n ≤ 6 → length (saved_for pointed n) ≤ 32
saved_few true n few = let all = registers-counted 2 n in omega (arith, all, few)
saved_few false n few = let all = registers-counted 2 n in omega (arith, all, few)

framed_few : (p : Procedure) → length (framed p).saved ≤ 32
framed_few p =
    let pushed = on_stack p.widths p.params in let all = all_taken (lasts p.code) p.widths pushed in
    saved_few (is_pointed pushed all.slots) all.lasting (all_lasting (lasts p.code) pushed (drop pushed p.widths) (taken 0 0 0) (omega arith))

some_there : (o : Option ℕ) (n : ℕ) → IfSome o (λ bytes. bytes ≡ n) → IsSome o → o ≡ Some n
some_there (Some bytes) n e there = ap Some e
some_there None n e there = absurd (let clash : false ≡ true = there in cc)

-- by locations, where all fits
pub size_there : (p : Procedure) (l : Located) (kept : ℕ) (o : Option ℕ) → layout l ≡ framed p → kept ≡ most_kept [] p.code
    → IfSome o (λ bytes. bytes ≡ 2 + length l.saved + l.slots + l.pushed + kept)
    → (length l.saved ≤ 32 → 2 + length l.saved + l.slots + l.pushed + kept < 2 ^ 32 → IsSome o)
    → procedure_bytes p < 2 ^ 32 → o ≡ Some (procedure_bytes p)
size_there p l kept o e most size there fits =
    let both = own l p e in
    let few : length l.saved ≤ 32 = subst (λ (x : Layout). length x.saved ≤ 32) (sym e) (framed_few p) in
    some_there o (procedure_bytes p) (size_is p l kept o e most size) (there few (omega (arith, both, most, fits)))
