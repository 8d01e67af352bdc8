-- That typed code is flattened where the oldest values that wait are pushed, however few of them, if the temporaries are enough for the newer ones.
use Rattle.std.specs.Prelude.{ℕ, zero, suc, ◌+◌, ◌≤◌, ◌<◌, Bool, true, false, ◌==◌, ◌-◌, ◌&&◌, nat_lt, nat_le, List, [], ◌∷◌, length, drop, if◌then◌else◌}
use Rattle.std.proofs.Common.{◌≡◌, ◌⊎◌, inl, inr, refl, sym, ap, ◌∙◌, subst, arith}
use Rattle.std.proofs.lemmas.List.{length-append, append-nil}
use Rattle.vg_meaning.specs.Code.{Code, Nothing, Then, Do, If, Loop, Break, Continue, Return}
use Rattle.vg_firm.specs.declared.step.Step.{Step}
use Rattle.vg_lin.specs.declared.instr.Operand.{Operand}
use Rattle.vg_lin.specs.declared.instr.Operand.TheVariants.{Local}
use Rattle.vg_lin.specs.declared.instr.Plain.TheVariants.{Pop}
use Rattle.vg_flatten_shapes.specs.declared.layout.Layout.{Layout}
use Rattle.vg_flatten_shapes.specs.declared.room.Room.{Room}
use Rattle.vg_flatten_shapes.specs.Shapes.{Shape, only, empty}
use Rattle.vg_flatten_shapes.specs.Blocks.{One}
use Rattle.vg_flatten_shapes.specs.Made.{Made, Gives, Refused, after, settled, tested}
use Rattle.vg_flatten_steps.specs.Steps.{stepped}
use Rattle.vg_flatten_control.specs.Flat.{flat, repeated, given_back}
use Rattle.vg_flatten_pushed.specs.Pushed.{newer, older, all_pushed, onto, popped, pushed_on, put_back, worked, step_on, crossed, is_above}
use Rattle.vg_flatten_pushed.specs.Pushed.{done, with_newest, level, raised}
use Rattle.vg_flatten_pushed.specs.Stacked.{is_calm, levelled, ways, by_pushed, stacked}
use Rattle.vg_firm_typed.specs.Steps.{takes, leaves, Names}
use Rattle.vg_firm_typed.specs.Typed.{Known as Knows, Leads, IsAlone, Typed}
use Rattle.vg_firm_typed_any.specs.TypedFor.{TakesFew}
use Rattle.vg_code_counts.specs.Each.{EachStep}
use Rattle.vg_flatten.proofs.Typed.{Fine, Lands, Waits, Rests, by_if, at_temp, same_true, le_true, fine_step, after_settled, fine_behind, fine_flat}
use Rattle.vg_flatten.proofs.Typed.{lands_behind, joined_both}
use Rattle.vg_flat_taken.proofs.Rows.{row, length_row, drop_row, length_popped, stays_pops, stays_lifts, leaves_one, own_alone}
use Rattle.vg_flat_taken.proofs.Above.{Held, Stands, older_held, newer_held, all_true, all_false, above_true, above_false, held_low, low_held, low_stands}
use Rattle.vg_flat_taken.proofs.Above.{le_of, lt_of, stands_low, onto_stands, less, leads_above, ways_calm, choice_above}

by_unless : (P : Made → Type 0) (b : Bool) (x y : Made) → b ≡ false → P y → P (if b then x else y)
by_unless P false x y e h = h
by_unless P true x y e h = absurd (not_both e)
  where
    not_both : true ≡ false → ⊥
    not_both e1 = grind arith

lands_after : (looped : Bool) (hs left : List Operand) (m : Made) (more : Shape → Made) → Lands looped hs m → Lands looped left (more (only hs))
    → Lands looped left (after m more)
lands_after looped hs left (Refused why) more h g = absurd h
lands_after looped hs left (Gives b s) more h g = lands_behind looped left b (more s) h.0 (subst (λ z. Lands looped left (more z)) (sym h.1) g)

-- a row in place of another that is as long
at_rows : (looped : Bool) (f : Shape → Made) (n m u v : ℕ) → n ≡ u → m ≡ v → Lands looped (row v) (f (only (row u))) → Lands looped (row m) (f (only (row n)))
at_rows looped f n m u v e g h =
    subst (λ z. Lands looped (row z) (f (only (row n)))) (sym g) (subst (λ z. Lands looped (row v) (f (only (row z)))) (sym e) h)

repeated_lands : (looped : Bool) (h : Operand) (x y z : Made) → Lands looped (h ∷ []) x → Lands true [] y → Lands looped [] z → Lands looped [] (repeated x y z)
repeated_lands looped h (Refused why) y z hx hy hz = absurd hx
repeated_lands looped h (Gives p s) (Refused why) z hx hy hz = absurd hy
repeated_lands looped h (Gives p s) (Gives b s1) (Refused why) hx hy hz = absurd hz
repeated_lands looped h (Gives p s) (Gives b s1) (Gives n s2) hx hy hz =
    subst (λ q. Lands looped [] (repeated (Gives p q) (Gives b s1) (Gives n s2))) (sym hx.1)
    (subst (λ q. Lands looped [] (repeated (Gives p (only (h ∷ []))) (Gives b q) (Gives n s2))) (sym hy.1)
    (subst (λ q. Lands looped [] (repeated (Gives p (only (h ∷ []))) (Gives b (only [])) (Gives n q))) (sym hz.1) ((hx.0, hz.0), refl)))

module _ (lay : Layout) (r : Room) (k : Knows) (same : k.layout ≡ lay) (inside : (i : ℕ) → i < k.locals → r.receiver + i < r.locals)
    (self : ((r.receiver == 0) ≡ true) ⊎ (0 < r.locals)) (few : ℕ) (room : few + 2 ≤ r.temps)
    (pushes : ℕ) (one : 1 ≤ pushes) (most : k.most ≤ pushes + r.temps) where
  some : 0 < r.temps
  some = omega (arith, room)

  -- ---- steps

  push_lands : (looped : Bool) (hs : List Operand) (y below : ℕ) → length hs ≡ y → y ≤ 1 → Lands looped (row (y + below)) (pushed_on (row below) hs)
  push_lands looped [] y below e le = (tt, ap (λ z. only (row z)) (let q : below ≡ y + below = omega (arith, e) in q))
  push_lands looped (h ∷ []) y below e le = (tt, ap (λ z. only (row z)) (let q : suc below ≡ y + below = omega (arith, e) in q))
  push_lands looped (h ∷ i ∷ hs) y below e le = absurd (omega (arith, e, le))

  back_lands : (looped : Bool) (s : Shape) (y below : ℕ) → Waits [] y s → y ≤ 1 → Lands looped (row (y + below)) (put_back r (row below) s)
  back_lands looped s y below w le =
      after_settled r looped (Lands looped (row (y + below))) (lands_behind looped (row (y + below))) [] y s (λ s1. pushed_on (row below) s1.homes) w
      (omega (arith, le, some)) (λ s1 w1. push_lands looped s1.homes y below (counts s1.homes w1) le)
    where
      counts : (hs : List Operand) → Rests [] y hs → length hs ≡ y
      counts hs w1 = let l = ap length w1.homes ∙ length-append w1.own [] in let c = w1.count in omega (arith, l, c)

  worked_lands : (looped : Bool) (m : Made) (y below : ℕ) → Fine looped [] y m → y ≤ 1 → Lands looped (row (y + below)) (after m (put_back r (row below)))
  worked_lands looped (Refused why) y below h le = absurd h
  worked_lands looped (Gives b s) y below h le =
      lands_behind looped (row (y + below)) b (put_back r (row below) s) h.0 (back_lands looped s y below h.1 le)

  -- a step on its own values alone, in the first temporaries
  own_fine : (p : Step) (looped : Bool) → takes p ≤ few → Names k.layout k.locals p
      → Fine looped [] (leaves p) (stepped lay r p (popped r.locals (takes p)))
  own_fine p looped le names =
      subst (λ z. Fine looped [] (leaves p) (stepped lay r p z)) (append-nil (popped r.locals (takes p)))
      (fine_step lay r looped [] k.locals inside self p (popped r.locals (takes p)) 0 (leaves p)
      (let l = length_popped r.locals (takes p) in omega (arith, l)) (omega arith) (omega (arith, le, room))
      (subst (IsAlone p) (let e : takes p ≡ length {A = Operand} [] + (takes p + 0) = omega arith in e) (own_alone p))
      (subst (λ z. Names z k.locals p) same names))

  -- what is above the pushed values is taken as with a home for each
  flat_above : (c : Code Step) (looped : Bool) (n v : ℕ) (s : Shape) → Held pushes n s → Typed (less k pushes) looped 0 c (n - pushes) (v - pushes)
      → Fine looped [] (v - pushes) (flat lay r c (newer pushes s))
  flat_above c looped n v s w h =
      fine_flat lay r (less k pushes) same inside self (omega (arith, most)) some c looped [] (newer pushes s) (n - pushes) (v - pushes) h
      (newer_held pushes n s w)

  above_stands : (p : Step) (looped : Bool) (below x y : ℕ) (s : Shape) → Leads k below p x y → Held pushes (below + x) s → pushes + takes p ≤ below + x
      → Stands looped pushes (below + y) (onto (older pushes s) (flat lay r (Do p) (newer pushes s)))
  above_stands p looped below x y s l w le =
      onto_stands looped pushes (below + x) (below + y) s (flat lay r (Do p) (newer pushes s)) w (omega (arith, le)) behind
      (flat_above (Do p) looped (below + x) (below + y) s w
      (leads_above k pushes one p below x y 0 (below + x - pushes) (below + y - pushes) l (omega (arith, le))
      (let b = behind in omega (arith, b)) (omega (arith, le))))
    where
      behind : pushes ≤ below + y
      behind = let before = l.before in let after' = l.behind in omega (arith, before, after', le)

  -- so many values are brought into the first temporaries, of newer and pushed ones
  drawn_lands : (p : Step) (looped : Bool) (news : List Operand) (u rest n : ℕ) → length news ≡ u → u ≤ takes p → n ≡ takes p + rest → u ≤ n → takes p ≤ few
      → Names k.layout k.locals p → Lands looped (row (leaves p + rest)) (step_on lay r p news (row (n - u)))
  drawn_lands p looped news u rest n eu le e un lf names =
      by_if (Lands looped (row (leaves p + rest))) (nat_le (takes p) (length news + length (row (n - u)))) _ _
      (le_true (takes p) _ (let l = length_row (n - u) in omega (arith, l, eu, e, un)))
      (by_if (Lands looped (row (leaves p + rest))) (nat_le (takes p + 2) r.temps) _ _ (le_true (takes p + 2) r.temps (omega (arith, lf, room)))
      (lands_behind looped (row (leaves p + rest)) _ (worked lay r p (drop (takes p - length news) (row (n - u))))
      (stays_lifts looped (r.locals + (takes p - length news)) news, stays_pops looped r.locals (takes p - length news))
      (subst (λ z. Lands looped (row (leaves p + rest)) (worked lay r p z)) (sym left)
      (worked_lands looped (stepped lay r p (popped r.locals (takes p))) (leaves p) rest (own_fine p looped lf names) (leaves_one p)))))
    where
      left : drop (takes p - length news) (row (n - u)) ≡ row rest
      left =
          ap (λ z. drop (takes p - length news) (row z)) (let q : n - u ≡ (takes p - length news) + rest = omega (arith, eu, le, e) in q)
          ∙ drop_row (takes p - length news) rest

  crossed_lands : (p : Step) (looped : Bool) (below x y : ℕ) (s : Shape) → Leads k below p x y → takes p ≤ few → Held pushes (below + x) s
      → below + x < pushes + takes p → Lands looped (row (below + y)) (crossed lay r pushes p s)
  crossed_lands p looped below x y s l lf w lt =
      subst (λ z. Lands looped (row z) (crossed lay r pushes p s)) (let b = l.behind in let q : leaves p + (below + l.rest) ≡ below + y = omega (arith, b) in q)
      (subst (λ z. Lands looped (row (leaves p + (below + l.rest))) (after (settled r (newer pushes s)) (λ s1. step_on lay r p s1.homes z)))
      (sym (older_held pushes (below + x) s w))
      (after_settled r looped (Lands looped (row (leaves p + (below + l.rest)))) (lands_behind looped (row (leaves p + (below + l.rest)))) []
      (below + x - pushes) (newer pushes s) _ (newer_held pushes (below + x) s w) (omega (arith, lt, lf, room)) (λ s1 w1.
      drawn_lands p looped s1.homes (below + x - pushes) (below + l.rest) (below + x)
      (let h = ap length w1.homes ∙ length-append w1.own [] in let c = w1.count in omega (arith, h, c)) (omega (arith, lt))
      (let b = l.before in omega (arith, b)) (omega arith) lf l.names)))

  do_stands : (p : Step) (looped : Bool) (below x y : ℕ) (s : Shape) → Leads k below p x y → takes p ≤ few → Held pushes (below + x) s
      → Stands looped pushes (below + y) (done lay r pushes p s)
  do_stands p looped below x y s l lf w = by_height (nat_le (pushes + takes p) (below + x)) refl
    where
      low : below + x < pushes + takes p → below + y ≤ pushes
      low lt = let o = leaves_one p in let before = l.before in let after' = l.behind in omega (arith, lt, o, before, after')

      by_height : (b : Bool) → nat_le (pushes + takes p) (below + x) ≡ b → Stands looped pushes (below + y) (done lay r pushes p s)
      by_height true e =
          let le = le_of (pushes + takes p) (below + x) e in
          by_if (Stands looped pushes (below + y)) (is_above pushes p s) _ _ (above_true pushes (below + x) s w p le) (above_stands p looped below x y s l w le)
      by_height false e =
          let lt = lt_of (pushes + takes p) (below + x) e in
          by_unless (Stands looped pushes (below + y)) (is_above pushes p s) _ _ (above_false pushes (below + x) s w p lt)
          (low_stands looped pushes (below + y) (crossed lay r pushes p s) (low lt) (crossed_lands p looped below x y s l lf w lt))

  -- ---- choices

  all_row : (n : ℕ) → n ≤ pushes → all_pushed pushes (only (row n)) ≡ true
  all_row n le = all_true pushes n (only (row n)) (low_held pushes n le) le

  -- the newest is in the first temporary
  with_top : (P : Made → Type 0) (n : ℕ) → suc n ≤ pushes → P (Gives (One (Pop 4 (r.locals + 0))) (only (Local (r.locals + 0) ∷ row n)))
      → P (with_newest r pushes (only (row (suc n))))
  with_top P n le h =
      by_if P (all_pushed pushes (only (row (suc n)))) _ _ (all_row (suc n) le)
      (at_temp r P [] (λ to. Gives (One (Pop 4 to)) (only (Local to ∷ row n))) some h)

  level_none : (looped : Bool) (m : Made) → Lands looped [] m → Lands looped [] (levelled r pushes 0 m)
  level_none looped m h =
      lands_after looped [] [] m (level r pushes 0) h
      (by_if (Lands looped []) (all_pushed pushes (only (row zero))) _ _ (all_row zero (omega arith)) (tt, refl))

  level_one : (looped : Bool) (n : ℕ) (m : Made) → suc n ≤ pushes → Lands looped (row (suc n)) m
      → Lands looped (Local (r.locals + 0) ∷ row n) (levelled r pushes (length (row n)) m)
  level_one looped n m le h =
      lands_after looped (row (suc n)) (Local (r.locals + 0) ∷ row n) m (level r pushes (length (row n))) h
      (by_if (Lands looped (Local (r.locals + 0) ∷ row n)) (all_pushed pushes (only (row (suc n)))) _ _ (all_row (suc n) le)
      (by_unless (Lands looped (Local (r.locals + 0) ∷ row n)) (suc (length (row n)) == length (row n)) _ _ (more (length (row n)))
      (by_if (Lands looped (Local (r.locals + 0) ∷ row n)) (length (row n) == length (row n)) _ _ (same_true (length (row n)) (length (row n)) refl)
      (at_temp r (Lands looped (Local (r.locals + 0) ∷ row n)) [] (λ to. Gives (One (Pop 4 to)) (only (Local to ∷ row n))) some (tt, refl)))))
    where
      more : (a : ℕ) → (suc a == a) ≡ false
      more a = grind arith

  raised_one : (looped : Bool) (n : ℕ)
      → Lands looped (row (suc n)) (raised (suc (length (row n))) (only (Local (r.locals + 0) ∷ row n)))
  raised_one looped n =
      by_unless (Lands looped (row (suc n))) (nat_lt (suc (length (row n))) (suc (length (row n)))) _ _ (not_less (suc (length (row n)))) (tt, refl)
    where
      not_less : (a : ℕ) → nat_lt a a ≡ false
      not_less a = grind arith

  -- both ways leave nothing
  none_lands : (looped : Bool) (f g : Shape → Made) → Lands looped [] (f empty) → Lands looped [] (g empty)
      → Lands looped [] (by_pushed r pushes f g (only (row (suc zero))))
  none_lands looped f g hf hg =
      with_top (λ m. Lands looped [] (after m (λ s1. after (ways r pushes (tested s1) f g) (raised (length s1.homes))))) zero (omega (arith, one))
      (lands_behind looped [] (One (Pop 4 (r.locals + 0))) _ tt
      (lands_after looped [] [] (ways r pushes (tested (only (Local (r.locals + 0) ∷ []))) f g) (raised 1)
      (joined_both looped [] _ _ _ (level_none looped (f empty) hf) (level_none looped (g empty) hg)) (tt, refl)))

  -- each leaves one
  one_lands : (looped : Bool) (n : ℕ) (f g : Shape → Made) → suc n ≤ pushes → Lands looped (row (suc n)) (f (only (row n)))
      → Lands looped (row (suc n)) (g (only (row n))) → Lands looped (row (suc n)) (by_pushed r pushes f g (only (row (suc n))))
  one_lands looped n f g le hf hg =
      with_top (λ m. Lands looped (row (suc n)) (after m (λ s1. after (ways r pushes (tested s1) f g) (raised (length s1.homes))))) n le
      (lands_behind looped (row (suc n)) (One (Pop 4 (r.locals + 0))) _ tt
      (lands_after looped (Local (r.locals + 0) ∷ row n) (row (suc n)) (ways r pushes (tested (only (Local (r.locals + 0) ∷ row n))) f g)
      (raised (suc (length (row n))))
      (joined_both looped (Local (r.locals + 0) ∷ row n) _ _ _ (level_one looped n (f (only (row n))) le hf) (level_one looped n (g (only (row n))) le hg))
      (raised_one looped n)))

  -- code leaves as many values as its type says
  abbrev Goes : Bool → Code Step → Type 0
  Goes looped c =
      (below x y : ℕ) (s : Shape) → Typed k looped below c x y → Held pushes (below + x) s → Stands looped pushes (below + y) (stacked lay r pushes c s)

  -- from where all are pushed, and behind which all are
  lands_from : (looped : Bool) (c : Code Step) (n v below x y : ℕ) → Goes looped c → Typed k looped below c x y → n ≡ below + x → v ≡ below + y
      → n ≤ pushes → v ≤ pushes → Lands looped (row v) (stacked lay r pushes c (only (row n)))
  lands_from looped c n v below x y go h en ev le lv =
      at_rows looped (stacked lay r pushes c) n v (below + x) (below + y) en ev
      (stands_low looped pushes (below + y) _ (omega (arith, ev, lv))
      (go below x y (only (row (below + x))) h (low_held pushes (below + x) (omega (arith, en, le)))))

  -- what is to be shown where all are pushed
  from_low : (looped : Bool) (c : Code Step) (n v : ℕ) (s : Shape) → Held pushes n s → n ≤ pushes → v ≤ pushes
      → Lands looped (row v) (stacked lay r pushes c (only (row n))) → Stands looped pushes v (stacked lay r pushes c s)
  from_low looped c n v s w le lv h =
      low_stands looped pushes v _ lv (subst (λ z. Lands looped (row v) (stacked lay r pushes c z)) (sym (held_low pushes n s w le)) h)

  choice_low : (a b : Code Step) (looped : Bool) (below x y : ℕ) (s : Shape) → Typed k looped below (If a b) x y → Held pushes (below + x) s
      → below + x ≤ pushes → Goes looped a → Goes looped b → Stands looped pushes (below + y) (stacked lay r pushes (If a b) s)
  choice_low a b looped below x y s (z, ex, waits, inl (e, ey, ha, hb)) w le ga gb =
      from_low looped (If a b) (below + x) (below + y) s w le (omega (arith, e, ey))
      (at_rows looped (stacked lay r pushes (If a b)) (below + x) (below + y) (suc zero) zero (omega (arith, e, ex)) (omega (arith, e, ey))
      (by_if (Lands looped []) (all_pushed pushes (only (row (suc zero)))) _ _ (all_row (suc zero) (omega (arith, one)))
      (none_lands looped (stacked lay r pushes a) (stacked lay r pushes b)
      (lands_from looped a 0 0 0 0 0 ga ha refl refl (omega arith) (omega arith)) (lands_from looped b 0 0 0 0 0 gb hb refl refl (omega arith) (omega arith)))))
  choice_low a b looped below x y s (z, ex, waits, inr (ey, ha, hb)) w le ga gb =
      from_low looped (If a b) (below + x) (below + y) s w le (omega (arith, le, ex, ey))
      (at_rows looped (stacked lay r pushes (If a b)) (below + x) (below + y) (suc (below + z)) (suc (below + z)) (omega (arith, ex)) (omega (arith, ey))
      (by_if (Lands looped (row (suc (below + z)))) (all_pushed pushes (only (row (suc (below + z))))) _ _ (all_row (suc (below + z)) high)
      (one_lands looped (below + z) (stacked lay r pushes a) (stacked lay r pushes b) high
      (lands_from looped a (below + z) (suc (below + z)) (below + z) 0 1 ga ha (omega arith) (omega arith) (omega (arith, high)) high)
      (lands_from looped b (below + z) (suc (below + z)) (below + z) 0 1 gb hb (omega arith) (omega arith) (omega (arith, high)) high))))
    where
      high : suc (below + z) ≤ pushes
      high = omega (arith, le, ex)

  choice_high : (a b : Code Step) (looped : Bool) (below x y : ℕ) (s : Shape) → Typed k looped below (If a b) x y → Held pushes (below + x) s
      → pushes < below + x → Stands looped pushes (below + y) (stacked lay r pushes (If a b) s)
  choice_high a b looped below x y s (z, ex, waits, inl (e, ey, ha, hb)) w lt = absurd (omega (arith, lt, e, ex, one))
  choice_high a b looped below x y s (z, ex, waits, inr (ey, ha, hb)) w lt =
      subst (λ q. Stands looped pushes (below + q) (stacked lay r pushes (If a b) s)) (sym ey)
      (by_unless (Stands looped pushes (below + suc z)) (all_pushed pushes s) _ _ (all_false pushes (below + x) s w lt)
      (by_if (Stands looped pushes (below + suc z)) (is_calm a && is_calm b) _ _ (ways_calm k pushes one a b looped below z ha hb (omega (arith, lt, ex)))
      (onto_stands looped pushes (below + suc z) (below + suc z) s (flat lay r (If a b) (newer pushes s)) (subst (λ q. Held pushes (below + q) s) ex w)
      (omega (arith, lt, ex)) (omega (arith, lt, ex))
      (flat_above (If a b) looped (below + suc z) (below + suc z) s (subst (λ q. Held pushes (below + q) s) ex w)
      (choice_above k pushes one a b looped below z ha hb (omega (arith, lt, ex)) (omega (arith, waits, ex)))))))

  choice_stands : (a b : Code Step) (looped : Bool) (below x y : ℕ) (s : Shape) → Typed k looped below (If a b) x y → Held pushes (below + x) s
      → Goes looped a → Goes looped b → Stands looped pushes (below + y) (stacked lay r pushes (If a b) s)
  choice_stands a b looped below x y s h w ga gb = by_height (nat_le (below + x) pushes) refl
    where
      by_height : (q : Bool) → nat_le (below + x) pushes ≡ q → Stands looped pushes (below + y) (stacked lay r pushes (If a b) s)
      by_height true e = choice_low a b looped below x y s h w (le_of (below + x) pushes e) ga gb
      by_height false e = choice_high a b looped below x y s h w (lt_of (below + x) pushes e)

  -- ---- loops and ends

  -- a form of code that begins where nothing waits
  at_none : (looped : Bool) (c : Code Step) (below x y : ℕ) (s : Shape) → Held pushes (below + x) s → below + x ≡ 0 → y ≡ 0
      → Lands looped [] (stacked lay r pushes c empty) → Stands looped pushes (below + y) (stacked lay r pushes c s)
  at_none looped c below x y s w e ey h =
      from_low looped c (below + x) (below + y) s w (omega (arith, e)) (omega (arith, e, ey))
      (at_rows looped (stacked lay r pushes c) (below + x) (below + y) zero zero (omega (arith, e)) (omega (arith, e, ey)) h)

  loop_lands : (c body next : Code Step) (looped : Bool) → Typed k looped 0 c 0 1 → Typed k true 0 body 0 0 → Typed k looped 0 next 0 0
      → Goes looped c → Goes true body → Goes looped next → Lands looped [] (stacked lay r pushes (Loop c body next) empty)
  loop_lands c body next looped hc hb hn gc gb gn =
      repeated_lands looped (Local (r.locals + 0)) (after (stacked lay r pushes c empty) (with_newest r pushes)) (stacked lay r pushes body empty)
      (stacked lay r pushes next empty)
      (lands_after looped (row (suc zero)) (Local (r.locals + 0) ∷ []) (stacked lay r pushes c empty) (with_newest r pushes)
      (lands_from looped c 0 1 0 0 1 gc hc refl refl (omega arith) one)
      (with_top (Lands looped (Local (r.locals + 0) ∷ [])) zero (omega (arith, one)) (tt, refl)))
      (lands_from true body 0 0 0 0 0 gb hb refl refl (omega arith) (omega arith))
      (lands_from looped next 0 0 0 0 0 gn hn refl refl (omega arith) (omega arith))

  return_stands : (looped : Bool) (below x y : ℕ) (s : Shape) → Held pushes (below + x) s → below ≡ 0 → x ≡ 1 → y ≡ 0
      → Stands looped pushes (below + y) (stacked lay r pushes Return s)
  return_stands looped below x y s w e ex ey =
      from_low looped Return (below + x) (below + y) s w (omega (arith, e, ex, one)) (omega (arith, e, ey))
      (at_rows looped (stacked lay r pushes Return) (below + x) (below + y) (suc zero) zero (omega (arith, e, ex)) (omega (arith, e, ey))
      (with_top (λ m. Lands looped [] (after m (λ s1. given_back r s1.homes))) zero (omega (arith, one)) ((tt, tt), refl)))

  -- ---- code

  pub pushed_code : (c : Code Step) (looped : Bool) (below x y : ℕ) (s : Shape) → Typed k looped below c x y → EachStep (TakesFew few) c
      → Held pushes (below + x) s → Stands looped pushes (below + y) (stacked lay r pushes c s)
  pushed_code Nothing looped below x y s h g w = (tt, subst (λ z. Held pushes (below + z) s) h w)
  pushed_code (Then a b) looped below x y s (z, ha, hb) g w =
      stands_after looped (below + z) (below + y) (stacked lay r pushes a s) (stacked lay r pushes b) (pushed_code a looped below x z s ha g.0 w)
      (λ s1 w1. pushed_code b looped below z y s1 hb g.1 w1)
    where
      stands_after : (looped : Bool) (n v : ℕ) (m : Made) (more : Shape → Made) → Stands looped pushes n m
          → ((s1 : Shape) → Held pushes n s1 → Stands looped pushes v (more s1)) → Stands looped pushes v (after m more)
      stands_after looped n v (Refused why) more hm go = absurd hm
      stands_after looped n v (Gives block s1) more hm go = fine_behind looped (row (v - (v - pushes))) (v - pushes) block (more s1) hm.0 (go s1 hm.1)
  pushed_code (Do p) looped below x y s h g w = do_stands p looped below x y s h g w
  pushed_code (If a b) looped below x y s h g w =
      choice_stands a b looped below x y s h w (λ below' x' y' s1 h1 w1. pushed_code a looped below' x' y' s1 h1 g.0 w1)
      (λ below' x' y' s1 h1 w1. pushed_code b looped below' x' y' s1 h1 g.1 w1)
  pushed_code (Loop c body next) looped below x y s (e, ey, hc, hb, hn) g w =
      at_none looped (Loop c body next) below x y s w e ey
      (loop_lands c body next looped hc hb hn (λ below' x' y' s1 h1 w1. pushed_code c looped below' x' y' s1 h1 g.0 w1)
      (λ below' x' y' s1 h1 w1. pushed_code body true below' x' y' s1 h1 g.1 w1) (λ below' x' y' s1 h1 w1. pushed_code next looped below' x' y' s1 h1 g.2 w1))
  pushed_code Break looped below x y s (l, e, ey) g w = at_none looped Break below x y s w e ey (l, refl)
  pushed_code Continue looped below x y s (l, e, ey) g w = at_none looped Continue below x y s w e ey (l, refl)
  pushed_code Return looped below x y s (e, ex, ey) g w = return_stands looped below x y s w e ex ey
