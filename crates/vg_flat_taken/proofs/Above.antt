-- The oldest values that wait are pushed, so many of them at most, and each newer one has a home above them.
use Rattle.std.specs.Prelude.{ℕ, suc, ◌+◌, ◌-◌, ◌<◌, ◌≤◌, Bool, true, false, ◌==◌, ◌&&◌, nat_le, List, [], ◌++◌, length, take, drop}
use Rattle.std.specs.Prelude.{Option, Some, None, if◌then◌else◌}
use Rattle.std.proofs.Common.{◌≡◌, inl, inr, refl, sym, ap, ◌∙◌, subst, arith}
use Rattle.std.proofs.lemmas.List.{length-append, append-nil}
use Rattle.std.proofs.Math.Seq.{take-append_seam, drop-append_seam}
use Rattle.vg_meaning.specs.Code.{Code, Nothing, Then, Do, If, Loop, Break, Continue, Return}
use Rattle.vg_firm.specs.declared.step.Step.{Step}
use Rattle.vg_lin.specs.declared.instr.Operand.{Operand}
use Rattle.vg_flatten_shapes.specs.declared.open.Truth.{Truth}
use Rattle.vg_flatten_shapes.specs.Shapes.{Shape, only, empty, is_none}
use Rattle.vg_flatten_shapes.specs.Made.{Made, Gives, Refused}
use Rattle.vg_flatten_pushed.specs.Pushed.{is_high, newer, older, count_of, all_pushed, onto, is_above}
use Rattle.vg_flatten_pushed.specs.Stacked.{is_calm}
use Rattle.vg_firm_typed.specs.Steps.{takes, leaves}
use Rattle.vg_firm_typed.specs.Typed.{Known as Knows, Leads, Typed}
use Rattle.vg_flatten.proofs.Typed.{Fine, Lands, Waits, le_true, same_true, nil_is, nothing}
use Rattle.vg_flat_taken.proofs.Rows.{row, length_row, alone_above}

-- So many values wait: the oldest `most` of them are pushed.
abbrev pub Held : (most n : ℕ) → Shape → Type 0
Held most n s = Waits (row (n - (n - most))) (n - most) s

-- What was made leaves so many.
abbrev pub Stands : (looped : Bool) → (most n : ℕ) → Made → Type 0
Stands looped most n m = Fine looped (row (n - (n - most))) (n - most) m

-- ---- counts

counts : (under : List Operand) (y : ℕ) (s : Shape) (w : Waits under y s) → length w.own + (if is_none s.truth then 0 else 1) ≡ y
counts under y s w = by_truth s.truth s.homes (record { own = w.own; homes = w.homes; count = w.count })
  where
    by_truth : (o : Option Truth) (hs : List Operand) (w1 : Waits under y (record { truth = o; homes = hs }))
        → length w1.own + (if is_none o then 0 else 1) ≡ y
    by_truth None hs w1 = w1.count
    by_truth (Some t) hs w1 = w1.count

own_few : (under : List Operand) (y : ℕ) (s : Shape) (w : Waits under y s) → length w.own ≤ y
own_few under y s w = least (length w.own) _ y (counts under y s w)
  where
    least : (a b c : ℕ) → a + b ≡ c → a ≤ c
    least a b c e = omega (arith, e)

count_is : (y : ℕ) (s : Shape) → Waits [] y s → count_of s ≡ y
count_is y s w = ap (λ z. z + (if is_none s.truth then 0 else 1)) (ap length w.homes ∙ ap length (append-nil w.own)) ∙ counts [] y s w

pub le_of : (a b : ℕ) → nat_le a b ≡ true → a ≤ b
le_of a b e = grind arith

pub lt_of : (a b : ℕ) → nat_le a b ≡ false → b < a
lt_of a b e = grind arith

not_le : (a b : ℕ) → b < a → nat_le a b ≡ false
not_le a b h = grind arith

both_true : (a b : Bool) → a ≡ true → b ≡ true → (a && b) ≡ true
both_true a b e g = grind arith

first_false : (a b : Bool) → a ≡ false → (a && b) ≡ false
first_false a b e = grind arith

next_false : (a b : Bool) → b ≡ false → (a && b) ≡ false
next_false a b e = grind arith

module _ (most n : ℕ) (s : Shape) (w : Held most n s) where
  length_held : length s.homes ≡ length w.own + (n - (n - most))
  length_held = ap length w.homes ∙ length-append w.own (row (n - (n - most))) ∙ ap (λ z. length w.own + z) (length_row (n - (n - most)))

  own_count : length s.homes - most ≡ length w.own
  own_count = let l = length_held in let f = own_few (row (n - (n - most))) (n - most) s w in omega (arith, l, f)

  pub older_held : older most s ≡ row (n - (n - most))
  older_held =
      ap (λ z. drop z s.homes) own_count ∙ ap (drop (length w.own)) w.homes ∙ drop-append_seam w.own (row (n - (n - most)))

  pub newer_held : Waits [] (n - most) (newer most s)
  newer_held = by_height (is_high most s) refl
    where
      taken_own : take (length s.homes - most) s.homes ≡ w.own
      taken_own = ap (λ z. take z s.homes) own_count ∙ ap (take (length w.own)) w.homes ∙ take-append_seam w.own (row (n - (n - most)))

      none : is_high most s ≡ false → 0 ≡ n - most
      none e = let l = length_held in let lt = lt_of most (length s.homes) e in omega (arith, l, lt)

      by_height : (b : Bool) → is_high most s ≡ b
          → Waits [] (n - most) (if b then record { truth = s.truth; homes = take (length s.homes - most) s.homes } else empty)
      by_height true e = record { own = w.own; homes = taken_own ∙ sym (append-nil w.own); count = w.count }
      by_height false e = subst (λ z. Waits [] z empty) (none e) (nothing [] 0 refl)

  count_newer : count_of (newer most s) ≡ n - most
  count_newer = count_is (n - most) (newer most s) newer_held

  pub all_true : n ≤ most → all_pushed most s ≡ true
  all_true le = same_true (count_of (newer most s)) 0 (count_newer ∙ none)
    where
      none : n - most ≡ 0
      none = omega (arith, le)

  pub all_false : most < n → all_pushed most s ≡ false
  all_false lt = differs (count_of (newer most s)) (let c = count_newer in omega (arith, c, lt))
    where
      differs : (a : ℕ) → 0 < a → (a == 0) ≡ false
      differs a h = grind arith

  pub above_true : (p : Step) → most + takes p ≤ n → is_above most p s ≡ true
  above_true p le =
      both_true (is_high most s) _ (le_true most (length s.homes) (let l = length_held in omega (arith, l, le)))
      (le_true (takes p) (count_of (newer most s)) (let c = count_newer in omega (arith, c, le)))

  pub above_false : (p : Step) → n < most + takes p → is_above most p s ≡ false
  above_false p lt = by_height (nat_le most n) refl
    where
      by_height : (b : Bool) → nat_le most n ≡ b → is_above most p s ≡ false
      by_height true e =
          let le = le_of most n e in
          next_false (is_high most s) _ (not_le (takes p) (count_of (newer most s)) (let c = count_newer in omega (arith, c, le, lt)))
      by_height false e =
          let few = lt_of most n e in
          first_false (is_high most s) _ (not_le most (length s.homes)
          (let l = length_held in let f = own_few (row (n - (n - most))) (n - most) s w in omega (arith, l, f, few)))

  -- where no more wait than may be pushed, all are pushed
  pub held_low : n ≤ most → s ≡ only (row n)
  held_low le = by_truth s.truth s.homes (record { own = w.own; homes = w.homes; count = w.count })
    where
      by_truth : (o : Option Truth) (hs : List Operand) → Held most n (record { truth = o; homes = hs }) → record { truth = o; homes = hs } ≡ only (row n)
      by_truth (Some t) hs w1 = absurd (let c = w1.count in omega (arith, c, le))
      by_truth None hs w1 =
          ap only (w1.homes ∙ ap (λ z. z ++ row (n - (n - most))) (nil_is w1.own (let c = w1.count in omega (arith, c, le)))
          ∙ ap row (let e : n - (n - most) ≡ n = omega (arith, le) in e))

-- ---- where all are pushed

pub low_held : (most n : ℕ) → n ≤ most → Held most n (only (row n))
low_held most n le =
    record {
      own = [];
      homes = ap row (let e : n ≡ n - (n - most) = omega (arith, le) in e);
      count = let e : 0 ≡ n - most = omega (arith, le) in e;
    }

pub low_stands : (looped : Bool) (most n : ℕ) (m : Made) → n ≤ most → Lands looped (row n) m → Stands looped most n m
low_stands looped most n (Refused why) le h = absurd h
low_stands looped most n (Gives b s) le h = (h.0, subst (Held most n) (sym h.1) (low_held most n le))

pub stands_low : (looped : Bool) (most n : ℕ) (m : Made) → n ≤ most → Stands looped most n m → Lands looped (row n) m
stands_low looped most n (Refused why) le h = absurd h
stands_low looped most n (Gives b s) le h = (h.0, held_low most n s h.1 le)

-- ---- what is made above the pushed ones

onto_fine : (looped : Bool) (os : List Operand) (y : ℕ) (m : Made) → Fine looped [] y m → Fine looped os y (onto os m)
onto_fine looped os y (Refused why) h = absurd h
onto_fine looped os y (Gives b s) (stays, w) =
    (stays, record { own = w.own; homes = ap (λ z. z ++ os) (w.homes ∙ append-nil w.own); count = w.count })

pub onto_stands : (looped : Bool) (most n v : ℕ) (s : Shape) (m : Made) → Held most n s → most ≤ n → most ≤ v → Fine looped [] (v - most) m
    → Stands looped most v (onto (older most s) m)
onto_stands looped most n v s m w le lv h =
    subst (λ z. Fine looped z (v - most) (onto (older most s) m)) same (onto_fine looped (older most s) (v - most) m h)
  where
    same : older most s ≡ row (v - (v - most))
    same = older_held most n s w ∙ ap row (let e : n - (n - most) ≡ v - (v - most) = omega (arith, le, lv) in e)

-- ---- code above pushed values

-- What is known where fewer values may wait.
abbrev pub less : Knows → ℕ → Knows
less k most = record { layout = k.layout; locals = k.locals; most = k.most - most }

module _ (k : Knows) (most : ℕ) (one : 1 ≤ most) where
  pub leads_above : (p : Step) (below x y b u v : ℕ) → Leads k below p x y → below + x ≡ most + (b + u) → below + y ≡ most + (b + v) → takes p ≤ u
      → Leads (less k most) b p u v
  leads_above p below x y b u v l e g le =
      record {
        rest = u - takes p;
        before = let q : u ≡ takes p + (u - takes p) = omega (arith, le) in q;
        behind = let q : v ≡ leaves p + (u - takes p) = let before = l.before in let behind = l.behind in omega (arith, le, e, g, before, behind) in q;
        room = let room = l.room in omega (arith, room, e);
        alone = alone_above p (below + x) (b + u) (omega (arith, e, le, one)) l.alone;
        names = l.names;
      }

  pub typed_above : (c : Code Step) (looped : Bool) (below b x y : ℕ) → Typed k looped below c x y → below ≡ most + b → Typed (less k most) looped b c x y
  typed_above Nothing looped below b x y h e = h
  typed_above (Then c d) looped below b x y (z, hc, hd) e = (z, typed_above c looped below b x z hc e, typed_above d looped below b z y hd e)
  typed_above (Do p) looped below b x y h e =
      leads_above p below x y b x y h (omega (arith, e)) (omega (arith, e)) (let before = h.before in omega (arith, before))
  typed_above (If c d) looped below b x y (z, ex, room, inl (none, ey, hc, hd)) e = absurd (omega (arith, none, e, one))
  typed_above (If c d) looped below b x y (z, ex, room, inr (ey, hc, hd)) e = (
    z,
    ex,
    omega (arith, room, e),
    inr (
      ey,
      typed_above c looped (below + z) (b + z) 0 1 hc (omega (arith, e)),
      typed_above d looped (below + z) (b + z) 0 1 hd (omega (arith, e)),
    ),
  )
  typed_above (Loop c body next) looped below b x y (none, ey, hc, hb, hn) e = absurd (omega (arith, none, e, one))
  typed_above Break looped below b x y (l, none, ey) e = absurd (omega (arith, none, e, one))
  typed_above Continue looped below b x y (l, none, ey) e = absurd (omega (arith, none, e, one))
  typed_above Return looped below b x y (none, ex, ey) e = absurd (omega (arith, none, e, one))

  -- where values wait below it, code neither loops nor leaves
  calm_above : (c : Code Step) (looped : Bool) (below x y : ℕ) → Typed k looped below c x y → 1 ≤ below → is_calm c ≡ true
  calm_above Nothing looped below x y h le = refl
  calm_above (Then c d) looped below x y (z, hc, hd) le =
      both_true (is_calm c) (is_calm d) (calm_above c looped below x z hc le) (calm_above d looped below z y hd le)
  calm_above (Do p) looped below x y h le = refl
  calm_above (If c d) looped below x y (z, ex, room, inl (none, ey, hc, hd)) le = absurd (omega (arith, none, le))
  calm_above (If c d) looped below x y (z, ex, room, inr (ey, hc, hd)) le =
      both_true (is_calm c) (is_calm d) (calm_above c looped (below + z) 0 1 hc (omega (arith, le)))
      (calm_above d looped (below + z) 0 1 hd (omega (arith, le)))
  calm_above (Loop c body next) looped below x y (none, ey, hc, hb, hn) le = absurd (omega (arith, none, le))
  calm_above Break looped below x y (l, none, ey) le = absurd (omega (arith, none, le))
  calm_above Continue looped below x y (l, none, ey) le = absurd (omega (arith, none, le))
  calm_above Return looped below x y (none, ex, ey) le = absurd (omega (arith, none, le))

  -- both ways of a choice above pushed values
  pub ways_calm : (c d : Code Step) (looped : Bool) (below z : ℕ) → Typed k looped (below + z) c 0 1 → Typed k looped (below + z) d 0 1 → most ≤ below + z
      → (is_calm c && is_calm d) ≡ true
  ways_calm c d looped below z hc hd le =
      both_true (is_calm c) (is_calm d) (calm_above c looped (below + z) 0 1 hc (omega (arith, le, one)))
      (calm_above d looped (below + z) 0 1 hd (omega (arith, le, one)))

  -- the whole choice, where none is below
  pub choice_above : (c d : Code Step) (looped : Bool) (below z : ℕ) → Typed k looped (below + z) c 0 1 → Typed k looped (below + z) d 0 1 → most ≤ below + z
      → below + suc z + 1 ≤ k.most → Typed (less k most) looped 0 (If c d) (below + suc z - most) (below + suc z - most)
  choice_above c d looped below z hc hd le room = (
    below + z - most,
    (let e : below + suc z - most ≡ suc (below + z - most) = omega (arith, le) in e),
    omega (arith, le, room),
    inr (
      (let e : below + suc z - most ≡ suc (below + z - most) = omega (arith, le) in e),
      typed_above c looped (below + z) (0 + (below + z - most)) 0 1 hc (omega (arith, le)),
      typed_above d looped (below + z) (0 + (below + z - most)) 0 1 hd (omega (arith, le)),
    ),
  )
