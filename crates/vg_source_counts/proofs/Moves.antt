-- Code that leads from so many values to so many, piece by piece.
use Rattle.std.proofs.Common.{◌≡◌, ◌≤◌, ℕ, suc, ◌+◌, Bool, true, false, inl, inr, Some, None, refl, sym, ◌∙◌, subst, arith}
use Rattle.vg_meaning.specs.Code as code
use Rattle.vg_code_counts.specs.Counted.{Counted}
use Rattle.vg_source.specs.Steps.{Step}
use Rattle.vg_source.specs.Steps as step
use Rattle.vg_source.specs.Types.{FunctionType}
use Rattle.vg_source.specs.Resolved.{Scope, Head, NoHead, IsValue, IsComponent, IsDevice, OwnMethod, ItsMethod, Resolved, doing, in_front, place_at}
use Rattle.vg_source.specs.Resolved.{settled, settled_as}
use Rattle.vg_source_counts.specs.Measures.{takes, leaves, sets, source_measures}

-- above any number of values, where there is room for so many more
abbrev pub Moves : (n : ℕ) → code.Code Step → (i j : ℕ) → Type 0
Moves n c i j =
    (most below rest x y : ℕ) (looped : Bool) → x ≡ i + rest → y ≡ j + rest → below + x + n ≤ most
    → Counted source_measures most looped below c x y

-- where nothing waits before and behind it
abbrev pub Quiet : (looped : Bool) → (n : ℕ) → code.Code Step → Type 0
Quiet looped n c = (most : ℕ) → n ≤ most → Counted source_measures most looped 0 c 0 0

true_false : true ≡ false → ⊥
true_false e = cc

pub nothing_moves : (n i : ℕ) → Moves n code.Nothing i i
nothing_moves n i most below rest x y looped e f r = omega (arith, e, f)

pub step_moves : (n : ℕ) (s : Step) (i j d : ℕ) → i ≡ takes s + d → j ≡ leaves s + d → sets s ≡ false → 2 ≤ n → Moves n (code.Do s) i j
step_moves n s i j d ei ej unset l most below rest x y looped e f r =
    record {
      rest = d + rest;
      before = omega (arith, ei, e);
      behind = omega (arith, ej, f);
      room = omega (arith, l, r);
      alone = λ h. absurd (true_false (sym h ∙ unset));
    }

pub then_moves : (p n m : ℕ) (a b : code.Code Step) (i j k : ℕ) → n ≤ p → j + m ≤ i + p → Moves n a i j → Moves m b j k
    → Moves p (code.Then a b) i k
then_moves p n m a b i j k l o f g most below rest x y looped ex ey r = (
  j + rest,
  f most below rest x (j + rest) looped ex refl (omega (arith, l, r)),
  g most below rest (j + rest) y looped refl ey (omega (arith, o, ex, r)),
)

pub raised : (n : ℕ) (c : code.Code Step) (i j d i' j' : ℕ) → i' ≡ i + d → j' ≡ j + d → Moves n c i j → Moves n c i' j'
raised n c i j d i' j' e e' f most below rest x y looped ex ey r =
    f most below (d + rest) x y looped (omega (arith, e, ex)) (omega (arith, e', ey)) r

pub roomier : (n m : ℕ) (c : code.Code Step) (i j : ℕ) → n ≤ m → Moves n c i j → Moves m c i j
roomier n m c i j l f most below rest x y looped ex ey r = f most below rest x y looped ex ey (omega (arith, l, r))

-- each way of a choice leaves a value
pub if_moves : (n : ℕ) (a b : code.Code Step) → 1 ≤ n → Moves n a 0 1 → Moves n b 0 1 → Moves n (code.If a b) 1 1
if_moves n a b l f g most below rest x y looped ex ey r = (
  rest,
  omega (arith, ex),
  omega (arith, l, r),
  inr (
    omega (arith, ey),
    f most (below + rest) 0 0 1 looped refl refl (omega (arith, ex, r)),
    g most (below + rest) 0 0 1 looped refl refl (omega (arith, ex, r)),
  ),
)

-- ---- where nothing else waits

pub quieter : (looped : Bool) (n m : ℕ) (c : code.Code Step) → n ≤ m → Quiet looped n c → Quiet looped m c
quieter looped n m c l f most r = f most (omega (arith, l, r))

pub quiet_then : (looped : Bool) (n : ℕ) (a b : code.Code Step) → Quiet looped n a → Quiet looped n b → Quiet looped n (code.Then a b)
quiet_then looped n a b f g most r = (0, f most r, g most r)

-- a value, and a step that takes it
pub quiet_value : (looped : Bool) (n : ℕ) (c : code.Code Step) (s : Step) → takes s ≡ 1 → leaves s ≡ 0 → 3 ≤ n → Moves n c 0 1
    → Quiet looped n (code.Then c (code.Do s))
quiet_value looped n c s et el l f most r = (
  1,
  f most 0 0 0 1 looped refl refl (omega (arith, r)),
  record { rest = 0; before = omega (arith, et); behind = omega (arith, el); room = omega (arith, l, r); alone = λ h. refl },
)

pub quiet_return : (looped : Bool) (n : ℕ) (c : code.Code Step) → Moves n c 0 1 → Quiet looped n (code.Then c code.Return)
quiet_return looped n c f most r = (1, f most 0 0 0 1 looped refl refl (omega (arith, r)), (refl, refl, refl))

pub quiet_if : (looped : Bool) (n : ℕ) (c a b : code.Code Step) → 2 ≤ n → Moves n c 0 1 → Quiet looped n a → Quiet looped n b
    → Quiet looped n (code.Then c (code.If a b))
quiet_if looped n c a b l f g h most r = (
  1,
  f most 0 0 0 1 looped refl refl (omega (arith, r)),
  (0, refl, omega (arith, l, r), inl (refl, refl, g most r, h most r)),
)

pub quiet_loop : (looped : Bool) (n : ℕ) (c body next : code.Code Step) → Moves n c 0 1 → Quiet true n body → Quiet looped n next
    → Quiet looped n (code.Loop c body next)
quiet_loop looped n c body next f g h most r = (refl, refl, f most 0 0 0 1 looped refl refl (omega (arith, r)), g most r, h most r)

-- ---- what nodes stand for

-- so many values wait for what comes behind this
abbrev pub waits : Head → ℕ
waits (IsValue t) = 1
waits (OwnMethod at c x ps r) = 1
waits _ = 0

-- a value, or a method that is one where it is not called
abbrev pub IsWhole : Head → Type 0
IsWhole (IsValue t) = Unit {0}
IsWhole (OwnMethod at c x ps r) = Unit {0}
IsWhole (ItsMethod c x ps r) = Unit {0}
IsWhole _ = ⊥

abbrev pub IsValued : Head → Type 0
IsValued (IsValue t) = Unit {0}
IsValued _ = ⊥

pub waits_one : (h : Head) → IsValued h → waits h ≡ 1
waits_one (IsValue t) v = refl
waits_one NoHead v = absurd v
waits_one (IsComponent c) v = absurd v
waits_one (IsDevice d) v = absurd v
waits_one (OwnMethod at c x ps r) v = absurd v
waits_one (ItsMethod c x ps r) v = absurd v

pub valued_whole : (h : Head) → IsValued h → IsWhole h
valued_whole (IsValue t) v = tt
valued_whole NoHead v = absurd v
valued_whole (IsComponent c) v = absurd v
valued_whole (IsDevice d) v = absurd v
valued_whole (OwnMethod at c x ps r) v = absurd v
valued_whole (ItsMethod c x ps r) v = absurd v

-- what is done before the right side of an assignment, and the store that takes what waits then, with the value
pub record Aimed (n i : ℕ) (c : code.Code Step) (s : Step) : Type 0 where
  pub behind : ℕ
  pub moves : Moves n c i behind
  pub taken : takes s ≡ suc behind
  pub left : leaves s ≡ 0
  pub alone : sets s ≡ true → behind ≡ 0
  pub few : behind ≤ 2

-- what a node stands for where so many values wait for it
pub record Good (n i : ℕ) (m : Resolved) : Type 0 where
  pub does : Moves n m.does i (waits m.head)
  pub aims : (s : Step) → m.store ≡ Some s → Aimed n i m.aims s

pub record Whole (n i : ℕ) (m : Resolved) : Type 0 where
  pub good : Good n i m
  pub whole : IsWhole m.head

-- the same where a value waits behind it
pub record Valued (n i : ℕ) (m : Resolved) : Type 0 where
  pub good : Good n i m
  pub valued : IsValued m.head

pub record Still (looped : Bool) (n : ℕ) (m : Resolved) : Type 0 where
  pub quiet : Quiet looped n m.does
  pub head : m.head ≡ NoHead

pub value_moves : (n i : ℕ) (m : Resolved) → Valued n i m → Moves n m.does i 1
value_moves n i m v = subst (λ j. Moves n m.does i j) (waits_one m.head v.valued) v.good.does

none_some : (s : Step) → None ≡ Some s → ⊥
none_some s e = cc

same_some : (s t : Step) → Some s ≡ Some t → s ≡ t
same_some s t e = cc

pub good_doing : (n i : ℕ) (c : code.Code Step) (h : Head) (ls : Scope) → Moves n c i (waits h) → Good n i (doing c h ls)
good_doing n i c h ls f = record { does = f; aims = λ s e. absurd (none_some s e) }

pub good_front : (p n m i j : ℕ) (c : code.Code Step) (r : Resolved) → n ≤ p → j + m ≤ i + p → Moves n c i j → Good m j r → Good p i (in_front c r)
good_front p n m i j c r l o f g =
    record {
      does = then_moves p n m c r.does i j (waits r.head) l o f g.does;
      aims = λ s e. front_aimed s (g.aims s e);
    }
  where
    front_aimed : (s : Step) → Aimed m j r.aims s → Aimed p i (code.Then c r.aims) s
    front_aimed s a =
        record {
          behind = a.behind;
          moves = then_moves p n m c r.aims i j a.behind l o f a.moves;
          taken = a.taken;
          left = a.left;
          alone = a.alone;
          few = a.few;
        }

pub good_place : (n i : ℕ) (c : code.Code Step) (s : Step) (m : Resolved) → Aimed n i c s → Good n i m → Good n i (place_at c s m)
good_place n i c s m a g =
    record { does = g.does; aims = λ t e. subst (λ z. Aimed n i c z) (same_some s t e) a }

pub good_wider : (n p i : ℕ) (m : Resolved) → n ≤ p → Good n i m → Good p i m
good_wider n p i m l g =
    record {
      does = roomier n p m.does i (waits m.head) l g.does;
      aims = λ s e. wider_aimed s (g.aims s e);
    }
  where
    wider_aimed : (s : Step) → Aimed n i m.aims s → Aimed p i m.aims s
    wider_aimed s a =
        record {
          behind = a.behind;
          moves = roomier n p m.aims i a.behind l a.moves;
          taken = a.taken;
          left = a.left;
          alone = a.alone;
          few = a.few;
        }

pub whole_wider : (n p i : ℕ) (m : Resolved) → n ≤ p → Whole n i m → Whole p i m
whole_wider n p i m l w = record { good = good_wider n p i m l w.good; whole = w.whole }

-- a method that is not called becomes a value
pub settles : (n i : ℕ) (m : Resolved) → 3 ≤ n → Whole n i m → Valued n i (settled m)
settles n i m l w = by m.head refl w.whole
  where
    by : (h : Head) → m.head ≡ h → IsWhole h → Valued n i (settled_as m h)
    by (IsValue t) e v = record { good = w.good; valued = subst IsValued (sym e) tt }
    by (OwnMethod at c x ps r) e v =
        let s = step.MethodOf at c x in
        record {
          good =
              good_doing n i (code.Then m.does (code.Do s)) (IsValue (FunctionType ps r)) m.scope
              (then_moves n n 2 m.does (code.Do s) i 1 1 (omega arith) (omega (arith, l))
              (subst (λ h. Moves n m.does i (waits h)) e w.good.does) (step_moves 2 s 1 1 0 refl refl refl (omega arith)));
          valued = tt;
        }
    by (ItsMethod c x ps r) e v =
        let s = step.ComponentMethod c x in
        record {
          good =
              good_doing n i (code.Then m.does (code.Do s)) (IsValue (FunctionType ps r)) m.scope
              (then_moves n n 2 m.does (code.Do s) i 0 1 (omega arith) (omega (arith, l))
              (subst (λ h. Moves n m.does i (waits h)) e w.good.does) (step_moves 2 s 0 1 0 refl refl refl (omega arith)));
          valued = tt;
        }
    by NoHead e v = absurd v
    by (IsComponent c) e v = absurd v
    by (IsDevice d) e v = absurd v

pub still_settled : (looped : Bool) (n : ℕ) (m : Resolved) → Still looped n m → Still looped n (settled m)
still_settled looped n m s = subst (λ h. Still looped n (settled_as m h)) (sym s.head) s

pub still_wider : (looped : Bool) (n p : ℕ) (m : Resolved) → n ≤ p → Still looped n m → Still looped p m
still_wider looped n p m l s = record { quiet = quieter looped n p m.does l s.quiet; head = s.head }
