-- How a state of linear code stands for one of the packed program where the oldest values that wait are pushed, four bytes of each.
use Rattle.std.specs.Prelude.{◌≡◌, ℕ, ◌<◌, ◌^◌, List, [], ◌∷◌, ◌++◌, length}
use Rattle.std.proofs.Common.{refl, sym, ap, subst, arith}
use Rattle.vg_meaning.specs.History.{History}
use Rattle.vg_meaning.specs.Answer.{Signal, Answer}
use Rattle.vg_firm.specs.Meaning.{State as Firm}
use Rattle.vg_firm_frames.specs.Frames.{over as over_values, Above as AboveValues, gives as gives_values, ends as ends_values}
use Rattle.vg_lin.specs.State.{State, Waiting}
use Rattle.vg_lin.specs.Structured.{Deciding}
use Rattle.vg_lin_frames.specs.Frames.{above, over, Above, gives as gives_above, ends as ends_above, wrong as wrong_above}
use Rattle.vg_flatten_shapes.specs.declared.layout.Layout.{Layout}
use Rattle.vg_flatten_shapes.specs.declared.room.Room.{Room}
use Rattle.vg_flatten_shapes.specs.Shapes.{Shape, empty}
use Rattle.vg_flatten_pushed.specs.Pushed.{newer, older}
use Rattle.vg_flatten.specs.Columns.{RamStands}
use Rattle.vg_flattened.proofs.Alike.{Alike, gives, leaves, overs, wrong}
use Rattle.vg_flattened.proofs.Related.{AreAt, AreKept, AreSame, Held}
use Rattle.vg_flattened.proofs.Newer.{AllPushed, few_pushed}

abbrev pub in_four : List ℕ → List Waiting
in_four [] = []
in_four (v ∷ vs) = record { width = 4; value = v } ∷ in_four vs

abbrev pub AreSmall : List ℕ → Type 0
AreSmall [] = Unit {0}
AreSmall (v ∷ vs) = (v < 2 ^ 32) × AreSmall vs

-- So many values wait, and each is pushed.
pub record Stands (lay : Layout) (r : Room) (ws : List ℕ) (n : ℕ) (s : Firm) (t : State) : Type 0 where
  pub count : length s.values ≡ n
  pub small : AreSmall s.values
  pub waits : t.waiting ≡ in_four s.values
  pub kept : AreKept r ws s.self s.locals t.locals
  pub ram : RamStands lay.ram s.columns t.ram

pub none_is : (vs : List ℕ) → length vs ≡ 0 → vs ≡ []
none_is [] e = refl
none_is (v ∷ vs) e = absurd (omega (arith, e))

-- The states with more values below, on both sides.
pub record Higher (under : List ℕ) (G : Firm → Deciding State → Type 0) (s : Firm) (d : Deciding State) : Type 0 where
  pub low : Firm
  pub deciding : Deciding State
  pub values : s ≡ over_values under low
  pub waits : d ≡ over (in_four under) deciding
  pub there : G low deciding

-- So many values are pushed, and those above them wait as a shape says.
pub record Piled (lay : Layout) (r : Room) (ws : List ℕ) (n : ℕ) (shape : Shape) (s : Firm) (d : Deciding State) : Type 0 where
  pub us : List ℕ
  pub many : length us ≡ n
  pub small : AreSmall us
  pub high : Higher us (Held lay r ws shape) s d

-- The oldest values are pushed, so many of them at most.
abbrev pub OnStack : Layout → Room → (ws : List ℕ) → (most : ℕ) → Shape → Firm → Deciding State → Type 0
OnStack lay r ws most shape = Piled lay r ws (length (older most shape)) (newer most shape)

-- What does the same does the same with more values below.
pub alike_above : {G : Firm → Deciding State → Type 0} {L M : Signal → Firm → Deciding State → Type 0} (under : List ℕ) {a a' : Answer Firm History}
    {b b' : Answer (Deciding State) History} → Alike G L a b → AboveValues under a a' → Above (in_four under) b b' → Alike (Higher under G) M a' b'
alike_above under (gives i q) gives_values gives_above =
    gives i (record { low = _; deciding = _; values = refl; waits = refl; there = q })
alike_above under overs ends_values ends_above = overs
alike_above under overs ends_values wrong_above = wrong
alike_above under wrong ends_values x = wrong
alike_above under (leaves i q) ends_values ends_above = overs
alike_above under (leaves i q) ends_values wrong_above = wrong

-- ---- where no value waits above the pushed ones

module _ (lay : Layout) (r : Room) (ws : List ℕ) where
  pub over_none : (us : List ℕ) (n : ℕ) → length us ≡ n → AreSmall us → (low : Firm) (t : State) → AreSame lay r ws [] low t
      → Stands lay r ws n (over_values us low) (above (in_four us) t)
  over_none us n long small low t q = by_values low.values q.waits
    where
      by_values : (vs : List ℕ) → AreAt [] vs t.locals → Stands lay r ws n (record low { values = vs ++ us }) (above (in_four us) t)
      by_values [] at = record { count = long; small = small; waits = ap (λ z. z ++ in_four us) q.none; kept = q.kept; ram = q.ram }
      by_values (v ∷ vs) at = absurd at

  pub to_stands : (n : ℕ) (s : Firm) (d : Deciding State) → Piled lay r ws n empty s d → Stands lay r ws n s d.state
  to_stands n s d q =
      subst (λ z. Stands lay r ws n z d.state) (sym q.high.values)
      (subst (λ z. Stands lay r ws n (over_values q.us q.high.low) z.state) (sym q.high.waits)
      (over_none q.us n q.many q.small q.high.low q.high.deciding.state q.high.there))

  pub from_stands : (n : ℕ) (s : Firm) (d : Deciding State) → Stands lay r ws n s d.state → Piled lay r ws n empty s d
  from_stands n s d q =
      record {
        us = s.values;
        many = q.count;
        small = q.small;
        high = record {
          low = record s { values = [] };
          deciding = record d { state = record d.state { waiting = [] } };
          values = refl;
          waits = ap (λ z. record d { state = record d.state { waiting = z } }) q.waits;
          there = record { waits = tt; kept = q.kept; none = refl; ram = q.ram };
        };
      }

  pub stands_by : (most : ℕ) (shape : Shape) (s : Firm) (d : Deciding State) → AllPushed most shape → OnStack lay r ws most shape s d
      → Stands lay r ws (length shape.homes) s d.state
  stands_by most shape s d all q =
      to_stands (length shape.homes) s d
      (subst (λ z. Piled lay r ws (length z) empty s d) all.older_all
      (subst (λ z. Piled lay r ws (length (older most shape)) z s d) all.newer_none q))

  pub on_stack_by : (most : ℕ) (shape : Shape) (s : Firm) (d : Deciding State) → AllPushed most shape → Stands lay r ws (length shape.homes) s d.state
      → OnStack lay r ws most shape s d
  on_stack_by most shape s d all q =
      subst (λ z. Piled lay r ws (length (older most shape)) z s d) (sym all.newer_none)
      (subst (λ z. Piled lay r ws (length z) empty s d) (sym all.older_all) (from_stands (length shape.homes) s d q))

  -- Where nothing waits both ways to stand for a state are the same.
  pub to_held : (most : ℕ) (s : Firm) (d : Deciding State) → OnStack lay r ws most empty s d → Held lay r ws empty s d
  to_held most s d q = by_stands (stands_by most empty s d (few_pushed most [] (omega arith)) q)
    where
      by_stands : Stands lay r ws 0 s d.state → Held lay r ws empty s d
      by_stands st = by_values s.values (none_is s.values st.count) st.waits
        where
          by_values : (vs : List ℕ) → vs ≡ [] → d.state.waiting ≡ in_four vs → AreSame lay r ws [] (record s { values = vs }) d.state
          by_values [] e w = record { waits = tt; kept = st.kept; none = w; ram = st.ram }
          by_values (v ∷ vs) e w = absurd (grind arith)

  pub from_held : (most : ℕ) (s : Firm) (d : Deciding State) → Held lay r ws empty s d → OnStack lay r ws most empty s d
  from_held most s d q = on_stack_by most empty s d (few_pushed most [] (omega arith)) (by_values s.values q.waits)
    where
      by_values : (vs : List ℕ) → AreAt [] vs d.state.locals → Stands lay r ws 0 (record s { values = vs }) d.state
      by_values [] w = record { count = refl; small = tt; waits = q.none; kept = q.kept; ram = q.ram }
      by_values (v ∷ vs) w = absurd w
