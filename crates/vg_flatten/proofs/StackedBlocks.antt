-- That what code becomes, where the oldest values that wait are pushed, is such a block.
use Rattle.std.specs.Prelude.{ℕ, zero, suc, ◌+◌, ◌-◌, ◌<◌, ◌≤◌, Bool, true, false, ◌&&◌, ◌==◌, nat_lt, nat_le, List, [], ◌∷◌, length, reverse, drop}
use Rattle.std.specs.Prelude.{Option, Some, None, if◌then◌else◌}
use Rattle.std.proofs.Common.{◌≡◌, ◌⊎◌, inl, inr, refl, sym, ap, ◌∙◌, subst, arith}
use Rattle.std.proofs.lemmas.Bool.{false≢true, and_parts}
use Rattle.std.proofs.lemmas.List.{length-drop}
use Rattle.vg_meaning.specs.Code.{Code, Nothing, Then, Do, If, Loop, Break, Continue, Return}
use Rattle.vg_firm.specs.declared.step.Step.{Step}
use Rattle.vg_firm_typed.specs.Steps.{takes}
use Rattle.vg_lin.specs.declared.instr.Operand.{Operand}
use Rattle.vg_lin.specs.declared.instr.Operand.TheVariants.{Local, Known}
use Rattle.vg_lin.specs.declared.instr.Plain.TheVariants.{Push, Pop}
use Rattle.vg_flatten_shapes.specs.declared.fault.Fault.TheVariants.{NotTaken, TooHigh}
use Rattle.vg_flatten_shapes.specs.declared.open.Truth.{Truth}
use Rattle.vg_flatten_shapes.specs.declared.open.Truth.TheVariants.{Fails}
use Rattle.vg_flatten_shapes.specs.declared.layout.Layout.{Layout}
use Rattle.vg_flatten_shapes.specs.declared.room.Room.{Room}
use Rattle.vg_flatten_shapes.specs.Shapes.{Shape, only, empty, is_empty, same_homes, temp}
use Rattle.vg_flatten_shapes.specs.Blocks.{Block, Skip, One, GiveBack, BreakOut, GoOn, Both, Choice, Repeat}
use Rattle.vg_flatten_shapes.specs.Made.{Made, Gives, Refused, behind, after, by_temp, settled, tested, is_zero}
use Rattle.vg_flatten_shapes.proofs.Temps.{temp_is}
use Rattle.vg_flatten_steps.specs.Steps.{stepped}
use Rattle.vg_flatten_control.specs.Flat.{flat, joined, where_empty, repeated, repeated_body, repeated_next, given_back}
use Rattle.vg_flatten_pushed.specs.Pushed.{is_high, newer, older, count_of, all_pushed, onto, pops, popped, lifts, pushed_on, put_back, worked, drawn}
use Rattle.vg_flatten_pushed.specs.Pushed.{step_on, crossed, is_above, done}
use Rattle.vg_flatten_pushed.specs.Pushed.{topped, with_newest, lowered, level_as, raised, pushed_again}
use Rattle.vg_flatten_pushed.specs.Stacked.{is_calm, levelled, ways, by_pushed, by_newer, stacked}
use Rattle.vg_flatten.specs.Loops.{has_loop}
use Rattle.vg_flatten.proofs.Sound.{IsIn, AreIn, IsTruthIn, ShapeIn, MadeIn, in_stepped, in_settled, in_flat, first_of, rest_of}
use Rattle.vg_flatten.proofs.Steady.{IsSteady, steady_step, steady_settled}
use Rattle.vg_flatten.proofs.Calm.{steady_flat}
use Rattle.vg_flatten.proofs.PushedShapes.{low_older, low_newer, empty_older, all_low, not_all_high, high_long, onto_older, onto_newer, Counts}
use Rattle.vg_flatten.proofs.PushedShapes.{settled_counts, crossed_few, crossed_low}
use Rattle.vg_flatten.proofs.PushedBlocks.{BlockOn, MadeOn, steady_on}

le_of : (a b : ℕ) → nat_le a b ≡ true → a ≤ b
le_of a b e = grind arith

same_of : (x y : ℕ) → (x == y) ≡ true → x ≡ y
same_of x y e = grind arith

lt_of : (x y : ℕ) → nat_lt x y ≡ true → x < y
lt_of x y e = grind arith

ge_of : (x y : ℕ) → nat_lt x y ≡ false → y ≤ x
ge_of x y e = grind arith

first_is : (x y : Operand) (xs ys : List Operand) → x ∷ xs ≡ y ∷ ys → x ≡ y
first_is x y xs ys e = cc

popped_in : (size first k : ℕ) → first + k ≤ size → AreIn size (popped first k)
popped_in size first zero le = tt
popped_in size first (suc k) le = (omega (arith, le), popped_in size first k (omega (arith, le)))

some_wait : (a : Operand) (hs : List Operand) → is_empty (only (a ∷ hs)) ≡ false
some_wait a hs = grind arith

module _ (L : Type 0) (lay : Layout) (r : Room) (most : ℕ) where
  abbrev size : ℕ
  size = r.locals + r.temps

  abbrev On : ℕ → Made → Type 0
  On n made = MadeOn L r.result size most n made

  on_behind : (n l : ℕ) (a : Block) (made : Made) → BlockOn L r.result size n l a → On l made → On n (behind a made)
  on_behind n l a (Gives b s) ha hm = ((l, ha, hm.0), hm.1)
  on_behind n l a (Refused why) ha hm = tt

  on_after : (n : ℕ) (made : Made) (more : Shape → Made) → On n made → ((s : Shape) → ShapeIn size (newer most s) → On (length (older most s)) (more s))
      → On n (after made more)
  on_after n (Gives a s) more hm h = on_behind n (length (older most s)) a (more s) hm.0 (h s hm.1)
  on_after n (Refused why) more hm h = tt

  -- where no more values wait than may be pushed
  low_on : (n m : ℕ) (b : Block) (hs : List Operand) → BlockOn L r.result size n m b → m ≡ length hs → length hs ≤ most → On n (Gives b (only hs))
  low_on n m b hs h e le =
      (subst (λ z. BlockOn L r.result size n z b) (e ∙ sym (ap length (low_older most (only hs) le))) h, low_newer size most hs le)

  -- ---- what was made above the pushed values

  onto_on : (os : List Operand) (made : Made) → length os ≡ most → MadeIn L r.result size made → IsSteady made → On (length os) (onto os made)
  onto_on os (Refused why) n h e = tt
  onto_on os (Gives b s) n h e = (
    subst (λ z. BlockOn L r.result size (length os) z b) (sym (ap length (onto_older most s.truth s.homes os n)))
        (steady_on L r.result size (length os) b h.0 e),
    subst (ShapeIn size) (sym (onto_newer most s.truth s.homes os n)) h.1,
  )

  newer_on : (c : Code Step) (s : Shape) → (has_loop c ≡ true → L) → is_calm c ≡ true → is_high most s ≡ true → ShapeIn size (newer most s)
      → On (length (older most s)) (onto (older most s) (flat lay r c (newer most s)))
  newer_on c s l e high h =
      onto_on (older most s) (flat lay r c (newer most s)) (high_long most s high) (in_flat L lay r c (newer most s) l h) (steady_flat lay r c (newer most s) e)

  -- ---- steps

  pops_on : (k j : ℕ) → k ≤ r.temps → BlockOn L r.result size (k + j) j (pops r.locals k)
  pops_on zero j le = omega arith
  pops_on (suc k) j le = (k + j, (refl, omega (arith, le), omega arith), pops_on k j (omega (arith, le)))

  lifts_on : (n first : ℕ) (hs : List Operand) → first + length hs ≤ size → AreIn size hs → BlockOn L r.result size n n (lifts first hs)
  lifts_on n first [] le h = refl
  lifts_on n first (x ∷ hs) le h = (n, ((omega (arith, le), h.0), refl), lifts_on n first hs (omega (arith, le)) h.1)

  pushed_in : (rest hs : List Operand) → length rest < most → AreIn size hs → On (length rest) (pushed_on rest hs)
  pushed_in rest [] lt h = low_on (length rest) (length rest) Skip rest refl refl (omega (arith, lt))
  pushed_in rest (a ∷ []) lt h =
      low_on (length rest) (suc (length rest)) (One (Push 4 a)) (Known 0 ∷ rest) (refl, h.0, refl) refl (omega (arith, lt))
  pushed_in rest (a ∷ b ∷ hs) lt h = tt

  put_in : (rest : List Operand) (y : Made) → length rest < most → MadeIn L r.result size y → IsSteady y
      → On (length rest) (after y (λ s. pushed_on rest s.homes))
  put_in rest (Refused why) lt h e = tt
  put_in rest (Gives b s) lt h e =
      on_behind (length rest) (length rest) b (pushed_on rest s.homes) (steady_on L r.result size (length rest) b h.0 e) (pushed_in rest s.homes lt h.1.0)

  worked_in : (rest : List Operand) (x : Made) → length rest < most → MadeIn L r.result size x → IsSteady x → On (length rest) (after x (put_back r rest))
  worked_in rest (Refused why) lt h e = tt
  worked_in rest (Gives a s) lt h e =
      on_behind (length rest) (length rest) a (put_back r rest s) (steady_on L r.result size (length rest) a h.0 e)
      (put_in rest (settled r s) lt (in_settled L lay r s h.1) (steady_settled r s))

  -- a step on its values, of which the newest were copied up and the others are popped
  step_in : (p : Step) (news os : List Operand) → AreIn size news → length news ≤ takes p → suc (length os) ≤ most + (takes p - length news)
      → On (length os) (step_on lay r p news os)
  step_in p news os hn few low = by_taken (nat_le (takes p) (length news + length os)) refl
    where
      k : ℕ
      k = takes p - length news

      rest : List Operand
      rest = drop k os

      rest_is : k ≤ length os → k + length rest ≡ length os
      rest_is le = let d = length-drop k os in omega (arith, le, d)

      by_room : k ≤ length os → (b : Bool) → nat_le (takes p + 2) r.temps ≡ b
          → On (length os) (if b then after (drawn r k news os) (λ s. worked lay r p s.homes) else Refused TooHigh)
      by_room le true e =
          let room = le_of (takes p + 2) r.temps e in
          let long = rest_is le in
          on_behind (length os) (length rest) (Both (lifts (r.locals + k) news) (pops r.locals k)) (worked lay r p rest) (
            length os,
            lifts_on (length os) (r.locals + k) news (omega (arith, room, few)) hn,
            subst (λ z. BlockOn L r.result size z (length rest) (pops r.locals k)) long (pops_on k (length rest) (omega (arith, room))),
          )
          (worked_in rest (stepped lay r p (popped r.locals (takes p))) (omega (arith, long, low))
          (in_stepped L lay r p (popped r.locals (takes p)) (popped_in size r.locals (takes p) (omega (arith, room))))
          (steady_step lay r p (popped r.locals (takes p))))
      by_room le false e = tt

      with_room : Made
      with_room = if nat_le (takes p + 2) r.temps then after (drawn r k news os) (λ s. worked lay r p s.homes) else Refused TooHigh

      by_taken : (b : Bool) → nat_le (takes p) (length news + length os) ≡ b → On (length os) (if b then with_room else Refused NotTaken)
      by_taken true e =
          let le = le_of (takes p) (length news + length os) e in by_room (omega (arith, le)) (nat_le (takes p + 2) r.temps) refl
      by_taken false e = tt

  crossed_in : (p : Step) (os : List Operand) (n : ℕ) (y : Made) → MadeIn L r.result size y → IsSteady y → Counts n y → n ≤ takes p
      → suc (length os) ≤ most + (takes p - n) → On (length os) (after y (λ s. step_on lay r p s.homes os))
  crossed_in p os n (Refused why) h e c few low = tt
  crossed_in p os n (Gives b s) h e c few low =
      on_behind (length os) (length os) b (step_on lay r p s.homes os) (steady_on L r.result size (length os) b h.0 e)
      (step_in p s.homes os h.1.0 (omega (arith, c, few)) (omega (arith, c, low)))

  done_on : (p : Step) (s : Shape) → ShapeIn size (newer most s) → On (length (older most s)) (done lay r most p s)
  done_on p s h = by_above (is_above most p s) refl
    where
      by_above : (b : Bool) → is_above most p s ≡ b
          → On (length (older most s)) (if b then onto (older most s) (flat lay r (Do p) (newer most s)) else crossed lay r most p s)
      by_above true e = newer_on (Do p) s (λ x. absurd (false≢true x)) refl (and_parts (is_high most s) _ e).0 h
      by_above false e =
          crossed_in p (older most s) (count_of (newer most s)) (settled r (newer most s)) (in_settled L lay r (newer most s) h)
          (steady_settled r (newer most s)) (settled_counts r (newer most s)) (crossed_few most p s e) (crossed_low most p s e)

  -- ---- the newest value, in a temporary

  zero_in : (to : ℕ) → temp r [] ≡ Some to → IsTruthIn size (Fails (is_zero (Local to)))
  zero_in to e = (omega arith, omega arith, temp_in to e, tt)
    where
      temp_in : (to : ℕ) → temp r [] ≡ Some to → to < size
      temp_in to e = let is = (temp_is r [] to e).0 in let lt = (temp_is r [] to e).1 in omega (arith, is, lt)

  -- what is made behind its pop
  with_popped : (n : ℕ) (hs : List Operand) (more : Shape → Made) → n ≡ length hs → length hs ≤ most
      → ((x : Operand) (rest : List Operand) (to : ℕ) → temp r [] ≡ Some to → to < size → suc (length rest) ≤ most
      → On (length rest) (more (only (Local to ∷ rest))))
      → On n (after (topped r hs) more)
  with_popped n [] more e le h = tt
  with_popped n (x ∷ rest) more e le h = by_room (temp r []) refl
    where
      by_room : (o : Option ℕ) → temp r [] ≡ o → On n (after (by_temp o (λ to. Gives (One (Pop 4 to)) (only (Local to ∷ rest)))) more)
      by_room (Some to) et =
          let is = (temp_is r [] to et).0 in
          let lt = (temp_is r [] to et).1 in
          let short : to < size = omega (arith, is, lt) in
          on_behind n (length rest) (One (Pop 4 to)) (more (only (Local to ∷ rest))) (refl, short, e) (h x rest to et short le)
      by_room None et = tt

  with_top : (s : Shape) (more : Shape → Made)
      → ((x : Operand) (rest : List Operand) (to : ℕ) → temp r [] ≡ Some to → to < size → suc (length rest) ≤ most
      → On (length rest) (more (only (Local to ∷ rest))))
      → On (length (older most s)) (after (with_newest r most s) more)
  with_top s more h = by_all (all_pushed most s) refl
    where
      by_all : (b : Bool) → all_pushed most s ≡ b → On (length (older most s)) (after (if b then topped r s.homes else Refused NotTaken) more)
      by_all true e =
          let le = all_low most s e in with_popped (length (older most s)) s.homes more (ap length (low_older most s le)) le h
      by_all false e = tt

  -- behind a way of a choice
  abbrev Levels : ℕ → List Operand → Type 0
  Levels n hs = (length hs ≡ n) ⊎ ((h : Operand) × (rest : List Operand) × (hs ≡ h ∷ rest) × (length rest ≡ n) × IsIn size h)

  abbrev LevelOn : ℕ → Made → Type 0
  LevelOn n (Gives b s) = BlockOn L r.result size n n b × Levels n s.homes
  LevelOn n (Refused why) = Unit {0}

  level_on : (n : ℕ) (y : Made) → On n y → LevelOn n (levelled r most n y)
  level_on n (Refused why) hy = tt
  level_on n (Gives a s) hy = by_all (all_pushed most s) refl
    where
      long : length s.homes ≤ most → BlockOn L r.result size n (length s.homes) a
      long le = subst (λ z. BlockOn L r.result size n (length z) a) (low_older most s le) hy.0

      by_room : length s.homes ≤ most → (x : Operand) (hs : List Operand) → s.homes ≡ x ∷ hs → length hs ≡ n → (o : Option ℕ) → temp r [] ≡ o
          → LevelOn n (behind a (by_temp o (λ to. Gives (One (Pop 4 to)) (only (Local to ∷ hs)))))
      by_room le x hs eh many None et = tt
      by_room le x hs eh many (Some to) et =
          let is = (temp_is r [] to et).0 in
          let lt = (temp_is r [] to et).1 in
          let short : to < size = omega (arith, is, lt) in
          ((length s.homes, long le, (refl, short, ap length eh ∙ ap suc many)), inr (Local to, hs, refl, many, short))

      by_homes : length s.homes ≤ most → (hs : List Operand) → s.homes ≡ hs → LevelOn n (behind a (lowered r n hs))
      by_homes le [] eh = tt
      by_homes le (x ∷ hs) eh = by_many (length hs == n) refl
        where
          by_many : (c : Bool) → (length hs == n) ≡ c
              → LevelOn n (behind a (if c then by_temp (temp r []) (λ to. Gives (One (Pop 4 to)) (only (Local to ∷ hs))) else Refused NotTaken))
          by_many true e = by_room le x hs eh (same_of (length hs) n e) (temp r []) refl
          by_many false e = tt

      by_count : length s.homes ≤ most → (c : Bool) → (length s.homes == n) ≡ c
          → LevelOn n (behind a (if c then Gives Skip (only s.homes) else lowered r n s.homes))
      by_count le true e = ((length s.homes, long le, same_of (length s.homes) n e), inl (same_of (length s.homes) n e))
      by_count le false e = by_homes le s.homes refl

      by_all : (c : Bool) → all_pushed most s ≡ c → LevelOn n (behind a (if c then level_as r n s else Refused NotTaken))
      by_all true e = by_count (all_low most s e) (length s.homes == n) refl
      by_all false e = tt

  joined_on : (n : ℕ) (t : Truth) (y z : Made) → IsTruthIn size t → LevelOn n y → LevelOn n z → LevelOn n (joined t y z)
  joined_on n t (Refused why) z ht hy hz = tt
  joined_on n t (Gives a s) (Refused why) ht hy hz = tt
  joined_on n t (Gives a s) (Gives b s1) ht hy hz = by_homes (same_homes (reverse s.homes) (reverse s1.homes))
    where
      by_homes : (c : Bool) → LevelOn n (if c then Gives (Choice t a b) s else Refused NotTaken)
      by_homes true = ((ht, refl, hy.0, hz.0), hy.1)
      by_homes false = tt

  raised_on : (n : ℕ) (c : Made) → suc n ≤ most → LevelOn n c → On n (after c (raised (suc n)))
  raised_on n (Refused why) le hc = tt
  raised_on n (Gives c s) le hc = on_behind n n c (raised (suc n) s) hc.0 (by_count (nat_lt (length s.homes) (suc n)) refl)
    where
      by_level : (x : Operand) (hs : List Operand) → s.homes ≡ x ∷ hs → suc n ≤ length s.homes → Levels n s.homes
          → On n (Gives (One (Push 4 x)) (only (Known 0 ∷ hs)))
      by_level x hs eh ge (inl e) = absurd (omega (arith, ge, e))
      by_level x hs eh ge (inr (h, rest, e, many, short)) =
          let q : suc (length hs) ≡ suc (length rest) = ap length (sym eh ∙ e) in
          low_on n (suc n) (One (Push 4 x)) (Known 0 ∷ hs) (refl, subst (IsIn size) (sym (first_is x h hs rest (sym eh ∙ e))) short, refl)
          (omega (arith, q, many)) (omega (arith, q, many, le))

      by_homes : (hs : List Operand) → s.homes ≡ hs → suc n ≤ length s.homes → On n (pushed_again hs)
      by_homes [] eh ge = tt
      by_homes (x ∷ hs) eh ge = by_level x hs eh ge hc.1

      stays : nat_lt (length s.homes) (suc n) ≡ true → Levels n s.homes → n ≡ length s.homes
      stays e (inl q) = sym q
      stays e (inr (h, rest, q, many, short)) =
          let lt = lt_of (length s.homes) (suc n) e in let l = ap length q in absurd (omega (arith, lt, l, many))

      by_count : (b : Bool) → nat_lt (length s.homes) (suc n) ≡ b → On n (if b then Gives Skip (only s.homes) else pushed_again s.homes)
      by_count true e = let same = stays e hc.1 in low_on n n Skip s.homes refl same (omega (arith, same, le))
      by_count false e = by_homes s.homes refl (ge_of (length s.homes) (suc n) e)

  pushed_choice : (s : Shape) (f g : Shape → Made)
      → ((rest : List Operand) → suc (length rest) ≤ most → On (length rest) (f (only rest)))
      → ((rest : List Operand) → suc (length rest) ≤ most → On (length rest) (g (only rest)))
      → On (length (older most s)) (by_pushed r most f g s)
  pushed_choice s f g hf hg =
      with_top s (λ s1. after (ways r most (tested s1) f g) (raised (length s1.homes))) (λ x rest to et short le.
      raised_on (length rest)
      (joined (Fails (is_zero (Local to))) (levelled r most (length rest) (f (only rest))) (levelled r most (length rest) (g (only rest)))) le
      (joined_on (length rest) (Fails (is_zero (Local to))) (levelled r most (length rest) (f (only rest))) (levelled r most (length rest) (g (only rest)))
      (zero_in to et) (level_on (length rest) (f (only rest)) (hf rest le)) (level_on (length rest) (g (only rest)) (hg rest le))))

  newer_choice : (a b : Code Step) (s : Shape) → (has_loop (If a b) ≡ true → L) → is_high most s ≡ true → ShapeIn size (newer most s)
      → On (length (older most s)) (by_newer lay r most a b s)
  newer_choice a b s l high h = by_calm (is_calm a && is_calm b) refl
    where
      by_calm : (c : Bool) → (is_calm a && is_calm b) ≡ c
          → On (length (older most s)) (if c then onto (older most s) (flat lay r (If a b) (newer most s)) else Refused NotTaken)
      by_calm true e = newer_on (If a b) s l e high h
      by_calm false e = tt

  choice_on : (s : Shape) (x y : Made) → On (length (older most s)) x → (is_high most s ≡ true → On (length (older most s)) y)
      → On (length (older most s)) (if all_pushed most s then x else y)
  choice_on s x y hx hy = by_all (all_pushed most s) refl
    where
      by_all : (b : Bool) → all_pushed most s ≡ b → On (length (older most s)) (if b then x else y)
      by_all true e = hx
      by_all false e = hy (not_all_high most s e)

  where_on : (s : Shape) (made : Made) → On 0 made → On (length (older most s)) (where_empty s made)
  where_on s made h = by_empty (is_empty s) refl
    where
      by_empty : (c : Bool) → is_empty s ≡ c → On (length (older most s)) (if c then made else Refused NotTaken)
      by_empty true e = subst (λ z. On z made) (sym (empty_older most s e)) h
      by_empty false e = tt

  repeated_on : L → (x y z : Made) → On 0 x → On 0 y → On 0 z → On 0 (repeated (after x (with_newest r most)) y z)
  repeated_on l (Refused why) y z hx hy hz = tt
  repeated_on l (Gives p s) y z hx hy hz = by_all (all_pushed most s) refl
    where
      by_next : (q : Block) (t : Truth) → BlockOn L r.result size 0 0 q → IsTruthIn size t → (b : Block) → BlockOn L r.result size 0 0 b → (w : Made) → On 0 w
          → On 0 (repeated_next q t b w)
      by_next q t hq ht b hb (Refused why) hw = tt
      by_next q t hq ht b hb (Gives c s2) hw = by_empty (is_empty s2) refl
        where
          by_empty : (e : Bool) → is_empty s2 ≡ e → On 0 (if e then Gives (Repeat q t b c) empty else Refused NotTaken)
          by_empty true e =
              low_on 0 0 (Repeat q t b c) []
              (ht, (refl, refl), hq, hb, subst (λ n. BlockOn L r.result size 0 n c) (empty_older most s2 e) hw.0, l) refl (omega arith)
          by_empty false e = tt

      by_body : (q : Block) (t : Truth) → BlockOn L r.result size 0 0 q → IsTruthIn size t → (v : Made) → On 0 v → On 0 (repeated_body q t v z)
      by_body q t hq ht (Refused why) hv = tt
      by_body q t hq ht (Gives b s1) hv = by_empty (is_empty s1) refl
        where
          by_empty : (e : Bool) → is_empty s1 ≡ e → On 0 (if e then repeated_next q t b z else Refused NotTaken)
          by_empty true e = by_next q t hq ht b (subst (λ n. BlockOn L r.result size 0 n b) (empty_older most s1 e) hv.0) z hz
          by_empty false e = tt

      by_room : length s.homes ≤ most → (x : Operand) (hs : List Operand) → s.homes ≡ x ∷ hs → (o : Option ℕ) → temp r [] ≡ o
          → On 0 (repeated (behind p (by_temp o (λ to. Gives (One (Pop 4 to)) (only (Local to ∷ hs))))) y z)
      by_room le x hs eh None et = tt
      by_room le x (a ∷ hs) eh (Some to) et = refused (is_empty (only (a ∷ hs))) (some_wait a hs)
        where
          refused : (c : Bool) → c ≡ false
              → On 0 (if c then repeated_body (Both p (One (Pop 4 to))) (Fails (is_zero (Local to))) y z else Refused NotTaken)
          refused true e = absurd (grind arith)
          refused false e = tt
      by_room le x [] eh (Some to) et =
          let is = (temp_is r [] to et).0 in
          let lt = (temp_is r [] to et).1 in
          by_body (Both p (One (Pop 4 to))) (Fails (is_zero (Local to)))
          (1, subst (λ z. BlockOn L r.result size 0 (length z) p) (low_older most s le ∙ eh) hx.0, (refl, omega (arith, is, lt), refl))
          (zero_in to et) y hy

      by_homes : length s.homes ≤ most → (hs : List Operand) → s.homes ≡ hs → On 0 (repeated (behind p (topped r hs)) y z)
      by_homes le [] eh = tt
      by_homes le (x ∷ hs) eh = by_room le x hs eh (temp r []) refl

      by_all : (b : Bool) → all_pushed most s ≡ b → On 0 (repeated (behind p (if b then topped r s.homes else Refused NotTaken)) y z)
      by_all true e = by_homes (all_low most s e) s.homes refl
      by_all false e = tt

  low_in : (rest : List Operand) → suc (length rest) ≤ most → ShapeIn size (newer most (only rest))
  low_in rest le = low_newer size most rest (omega (arith, le))

  -- code from where as many values are pushed as there are rest
  low_rest : (rest : List Operand) (made : Made) → suc (length rest) ≤ most → On (length (older most (only rest))) made → On (length rest) made
  low_rest rest made le h = subst (λ z. On (length z) made) (low_older most (only rest) (omega (arith, le))) h

  empty_in : ShapeIn size (newer most empty)
  empty_in = low_newer size most [] (omega arith)

  from_empty : (made : Made) → On (length (older most empty)) made → On 0 made
  from_empty made h = subst (λ z. On z made) (empty_older most empty refl) h

  pub stacked_on : (c : Code Step) (s : Shape) → (has_loop c ≡ true → L) → ShapeIn size (newer most s) → On (length (older most s)) (stacked lay r most c s)
  stacked_on Nothing s l h = (refl, h)
  stacked_on (Then a b) s l h =
      on_after (length (older most s)) (stacked lay r most a s) (stacked lay r most b) (stacked_on a s (first_of L lay r (has_loop a) (has_loop b) l) h)
      (λ s1 h1. stacked_on b s1 (rest_of L lay r (has_loop a) (has_loop b) l) h1)
  stacked_on (Do q) s l h = done_on q s h
  stacked_on (If a b) s l h =
      choice_on s (by_pushed r most (stacked lay r most a) (stacked lay r most b) s) (by_newer lay r most a b s)
      (pushed_choice s (stacked lay r most a) (stacked lay r most b)
      (λ rest le. low_rest rest (stacked lay r most a (only rest)) le
      (stacked_on a (only rest) (first_of L lay r (has_loop a) (has_loop b) l) (low_in rest le)))
      (λ rest le. low_rest rest (stacked lay r most b (only rest)) le
      (stacked_on b (only rest) (rest_of L lay r (has_loop a) (has_loop b) l) (low_in rest le))))
      (λ high. newer_choice a b s l high h)
  stacked_on (Loop c body next) s l h =
      where_on s (repeated (after (stacked lay r most c empty) (with_newest r most)) (stacked lay r most body empty) (stacked lay r most next empty))
      (repeated_on (l refl) (stacked lay r most c empty) (stacked lay r most body empty) (stacked lay r most next empty)
      (from_empty (stacked lay r most c empty) (stacked_on c empty (λ e. l refl) empty_in))
      (from_empty (stacked lay r most body empty) (stacked_on body empty (λ e. l refl) empty_in))
      (from_empty (stacked lay r most next empty) (stacked_on next empty (λ e. l refl) empty_in)))
  stacked_on Break s l h = where_on s (Gives BreakOut empty) (low_on 0 0 BreakOut [] (refl, refl) refl (omega arith))
  stacked_on Continue s l h = where_on s (Gives GoOn empty) (low_on 0 0 GoOn [] (refl, refl) refl (omega arith))
  stacked_on Return s l h = with_top s (λ s1. given_back r s1.homes) (λ x rest to et short le. given rest to short)
    where
      given : (rest : List Operand) (to : ℕ) → to < size → On (length rest) (given_back r (Local to ∷ rest))
      given [] to short = low_on 0 0 (GiveBack r.result (Local to)) [] (refl, refl, refl, short) refl (omega arith)
      given (a ∷ rest) to short = tt

  -- a whole body, from where no value waits
  pub body_on : (c : Code Step) → (has_loop c ≡ true → L) → On 0 (stacked lay r most c empty)
  body_on c l = from_empty (stacked lay r most c empty) (stacked_on c empty l empty_in)
