-- How many values are pushed before and behind what code becomes, where the oldest that wait are pushed, so many of them at most.
use Rattle.std.specs.Prelude.{ℕ, zero, suc, ◌+◌, ◌-◌, ◌<◌, ◌≤◌, Bool, true, false, ◌&&◌, ◌==◌, nat_lt, nat_le, Option, Some, None, if◌then◌else◌}
use Rattle.std.specs.Prelude.{List, [], ◌∷◌, ◌++◌, length, reverse, take, drop}
use Rattle.std.proofs.Common.{◌≡◌, ◌⊎◌, inl, inr, refl, sym, ap, ◌∙◌, subst, arith}
use Rattle.std.proofs.Math.Seq.{take-append_seam}
use Rattle.std.proofs.lemmas.List.{length-append, length-drop, length-take}
use Rattle.vg_meaning.specs.Code.{Code, Nothing, Then, Do, If, Loop, Break, Continue, Return}
use Rattle.vg_firm.specs.declared.step.Step.{Step}
use Rattle.vg_firm_typed.specs.Steps.{takes}
use Rattle.vg_lin.specs.declared.instr.Operand.{Operand}
use Rattle.vg_lin.specs.declared.instr.Operand.TheVariants.{Local, Known}
use Rattle.vg_lin.specs.declared.instr.Plain.TheVariants.{Copy, Push, Pop}
use Rattle.vg_flatten_shapes.specs.declared.fault.Fault.{Fault}
use Rattle.vg_flatten_shapes.specs.declared.fault.Fault.TheVariants.{NotTaken, TooHigh}
use Rattle.vg_flatten_shapes.specs.declared.open.Truth.{Truth}
use Rattle.vg_flatten_shapes.specs.declared.open.Truth.TheVariants.{Fails}
use Rattle.vg_flatten_shapes.specs.declared.layout.Layout.{Layout}
use Rattle.vg_flatten_shapes.specs.declared.room.Room.{Room}
use Rattle.vg_flatten_shapes.specs.Shapes.{Shape, only, empty, is_empty, same_homes, temp}
use Rattle.vg_flatten_shapes.specs.Blocks.{Block, Skip, One, GiveBack, BreakOut, GoOn, Both, Choice, Repeat}
use Rattle.vg_flatten_shapes.specs.Made.{Made, Gives, Refused, behind, after, by_temp, settled, settled_as, tested, is_zero}
use Rattle.vg_flatten_steps.specs.Steps.{stepped}
use Rattle.vg_flatten_control.specs.Flat.{flat, joined, where_empty, repeated, repeated_body, repeated_next, given_back}
use Rattle.vg_flatten_pushed.specs.Pushed.{is_high, newer, older, count_of, all_pushed, onto, pops, popped, lifts, pushed_on, put_back, worked, drawn, step_on}
use Rattle.vg_flatten_pushed.specs.Pushed.{crossed, is_above, done, topped, with_newest, lowered, level_as, raised, pushed_again}
use Rattle.vg_flatten_pushed.specs.Stacked.{is_calm, levelled, ways, by_pushed, by_newer, stacked}
use Rattle.vg_flatten.proofs.Sound.{AreIn, ShapeIn, MadeIn, in_flat, in_stepped}
use Rattle.vg_flatten.proofs.PushedShapes.{none_waits}
use Rattle.vg_flat_frames.proofs.Keeping.{Pushes, block_pushes}

le_of : (a b : ℕ) → nat_le a b ≡ true → a ≤ b
le_of a b e = grind arith

more_than : (a b : ℕ) → nat_le a b ≡ false → b < a
more_than a b e = grind arith

lt_of : (a b : ℕ) → nat_lt a b ≡ true → a < b
lt_of a b e = grind arith

ge_of : (a b : ℕ) → nat_lt a b ≡ false → b ≤ a
ge_of a b e = grind arith

same_of : (a b : ℕ) → (a == b) ≡ true → a ≡ b
same_of a b e = grind arith

true_of : (a b : ℕ) → a ≤ b → nat_le a b ≡ true
true_of a b h = grind (arith, h)

first_true : (a b : Bool) → (a && b) ≡ true → a ≡ true
first_true true b e = refl
first_true false b e = absurd (grind arith)

popped_in : (size first n : ℕ) → first + n ≤ size → AreIn size (popped first n)
popped_in size first zero le = tt
popped_in size first (suc n) le = (omega (arith, le), popped_in size first n (omega (arith, le)))

module _ (most : ℕ) where
  -- so many of these are pushed
  abbrev below : List Operand → ℕ
  below hs = length (drop (length hs - most) hs)

  below_few : (hs : List Operand) → below hs ≤ most
  below_few hs = let l = length-drop (length hs - most) hs in omega (arith, l)

  below_all : (hs : List Operand) → length hs ≤ most → below hs ≡ length hs
  below_all hs le = let l = length-drop (length hs - most) hs in omega (arith, l, le)

  below_most : (hs : List Operand) → most ≤ length hs → below hs ≡ most
  below_most hs le = let l = length-drop (length hs - most) hs in omega (arith, l, le)

  -- Where nothing is newer than the pushed values, no more wait than may be pushed; else at least as many do.
  all_low : (s : Shape) → all_pushed most s ≡ true → length s.homes ≤ most
  all_low s e = by_high (is_high most s) refl e
    where
      by_high : (b : Bool) → is_high most s ≡ b
          → (count_of (if b then record { truth = s.truth; homes = take (length s.homes - most) s.homes } else empty) == 0) ≡ true → length s.homes ≤ most
      by_high true h g =
          let none = same_of (count_of (record { truth = s.truth; homes = take (length s.homes - most) s.homes })) 0 g in
          let l = length-take (length s.homes - most) s.homes in omega (arith, none, l)
      by_high false h g = let lt = more_than most (length s.homes) h in omega (arith, lt)

  newer_high : (s : Shape) → all_pushed most s ≡ false → is_high most s ≡ true
  newer_high s e = by_high (is_high most s) e
    where
      by_high : (b : Bool) → (count_of (if b then record { truth = s.truth; homes = take (length s.homes - most) s.homes } else empty) == 0) ≡ false → b ≡ true
      by_high true g = refl
      by_high false g = absurd (grind arith)

  -- Where a step does not work above the pushed values, it takes more than the newer ones, or fewer are pushed than may be.
  not_above : (p : Step) (s : Shape) → is_above most p s ≡ false → (count_of (newer most s) < takes p) ⊎ (below s.homes < most)
  not_above p s e = by_high (is_high most s) refl e
    where
      by_high : (b : Bool) → is_high most s ≡ b → (b && nat_le (takes p) (count_of (newer most s))) ≡ false
          → (count_of (newer most s) < takes p) ⊎ (below s.homes < most)
      by_high true h g = inl (more_than (takes p) (count_of (newer most s)) g)
      by_high false h g =
          let lt = more_than most (length s.homes) h in let l = length-drop (length s.homes - most) s.homes in inr (omega (arith, lt, l))

module _ (lay : Layout) (r : Room) (most : ℕ) where
  abbrev size : ℕ
  size = r.locals + r.temps

  -- The homes above the pushed ones are in range.
  abbrev pub NewerIn : Shape → Type 0
  NewerIn s = ShapeIn size (newer most s)

  -- So many values are pushed before what was made, and behind it those of the shape.
  abbrev pub MadePushes : ℕ → Made → Type 0
  MadePushes n (Gives b s) = Pushes most n (below most s.homes) b × NewerIn s
  MadePushes n (Refused why) = Unit {0}

  pushes_behind : (n l : ℕ) (a : Block) (made : Made) → Pushes most n l a → MadePushes l made → MadePushes n (behind a made)
  pushes_behind n l a (Gives b s) ha hm = ((l, ha, hm.0), hm.1)
  pushes_behind n l a (Refused why) ha hm = tt

  pushes_after : (n : ℕ) (made : Made) (more : Shape → Made) → MadePushes n made → ((s : Shape) → NewerIn s → MadePushes (below most s.homes) (more s))
      → MadePushes n (after made more)
  pushes_after n (Gives a s) more hm h = pushes_behind n (below most s.homes) a (more s) hm.0 (h s hm.1)
  pushes_after n (Refused why) more hm h = tt

  pushes_if : (n : ℕ) (b : Bool) (made : Made) (why : Fault) → (b ≡ true → MadePushes n made) → MadePushes n (if b then made else Refused why)
  pushes_if n true made why h = h refl
  pushes_if n false made why h = tt

  -- ---- shapes

  -- nothing is newer where no more wait than are pushed
  low_in : (hs : List Operand) → length hs ≤ most → NewerIn (only hs)
  low_in hs le = by_high (nat_le most (length hs))
    where
      by_high : (b : Bool) → ShapeIn size (if b then record { truth = None; homes = take (length hs - most) hs } else empty)
      by_high true = let none : 0 ≡ length hs - most = omega (arith, le) in (subst (λ z. AreIn size (take z hs)) none tt, tt)
      by_high false = (tt, tt)

  low_made : (n : ℕ) (b : Block) (hs : List Operand) → length hs ≤ most → Pushes most n (length hs) b → MadePushes n (Gives b (only hs))
  low_made n b hs le h = (subst (λ z. Pushes most n z b) (sym (below_all most hs le)) h, low_in hs le)

  low_start : (hs : List Operand) (made : Made) → length hs ≤ most → MadePushes (below most hs) made → MadePushes (length hs) made
  low_start hs made le h = subst (λ z. MadePushes z made) (below_all most hs le) h

  none_pushed : (s : Shape) → is_empty s ≡ true → below most s.homes ≡ 0
  none_pushed s e = let none = none_waits s e in let l = length-drop (length s.homes - most) s.homes in omega (arith, none, l)

  -- what was made of the newer values, with homes of their own, stands above the pushed ones
  onto_pushes : (s : Shape) → is_high most s ≡ true → (made : Made) → MadeIn (Unit {0}) r.result size made
      → MadePushes (below most s.homes) (onto (older most s) made)
  onto_pushes s high (Refused why) h = tt
  onto_pushes s high (Gives b t) h = (
    subst (λ z. Pushes most (below most s.homes) z b) (as_many ∙ sym full) (block_pushes (Unit {0}) r.result size most (below most s.homes) b h.0),
    by_high (nat_le most (length hs)) (true_of most (length hs) long),
  )
    where
      hs : List Operand
      hs = t.homes ++ older most s

      as_many : below most s.homes ≡ most
      as_many = below_most most s.homes (le_of most (length s.homes) high)

      whole : length hs ≡ length t.homes + most
      whole = length-append t.homes (older most s) ∙ ap (λ z. length t.homes + z) as_many

      long : most ≤ length hs
      long = let l = whole in omega (arith, l)

      full : below most hs ≡ most
      full = below_most most hs long

      news : take (length hs - most) hs ≡ t.homes
      news = ap (λ z. take z hs) count ∙ take-append_seam t.homes (older most s)
        where
          count : length hs - most ≡ length t.homes
          count = let l = whole in omega (arith, l)

      by_high : (c : Bool) → c ≡ true → ShapeIn size (if c then record { truth = t.truth; homes = take (length hs - most) hs } else empty)
      by_high true e = (subst (AreIn size) (sym news) h.1.0, h.1.1)
      by_high false e = absurd (grind arith)

  -- ---- steps

  -- A test becomes a value, and nothing is pushed.
  abbrev Settles : Shape → Made → Type 0
  Settles s (Gives b t) = ((n : ℕ) → Pushes most n n b) × (length t.homes ≡ count_of s)
  Settles s (Refused why) = Unit {0}

  settles : (s : Shape) → Settles s (settled r s)
  settles s = by_truth s.truth
    where
      by_room : (t : Truth) (o : Option ℕ) → Settles (record { truth = Some t; homes = s.homes })
          (by_temp o (λ to. Gives (Choice t (One (Copy to (Known 1))) (One (Copy to (Known 0)))) (only (Local to ∷ s.homes))))
      by_room t (Some to) = ((λ n. (refl, refl, refl)), omega arith)
      by_room t None = tt

      by_truth : (o : Option Truth) → Settles (record { truth = o; homes = s.homes }) (settled_as r o s.homes)
      by_truth None = ((λ n. refl), omega arith)
      by_truth (Some t) = by_room t (temp r s.homes)

  lifts_push : (first n : ℕ) (hs : List Operand) → Pushes most n n (lifts first hs)
  lifts_push first n [] = refl
  lifts_push first n (h ∷ hs) = (n, refl, lifts_push first n hs)

  pops_push : (first k j : ℕ) → Pushes most (k + j) j (pops first k)
  pops_push first zero j = omega arith
  pops_push first (suc k) j = (k + j, omega arith, pops_push first k j)

  result_pushes : (rest hs : List Operand) → length rest < most → MadePushes (length rest) (pushed_on rest hs)
  result_pushes rest [] lt = low_made (length rest) Skip rest (omega (arith, lt)) refl
  result_pushes rest (h ∷ []) lt = low_made (length rest) (One (Push 4 h)) (Known 0 ∷ rest) (omega (arith, lt)) (refl, refl, omega (arith, lt))
  result_pushes rest (h ∷ i ∷ hs) lt = tt

  back_pushes : (rest : List Operand) (s : Shape) → length rest < most → MadePushes (length rest) (put_back r rest s)
  back_pushes rest s lt = by_settled (settled r s) (settles s)
    where
      by_settled : (made : Made) → Settles s made → MadePushes (length rest) (after made (λ s1. pushed_on rest s1.homes))
      by_settled (Refused why) h = tt
      by_settled (Gives b t) h = pushes_behind (length rest) (length rest) b (pushed_on rest t.homes) (h.0 (length rest)) (result_pushes rest t.homes lt)

  worked_pushes : (p : Step) (rest : List Operand) → takes p ≤ r.temps → length rest < most → MadePushes (length rest) (worked lay r p rest)
  worked_pushes p rest room lt =
      by_step (stepped lay r p hs) (in_stepped (Unit {0}) lay r p hs (popped_in size r.locals (takes p) (omega (arith, room))))
    where
      hs : List Operand
      hs = popped r.locals (takes p)

      by_step : (made : Made) → MadeIn (Unit {0}) r.result size made → MadePushes (length rest) (after made (put_back r rest))
      by_step (Refused why) h = tt
      by_step (Gives b t) h =
          pushes_behind (length rest) (length rest) b (put_back r rest t) (block_pushes (Unit {0}) r.result size most (length rest) b h.0)
          (back_pushes rest t lt)

  step_pushes : (p : Step) (news os : List Operand) → (takes p ≤ length news + length os → length os - (takes p - length news) < most)
      → MadePushes (length os) (step_on lay r p news os)
  step_pushes p news os few =
      pushes_if (length os) (nat_le (takes p) (length news + length os)) _ NotTaken (λ e. by_taken (le_of (takes p) (length news + length os) e))
    where
      k : ℕ
      k = takes p - length news

      rest : List Operand
      rest = drop k os

      left : length rest ≡ length os - k
      left = length-drop k os

      by_taken : takes p ≤ length news + length os
          → MadePushes (length os) (if nat_le (takes p + 2) r.temps then after (drawn r k news os) (λ s. worked lay r p s.homes) else Refused TooHigh)
      by_taken le =
          pushes_if (length os) (nat_le (takes p + 2) r.temps) _ TooHigh (λ e.
          pushes_behind (length os) (length rest) (Both (lifts (r.locals + k) news) (pops r.locals k)) (worked lay r p rest) (
            length os,
            lifts_push (r.locals + k) (length os) news,
            subst (λ z. Pushes most z (length rest) (pops r.locals k)) whole (pops_push r.locals k (length rest)),
          )
          (worked_pushes p rest (let room = le_of (takes p + 2) r.temps e in omega (arith, room)) (let lt = few le in let l = left in omega (arith, lt, l))))
        where
          whole : k + length rest ≡ length os
          whole = let l = left in omega (arith, l, le)

  crossed_pushes : (p : Step) (s : Shape) → is_above most p s ≡ false → MadePushes (below most s.homes) (crossed lay r most p s)
  crossed_pushes p s e = by_settled (settled r (newer most s)) (settles (newer most s))
    where
      room : (n m : ℕ) → n ≡ count_of (newer most s) → m ≡ below most s.homes → takes p ≤ n + m → m - (takes p - n) < most
      room n m en em le = by_few (not_above most p s e)
        where
          by_few : (count_of (newer most s) < takes p) ⊎ (below most s.homes < most) → m - (takes p - n) < most
          by_few (inl lt) = let all = below_few most s.homes in omega (arith, en, em, le, lt, all)
          by_few (inr lt) = omega (arith, em, lt)

      by_settled : (made : Made) → Settles (newer most s) made → MadePushes (below most s.homes) (after made (λ s1. step_on lay r p s1.homes (older most s)))
      by_settled (Refused why) h = tt
      by_settled (Gives b t) h =
          pushes_behind (below most s.homes) (below most s.homes) b (step_on lay r p t.homes (older most s)) (h.0 (below most s.homes))
          (step_pushes p t.homes (older most s) (room (length t.homes) (length (older most s)) h.1 refl))

  done_pushes : (p : Step) (s : Shape) → NewerIn s → MadePushes (below most s.homes) (done lay r most p s)
  done_pushes p s h = by_above (is_above most p s) refl
    where
      by_above : (b : Bool) → is_above most p s ≡ b
          → MadePushes (below most s.homes) (if b then onto (older most s) (flat lay r (Do p) (newer most s)) else crossed lay r most p s)
      by_above true e =
          onto_pushes s (first_true (is_high most s) _ e) (flat lay r (Do p) (newer most s)) (in_flat (Unit {0}) lay r (Do p) (newer most s) (λ l. tt) h)
      by_above false e = crossed_pushes p s e

  -- ---- the newest value, in a temporary

  top_pushes : (n : ℕ) (hs : List Operand) (more : Shape → Made) → n ≡ length hs → length hs ≤ most
      → ((rest : List Operand) (to : ℕ) → length rest < most → MadePushes (length rest) (more (only (Local to ∷ rest))))
      → MadePushes n (after (topped r hs) more)
  top_pushes n [] more e le h = tt
  top_pushes n (x ∷ rest) more e le h = by_room (temp r [])
    where
      by_room : (o : Option ℕ) → MadePushes n (after (by_temp o (λ to. Gives (One (Pop 4 to)) (only (Local to ∷ rest)))) more)
      by_room (Some to) = pushes_behind n (length rest) (One (Pop 4 to)) (more (only (Local to ∷ rest))) e (h rest to (omega (arith, le)))
      by_room None = tt

  newest_pushes : (s : Shape) (more : Shape → Made)
      → ((rest : List Operand) (to : ℕ) → length rest < most → MadePushes (length rest) (more (only (Local to ∷ rest))))
      → MadePushes (below most s.homes) (after (with_newest r most s) more)
  newest_pushes s more h = by_all (all_pushed most s) refl
    where
      by_all : (b : Bool) → all_pushed most s ≡ b → MadePushes (below most s.homes) (after (if b then topped r s.homes else Refused NotTaken) more)
      by_all true e = let le = all_low most s e in top_pushes (below most s.homes) s.homes more (below_all most s.homes le) le h
      by_all false e = tt

  -- ---- choices by pushed values

  -- Behind a way, its value may be in the first temporary.
  abbrev LevelPushes : ℕ → Made → Type 0
  LevelPushes n (Gives b s) = Pushes most n n b × ((length s.homes ≡ n) ⊎ (length s.homes ≡ suc n))
  LevelPushes n (Refused why) = Unit {0}

  level_pushes : (n : ℕ) (y : Made) → MadePushes n y → LevelPushes n (levelled r most n y)
  level_pushes n (Refused why) hy = tt
  level_pushes n (Gives a s) hy = by_all (all_pushed most s) refl
    where
      by_homes : (hs : List Operand) → below most s.homes ≡ length hs → LevelPushes n (behind a (lowered r n hs))
      by_homes [] all = tt
      by_homes (x ∷ hs) all = by_many (length hs == n) refl
        where
          by_room : length hs ≡ n → (o : Option ℕ) → LevelPushes n (behind a (by_temp o (λ to. Gives (One (Pop 4 to)) (only (Local to ∷ hs)))))
          by_room many None = tt
          by_room many (Some to) = ((below most s.homes, hy.0, all ∙ ap suc many), inr (ap suc many))

          by_many : (c : Bool) → (length hs == n) ≡ c
              → LevelPushes n (behind a (if c then by_temp (temp r []) (λ to. Gives (One (Pop 4 to)) (only (Local to ∷ hs))) else Refused NotTaken))
          by_many true e = by_room (same_of (length hs) n e) (temp r [])
          by_many false e = tt

      by_count : below most s.homes ≡ length s.homes → (c : Bool) → (length s.homes == n) ≡ c
          → LevelPushes n (behind a (if c then Gives Skip (only s.homes) else lowered r n s.homes))
      by_count all true e = let same = same_of (length s.homes) n e in ((below most s.homes, hy.0, all ∙ same), inl same)
      by_count all false e = by_homes s.homes all

      by_all : (b : Bool) → all_pushed most s ≡ b → LevelPushes n (behind a (if b then level_as r n s else Refused NotTaken))
      by_all true e = by_count (below_all most s.homes (all_low most s e)) (length s.homes == n) refl
      by_all false e = tt

  joined_pushes : (n : ℕ) (t : Truth) (y z : Made) → LevelPushes n y → LevelPushes n z → LevelPushes n (joined t y z)
  joined_pushes n t (Refused why) z hy hz = tt
  joined_pushes n t (Gives a s) (Refused why) hy hz = tt
  joined_pushes n t (Gives a s) (Gives b s1) hy hz = by_homes (same_homes (reverse s.homes) (reverse s1.homes))
    where
      by_homes : (c : Bool) → LevelPushes n (if c then Gives (Choice t a b) s else Refused NotTaken)
      by_homes true = ((refl, hy.0, hz.0), hy.1)
      by_homes false = tt

  raised_pushes : (n : ℕ) (c : Made) → n < most → LevelPushes n c → MadePushes n (after c (raised (suc n)))
  raised_pushes n (Refused why) lt hc = tt
  raised_pushes n (Gives c s) lt hc = pushes_behind n n c (raised (suc n) s) hc.0 (by_count (nat_lt (length s.homes) (suc n)) refl hc.1)
    where
      by_homes : (hs : List Operand) → length hs ≡ suc n → MadePushes n (pushed_again hs)
      by_homes [] e = tt
      by_homes (x ∷ hs) e =
          low_made n (One (Push 4 x)) (Known 0 ∷ hs) (omega (arith, e, lt)) (refl, omega (arith, e), omega (arith, e, lt))

      by_count : (b : Bool) → nat_lt (length s.homes) (suc n) ≡ b → (length s.homes ≡ n) ⊎ (length s.homes ≡ suc n)
          → MadePushes n (if b then Gives Skip (only s.homes) else pushed_again s.homes)
      by_count true e (inl same) = low_made n Skip s.homes (omega (arith, same, lt)) (sym same)
      by_count true e (inr more) = let few = lt_of (length s.homes) (suc n) e in absurd (omega (arith, few, more))
      by_count false e (inl same) = let many = ge_of (length s.homes) (suc n) e in absurd (omega (arith, many, same))
      by_count false e (inr more) = by_homes s.homes more

  -- ---- loops

  where_pushes : (s : Shape) (made : Made) → MadePushes 0 made → MadePushes (below most s.homes) (where_empty s made)
  where_pushes s made h =
      pushes_if (below most s.homes) (is_empty s) made NotTaken (λ e. subst (λ z. MadePushes z made) (sym (none_pushed s e)) h)

  next_pushes : (q : Block) (t : Truth) (b : Block) (w : Made) → Pushes most 0 0 q → Pushes most 0 0 b → MadePushes 0 w → MadePushes 0 (repeated_next q t b w)
  next_pushes q t b (Refused why) hq hb hw = tt
  next_pushes q t b (Gives c s) hq hb hw =
      pushes_if 0 (is_empty s) (Gives (Repeat q t b c) empty) NotTaken (λ e.
      low_made 0 (Repeat q t b c) [] (omega arith) (refl, hq, hb, subst (λ z. Pushes most 0 z c) (none_pushed s e) hw.0))

  body_pushes : (q : Block) (t : Truth) (v w : Made) → Pushes most 0 0 q → MadePushes 0 v → MadePushes 0 w → MadePushes 0 (repeated_body q t v w)
  body_pushes q t (Refused why) w hq hv hw = tt
  body_pushes q t (Gives b s) w hq hv hw =
      pushes_if 0 (is_empty s) (repeated_next q t b w) NotTaken (λ e.
      next_pushes q t b w hq (subst (λ z. Pushes most 0 z b) (none_pushed s e) hv.0) hw)

  repeated_pushes : (x y z : Made) → MadePushes 0 x → MadePushes 0 y → MadePushes 0 z → MadePushes 0 (repeated (after x (with_newest r most)) y z)
  repeated_pushes (Refused why) y z hx hy hz = tt
  repeated_pushes (Gives p s) y z hx hy hz = by_all (all_pushed most s) refl
    where
      by_room : (hs : List Operand) → below most s.homes ≡ suc (length hs) → (o : Option ℕ)
          → MadePushes 0 (repeated (behind p (by_temp o (λ to. Gives (One (Pop 4 to)) (only (Local to ∷ hs))))) y z)
      by_room hs all None = tt
      by_room hs all (Some to) =
          pushes_if 0 (is_empty (only hs)) (repeated_body (Both p (One (Pop 4 to))) (Fails (is_zero (Local to))) y z) NotTaken (λ e.
          body_pushes (Both p (One (Pop 4 to))) (Fails (is_zero (Local to))) y z
          (below most s.homes, hx.0, all ∙ ap suc (none_waits (only hs) e)) hy hz)

      by_homes : (hs : List Operand) → below most s.homes ≡ length hs → MadePushes 0 (repeated (behind p (topped r hs)) y z)
      by_homes [] all = tt
      by_homes (x ∷ hs) all = by_room hs all (temp r [])

      by_all : (b : Bool) → all_pushed most s ≡ b → MadePushes 0 (repeated (behind p (if b then topped r s.homes else Refused NotTaken)) y z)
      by_all true e = by_homes s.homes (below_all most s.homes (all_low most s e))
      by_all false e = tt

  -- ---- code

  -- a way of a choice by a pushed value
  way_pushes : (f : Shape → Made) → ((s : Shape) → NewerIn s → MadePushes (below most s.homes) (f s)) → (rest : List Operand) → length rest < most
      → LevelPushes (length rest) (levelled r most (length rest) (f (only rest)))
  way_pushes f h rest lt =
      level_pushes (length rest) (f (only rest)) (low_start rest (f (only rest)) (omega (arith, lt)) (h (only rest) (low_in rest (omega (arith, lt)))))

  by_pushed_pushes : (f g : Shape → Made) (s : Shape) → ((z : Shape) → NewerIn z → MadePushes (below most z.homes) (f z))
      → ((z : Shape) → NewerIn z → MadePushes (below most z.homes) (g z)) → MadePushes (below most s.homes) (by_pushed r most f g s)
  by_pushed_pushes f g s hf hg =
      newest_pushes s (λ s1. after (ways r most (tested s1) f g) (raised (length s1.homes))) (λ rest to lt.
      raised_pushes (length rest)
      (joined (Fails (is_zero (Local to))) (levelled r most (length rest) (f (only rest))) (levelled r most (length rest) (g (only rest)))) lt
      (joined_pushes (length rest) (Fails (is_zero (Local to))) (levelled r most (length rest) (f (only rest)))
      (levelled r most (length rest) (g (only rest))) (way_pushes f hf rest lt) (way_pushes g hg rest lt)))

  by_newer_pushes : (a b : Code Step) (s : Shape) → is_high most s ≡ true → NewerIn s → MadePushes (below most s.homes) (by_newer lay r most a b s)
  by_newer_pushes a b s high h =
      pushes_if (below most s.homes) (is_calm a && is_calm b) (onto (older most s) (flat lay r (If a b) (newer most s))) NotTaken (λ e.
      onto_pushes s high (flat lay r (If a b) (newer most s)) (in_flat (Unit {0}) lay r (If a b) (newer most s) (λ l. tt) h))

  choice_pushes : (a b : Code Step) (s : Shape) → NewerIn s → ((z : Shape) → NewerIn z → MadePushes (below most z.homes) (stacked lay r most a z))
      → ((z : Shape) → NewerIn z → MadePushes (below most z.homes) (stacked lay r most b z)) → MadePushes (below most s.homes) (stacked lay r most (If a b) s)
  choice_pushes a b s h ha hb = by_all (all_pushed most s) refl
    where
      by_all : (c : Bool) → all_pushed most s ≡ c
          → MadePushes (below most s.homes) (if c then by_pushed r most (stacked lay r most a) (stacked lay r most b) s else by_newer lay r most a b s)
      by_all true e = by_pushed_pushes (stacked lay r most a) (stacked lay r most b) s ha hb
      by_all false e = by_newer_pushes a b s (newer_high most s e) h

  given_pushes : (rest : List Operand) (to : ℕ) → MadePushes (length rest) (given_back r (Local to ∷ rest))
  given_pushes [] to = low_made 0 (GiveBack r.result (Local to)) [] (omega arith) refl
  given_pushes (h ∷ hs) to = tt

  from_none : (made : Made) → MadePushes (below most []) made → MadePushes 0 made
  from_none made h = low_start [] made (omega arith) h

  pub stacked_pushes : (c : Code Step) (s : Shape) → NewerIn s → MadePushes (below most s.homes) (stacked lay r most c s)
  stacked_pushes Nothing s h = (refl, h)
  stacked_pushes (Then a b) s h =
      pushes_after (below most s.homes) (stacked lay r most a s) (stacked lay r most b) (stacked_pushes a s h) (λ s1 h1. stacked_pushes b s1 h1)
  stacked_pushes (Do p) s h = done_pushes p s h
  stacked_pushes (If a b) s h = choice_pushes a b s h (λ z hz. stacked_pushes a z hz) (λ z hz. stacked_pushes b z hz)
  stacked_pushes (Loop c body next) s h =
      where_pushes s (repeated (after (stacked lay r most c empty) (with_newest r most)) (stacked lay r most body empty) (stacked lay r most next empty))
      (repeated_pushes (stacked lay r most c empty) (stacked lay r most body empty) (stacked lay r most next empty)
      (from_none _ (stacked_pushes c empty (low_in [] (omega arith)))) (from_none _ (stacked_pushes body empty (low_in [] (omega arith))))
      (from_none _ (stacked_pushes next empty (low_in [] (omega arith)))))
  stacked_pushes Break s h = where_pushes s (Gives BreakOut empty) (low_made 0 BreakOut [] (omega arith) refl)
  stacked_pushes Continue s h = where_pushes s (Gives GoOn empty) (low_made 0 GoOn [] (omega arith) refl)
  stacked_pushes Return s h = newest_pushes s (λ s1. given_back r s1.homes) (λ rest to lt. given_pushes rest to)

  -- what is made of a whole body, where nothing waits behind it
  pub body_made : (c : Code Step) (b : Block) (s : Shape) → stacked lay r most c empty ≡ Gives b s → is_empty s ≡ true → Pushes most 0 0 b
  body_made c b s e none =
      subst (λ z. Pushes most 0 z b) (none_pushed s none)
      (subst (MadePushes 0) e (from_none (stacked lay r most c empty) (stacked_pushes c empty (low_in [] (omega arith))))).0
