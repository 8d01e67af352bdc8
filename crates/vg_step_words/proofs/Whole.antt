-- How many words packed code takes.
use Rattle.std.specs.Prelude.{ℕ, ◌+◌, ◌-◌, ◌≤◌, Bool, true, false, ◌&&◌, if◌then◌else◌, List, [], ◌∷◌, reverse, Option, Some, None}
use Rattle.std.proofs.Common.{◌≡◌, refl, subst, arith}
use Rattle.vg_meaning.specs.Code.{Code, Nothing, Then, Do, If, Loop, Break, Continue, Return}
use Rattle.vg_firm.specs.declared.step.Step.{Step}
use Rattle.vg_lin.specs.declared.instr.Operand.{Operand}
use Rattle.vg_lin.specs.declared.instr.Operand.TheVariants.{Local}
use Rattle.vg_flatten_shapes.specs.declared.fault.Fault.TheVariants.{NotTaken}
use Rattle.vg_flatten_shapes.specs.declared.layout.Layout.{Layout}
use Rattle.vg_flatten_shapes.specs.declared.open.Truth.{Truth}
use Rattle.vg_flatten_shapes.specs.declared.room.Room.{Room}
use Rattle.vg_flatten_shapes.specs.Shapes.{Shape, only, empty, is_empty, same_operand, same_homes, temp}
use Rattle.vg_flatten_shapes.specs.Blocks.{Block, BreakOut, GoOn, Choice, Repeat, open_code}
use Rattle.vg_flatten_shapes.specs.Made.{Made, Gives, Refused, after, settled, tested_as}
use Rattle.vg_flatten_steps.specs.Steps.{stepped}
use Rattle.vg_flatten_control.specs.Flat.{landed_as, landed, joined, chosen, where_empty, repeated, repeated_test, repeated_body, repeated_next, given_back}
use Rattle.vg_flatten_control.specs.Flat.{flat}
use Rattle.vg_step_words.specs.Words.{open_words, block_words, branch_words, waiting_words}
use Rattle.vg_step_words.specs.Code.{is_on_object, leaves_receiver, reads_first, code_words}
use Rattle.vg_step_words.proofs.Operands.{reach_few, copy_few, zero_test_few}
use Rattle.vg_step_words.proofs.Blocks.{block_covers}
use Rattle.vg_step_words.proofs.Made.{way_few, Within, within_more, within_after, within_temp, within_if, within_settled}
use Rattle.vg_step_words.proofs.Steps.{within_step}
use Rattle.vg_step_words.proofs.Receiver.{own_few}

module _ (cases : ℕ → ℕ) where
  -- ---- choices

  landed_few : (r : Room) (hs : List Operand) → Within cases 14 (landed_as r hs)
  landed_few r [] = omega arith
  landed_few r (h ∷ hs) =
      within_temp cases 14 (temp r hs) _ (λ to. within_if cases 14 (same_operand (Local to) h) _ _ (λ e. omega arith)
      (let few = copy_few h in omega (arith, few)))

  within_landed : (r : Room) (n : ℕ) (made : Made) → Within cases n made → Within cases (n + 14) (landed r made)
  within_landed r n made h =
      within_after cases n 14 made _ h (λ s. within_after cases (waiting_words s.truth) 14 (settled r s) _ (within_settled cases r s.truth s.homes)
      (λ s1. within_more cases 14 (waiting_words s1.truth + 14) (landed_as r s1.homes) (omega arith) (landed_few r s1.homes)))

  within_joined : (n m : ℕ) (t : Truth) (x y : Made) → Within cases n x → Within cases m y → Within cases (branch_words t + n + 2 + m) (joined t x y)
  within_joined n m t (Refused why) y hx hy = tt
  within_joined n m t (Gives a s) (Refused why) hx hy = tt
  within_joined n m t (Gives a s) (Gives b s1) hx hy =
      within_if cases (branch_words t + n + 2 + m) (same_homes (reverse s.homes) (reverse s1.homes)) (Gives (Choice t a b) s) (Refused NotTaken)
      (λ e. let way = way_few b (block_words cases b) in omega (arith, way, hx, hy)) tt

  module _ (r : Room) (n m : ℕ) (f g : Shape → Made) where
    within_ways : (t : Truth) (hs : List Operand) → Within cases n (f (only hs)) → Within cases m (g (only hs))
        → Within cases (branch_words t + (n + 14) + 2 + (m + 14)) (joined t (landed r (f (only hs))) (landed r (g (only hs))))
    within_ways t hs hf hg =
        within_joined (n + 14) (m + 14) t (landed r (f (only hs))) (landed r (g (only hs))) (within_landed r n (f (only hs)) hf)
        (within_landed r m (g (only hs)) hg)

    -- a test that waits has paid for the branch; else a number is tested
    within_chosen : (o : Option Truth) (hs : List Operand) → ((hs : List Operand) → Within cases n (f (only hs)))
        → ((hs : List Operand) → Within cases m (g (only hs))) → Within cases (waiting_words o + (44 + n + m)) (chosen r (tested_as o hs) f g)
    within_chosen None [] hf hg = tt
    within_chosen None (h ∷ hs) hf hg =
        within_more cases _ (waiting_words None + (44 + n + m)) _ (let few = zero_test_few h in omega (arith, few)) (within_ways _ hs (hf hs) (hg hs))
    within_chosen (Some t) hs hf hg =
        within_more cases _ (waiting_words (Some t) + (44 + n + m)) _ (omega arith) (within_ways t hs (hf hs) (hg hs))

  -- ---- loops

  within_where : (n : ℕ) (s : Shape) (made : Made) → Within cases n made → Within cases n (where_empty s made)
  within_where n s made h = within_if cases n (is_empty s) made (Refused NotTaken) (λ e. h) tt

  -- the branch and the jump of a loop, behind code that may have paid for the test
  module _ (n m k : ℕ) (p : Block) where
    within_next : (t : Truth) (b : Block) (z : Made) → block_words cases p + branch_words t + 2 ≤ n → block_words cases b ≤ m → Within cases k z
        → Within cases (n + m + k) (repeated_next p t b z)
    within_next t b (Refused why) hp hb hz = tt
    within_next t b (Gives c s) hp hb hz = within_where (n + m + k) s (Gives (Repeat p t b c) empty) (omega (arith, hp, hb, hz))

    within_body : (t : Truth) (y z : Made) → block_words cases p + branch_words t + 2 ≤ n → Within cases m y → Within cases k z
        → Within cases (n + m + k) (repeated_body p t y z)
    within_body t (Refused why) z hp hy hz = tt
    within_body t (Gives b s) z hp hy hz =
        within_where (n + m + k) s (repeated_next p t b z) (within_next t b z hp (omega (arith, hy)) hz)

  within_test : (n m k : ℕ) (p : Block) (o : Option Truth) (hs : List Operand) (y z : Made) → block_words cases p + waiting_words o ≤ n
      → Within cases m y → Within cases k z → Within cases (16 + n + m + k) (repeated_test p (tested_as o hs) y z)
  within_test n m k p None [] y z hp hy hz = tt
  within_test n m k p None (h ∷ hs) y z hp hy hz =
      within_where (16 + n + m + k) (only hs) _ (within_body (16 + n) m k p _ y z (let few = zero_test_few h in omega (arith, few, hp)) hy hz)
  within_test n m k p (Some t) hs y z hp hy hz =
      within_where (16 + n + m + k) (only hs) _ (within_body (16 + n) m k p t y z (omega (arith, hp)) hy hz)

  within_repeated : (n m k : ℕ) (x y z : Made) → Within cases n x → Within cases m y → Within cases k z → Within cases (16 + n + m + k) (repeated x y z)
  within_repeated n m k (Refused why) y z hx hy hz = tt
  within_repeated n m k (Gives p s) y z hx hy hz = within_test n m k p s.truth s.homes y z hx hy hz

  -- ---- code

  module _ (lay : Layout) (r : Room) (narrow : r.result ≤ 4) where
    abbrev words : Code Step → ℕ
    words = code_words lay cases (is_on_object r)

    within_given : (hs : List Operand) → Within cases 20 (given_back r hs)
    within_given [] = tt
    within_given (h ∷ []) = let few = reach_few h in omega (arith, few, narrow)
    within_given (h ∷ i ∷ hs) = tt

    -- behind the code that makes a number of a test that waits
    behind_settled : (n : ℕ) (s : Shape) (go : List Operand → Made) → ((hs : List Operand) → Within cases n (go hs))
        → Within cases (waiting_words s.truth + n) (after (settled r s) (λ s1. go s1.homes))
    behind_settled n s go h =
        within_after cases (waiting_words s.truth) n (settled r s) (λ s1. go s1.homes) (within_settled cases r s.truth s.homes)
        (λ s1. within_more cases n (waiting_words s1.truth + n) (go s1.homes) (omega arith) (h s1.homes))

    alone_few : (n : ℕ) (s : Shape) (made : Made) → Within cases n made → Within cases (waiting_words s.truth + n) (where_empty s made)
    alone_few n s made h =
        within_more cases n (waiting_words s.truth + n) (where_empty s made) (omega arith) (within_where n s made h)

    -- where no test waits
    untested : (n : ℕ) (made : Made) → Within cases (waiting_words None + n) made → Within cases n made
    untested n made h = within_more cases (waiting_words None + n) n made (omega arith) h

    within_then : (a b : Code Step) (s : Shape) → Within cases (waiting_words s.truth + words a) (flat lay r a s)
        → ((s : Shape) → Within cases (waiting_words s.truth + words b) (flat lay r b s))
        → Within cases (waiting_words s.truth + words (Then a b)) (flat lay r (Then a b) s)
    within_then a b s ha hb = by (is_on_object r && leaves_receiver a && reads_first b) refl
      where
        by : (own : Bool) → (is_on_object r && leaves_receiver a && reads_first b) ≡ own
            → Within cases (waiting_words s.truth + (words a + words b - (if own then 16 else 0))) (flat lay r (Then a b) s)
        by true e = own_few cases lay r a b s e
        by false e =
            within_more cases (waiting_words s.truth + words a + words b) (waiting_words s.truth + (words a + words b - 0)) _ (omega arith)
            (within_after cases (waiting_words s.truth + words a) (words b) (flat lay r a s) (flat lay r b) ha hb)

    pub within_flat : (c : Code Step) (s : Shape) → Within cases (waiting_words s.truth + words c) (flat lay r c s)
    within_flat Nothing s = omega arith
    within_flat (Then a b) s = within_then a b s (within_flat a s) (within_flat b)
    within_flat (Do p) s = behind_settled (words (Do p)) s (stepped lay r p) (within_step cases lay r p)
    within_flat (If a b) s =
        within_more cases (waiting_words s.truth + (44 + words a + words b)) (waiting_words s.truth + words (If a b)) _
        (omega arith) (within_chosen r (words a) (words b) (flat lay r a) (flat lay r b) s.truth s.homes
        (λ hs. untested (words a) (flat lay r a (only hs)) (within_flat a (only hs)))
        (λ hs. untested (words b) (flat lay r b (only hs)) (within_flat b (only hs))))
    within_flat (Loop c body next) s =
        alone_few (words (Loop c body next)) s _
        (within_repeated (words c) (words body) (words next) (flat lay r c empty) (flat lay r body empty)
        (flat lay r next empty) (untested (words c) (flat lay r c empty) (within_flat c empty))
        (untested (words body) (flat lay r body empty) (within_flat body empty))
        (untested (words next) (flat lay r next empty) (within_flat next empty)))
    within_flat Break s = alone_few 2 s (Gives BreakOut empty) (omega arith)
    within_flat Continue s = alone_few 2 s (Gives GoOn empty) (omega arith)
    within_flat Return s = behind_settled 20 s (given_back r) within_given

pub flat_few : (cases : ℕ → ℕ) (lay : Layout) (r : Room) (c : Code Step) (s t : Shape) (at : ℕ) (b : Block) → r.result ≤ 4 → flat lay r c s ≡ Gives b t
    → open_words cases (open_code b at) + waiting_words t.truth ≤ waiting_words s.truth + code_words lay cases (is_on_object r) c
flat_few cases lay r c s t at b narrow e =
    let few = subst (Within cases (waiting_words s.truth + code_words lay cases (is_on_object r) c)) e (within_flat cases lay r narrow c s) in
    let all = block_covers cases b at in omega (arith, few, all)
