-- What the instructions name that code becomes, in either way: each waiting value has a home of its own, or the oldest of them are pushed.
use Rattle.std.specs.Prelude.{ℕ, zero, suc, ◌+◌, ◌-◌, Bool, true, false, ◌==◌, ◌&&◌, nat_lt, nat_le, List, [], ◌∷◌, length, reverse, take, drop, if◌then◌else◌}
use Rattle.std.specs.List.{AllByRecursion}
use Rattle.std.proofs.Common.{◌≡◌, ◌⊎◌, inl, inr, sym, ◌∙◌, subst, arith}
use Rattle.vg_meaning.specs.Code.{Code, Nothing, Then, Do, If, Loop, Break, Continue, Return}
use Rattle.vg_firm.specs.declared.step.Step.{Step}
use Rattle.vg_firm.specs.Program.{Procedure as FirmProcedure}
use Rattle.vg_firm_typed.specs.Steps.{takes}
use Rattle.vg_lin.specs.declared.instr.Operand.{Operand}
use Rattle.vg_lin.specs.declared.instr.Operand.TheVariants.{Local, Known}
use Rattle.vg_lin.specs.Program.{Procedure}
use Rattle.vg_flatten_shapes.specs.declared.fault.Fault.TheVariants.{NotTaken, TooHigh}
use Rattle.vg_flatten_shapes.specs.declared.open.Truth.{Truth}
use Rattle.vg_flatten_shapes.specs.declared.layout.Layout.{Layout}
use Rattle.vg_flatten_shapes.specs.declared.room.Room.{Room}
use Rattle.vg_flatten_shapes.specs.Shapes.{Shape, only, empty, is_empty, same_operand, same_homes}
use Rattle.vg_flatten_shapes.specs.Blocks.{Block, Skip, One, BreakOut, GoOn, Choice, Repeat, open_code}
use Rattle.vg_flatten_shapes.specs.Made.{Made, Gives, Refused, after, settled, tested}
use Rattle.vg_lin.specs.declared.instr.Plain.TheVariants.{Copy}
use Rattle.vg_flatten_steps.specs.Steps.{stepped}
use Rattle.vg_flatten_control.specs.Flat.{landed_as, landed, joined, chosen, where_empty, repeated, repeated_test}
use Rattle.vg_flatten_control.specs.Flat.{repeated_body, repeated_next, given_back, flat}
use Rattle.vg_flatten_pushed.specs.Pushed.{is_high, newer, older, all_pushed, onto, pops, popped, lifts, pushed_on, put_back, worked, drawn}
use Rattle.vg_flatten_pushed.specs.Pushed.{step_on, crossed, is_above, done, topped, with_newest, lowered, level_as, level, raised, pushed_again}
use Rattle.vg_flatten_pushed.specs.Stacked.{is_calm, levelled, ways, by_pushed, by_newer, stacked}
use Rattle.vg_flatten.specs.Flattened.{zeroes, receivers, with_receiver_width, whole, IsPushed, IsFlat}
use Rattle.vg_flat_each.specs.Each.{EachStep}
use Rattle.vg_flat_names.specs.Names.{Names, NoReceiver}
use Rattle.vg_flat_names.proofs.Blocks.{TruthNames, BlockNames, all_set, in_block}
use Rattle.vg_flat_names.proofs.Shapes.{AllOk, ShapeNames, MadeNames, take_ok, drop_ok, both_ok}
use Rattle.vg_flat_names.proofs.Shapes.{names_behind, names_after, names_if, names_temp, names_settled, names_tested}
use Rattle.vg_flat_names.proofs.Steps.{names_step}

module _ (Ok : Operand → Type 0) (known : (n : ℕ) → Ok (Known n)) (lay : Layout) (r : Room) (own : (i : ℕ) → Ok (Local (r.receiver + i)))
    (temps : (n : ℕ) → Ok (Local (r.locals + n))) where
  -- ---- choices and loops

  settles : (s : Shape) → ShapeNames Ok s → MadeNames Ok (settled r s)
  settles = names_settled Ok known r temps

  names_landed : (made : Made) → MadeNames Ok made → MadeNames Ok (landed r made)
  names_landed made h = names_after Ok made _ h (λ s hs. names_after Ok (settled r s) _ (settles s hs) (λ s1 h1. landing s1.homes h1.0))
    where
      landing : (hs : List Operand) → AllOk Ok hs → MadeNames Ok (landed_as r hs)
      landing [] h1 = (tt, (tt, tt))
      landing (a ∷ hs) (ha, h1) =
          names_temp Ok known r temps hs _ (λ to lt. names_if Ok (same_operand (Local to) a) (Gives Skip (only (a ∷ hs)))
          (Gives (One (Copy to a)) (only (Local to ∷ hs))) (tt, ((ha, h1), tt)) ((lt, ha), ((lt, h1), tt)))

  names_joined : (t : Truth) (x y : Made) → TruthNames Ok t → MadeNames Ok x → MadeNames Ok y → MadeNames Ok (joined t x y)
  names_joined t (Refused why) y ht hx hy = tt
  names_joined t (Gives a s) (Refused why) ht hx hy = tt
  names_joined t (Gives a s) (Gives b s1) ht hx hy =
      names_if Ok (same_homes (reverse s.homes) (reverse s1.homes)) (Gives (Choice t a b) s) (Refused NotTaken) ((ht, hx.0, hy.0), hx.1) tt

  names_chosen : (s : Shape) (x y : Shape → Made) → ShapeNames Ok s → ((z : Shape) → ShapeNames Ok z → MadeNames Ok (x z))
      → ((z : Shape) → ShapeNames Ok z → MadeNames Ok (y z)) → MadeNames Ok (chosen r (tested s) x y)
  names_chosen s x y h hx hy =
      names_tested Ok known r temps (λ o. MadeNames Ok (chosen r o x y)) s h tt (λ t hs ht hh.
      names_joined t (landed r (x (only hs))) (landed r (y (only hs))) ht (names_landed (x (only hs)) (hx (only hs) (hh, tt)))
      (names_landed (y (only hs)) (hy (only hs) (hh, tt))))

  names_where : (s : Shape) (made : Made) → MadeNames Ok made → MadeNames Ok (where_empty s made)
  names_where s made h = names_if Ok (is_empty s) made (Refused NotTaken) h tt

  names_repeated : (x y z : Made) → MadeNames Ok x → MadeNames Ok y → MadeNames Ok z → MadeNames Ok (repeated x y z)
  names_repeated (Refused why) y z hx hy hz = tt
  names_repeated (Gives p s) y z hx hy hz =
      names_tested Ok known r temps (λ o. MadeNames Ok (repeated_test p o y z)) s hx.1 tt
      (λ t hs ht hh. names_where (only hs) (repeated_body p t y z) (by_body t y ht hy))
    where
      by_next : (t : Truth) (b : Block) (z : Made) → TruthNames Ok t → BlockNames Ok b → MadeNames Ok z → MadeNames Ok (repeated_next p t b z)
      by_next t b (Refused why) ht hb hn = tt
      by_next t b (Gives c s2) ht hb hn = names_where s2 (Gives (Repeat p t b c) empty) ((hx.0, ht, hb, hn.0), (tt, tt))

      by_body : (t : Truth) (y : Made) → TruthNames Ok t → MadeNames Ok y → MadeNames Ok (repeated_body p t y z)
      by_body t (Refused why) ht hb = tt
      by_body t (Gives b s1) ht hb = names_where s1 (repeated_next p t b z) (by_next t b z ht hb.0 hz)

  names_given : (hs : List Operand) → AllOk Ok hs → MadeNames Ok (given_back r hs)
  names_given [] h = tt
  names_given (a ∷ []) h = (h.0, (tt, tt))
  names_given (a ∷ b ∷ hs) h = tt

  -- ---- each waiting value has a home of its own

  names_flat : (c : Code Step) (s : Shape) → EachStep NoReceiver c → ShapeNames Ok s → MadeNames Ok (flat lay r c s)
  names_flat Nothing s n h = (tt, h)
  names_flat (Then a b) s (n, m) h = names_after Ok (flat lay r a s) (flat lay r b) (names_flat a s n h) (λ s1 h1. names_flat b s1 m h1)
  names_flat (Do p) s n h =
      names_after Ok (settled r s) _ (settles s h) (λ s1 h1. names_step Ok known lay r own temps p s1.homes n h1.0)
  names_flat (If a b) s (n, m) h = names_chosen s (flat lay r a) (flat lay r b) h (λ z hz. names_flat a z n hz) (λ z hz. names_flat b z m hz)
  names_flat (Loop c body next) s (n, m, k) h =
      names_where s _
      (names_repeated (flat lay r c empty) (flat lay r body empty) (flat lay r next empty) (names_flat c empty n (tt, tt)) (names_flat body empty m (tt, tt))
      (names_flat next empty k (tt, tt)))
  names_flat Break s n h = names_where s (Gives BreakOut empty) (tt, (tt, tt))
  names_flat Continue s n h = names_where s (Gives GoOn empty) (tt, (tt, tt))
  names_flat Return s n h = names_after Ok (settled r s) _ (settles s h) (λ s1 h1. names_given s1.homes h1.0)

  -- ---- the oldest values are pushed

  names_newer : (most : ℕ) (s : Shape) → ShapeNames Ok s → ShapeNames Ok (newer most s)
  names_newer most s h = by_height (is_high most s)
    where
      by_height : (b : Bool) → ShapeNames Ok (if b then record { truth = s.truth; homes = take (length s.homes - most) s.homes } else empty)
      by_height true = (take_ok Ok (length s.homes - most) s.homes h.0, h.1)
      by_height false = (tt, tt)

  older_ok : (most : ℕ) (s : Shape) → ShapeNames Ok s → AllOk Ok (older most s)
  older_ok most s h = drop_ok Ok (length s.homes - most) s.homes h.0

  names_onto : (os : List Operand) (made : Made) → AllOk Ok os → MadeNames Ok made → MadeNames Ok (onto os made)
  names_onto os (Gives b s) ho h = (h.0, (both_ok Ok s.homes os h.1.0 ho, h.1.1))
  names_onto os (Refused why) ho h = tt

  names_lifts : (k : ℕ) (hs : List Operand) → AllOk Ok hs → BlockNames Ok (lifts (r.locals + k) hs)
  names_lifts k [] h = tt
  names_lifts k (a ∷ hs) h = ((lifted, h.0), names_lifts k hs h.1)
    where
      lifted : Ok (Local (r.locals + k + length hs))
      lifted = let at : r.locals + (k + length hs) ≡ r.locals + k + length hs = omega arith in subst (λ i. Ok (Local i)) at (temps (k + length hs))

  names_pops : (n : ℕ) → BlockNames Ok (pops r.locals n)
  names_pops zero = tt
  names_pops (suc n) = (temps n, names_pops n)

  names_popped : (n : ℕ) → AllOk Ok (popped r.locals n)
  names_popped zero = tt
  names_popped (suc n) = (temps n, names_popped n)

  names_pushed : (rest hs : List Operand) → AllOk Ok rest → AllOk Ok hs → MadeNames Ok (pushed_on rest hs)
  names_pushed rest [] hr h = (tt, (hr, tt))
  names_pushed rest (a ∷ []) hr h = (h.0, ((known 0, hr), tt))
  names_pushed rest (a ∷ b ∷ hs) hr h = tt

  names_worked : (p : Step) (rest : List Operand) → NoReceiver p → AllOk Ok rest → MadeNames Ok (worked lay r p rest)
  names_worked p rest n hr =
      names_after Ok (stepped lay r p (popped r.locals (takes p))) (put_back r rest)
      (names_step Ok known lay r own temps p (popped r.locals (takes p)) n (names_popped (takes p)))
      (λ s h. names_after Ok (settled r s) (λ s1. pushed_on rest s1.homes) (settles s h) (λ s1 h1. names_pushed rest s1.homes hr h1.0))

  names_step_on : (p : Step) (news os : List Operand) → NoReceiver p → AllOk Ok news → AllOk Ok os → MadeNames Ok (step_on lay r p news os)
  names_step_on p news os n hn ho =
      names_if Ok (nat_le (takes p) (length news + length os)) _ (Refused NotTaken)
      (names_if Ok (nat_le (takes p + 2) r.temps) _ (Refused TooHigh) does tt) tt
    where
      missing : ℕ
      missing = takes p - length news

      does : MadeNames Ok (after (drawn r missing news os) (λ s. worked lay r p s.homes))
      does =
          names_behind Ok _ (worked lay r p (drop missing os)) (names_lifts missing news hn, names_pops missing)
          (names_worked p (drop missing os) n (drop_ok Ok missing os ho))

  names_done : (most : ℕ) (p : Step) (s : Shape) → NoReceiver p → ShapeNames Ok s → MadeNames Ok (done lay r most p s)
  names_done most p s n h =
      names_if Ok (is_above most p s) (onto (older most s) (flat lay r (Do p) (newer most s))) (crossed lay r most p s)
      (names_onto (older most s) (flat lay r (Do p) (newer most s)) (older_ok most s h) (names_flat (Do p) (newer most s) n (names_newer most s h)))
      (names_after Ok (settled r (newer most s)) _ (settles (newer most s) (names_newer most s h))
      (λ s1 h1. names_step_on p s1.homes (older most s) n h1.0 (older_ok most s h)))

  names_topped : (hs : List Operand) → AllOk Ok hs → MadeNames Ok (topped r hs)
  names_topped [] h = tt
  names_topped (a ∷ hs) h = names_temp Ok known r temps [] _ (λ to lt. (lt, ((lt, h.1), tt)))

  names_newest : (most : ℕ) (s : Shape) → ShapeNames Ok s → MadeNames Ok (with_newest r most s)
  names_newest most s h = names_if Ok (all_pushed most s) (topped r s.homes) (Refused NotTaken) (names_topped s.homes h.0) tt

  names_lowered : (n : ℕ) (hs : List Operand) → AllOk Ok hs → MadeNames Ok (lowered r n hs)
  names_lowered n [] h = tt
  names_lowered n (a ∷ hs) h =
      names_if Ok (length hs == n) _ (Refused NotTaken) (names_temp Ok known r temps [] _ (λ to lt. (lt, ((lt, h.1), tt)))) tt

  names_level : (most n : ℕ) (s : Shape) → ShapeNames Ok s → MadeNames Ok (level r most n s)
  names_level most n s h =
      names_if Ok (all_pushed most s) (level_as r n s) (Refused NotTaken)
      (names_if Ok (length s.homes == n) (Gives Skip (only s.homes)) (lowered r n s.homes) (tt, (h.0, tt)) (names_lowered n s.homes h.0)) tt

  names_again : (hs : List Operand) → AllOk Ok hs → MadeNames Ok (pushed_again hs)
  names_again [] h = tt
  names_again (a ∷ hs) h = (h.0, ((known 0, h.1), tt))

  names_raised : (n : ℕ) (s : Shape) → ShapeNames Ok s → MadeNames Ok (raised n s)
  names_raised n s h = names_if Ok (nat_lt (length s.homes) n) (Gives Skip (only s.homes)) (pushed_again s.homes) (tt, (h.0, tt)) (names_again s.homes h.0)

  names_ways : (most : ℕ) (s : Shape) (x y : Shape → Made) → ShapeNames Ok s → ((z : Shape) → ShapeNames Ok z → MadeNames Ok (x z))
      → ((z : Shape) → ShapeNames Ok z → MadeNames Ok (y z)) → MadeNames Ok (ways r most (tested s) x y)
  names_ways most s x y h hx hy =
      names_tested Ok known r temps (λ o. MadeNames Ok (ways r most o x y)) s h tt (λ t hs ht hh.
      names_joined t (levelled r most (length hs) (x (only hs))) (levelled r most (length hs) (y (only hs))) ht
      (names_after Ok (x (only hs)) (level r most (length hs)) (hx (only hs) (hh, tt)) (names_level most (length hs)))
      (names_after Ok (y (only hs)) (level r most (length hs)) (hy (only hs) (hh, tt)) (names_level most (length hs))))

  names_by_pushed : (most : ℕ) (x y : Shape → Made) (s : Shape) → ShapeNames Ok s → ((z : Shape) → ShapeNames Ok z → MadeNames Ok (x z))
      → ((z : Shape) → ShapeNames Ok z → MadeNames Ok (y z)) → MadeNames Ok (by_pushed r most x y s)
  names_by_pushed most x y s h hx hy =
      names_after Ok (with_newest r most s) _ (names_newest most s h)
      (λ s1 h1. names_after Ok (ways r most (tested s1) x y) (raised (length s1.homes)) (names_ways most s1 x y h1 hx hy) (names_raised (length s1.homes)))

  names_by_newer : (most : ℕ) (a b : Code Step) (s : Shape) → EachStep NoReceiver (If a b) → ShapeNames Ok s → MadeNames Ok (by_newer lay r most a b s)
  names_by_newer most a b s n h =
      names_if Ok (is_calm a && is_calm b) (onto (older most s) (flat lay r (If a b) (newer most s))) (Refused NotTaken)
      (names_onto (older most s) (flat lay r (If a b) (newer most s)) (older_ok most s h) (names_flat (If a b) (newer most s) n (names_newer most s h))) tt

  names_stacked : (most : ℕ) (c : Code Step) (s : Shape) → EachStep NoReceiver c → ShapeNames Ok s → MadeNames Ok (stacked lay r most c s)
  names_stacked most Nothing s n h = (tt, h)
  names_stacked most (Then a b) s (n, m) h =
      names_after Ok (stacked lay r most a s) (stacked lay r most b) (names_stacked most a s n h) (λ s1 h1. names_stacked most b s1 m h1)
  names_stacked most (Do p) s n h = names_done most p s n h
  names_stacked most (If a b) s (n, m) h =
      names_if Ok (all_pushed most s) (by_pushed r most (stacked lay r most a) (stacked lay r most b) s) (by_newer lay r most a b s)
      (names_by_pushed most (stacked lay r most a) (stacked lay r most b) s h (λ z hz. names_stacked most a z n hz) (λ z hz. names_stacked most b z m hz))
      (names_by_newer most a b s (n, m) h)
  names_stacked most (Loop c body next) s (n, m, k) h =
      names_where s _
      (names_repeated (after (stacked lay r most c empty) (with_newest r most)) (stacked lay r most body empty) (stacked lay r most next empty)
      (names_after Ok (stacked lay r most c empty) (with_newest r most) (names_stacked most c empty n (tt, tt)) (names_newest most))
      (names_stacked most body empty m (tt, tt)) (names_stacked most next empty k (tt, tt)))
  names_stacked most Break s n h = names_where s (Gives BreakOut empty) (tt, (tt, tt))
  names_stacked most Continue s n h = names_where s (Gives GoOn empty) (tt, (tt, tt))
  names_stacked most Return s n h = names_after Ok (with_newest r most s) _ (names_newest most s h) (λ s1 h1. names_given s1.homes h1.0)

-- ---- whole procedures

module _ (Ok : Operand → Type 0) (known : (n : ℕ) → Ok (Known n)) (m : FirmProcedure) (own : (i : ℕ) → Ok (Local (receivers m.receives + i))) where
  names_zeroes : (c i : ℕ) → BlockNames Ok (zeroes c (receivers m.receives + i))
  names_zeroes zero i = tt
  names_zeroes (suc c) i =
      ((own i, known 0), subst (λ j. BlockNames Ok (zeroes c j)) (next i) (names_zeroes c (suc i)))
    where
      next : (i : ℕ) → receivers m.receives + suc i ≡ suc (receivers m.receives + i)
      next i = omega arith

  own_count : (b : Bool) (ws : List ℕ) → length (with_receiver_width b ws) ≡ receivers b + length ws
  own_count true ws = omega arith
  own_count false ws = omega arith

  pub names_flattened : (lay : Layout) (p : Procedure) → IsFlat lay m p → EachStep NoReceiver m.body → AllByRecursion (Names Ok) p.code
  names_flattened lay p f n =
      subst (AllByRecursion (Names Ok)) (sym f.code)
      (all_set Ok 0 0 (open_code (whole m f.block) 0)
      (in_block Ok (whole m f.block) 0 (names_zeroes (length m.widths - m.params) m.params, (by_way f.made, known 0))))
    where
      owned : (i : ℕ) → Ok (Local (f.room.receiver + i))
      owned i = subst (λ k. Ok (Local (k + i))) (sym f.receiver) (own i)

      above : (i : ℕ) → Ok (Local (f.room.locals + i))
      above i =
          let count = f.locals ∙ own_count m.receives m.widths in
          let at : f.room.locals + i ≡ receivers m.receives + (length m.widths + i) = omega (arith, count) in
          subst (λ k. Ok (Local k)) (sym at) (own (length m.widths + i))

      by_way : (flat lay f.room m.body empty ≡ Gives f.block f.shape) ⊎ IsPushed lay m f.room f.block f.shape → BlockNames Ok f.block
      by_way (inl e) = (subst (MadeNames Ok) e (names_flat Ok known lay f.room owned above m.body empty n (tt, tt))).0
      by_way (inr x) = (subst (MadeNames Ok) x.made (names_stacked Ok known lay f.room owned above x.pushes m.body empty n (tt, tt))).0
