-- That calls become blocks that do the same, where what they call does.
use Rattle.std.specs.Prelude.{ℕ, ◌+◌, ◌-◌, ◌<◌, ◌≤◌, ◌^◌, Bool, true, false, ◌==◌, ◌&&◌, nat_lt, List, [], ◌∷◌, ◌++◌, length, reverse, take, drop, replicate, Option, Some, None}
use Rattle.std.specs.Prelude.{slice_get, if◌then◌else◌}
use Rattle.std.proofs.Common.{◌≡◌, ◌⊎◌, inl, inr, refl, sym, ap, ◌∙◌, subst, arith}
use Rattle.std.proofs.lemmas.List.{length-drop, length-take-le}
use Rattle.vg_meaning.specs.History.{History}
use Rattle.vg_meaning.specs.World.{World}
use Rattle.vg_meaning.specs.Answer.{Wrong, Signal, Answer, Gives, Piece, over, and_then}
use Rattle.vg_codes.specs.Codes.{Codes}
use Rattle.vg_firm.specs.Program.{Procedure as FirmProcedure, Program as FirmProgram}
use Rattle.vg_firm.specs.Meaning.{State as Firm, Caller as FirmCaller, fits}
use Rattle.vg_firm.specs.Session.{arguments, all_fit, may_receive}
use Rattle.vg_lin.specs.declared.instr.Operand.{Operand}
use Rattle.vg_lin.specs.declared.instr.Operand.TheVariants.{Local}
use Rattle.vg_lin.specs.declared.instr.Callee.{Callee}
use Rattle.vg_lin.specs.declared.instr.Passed.{Passed}
use Rattle.vg_lin.specs.declared.instr.Target.{Target}
use Rattle.vg_lin.specs.declared.instr.Call.{Call as Calling}
use Rattle.vg_lin.specs.Program.{Procedure as LinProcedure, Program as LinProgram}
use Rattle.vg_lin.specs.Steps.{Entry, Result, Goes}
use Rattle.vg_lin.specs.Values.{low}
use Rattle.vg_lin.specs.State.{State, Waiting, using}
use Rattle.vg_lin.specs.Meaning.{language, operands, values, begun, widths_of, values_of, same_widths, gives_to, with_result, called as lin_called, enter, entry_at, entry_of, entry_with, entry_by}
use Rattle.vg_lin.specs.Structured.{Deciding, fresh, Caller as LinCaller, with_found, entered, resumed, lifted}
use Rattle.vg_flatten_shapes.specs.declared.layout.Layout.{Layout}
use Rattle.vg_flatten_shapes.specs.declared.room.Room.{Room}
use Rattle.vg_flatten_shapes.specs.Shapes.{only, temp}
use Rattle.vg_flatten_shapes.specs.Blocks.{Block, CallTo}
use Rattle.vg_flatten_shapes.specs.declared.layout.Width.{Width}
use Rattle.vg_flatten_shapes.specs.declared.layout.Width.TheVariants.{Two as Two'}
use Rattle.vg_flatten_steps.specs.Calls.{in_widths, pushed_of, call_with, passing}
use Rattle.vg_flatten.specs.Columns.{RamStands}
use Rattle.vg_flatten.specs.Flattened.{receivers, with_receiver_width, own_params, widened, all_widths, result_width, IsFlat, IsFit}
use Rattle.vg_flattened.proofs.Alike.{IsFair, Alike, gives, leaves, overs, wrong, AlikePiece}
use Rattle.vg_flattened.proofs.Related.{ArePlaced, AreAt, AreWidths, AreKept, AreSame, Held, Leaves}
use Rattle.vg_flattened.proofs.Locals.{put_temp}
use Rattle.vg_flattened.proofs.Passed.{Valued, Passes, passes_long, passes_take, passes_drop, passes_as, passes_in, bytes_in, bytes_in_fours, Within, within_fit}
use Rattle.vg_flattened.proofs.Passed.{IsNarrow, take_found, within_found, waits_of, waits_long, waits_values, waits_split, waits_same, registers_valued, stacked, stacked_long, stacked_taken, stacked_dropped, stacked_reversed}
use Rattle.vg_flattened.proofs.Right.{linear}

-- A call leaves in no other way than by the end of the whole run.
abbrev pub Never : {S T : Type 0} → Signal → S → T → Type 0
Never why s t = ⊥

-- Behind a call the caller has what it had, but for the arguments, and both have the result, which so many bytes hold.
abbrev pub Returned : Layout → (width count : ℕ) → Firm → Firm → Deciding State → Type 0
Returned lay width count s s1 d1 =
    (v : ℕ) × (s1.values ≡ v ∷ drop count s.values) × (s1.locals ≡ s.locals) × (s1.self ≡ s.self) × (d1.result ≡ v) × (v < 256 ^ width) × (v < 2 ^ 32)
    × RamStands lay.ram s1.columns d1.state.ram

-- The state in which procedure q begins with these arguments.
abbrev pub begins : LinProgram → (q : ℕ) → (xs ram : List ℕ) → State
begins p q xs ram = record { locals = begun (widths_of (slice_get p.procedures q)) xs; waiting = []; ram = ram }

-- What a procedure of linear code gets: a receiver is the first of its arguments. Where it is called on none, any number is; and
-- where it has no arguments, it may get nothing at all.
abbrev pub ArePassed : (receives : Bool) → (self : Option ℕ) → (args xs : List ℕ) → Type 0
ArePassed false self args xs = xs ≡ args
ArePassed true (Some n) args xs = xs ≡ n ∷ args
ArePassed true None args xs = ((n : ℕ) × (xs ≡ n ∷ args)) ⊎ ((args ≡ []) × (xs ≡ []))

-- A call enters a procedure on both sides, and does the same.
pub record Enters (lay : Layout) (f : FirmProgram) (p : LinProgram) (call : FirmCaller History) (go : LinCaller State)
    (q count : ℕ) (self : Option ℕ) (s : Firm) (w : World History) (ram : List ℕ) : Type 0 where
  pub packed : FirmProcedure
  pub flattened : LinProcedure
  pub is_packed : slice_get f.procedures q ≡ Some packed
  pub is_linear : slice_get p.procedures q ≡ Some flattened
  pub fit : IsFit packed
  pub flat : IsFlat lay packed flattened
  pub many : count ≡ packed.params
  pub long : length (arguments count s) ≡ count
  pub fits : all_fit packed.widths (arguments count s) ≡ true
  pub receives : may_receive packed self ≡ true
  pub alike : (xs : List ℕ) → ArePassed packed.receives self (arguments count s) xs
      → Alike (Returned lay packed.result count s) Never (call q count self s w) (go q (fresh (begins p q xs ram)) w)

-- A call is one that no legal program makes, or enters a procedure.
abbrev pub AlikeCalls : Layout → FirmProgram → LinProgram → FirmCaller History → LinCaller State → Type 0
AlikeCalls lay f p call go =
    (q count : ℕ) (self : Option ℕ) (s : Firm) (w : World History) (ram : List ℕ) → IsFair w → RamStands lay.ram s.columns ram
    → (call q count self s w ≡ over Wrong s w) ⊎ Enters lay f p call go q count self s w ram

-- What is done for an interrupt keeps the values that wait.
abbrev pub AlikeHandling : Layout → Room → (ws : List ℕ) → (handle : ℕ → Piece Firm History) → (handle' : ℕ → Piece (Deciding State) History) → Type 0
AlikeHandling lay r ws handle handle' = (hs : List Operand) (vector : ℕ)
    → AlikePiece (Held lay r ws (only hs)) (Held lay r ws (only hs)) (Leaves lay r ws) (handle vector) (handle' vector)

pub alike_behind_call : {G J : Firm → Deciding State → Type 0} {L : Signal → Firm → Deciding State → Type 0} {a : Answer Firm History}
    {b : Answer (Deciding State) History} (g : Piece (Deciding State) History) → Alike G Never a b
    → ((s : Firm) (t : Deciding State) (w : World History) → IsFair w → G s t → Alike J L (Gives s w) (g t w)) → Alike J L a (and_then b g)
alike_behind_call g (gives i p) k = k _ _ _ i p
alike_behind_call g (leaves i p) k = absurd p
alike_behind_call g overs k = overs
alike_behind_call g wrong k = wrong

pub alike_behind_both : {G J : Firm → Deciding State → Type 0} {L : Signal → Firm → Deciding State → Type 0} {a : Answer Firm History}
    {b : Answer (Deciding State) History} (f : Piece Firm History) (g : Piece (Deciding State) History) → Alike G Never a b
    → ((s : Firm) (t : Deciding State) (w : World History) → IsFair w → G s t → Alike J L (f s w) (g t w)) → Alike J L (and_then a f) (and_then b g)
alike_behind_both f g (gives i p) k = k _ _ _ i p
alike_behind_both f g (leaves i p) k = absurd p
alike_behind_both f g overs k = overs
alike_behind_both f g wrong k = wrong

module _ (k : Codes) (f : FirmProgram) (m : FirmProcedure) (call : FirmCaller History) (handle : ℕ → Piece Firm History)
    (p : LinProgram) (go : LinCaller State) (lay : Layout) (r : Room) (ws : List ℕ) (wide : AreWidths r m.widths ws)
    (calls : AlikeCalls lay f p call go) where
  abbrev linear' : Block → Piece (Deciding State) History
  linear' = linear k f m call handle p go lay r ws wide

  -- the state with values that wait for a call
  abbrev holding : State → List Waiting → State
  holding t xs = record t { waiting = stacked xs t.waiting }

  -- the pushes of a call
  pushes_do : (pushed : List Passed) (vs : List ℕ) (c : Calling) (d : Deciding State) (w : World History) → Passes pushed vs d.state
      → linear' (CallTo pushed c) d w ≡ linear' (CallTo [] c) (record d { state = holding d.state (waits_of pushed vs) }) w
  pushes_do [] [] c d w h = refl
  pushes_do [] (v ∷ vs) c d w h = absurd h
  pushes_do (a ∷ more) [] c d w h = absurd h
  pushes_do (a ∷ more) (v ∷ vs) c d w h =
      ap (λ z. and_then (lifted (using z (λ x. Goes (record d.state { waiting = record { width = a.width; value = low a.width x } ∷ d.state.waiting })
      w.outside)) d w) (linear' (CallTo more c))) h.0
      ∙ ap (λ z. linear' (CallTo more c) (record d { state = record d.state { waiting = record { width = a.width; value = z } ∷ d.state.waiting } }) w) h.1
      ∙ pushes_do more vs c (record d { state = record d.state { waiting = record { width = a.width; value = v } ∷ d.state.waiting } }) w
      (passes_as more vs d.state (record { width = a.width; value = v } ∷ d.state.waiting) h.2)

  -- the entry of a procedure with values that were pushed, and others
  enters : (c : Calling) (q : ℕ) (ps others : List Waiting) (t : State) (mq : LinProcedure) → t.waiting ≡ []
      → lin_called p c.callee (holding t ps) ≡ Some q → slice_get p.procedures q ≡ Some mq → c.pushed ≡ length ps
      → values (operands c.registers) (holding t ps) ≡ Some others → length (ps ++ others) ≡ mq.params
      → same_widths mq.widths (ps ++ others) ≡ true → gives_to mq.result c.to ≡ true
      → enter p c (holding t ps) ≡ Some (record { proc = q; state = begins p q (values_of (ps ++ others)) t.ram; kept = record t { waiting = [] } })
  enters c q ps others t mq none callee has many vals all same gives' =
      ap (λ z. entry_at p z c (holding t ps)) callee
      ∙ ap (λ z. entry_of q z c (holding t ps)) has
      ∙ ap (λ n. if length (take n (holding t ps).waiting) == n
      then entry_with q mq c.to (reverse (take n (holding t ps).waiting)) (record t { waiting = drop n (holding t ps).waiting })
      (values (operands c.registers) (holding t ps)) else None) many
      ∙ ap (λ z. if length (take (length ps) (stacked ps z)) == length ps
      then entry_with q mq c.to (reverse (take (length ps) (stacked ps z))) (record t { waiting = drop (length ps) (stacked ps z) })
      (values (operands c.registers) (holding t ps)) else None) none
      ∙ ap (λ z. if length z == length ps then entry_with q mq c.to (reverse z) (record t { waiting = drop (length ps) (stacked ps []) })
      (values (operands c.registers) (holding t ps)) else None) (stacked_taken ps)
      ∙ ap (λ z. if length (stacked ps []) == length ps then entry_with q mq c.to (reverse (stacked ps [])) (record t { waiting = z })
      (values (operands c.registers) (holding t ps)) else None) (stacked_dropped ps)
      ∙ ap (λ b. if b then entry_with q mq c.to (reverse (stacked ps [])) (record t { waiting = [] }) (values (operands c.registers) (holding t ps)) else None)
      (same_is (length (stacked ps [])) (length ps) (stacked_long ps))
      ∙ ap (entry_with q mq c.to (reverse (stacked ps [])) (record t { waiting = [] })) vals
      ∙ ap (λ z. entry_by q mq c.to (record t { waiting = [] }) (z ++ others)) (stacked_reversed ps)
      ∙ ap (λ b. if b then Some (entry mq.widths) else None) fits'
      ∙ ap (λ z. Some (entry (widths_of z))) (sym has)
    where
      entry : List ℕ → Entry State
      entry widths =
          record { proc = q; state = record { locals = begun widths (values_of (ps ++ others)); waiting = []; ram = t.ram }; kept = record t { waiting = [] } }

      same_is : (a b : ℕ) → a ≡ b → (a == b) ≡ true
      same_is a b e = grind arith

      both_true : (a b : Bool) → a ≡ true → b ≡ true → (a && b) ≡ true
      both_true a b e h = grind arith

      fits' : ((length (ps ++ others) == mq.params) && same_widths mq.widths (ps ++ others) && gives_to mq.result c.to) ≡ true
      fits' =
          both_true ((length (ps ++ others) == mq.params) && same_widths mq.widths (ps ++ others)) (gives_to mq.result c.to)
          (both_true (length (ps ++ others) == mq.params) (same_widths mq.widths (ps ++ others)) (same_is _ mq.params all) same) gives'

  -- ---- calls with these arguments

  -- what a procedure gets, and gives back, by what it is
  pub record Takes (mq : FirmProcedure) (self : Option ℕ) (args vs : List ℕ) (xs : List Passed) (to : Option Target) : Type 0 where
    pub passed : ArePassed mq.receives self args vs
    pub long : length vs ≡ receivers mq.receives + length args
    pub narrow : IsNarrow mq.receives vs
    pub widths : take (own_params mq) (all_widths mq) ≡ bytes_in xs
    pub result : gives_to (result_width mq) to ≡ true

  abbrev pub TakesIn : (q count : ℕ) → Option ℕ → (args vs : List ℕ) → List Passed → Option Target → Type 0
  TakesIn q count self args vs xs to =
      (mq : FirmProcedure) → slice_get f.procedures q ≡ Some mq → IsFit mq → count ≡ mq.params → length args ≡ count → may_receive mq self ≡ true
      → Takes mq self args vs xs to

  -- where the result of a procedure is behind a call
  abbrev pub Lands : (q : ℕ) → Option Target → (home : Operand) → (hs : List Operand) → Type 0
  Lands q to home hs =
      (mq : FirmProcedure) → slice_get f.procedures q ≡ Some mq → (v : ℕ) → v < 256 ^ mq.result → v < 2 ^ 32 → gives_to (result_width mq) to ≡ true
      → (s2 : Firm) (t : State) → AreSame lay r ws hs s2 t
      → AreSame lay r ws (home ∷ hs) (record s2 { values = v ∷ s2.values }) (with_result to v t)

  -- the bytes of the parameters hold what is passed
  within : (mq : FirmProcedure) (self : Option ℕ) (args vs : List ℕ) (os : List Operand) (t : State) → IsFit mq → all_fit mq.widths args ≡ true
      → length args ≡ mq.params → ArePassed mq.receives self args vs → length vs ≡ receivers mq.receives + length args → IsNarrow mq.receives vs
      → Valued os vs t → Within (take (own_params mq) (all_widths mq)) vs
  within mq self args vs os t fit fits' many passed long narrow valued =
      by_kind mq.receives mq.params mq.widths fit.params fits' many passed long narrow
    where
      by_kind : (b : Bool) (params : ℕ) (ns : List ℕ) → params ≤ length ns → all_fit ns args ≡ true → length args ≡ params
          → ArePassed b self args vs → length vs ≡ receivers b + length args → IsNarrow b vs
          → Within (take (receivers b + params) (with_receiver_width b (widened (if b then params else 0) ns))) vs
      by_kind true params ns le fs ml ps lg nw = within_found params ns os vs t le (omega (arith, lg, ml)) nw valued
      by_kind false params ns le fs ml ps lg nw =
          subst (λ z. Within (take z ns) vs) (omega (arith, ml, lg)) (within_fit ns vs (subst (λ z. all_fit ns z ≡ true) (sym ps) fs))

  pub right_passing : (callee : Callee) (q count : ℕ) (to : Option Target) (home : Operand) (self : Option ℕ) (us : List Width) (os hs : List Operand)
      → Lands q to home hs
      → (s : Firm) (d : Deciding State) (w : World History) → IsFair w → (vs : List ℕ) → Valued os vs d.state
      → ((u : List Waiting) → lin_called p callee (record d.state { waiting = u }) ≡ Some q)
      → TakesIn q count self (arguments count s) vs (in_widths us os) to
      → AreAt hs (drop count s.values) d.state.locals → AreKept r ws s.self s.locals d.state.locals → d.state.waiting ≡ []
      → RamStands lay.ram s.columns d.state.ram
      → Alike (Held lay r ws (only (home ∷ hs))) (Leaves lay r ws) (call q count self s w) (linear' (passing callee to (in_widths us os)) d w)
  right_passing callee q count to home self us os hs lands s d w i vs valued callee_is takes' at kept none held =
      by_call (calls q count self s w d.state.ram i held)
    where
      xs : List Passed
      xs = in_widths us os

      n : ℕ
      n = length xs - 4

      c : Calling
      c = call_with callee to xs

      behind : (en : Enters lay f p call go q count self s w d.state.ram) → gives_to (result_width en.packed) to ≡ true → (d1 : Deciding State)
          → (s1 : Firm) (d2 : Deciding State) (w1 : World History) → IsFair w1 → Returned lay en.packed.result count s s1 d2
          → Alike (Held lay r ws (only (home ∷ hs))) (Leaves lay r ws) (Gives s1 w1)
          (resumed (language p) (Result c) (record d.state { waiting = [] }) d1 d2 w1)
      behind en ok d1 s1 d2 w1 i1 (v, e1, e2, e3, e4, fit, small, held1) =
          gives i1 (subst (λ z. AreSame lay r ws (home ∷ hs) s1 (with_result to z (record d.state { waiting = []; ram = d2.state.ram }))) (sym e4)
          (subst (λ z. AreSame lay r ws (home ∷ hs) (record s1 { values = z }) (with_result to v (record d.state { waiting = []; ram = d2.state.ram }))) (sym e1)
          (lands en.packed en.is_packed v fit small ok (record s1 { values = drop count s.values }) (record d.state { waiting = []; ram = d2.state.ram })
          (record {
            waits = at;
            kept = subst (λ z. AreKept r ws z s1.locals d.state.locals) (sym e3) (subst (λ z. AreKept r ws s.self z d.state.locals) (sym e2) kept);
            none = refl;
            ram = held1;
          }))))

      by_enters : Enters lay f p call go q count self s w d.state.ram
          → Alike (Held lay r ws (only (home ∷ hs))) (Leaves lay r ws) (call q count self s w) (linear' (passing callee to xs) d w)
      by_enters en =
          subst (λ z. Alike (Held lay r ws (only (home ∷ hs))) (Leaves lay r ws) (call q count self s w) z)
          (sym (pushes_do (pushed_of xs) (take n vs) c d w (passes_take n xs vs d.state passes)))
          (subst (λ z. Alike (Held lay r ws (only (home ∷ hs))) (Leaves lay r ws) (call q count self s w)
          (with_found z (entered (language p) go c) d1 w)) (sym entry)
          (alike_behind_call (resumed (language p) (Result c) (record d.state { waiting = [] }) d1) (en.alike vs takes.passed) (behind en takes.result d1)))
        where
          takes : Takes en.packed self (arguments count s) vs xs to
          takes = takes' en.packed en.is_packed en.fit en.many en.long en.receives

          passes : Passes xs vs d.state
          passes =
              passes_in us os vs d.state valued
              (subst (λ z. Within z vs) takes.widths
              (within en.packed self (arguments count s) vs os d.state en.fit en.fits (en.long ∙ en.many) takes.passed takes.long takes.narrow valued))

          ps : List Waiting
          ps = waits_of (take n xs) (take n vs)

          others : List Waiting
          others = waits_of (drop n xs) (drop n vs)

          d1 : Deciding State
          d1 = record d { state = holding d.state ps }

          all : ps ++ others ≡ waits_of xs vs
          all = waits_split n xs vs

          back_long : length (drop n xs) ≤ 4
          back_long = let l = length-drop n xs in omega (arith, l)

          pushed_is : n ≡ length ps
          pushed_is =
              let a = waits_long (take n xs) (take n vs) d.state (passes_take n xs vs d.state passes) in
              let b = passes_long (take n xs) (take n vs) d.state (passes_take n xs vs d.state passes) in
              let l = length-take-le n xs (omega arith) in
              omega (arith, a, b, l)

          entry : enter p c (holding d.state ps)
              ≡ Some (record { proc = q; state = begins p q vs d.state.ram; kept = record d.state { waiting = [] } })
          entry =
              enters c q ps others d.state en.flattened none (callee_is (stacked ps d.state.waiting)) en.is_linear pushed_is
              (registers_valued (drop n xs) (drop n vs) (holding d.state ps) back_long
              (passes_as (drop n xs) (drop n vs) d.state (stacked ps d.state.waiting) (passes_drop n xs vs d.state passes)))
              (ap length all ∙ waits_long xs vs d.state passes ∙ takes.long ∙ ap (λ z. receivers en.packed.receives + z) (en.long ∙ en.many)
              ∙ sym en.flat.parameters)
              (ap (same_widths en.flattened.widths) all ∙ ap (λ z. same_widths z (waits_of xs vs)) en.flat.widths
              ∙ waits_same (all_widths en.packed) (own_params en.packed) (replicate en.flat.room.temps 4) xs vs takes.widths)
              (ap (λ z. gives_to z to) en.flat.result ∙ takes.result)
              ∙ ap (λ z. Some (record { proc = q; state = begins p q z d.state.ram; kept = record d.state { waiting = [] } }))
              (ap values_of all ∙ waits_values xs vs d.state passes)

      by_call : (call q count self s w ≡ over Wrong s w) ⊎ Enters lay f p call go q count self s w d.state.ram
          → Alike (Held lay r ws (only (home ∷ hs))) (Leaves lay r ws) (call q count self s w) (linear' (passing callee to xs) d w)
      by_call (inl e) = subst (λ z. Alike (Held lay r ws (only (home ∷ hs))) (Leaves lay r ws) z (linear' (passing callee to xs) d w)) (sym e) wrong
      by_call (inr en) = by_enters en

  -- ---- where results are

  pub in_temp : (q width to : ℕ) (hs : List Operand) → ArePlaced r.locals hs → temp r hs ≡ Some to
      → Lands q (Some (record { width = width; local = to })) (Local to) hs
  in_temp q width to hs placed has mq e v fit small ok s2 t same = put_temp lay r m.widths ws hs s2 t to v wide placed has small same

  -- no byte holds nothing but 0
  pub in_none : (mq : FirmProcedure) (v : ℕ) → v < 256 ^ mq.result → result_width mq ≡ 0 → v ≡ 0
  in_none mq v fit e = by_kind mq.receives e
    where
      none : (n : ℕ) → n < 256 ^ 0 → n ≡ 0
      none n h = omega (arith, h)

      by_kind : (b : Bool) → (if b then 4 else mq.result) ≡ 0 → v ≡ 0
      by_kind true h = absurd (grind arith)
      by_kind false h = none v (subst (λ z. v < 256 ^ z) h fit)

  -- a call of a procedure that is found in the run
  pub found_taken : (q count to : ℕ) (n : ℕ) (args us : List ℕ) (o : Operand) (os : List Operand) → length os ≡ length us → us ≡ args
      → TakesIn q count (Some n) args (n ∷ us) (in_widths (Two' ∷ []) (o ∷ os)) (Some (record { width = 4; local = to }))
  found_taken q count to n args us o os many same mq e fit cm long ok =
      record {
        passed = subst (λ z. ArePassed z (Some n) args (n ∷ us)) (sym is) (ap (λ z. n ∷ z) same);
        long = subst (λ z. length (n ∷ us) ≡ receivers z + length args) (sym is) (let l = ap length same in omega (arith, l));
        narrow = subst (λ z. IsNarrow z (n ∷ us)) (sym is) (lt_of n (256 ^ 2) (both_of mq.receives (fits 2 n) ok).1);
        widths = widths_are;
        result = subst (λ z. gives_to (if z then 4 else mq.result) (Some (record { width = 4; local = to })) ≡ true) (sym is) refl;
      }
    where
      both_of : (a b : Bool) → (a && b) ≡ true → (a ≡ true) × (b ≡ true)
      both_of true true e1 = (refl, refl)
      both_of true false e1 = absurd (grind arith)
      both_of false b e1 = absurd (grind arith)

      lt_of : (a b : ℕ) → nat_lt a b ≡ true → a < b
      lt_of a b e1 = grind arith

      is : mq.receives ≡ true
      is = (both_of mq.receives (fits 2 n) ok).0

      widths_are : take (own_params mq) (all_widths mq) ≡ bytes_in (in_widths (Two' ∷ []) (o ∷ os))
      widths_are = at mq.receives is mq.params mq.widths cm fit.params
        where
          at : (b : Bool) → b ≡ true → (params : ℕ) (ns : List ℕ) → count ≡ params → params ≤ length ns
              → take (receivers b + params) (with_receiver_width b (widened (if b then params else 0) ns)) ≡ bytes_in (in_widths (Two' ∷ []) (o ∷ os))
          at false b params ns cp le = absurd (grind arith)
          at true b params ns cp le =
              take_found params ns le ∙ ap (λ k. 2 ∷ replicate k 4) (let l = ap length same in omega (arith, many, l, long, cp))
              ∙ ap (λ z. 2 ∷ z) (sym (bytes_in_fours os))
