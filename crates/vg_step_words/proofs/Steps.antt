-- How many words each step takes.
use Rattle.std.specs.Prelude.{ℕ, ◌+◌, ◌-◌, ◌*◌, ◌^◌, ◌≤◌, true, false, ◌==◌, ◌&&◌, nat_lt, List, [], ◌∷◌, reverse, slice_get}
use Rattle.std.proofs.Common.{◌≡◌, subst, arith}
use Rattle.vg_firm.specs.declared.step.Step.{Step}
use Rattle.vg_firm.specs.declared.step.Step.TheVariants.{Number, This, Local, SetLocal, Forget, Operate, Apply, ReadDevice, WriteDevice}
use Rattle.vg_firm.specs.declared.step.Step.TheVariants.{Load, Store, LoadAt, StoreAt, LoadNothing, StoreNothing, LoadItem, StoreItem, Length}
use Rattle.vg_firm.specs.declared.step.Step.TheVariants.{IsWithin, StopUnlessWithin, Bind, BindFor, Call, CallFor, CallValue, Idle}
use Rattle.vg_lin.specs.declared.instr.Operand.{Operand}
use Rattle.vg_flatten_shapes.specs.declared.layout.Layout.{Layout}
use Rattle.vg_flatten_shapes.specs.declared.room.Room.{Room}
use Rattle.vg_flatten_shapes.specs.Shapes.{Shape, is_free, temp}
use Rattle.vg_flatten_shapes.specs.Blocks.{Block, open_code}
use Rattle.vg_flatten_shapes.specs.Made.{Gives}
use Rattle.vg_flatten_places.specs.Places.{may_be_null, places_in, memory_of, lone_of}
use Rattle.vg_flatten_steps.specs.Locals.{at_local, set_local, forgotten, written}
use Rattle.vg_flatten_steps.specs.Steps.{stepped}
use Rattle.vg_step_words.specs.Words.{open_words, waiting_words}
use Rattle.vg_step_words.specs.Steps.{entry_words, step_words}
use Rattle.vg_step_words.specs.Code.{reads_object}
use Rattle.vg_step_words.proofs.Operands.{found_few, copy_few}
use Rattle.vg_step_words.proofs.Blocks.{block_covers}
use Rattle.vg_step_words.proofs.Made.{Within, within_more, within_temp, within_if}
use Rattle.vg_step_words.proofs.Values.{within_operated, within_applied}
use Rattle.vg_step_words.proofs.Places.{within_no_field, within_no_store, within_load_one, within_store_one, within_load_of, within_store_of, within_length}
use Rattle.vg_step_words.proofs.Places.{unchecked, within_read, within_load_item, within_store_item}
use Rattle.vg_step_words.proofs.Calling.{within_bound, within_called, within_called_for, within_called_value, within_bound_for, within_one_of, within_cast}

module _ (cases : ℕ → ℕ) (lay : Layout) (r : Room) where
  within_local : (j : ℕ) (hs : List Operand) → Within cases 0 (at_local r j hs)
  within_local j hs = within_if cases 0 (nat_lt j r.locals) _ _ (λ e. omega arith) tt

  within_set : (i : ℕ) (hs : List Operand) → Within cases 14 (set_local r i hs)
  within_set i [] = tt
  within_set i (h ∷ hs) =
      within_if cases 14 (nat_lt (r.receiver + i) r.locals && is_free (r.receiver + i) (reverse hs)) _ _
      (λ e. let few = copy_few h in omega (arith, few)) tt

  within_forgotten : (hs : List Operand) → Within cases 0 (forgotten hs)
  within_forgotten [] = tt
  within_forgotten (h ∷ hs) = omega arith

  within_written : (address : ℕ) (hs : List Operand) → Within cases 6 (written address hs)
  within_written address [] = tt
  within_written address (h ∷ hs) = let few = found_few h 1 in omega (arith, few)

  pub within_step : (p : Step) (hs : List Operand) → Within cases (step_words lay cases p) (stepped lay r p hs)
  within_step (Number v) hs = within_if cases 0 (nat_lt v (2 ^ 32)) _ _ (λ e. omega arith) tt
  within_step This hs = within_if cases 0 (r.receiver == 0) _ _ (λ e. omega arith) (within_local 0 hs)
  within_step (Local i) hs = within_local (r.receiver + i) hs
  within_step (SetLocal i) hs = within_set i hs
  within_step Forget hs = within_forgotten hs
  within_step (Operate op) hs = within_operated cases r op hs
  within_step (Apply op) hs = within_applied cases r op hs
  within_step (ReadDevice address) hs = within_temp cases 9 (temp r hs) _ (λ to. omega arith)
  within_step (WriteDevice address) hs = within_written address hs
  within_step (Load home c) hs = within_load_one cases r (memory_of home) (slice_get (places_in lay home) c) hs
  within_step (Store c width) hs = within_store_one cases r width (slice_get lay.ram c) hs
  within_step (LoadAt home c first) hs = within_load_of cases r home first (slice_get (places_in lay home) c) hs
  within_step (StoreAt c first width) hs = within_store_of cases r first width (slice_get lay.ram c) hs
  within_step LoadNothing hs = within_no_field cases r hs
  within_step StoreNothing hs = within_no_store cases r hs
  within_step (LoadItem e) hs =
      within_load_item cases r (lone_of lay e.table) e (slice_get (places_in lay e.home) e.column) (slice_get lay.tables e.table) hs
  within_step (StoreItem e) hs = within_store_item cases r (lone_of lay e.table) e (slice_get lay.ram e.column) (slice_get lay.tables e.table) hs
  within_step (Length table) hs = within_length cases r (lone_of lay table) (slice_get lay.tables table) hs
  within_step (IsWithin first count) hs = within_one_of cases r first count hs
  within_step (StopUnlessWithin first count) hs = within_cast cases r first count hs
  within_step (Bind q) hs = within_temp cases 11 (temp r hs) _ (λ to. omega arith)
  within_step (BindFor d) hs = within_bound_for cases r d hs
  within_step (Call q count) hs = within_called cases r lay q count hs
  within_step (CallFor d count) hs = within_called_for cases r d count hs
  within_step (CallValue count) hs = within_called_value cases r count hs
  within_step Idle hs = omega arith

  -- an object is read that is not null
  pub within_unchecked : (p : Step) (h : Operand) (hs : List Operand) → reads_object p ≡ true → may_be_null r h ≡ false
      → Within cases (step_words lay cases p - 16) (stepped lay r p (h ∷ hs))
  within_unchecked (LoadAt home c first) h hs e f =
      within_more cases (entry_words home (slice_get (places_in lay home) c) - 16 + 0) (step_words lay cases (LoadAt home c first) - 16) _ (omega arith)
      (within_read cases r 0 h (unchecked cases r h f) home first (slice_get (places_in lay home) c) hs)
  within_unchecked LoadNothing h hs e f = let few = unchecked cases r h f in omega (arith, few)
  within_unchecked (BindFor d) h hs e f =
      within_more cases (53 + 8 * cases d + 0) (69 + 8 * cases d - 16) _ (omega arith) (within_bound cases r 0 d h hs (unchecked cases r h f))
  within_unchecked p h hs e f = absurd (cc e)

pub steps_few : (cases : ℕ → ℕ) (lay : Layout) (r : Room) (p : Step) (hs : List Operand) (at : ℕ) (b : Block) (s : Shape) → stepped lay r p hs ≡ Gives b s
    → open_words cases (open_code b at) + waiting_words s.truth ≤ step_words lay cases p
steps_few cases lay r p hs at b s e =
    let few = subst (Within cases (step_words lay cases p)) e (within_step cases lay r p hs) in
    let all = block_covers cases b at in omega (arith, few, all)
