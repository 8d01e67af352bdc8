-- That loads and stores of elements whose type has no arrays become blocks that do the same.
use Rattle.std.specs.Prelude.{ℕ, suc, ◌-◌, ◌^◌, Bool, true, false, nat_lt, List, [], ◌∷◌, Option, Some, None, slice_get}
use Rattle.std.proofs.Common.{◌≡◌, sym, ap}
use Rattle.std.proofs.lemmas.Option.{none-some}
use Rattle.vg_meaning.specs.History.{History}
use Rattle.vg_meaning.specs.World.{World}
use Rattle.vg_meaning.specs.Answer.{Signal, Answer, Piece}
use Rattle.vg_codes.specs.Codes.{Codes}
use Rattle.vg_firm.specs.declared.step.Elements.{Elements}
use Rattle.vg_firm.specs.declared.step.Step.{Step}
use Rattle.vg_firm.specs.declared.step.Step.TheVariants.{LoadItem, StoreItem, Length}
use Rattle.vg_firm.specs.Program.{Procedure as FirmProcedure, Program as FirmProgram}
use Rattle.vg_firm.specs.Meaning.{State as Firm, Caller as FirmCaller, step as firm_step, taking, take_from, not_null, with_found, stop_unless}
use Rattle.vg_firm.specs.Meaning.{checked, of_width, load, store, arrays_of, stands_in as is_in, item_index, array_at, at_item, put_length}
use Rattle.vg_lin.specs.declared.instr.Operand.{Operand}
use Rattle.vg_lin.specs.declared.instr.Operand.TheVariants.{Known}
use Rattle.vg_lin.specs.Program.{Program as LinProgram}
use Rattle.vg_lin.specs.State.{State}
use Rattle.vg_lin.specs.Structured.{Deciding, Caller as LinCaller}
use Rattle.vg_flatten_shapes.specs.declared.open.Truth.TheVariants.{Holds}
use Rattle.vg_flatten_shapes.specs.declared.layout.Layout.{Layout}
use Rattle.vg_flatten_shapes.specs.declared.room.Room.{Room}
use Rattle.vg_flatten_shapes.specs.Shapes.{Shape, only}
use Rattle.vg_flatten_shapes.specs.Blocks.{Block, stop_where}
use Rattle.vg_flatten_shapes.specs.Made.{Made, is_zero}
use Rattle.vg_flatten_places.specs.Places.{load_nothing, load_no_item, store_no_item}
use Rattle.vg_flatten.specs.Columns.{FlashStands}
use Rattle.vg_flattened.proofs.Alike.{IsFair, Alike, wrong}
use Rattle.vg_flattened.proofs.Related.{ArePlaced, AreAt, AreWidths, AreSame, Held, Leaves}
use Rattle.vg_flattened.proofs.Locals.{value_of_home}
use Rattle.vg_flattened.proofs.Right.{Right, linear}
use Rattle.vg_flattened.proofs.ObjectRight.{null_check}

-- what is done with what is not there is Wrong
pub not_found : {A : Type 0} {G : Firm → Deciding State → Type 0} {L : Signal → Firm → Deciding State → Type 0} (o : Option A) (next : A → Piece Firm History)
    (s : Firm) (w : World History) (b : Answer (Deciding State) History) → o ≡ None → Alike G L (with_found o next s w) b
not_found None next s w b e = wrong
not_found (Some x) next s w b e = absurd (none-some x (sym e))

module _ (k : Codes) (f : FirmProgram) (m : FirmProcedure) (call : FirmCaller History) (handle : ℕ → Piece Firm History)
    (p : LinProgram) (go : LinCaller State) (lay : Layout) (r : Room) (ws : List ℕ) (wide : AreWidths r m.widths ws)
    (flash : FlashStands lay f p) where
  abbrev Right' : Shape → Made → Piece Firm History → Type 0
  Right' = Right k f m call handle p go lay r ws wide

  abbrev linear' : Block → Piece (Deciding State) History
  linear' = linear k f m call handle p go lay r ws wide

  abbrev step' : Step → Piece Firm History
  step' = firm_step k f m call handle

  no_array : (t n : ℕ) → slice_get lay.tables t ≡ None → array_at f t n ≡ None
  no_array t n e = ap (λ o. slice_get (arrays_of o) (n - 1)) (flash.known t e)

  pub right_no_length : (t : ℕ) → slice_get lay.tables t ≡ None → (hs : List Operand) → ArePlaced r.locals hs
      → Right' (only hs) (load_nothing hs) (step' (Length t))
  right_no_length t e [] placed = tt
  right_no_length t e (h ∷ hs) placed = ((tt, placed.1), λ s d w i q. by_values s d w i q s.values q.waits)
    where
      by_values : (s : Firm) (d : Deciding State) (w : World History) → IsFair w → AreSame lay r ws (h ∷ hs) s d.state → (vs : List ℕ)
          → AreAt (h ∷ hs) vs d.state.locals
          → Alike (Held lay r ws (only (Known 0 ∷ hs))) (Leaves lay r ws) (take_from vs (not_null (λ n. with_found (array_at f t n) put_length)) s w)
          (linear' (stop_where 1 (Holds (is_zero h))) d w)
      by_values s d w i q [] at = absurd at
      by_values s d w i q (x ∷ vs) at =
          null_check k f m call handle p go lay r ws wide h x (λ n. with_found (array_at f t n) put_length) (record s { values = vs }) d w i
          (value_of_home h x d.state at.0.0) at.0.1
          (λ n e1. not_found (array_at f t (suc n)) put_length (record s { values = vs }) w _ (no_array t (suc n) e))

  -- what is done with an array of the type, behind its null check
  abbrev sought : Elements → (ℕ → Piece Firm History) → (i n : ℕ) → Piece Firm History
  sought e next i n =
      with_found (array_at f e.table n) (λ a. stop_unless (nat_lt i a.length) 2 (checked (is_in e a.address) (next (item_index e a.address i))))

  pub right_no_item : (e : Elements) → slice_get lay.tables e.table ≡ None → (hs : List Operand) → ArePlaced r.locals hs
      → Right' (only hs) (load_no_item hs) (step' (LoadItem e))
  right_no_item e lacks [] placed = tt
  right_no_item e lacks (j ∷ []) placed = tt
  right_no_item e lacks (j ∷ h ∷ hs) placed = ((tt, placed.1.1), λ s d w i q. by_values s d w i q s.values q.waits)
    where
      by_values : (s : Firm) (d : Deciding State) (w : World History) → IsFair w → AreSame lay r ws (j ∷ h ∷ hs) s d.state → (vs : List ℕ)
          → AreAt (j ∷ h ∷ hs) vs d.state.locals
          → Alike (Held lay r ws (only (Known 0 ∷ hs))) (Leaves lay r ws) (take_from vs (λ x. taking (at_item f e (load f e.home e.column) x)) s w)
          (linear' (stop_where 1 (Holds (is_zero h))) d w)
      by_values s d w i q [] at = absurd at
      by_values s d w i q (x ∷ []) at = absurd at.1
      by_values s d w i q (x ∷ n ∷ vs) at =
          null_check k f m call handle p go lay r ws wide h n (sought e (load f e.home e.column) x) (record s { values = vs }) d w i
          (value_of_home h n d.state at.1.0.0) at.1.0.1
          (λ n1 e1. not_found (array_at f e.table (suc n1)) _ (record s { values = vs }) w _ (no_array e.table (suc n1) lacks))

  pub right_no_store : (e : Elements) → slice_get lay.tables e.table ≡ None → (hs : List Operand) → ArePlaced r.locals hs
      → Right' (only hs) (store_no_item hs) (step' (StoreItem e))
  right_no_store e lacks [] placed = tt
  right_no_store e lacks (v ∷ []) placed = tt
  right_no_store e lacks (v ∷ j ∷ []) placed = tt
  right_no_store e lacks (v ∷ j ∷ h ∷ hs) placed = (placed.1.1.1, λ s d w i q. by_values s d w i q s.values q.waits)
    where
      by_fit : (s : Firm) (d : Deciding State) (w : World History) → IsFair w → (y x n : ℕ) (vs : List ℕ) → AreSame lay r ws (v ∷ j ∷ h ∷ hs) s d.state
          → AreAt (v ∷ j ∷ h ∷ hs) (y ∷ x ∷ n ∷ vs) d.state.locals → (b : Bool)
          → Alike (Held lay r ws (only hs)) (Leaves lay r ws)
          (checked b (taking (λ i. taking (at_item f e (λ c. store e.column c y) i))) (record s { values = x ∷ n ∷ vs }) w)
          (linear' (stop_where 1 (Holds (is_zero h))) d w)
      by_fit s d w i y x n vs q at true =
          null_check k f m call handle p go lay r ws wide h n (sought e (λ c. store e.column c y) x) (record s { values = vs }) d w i
          (value_of_home h n d.state at.1.1.0.0) at.1.1.0.1
          (λ n1 e1. not_found (array_at f e.table (suc n1)) _ (record s { values = vs }) w _ (no_array e.table (suc n1) lacks))
      by_fit s d w i y x n vs q at false = wrong

      by_values : (s : Firm) (d : Deciding State) (w : World History) → IsFair w → AreSame lay r ws (v ∷ j ∷ h ∷ hs) s d.state → (vs : List ℕ)
          → AreAt (v ∷ j ∷ h ∷ hs) vs d.state.locals
          → Alike (Held lay r ws (only hs)) (Leaves lay r ws)
          (take_from vs (of_width e.width (λ y. taking (λ x. taking (at_item f e (λ c. store e.column c y) x)))) s w)
          (linear' (stop_where 1 (Holds (is_zero h))) d w)
      by_values s d w i q [] at = absurd at
      by_values s d w i q (y ∷ []) at = absurd at.1
      by_values s d w i q (y ∷ x ∷ []) at = absurd at.1.1
      by_values s d w i q (y ∷ x ∷ n ∷ vs) at = by_fit s d w i y x n vs q at (nat_lt y (256 ^ e.width))
