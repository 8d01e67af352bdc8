-- The columns hold the initialised heap.
use Rattle.std.proofs.Common.{◌≡◌, refl, ap, subst, ◌∙◌, ℕ, ◌<◌, List, length, Option, Some, None}
use Rattle.std.proofs.lemmas.List.{length-map}
use Rattle.vg_codes.specs.Codes.{Codes}
use Rattle.vg_core.specs.declared.types.CoreType.{CoreType}
use Rattle.vg_core.specs.declared.value.CoreValue.{CoreValue}
use Rattle.vg_core.specs.declared.value.CoreValue.TheVariants.{Int, Bool as Truth, Char, Raw, Null, Obj, Arr, Bound}
use Rattle.vg_core.specs.declared.heap.Heap.{Heap}
use Rattle.vg_core.specs.declared.member.Member.TheVariants.{Field, Cell}
use Rattle.vg_core.specs.Heap.{Kind, kind_of, Place, OfComponent, OfObject, OfArray, value_at}
use Rattle.vg_core.specs.Program.{Program}
use Rattle.vg_core.specs.Types.{HasType}
use Rattle.vg_core.specs.Typing.{WellFormed}
use Rattle.vg_sound.specs.Good.{TypedHeap}
use Rattle.vg_sound.proofs.Values.{none_some}
use Rattle.vg_sound.proofs.Runs.{kinds_of_heap}
use Rattle.vg_firm.specs.Program.{Program as FirmProgram}
use Rattle.vg_coded.specs.Kept.{IsKept}
use Rattle.vg_packing.specs.Layout.{Column, Layout, Spot, spot, spot_in}
use Rattle.vg_packing.specs.Packs.{IsKeptPlace, Holds}
use Rattle.vg_live.specs.Rules.{cell_in, holder, owner, Live, none, by, method, receiver, in_component, in_delegate, in_object, in_array}
use Rattle.vg_packed.specs.Plain.{AreRanged}
use Rattle.vg_packed.specs.Uses.{held}
use Rattle.vg_packed.specs.IsOf.{IsOf}
use Rattle.vg_packed.proofs.There.{cell_there, delegate_there, value_typed}

module _ (p : Program) (formed : WellFormed p.tables) (h : Heap) (ranged : AreRanged p.tables h) (κ : List Kind) (typed : TypedHeap p.tables κ h)
    (l : Layout) (k : Codes) (f : FirmProgram) (is : IsOf p h l k f) where
  within : (j : ℕ) → j < length κ → j < length h.cells
  within j a = subst (λ z. j < z) (ap length (kinds_of_heap p.tables κ h typed) ∙ length-map h.cells kind_of) a

  -- what holds a kept place with a spot is live
  columned : (x : ℕ) (i : ℕ) (c : Option Column) (o : Spot) → l.column x ≡ c → spot_in c i ≡ Some o → Live p h (Some (Field x))
  columned x i None o e s = none_some o s
  columned x i (Some c) o e s = is.only_fields x c e

  holder_live : (x : Place) (o : Spot) → IsKeptPlace l x → spot p.tables l x ≡ Some o → Live p h (holder x)
  holder_live (OfComponent x) o kept s = columned x _ (l.column x) o refl s
  holder_live (OfObject j x) o kept s = columned x _ (l.column x) o refl s
  holder_live (OfArray j i) o kept s = is.only_cells j kept

  owner_live : (x : Place) → IsKeptPlace l x → Live p h (owner x)
  owner_live (OfComponent x) kept = none
  owner_live (OfObject j x) kept = is.only_cells j kept
  owner_live (OfArray j i) kept = none

  -- rules 7, 9 and 10: the cell to which a kept place refers is live
  cell_live : (x : Place) (o : Spot) (v : CoreValue) (j : ℕ) → IsKeptPlace l x → spot p.tables l x ≡ Some o → value_at p.tables h x ≡ Some v
      → cell_in v ≡ Some j → j < length h.cells → Live p h (Some (Cell j))
  cell_live (OfComponent x) o v j kept s e c there = by (in_component v e c) there (holder_live (OfComponent x) o kept s) none
  cell_live (OfObject i x) o v j kept s e c there = by (in_object v e c) there (holder_live (OfObject i x) o kept s) (is.only_cells i kept)
  cell_live (OfArray i n) o v j kept s e c there = by (in_array n v e c) there (is.only_cells i kept) none

  -- what a kept place with a spot holds is kept
  module _ (x : Place) (o : Spot) (kept : IsKeptPlace l x) (s : spot p.tables l x ≡ Some o) where
    cell_kept : (v : CoreValue) (t : CoreType) (j : ℕ) → HasType p.tables κ v t → value_at p.tables h x ≡ Some v → cell_in v ≡ Some j
        → 0 < l.numbering.number j
    cell_kept v t j a e c = is.cells j (cell_live x o v j kept s e c (within j (cell_there p.tables κ v t j a c)))

    -- rule 8
    delegate_kept : (r : Option ℕ) (m : ℕ) (t : CoreType) → HasType p.tables κ (Bound r m) t → value_at p.tables h x ≡ Some (Bound r m)
        → IsKept l.numbering (Bound r m)
    delegate_kept None m t a e =
        let there = delegate_there p.tables κ None m t a in
        let q = is.methods m (by (in_delegate x (Bound None m) e method) there.0 (holder_live x o kept s) (owner_live x kept)) in
        ((q.0, q.1, is.bindable m (held x None (holder_live x o kept s) (owner_live x kept) e)), tt)
    delegate_kept (Some j) m t a e =
        let there = delegate_there p.tables κ (Some j) m t a in
        let q = is.methods m (by (in_delegate x (Bound (Some j) m) e method) there.0 (holder_live x o kept s) (owner_live x kept)) in (
          (q.0, q.1, is.bindable m (held x (Some j) (holder_live x o kept s) (owner_live x kept) e)),
          is.cells j (by (in_delegate x (Bound (Some j) m) e receiver) (within j (there.1 j refl)) (holder_live x o kept s) (owner_live x kept)),
        )

    value_kept : (v : CoreValue) (t : CoreType) → HasType p.tables κ v t → value_at p.tables h x ≡ Some v → IsKept l.numbering v
    value_kept (Int z) t a e = ranged x (Int z) e
    value_kept (Truth b) t a e = tt
    value_kept (Char c) t a e = ranged x (Char c) e
    value_kept (Raw w b) t a e = ranged x (Raw w b) e
    value_kept Null t a e = tt
    value_kept (Obj j) t a e = cell_kept (Obj j) t j a e refl
    value_kept (Arr j) t a e = cell_kept (Arr j) t j a e refl
    value_kept (Bound r m) t a e = delegate_kept r m t a e

  pub holds_first : Holds p.tables l k f h f.ram
  holds_first =
      record {
        shaped = is.kinds;
        held = λ x o v kept s e. (let t = value_typed p.tables formed κ h typed x v e in value_kept x o kept s v t.0 t.1 e, is.values x o v kept s e);
      }
