-- The procedures of entries, and how many values columns have.
use Rattle.std.proofs.Common.{◌≡◌, refl, sym, ap, subst, ◌∙◌, ℕ, zero, suc, ◌<◌, ◌==◌, Bool, true, false, List, [], ◌∷◌, ◌++◌, length, map}
use Rattle.std.proofs.Common.{Option, Some, None, slice_get, slice_set, if◌then◌else◌}
use Rattle.std.proofs.lemmas.Option.{same_Some, none-some, slice_get_within}
use Rattle.std.proofs.lemmas.List.{length-map, length-replicate, length-set}
use Rattle.vg_codes.specs.Codes.{Codes}
use Rattle.vg_core.specs.declared.heap.Heap.{Heap}
use Rattle.vg_core.specs.declared.member.Member.TheVariants.{Method}
use Rattle.vg_core.specs.declared.program.Handler.{Handler}
use Rattle.vg_core.specs.declared.program.Tables.{Tables}
use Rattle.vg_core.specs.declared.value.CoreValue.{CoreValue}
use Rattle.vg_core.specs.Heap.{Place, value_at}
use Rattle.vg_core.specs.Program.{Program}
use Rattle.vg_core.specs.Session.{handler_of}
use Rattle.vg_core.specs.Typing.{IsEntry, AreEntries}
use Rattle.vg_coded.specs.Numbers.{known}
use Rattle.vg_firm.specs.declared.step.Home.{Home}
use Rattle.vg_firm.specs.declared.step.Home.TheVariants.{Ram, Flash}
use Rattle.vg_firm.specs.Meaning.{column_of}
use Rattle.vg_live.specs.declared.live_set.LiveSet.{LiveSet}
use Rattle.vg_live.specs.Rules.{Live, none, by, main, entry}
use Rattle.vg_live.specs.Sets.{flat, IsLiveSet}
use Rattle.vg_packing.specs.Layout.{Layout, Spot, spot}
use Rattle.vg_pack_calls.specs.Procedures.{procedures_from}
use Rattle.vg_placement.specs.declared.column.Column.{Column}
use Rattle.vg_packed.specs.declared.program.Entrance.{Entrance}
use Rattle.vg_packed.specs.Packed.{if_ram, ram_columns, count_of}
use Rattle.vg_packed.specs.Programs.{handler_in}
use Rattle.vg_tables.specs.declared.entry.Entry.{Entry}
use Rattle.vg_tables.specs.declared.entry.Entry.TheVariants.{Number}
use Rattle.vg_tables.specs.Entries.{number_in}
use Rattle.vg_pack_values.specs.Columns.{numbers_in, with_number, blank_if, blank_rows}
use Rattle.vg_pack_values.specs.Places.{with_value, with_place, with_places}
use Rattle.vg_plan_laws.proofs.Among.{back}

-- ---- entries

-- a live method has a procedure, which is the one that is called
module _ (p : Program) (h : Heap) (s : LiveSet) (live : IsLiveSet p h s) (procedures : List (Option ℕ)) (is : procedures ≡ procedures_from 0 s.methods) where
  pub live_procedure : (m : ℕ) → Live p h (Some (Method m)) → flat (slice_get procedures m) ≡ Some (known (flat (slice_get procedures m)))
  live_procedure m l =
      let r = live.all (Method m) l in
      let q = back 0 s.methods m r.0 r.1 in
      let e : flat (slice_get procedures m) ≡ Some q.0 = ap (λ z. flat (slice_get z m)) is ∙ q.1 in
      e ∙ ap (λ z. Some (known z)) (sym e)

  entry_there : (m : ℕ) → IsEntry p m → m < length p.tables.methods
  entry_there m e = slice_get_within p.tables.methods m e.method e.is

  pub main_procedure : IsEntry p p.main → flat (slice_get procedures p.main) ≡ Some (known (flat (slice_get procedures p.main)))
  main_procedure e = live_procedure p.main (by main (entry_there p.main e) none none)

  abbrev of_handler : Handler → Entrance
  of_handler e = record { vector = e.vector; procedure = known (flat (slice_get procedures e.method)) }

  abbrev pub Same : Option ℕ → Option ℕ → Type 0
  Same None None = Unit {0}
  Same (Some m) (Some q) = flat (slice_get procedures m) ≡ Some q
  Same _ _ = ⊥

  entries : (v at : ℕ) (hs : List Handler) → ((i : ℕ) (e : Handler) → slice_get hs i ≡ Some e → Live p h (Some (Method e.method)))
      → Same (handler_of hs v) (handler_in (map of_handler hs) v)
  entries v at [] live_ = tt
  entries v at (e ∷ hs) live_ = choose (e.vector == v) (entries v at hs (λ i d q. live_ (suc i) d q))
    where
      choose : (b : Bool) → Same (handler_of hs v) (handler_in (map of_handler hs) v) → Same (if b then Some e.method else handler_of hs v)
          (if b then Some (known (flat (slice_get procedures e.method))) else handler_in (map of_handler hs) v)
      choose true rest = live_procedure e.method (live_ 0 e refl)
      choose false rest = rest

  entry_at : (hs : List Handler) → AreEntries p hs → (i : ℕ) (e : Handler) → slice_get hs i ≡ Some e → IsEntry p e.method
  entry_at [] are i e q = absurd (none-some e q)
  entry_at (d ∷ hs) (a, are) zero e q = subst (λ z. IsEntry p z.method) (same_Some d e q) a
  entry_at (d ∷ hs) (a, are) (suc i) e q = entry_at hs are i e q

  pub handler_procedures : AreEntries p p.handlers → (v : ℕ) → Same (handler_of p.handlers v) (handler_in (map of_handler p.handlers) v)
  handler_procedures are v =
      entries v 0 p.handlers (λ i e q. by (entry i q) (entry_there e.method (entry_at p.handlers are i e q)) none none)

-- ---- how many values

map_set : (cols : List (List ℕ)) (c : ℕ) (col : List ℕ) → length col ≡ length (column_of (slice_get cols c))
    → map (λ z. length z) (slice_set cols c col) ≡ map (λ z. length z) cols
map_set [] c col e = refl
map_set (x ∷ xs) zero col e = ap (λ z. z ∷ map (λ w. length w) xs) e
map_set (x ∷ xs) (suc c) col e = ap (λ z. length x ∷ z) (map_set xs c col e)

number_lengths : (h : Home) (c i v : ℕ) (cols : List (List ℕ)) → map (λ z. length z) (with_number h c i v cols) ≡ map (λ z. length z) cols
number_lengths Ram c i v cols = map_set cols c (slice_set (column_of (slice_get cols c)) i v) (length-set (column_of (slice_get cols c)) i v)
number_lengths Flash c i v cols = refl

module _ (p : Tables) (h : Heap) (l : Layout) (k : Codes) where
  value_lengths : (a : Option Spot) (b : Option CoreValue) (cols : List (List ℕ)) → map (λ z. length z) (with_value p h l k a b cols) ≡ map (λ z. length z) cols
  value_lengths (Some o) (Some v) cols = number_lengths o.home o.column o.index _ cols
  value_lengths (Some o) None cols = refl
  value_lengths None b cols = refl

  places_lengths : (xs : List Place) (cols : List (List ℕ)) → map (λ z. length z) (with_places p h l k xs cols) ≡ map (λ z. length z) cols
  places_lengths [] cols = refl
  places_lengths (x ∷ xs) cols = places_lengths xs (with_place p h l k x cols) ∙ value_lengths (spot p l x) (value_at p h x) cols

  entry_lengths : (rows : List (List Entry)) → map (λ z. length z) (numbers_in k rows) ≡ map (λ z. length z) rows
  entry_lengths [] = refl
  entry_lengths (r ∷ rs) = ap (λ z. z ∷ map (λ w. length w) (numbers_in k rs)) (length-map r (number_in k)) ∙ ap (λ z. length r ∷ z) (entry_lengths rs)

  blank_lengths : (cs : List Column) → map (λ z. length z) (blank_rows cs) ≡ map count_of (ram_columns cs)
  blank_lengths [] = refl
  blank_lengths (c ∷ cs) = of_home c.home (blank_lengths cs)
    where
      of_home : (hm : Home) → map (λ z. length z) (blank_rows cs) ≡ map count_of (ram_columns cs) → map (λ z. length z) (blank_if hm c.count ++ blank_rows cs) ≡ map count_of (if_ram hm c (ram_columns cs))
      of_home Ram rest = ap (λ z. z ∷ map (λ w. length w) (blank_rows cs)) (length-replicate c.count (Number 0)) ∙ ap (λ z. c.count ∷ z) rest
      of_home Flash rest = rest

  pub same_lengths : (rows : List (List Entry)) (xs : List Place) (cs : List Column)
      → numbers_in k rows ≡ with_places p h l k xs (numbers_in k (blank_rows cs)) → map (λ z. length z) rows ≡ map count_of (ram_columns cs)
  same_lengths rows xs cs e =
      sym (entry_lengths rows)
      ∙ (ap (map (λ z. length z)) e ∙ (places_lengths xs (numbers_in k (blank_rows cs)) ∙ (entry_lengths (blank_rows cs) ∙ blank_lengths cs)))
