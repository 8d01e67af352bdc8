-- The procedure of a guess that was looked at keeps what every procedure keeps, and is the older one, trimmed.
use Rattle.std.specs.Prelude.{◌⊎◌, ℕ, zero, suc, ◌<◌, ◌≤◌, true, List, [], ◌∷◌, length, Option, Some, None, slice_get}
use Rattle.std.proofs.Common.{◌≡◌, inl, inr, refl, sym, ◌∙◌, subst, arith}
use Rattle.std.proofs.lemmas.Option.{slice_get_within}
use Rattle.vg_lin.specs.declared.instr.Instr.{Instr}
use Rattle.vg_lin.specs.declared.instr.Instr.TheVariants.{Jump}
use Rattle.vg_lin.specs.Program.{Procedure}
use Rattle.vg_lin.specs.Sound.{behind, waits_of, Waits, IsSound}
use Rattle.vg_lin.proofs.Scanned.{sound_by, waits_marked}
use Rattle.vg_trimming.specs.declared.facts.Facts.{Facts}
use Rattle.vg_trimming.specs.Trimming.{Both}
use Rattle.vg_trimming.specs.Trimmed.{Trims, IsTrimmedTo}
use Rattle.vg_trim.specs.Flow.{led_to, is_return, LeadsAlong, ReturnsThere, ReturnsLater}
use Rattle.vg_trim.specs.Looked.{FlowsAlong, HasLocals, IsFree, IsInOrder, IsInFreeOrder, IsLookedAt}
use Rattle.vg_trim.proofs.Flowing.{none, none_waits, returns, same_behind, waits_free, waits_too}
use Rattle.vg_trim.proofs.Ranged.{ranged}

at_place : {A : Type 0} (xs : List A) (k : ℕ) → k < length xs → (x : A) × (slice_get xs k ≡ Some x)
at_place [] k h = absurd (omega (arith, h))
at_place (x ∷ xs) zero h = (x, refl)
at_place (x ∷ xs) (suc k) h = at_place xs k (omega (arith, h))

abbrev newer : Procedure → (widths : List ℕ) → (code : List Instr) → Procedure
newer old widths code = record { method = old.method; params = old.params; result = old.result; widths = widths; code = code }

abbrev both : Procedure → (widths : List ℕ) → (code : List Instr) → List Facts → (places : List ℕ) → Both
both old widths code fs places =
    record { old = old.widths; new = widths; older = old.code; newer = code; facts = fs; places = places }

-- ---- where nothing waits

module _ (old : Procedure) (widths : List ℕ) (code : List Instr) (fs : List Facts) (places : List ℕ) (sound : IsSound old)
    (locals : HasLocals old.params old.widths widths) (free : IsFree old.result (both old widths code fs places)) where
  order : (at : ℕ) (j : Instr) → slice_get code at ≡ Some j → IsInFreeOrder widths old.result (length code) at j
  order at j e = (free.each at (slice_get_within code at j e)).order j e

  free_sound : IsSound (newer old widths code)
  free_sound =
      sound_by (newer old widths code) none
      (record {
        few = locals.few;
        params = locals.enough;
        result = sound.result;
        widths = locals.widths;
        operands = λ at j e. ranged old.method old.params old.result widths code j (order at j e).operands;
        begins = (free.some, refl);
        goes_on = λ at j e. waits_free (newer old widths code) at j (order at j e).flows;
        marked = λ at j e. sym (none_waits j (order at j e).flows.waits);
      })

-- ---- place by place

module _ (old : Procedure) (widths : List ℕ) (code : List Instr) (fs : List Facts) (places : List ℕ) (sound : IsSound old)
    (locals : HasLocals old.params old.widths widths) (along : FlowsAlong old.result (both old widths code fs places)) where
  abbrev new : Procedure
  new = newer old widths code

  abbrev w : ℕ → List ℕ
  w = waits_of old

  record Paired (at : ℕ) (j : Instr) : Type 0 where
    i : Instr
    there : slice_get old.code at ≡ Some i
    order : IsInOrder widths old.result code at i j

  paired : (at : ℕ) (j : Instr) → slice_get code at ≡ Some j → Paired at j
  paired at j e =
      let lt = slice_get_within code at j e in
      let (i, there) = at_place old.code at (subst (λ k. at < k) along.long lt) in
      record { i = i; there = there; order = (along.each at lt).order i j there e }

  marked_at : (at : ℕ) (j : Instr) → Paired at j → w (suc at) ≡ behind j (w at)
  marked_at at j p = waits_marked [] old.code at p.i p.there ∙ same_behind p.i j (w at) p.order.flows.effect

  -- where both codes return nothing waits
  none_left : (at : ℕ) (j : Instr) (p : Paired at j) → is_return p.i ≡ true → w at ≡ []
  none_left at j p e = returns old w at p.i e (sound.goes_on at p.i p.there)

  goes_later : (at : ℕ) (j : Instr) (p : Paired at j) → ReturnsLater code at p.i j → Waits new w at j
  goes_later at (Jump to) p (e, lt, there) = by_there (slice_get code to) refl there
    where
      by_there : (k : Option Instr) → slice_get code to ≡ k → ReturnsThere k → Waits new w at (Jump to)
      by_there (Some j) f r =
          let q = paired to j f in
          (λ same. absurd (omega (arith, lt, same)), (slice_get_within code to j f, none_left to j q (q.order.flows.returns r) ∙ sym (none_left at (Jump to) p e)))
      by_there None f r = absurd r
  goes_later at _ p h = absurd h

  goes : (at : ℕ) (j : Instr) → Paired at j → Waits new w at j
  goes at j p = by_along p.order.flows.along
    where
      by_along : LeadsAlong (led_to p.i) (led_to j) ⊎ ReturnsLater code at p.i j → Waits new w at j
      by_along (inl l) =
          waits_too old new w at along.long p.i (sound.goes_on at p.i p.there) j p.order.flows.effect l p.order.flows.returns
          (λ n. (p.order.flows.next n, marked_at at j p))
      by_along (inr r) = goes_later at j p r

  along_sound : IsSound new
  along_sound =
      sound_by new w
      (record {
        few = locals.few;
        params = locals.enough;
        result = sound.result;
        widths = locals.widths;
        operands = λ at j e. ranged old.method old.params old.result widths code j (paired at j e).order.operands;
        begins = (subst (λ k. 0 < k) (sym along.long) sound.begins.0, refl);
        goes_on = λ at j e. goes at j (paired at j e);
        marked = λ at j e. marked_at at j (paired at j e);
      })

-- ---- both

module _ (old : Procedure) (widths : List ℕ) (code : List Instr) (fs : List Facts) (places : List ℕ) (sound : IsSound old)
    (looked : IsLookedAt old widths code fs places) where
  pub sound_new : IsSound (newer old widths code)
  sound_new = by looked.order
    where
      by : IsFree old.result (both old widths code fs places) ⊎ FlowsAlong old.result (both old widths code fs places) → IsSound (newer old widths code)
      by (inl f) = free_sound old widths code fs places sound looked.locals f
      by (inr f) = along_sound old widths code fs places sound looked.locals f

  pub short_new : length code ≤ length old.code
  short_new = by looked.order
    where
      by : IsFree old.result (both old widths code fs places) ⊎ FlowsAlong old.result (both old widths code fs places) → length code ≤ length old.code
      by (inl f) = f.short
      by (inr f) = let e = f.long in omega (arith, e)

  trims_new : Trims fs places old (newer old widths code)
  trims_new =
      record {
        method = refl;
        params = refl;
        result = refl;
        widths = looked.locals.same;
        begins = looked.begins;
        begins_at = looked.begins_at;
        each = looked.each;
      }

  pub trimmed_new : IsTrimmedTo old (newer old widths code)
  trimmed_new = record { sound = sound; sound_too = sound_new; how = inr (fs, places, trims_new) }

-- also where its parts are told to be the same
pub sound_with : (old : Procedure) (widths : List ℕ) (code : List Instr) (fs : List Facts) (places : List ℕ) (method : Option ℕ) (params result : ℕ) → IsSound old
    → IsLookedAt old widths code fs places → method ≡ old.method → params ≡ old.params → result ≡ old.result
    → IsSound (record { method = method; params = params; result = result; widths = widths; code = code })
sound_with old widths code fs places method params result sound looked a b c =
    subst (λ z. IsSound (record { method = z; params = params; result = result; widths = widths; code = code })) (sym a)
    (subst (λ z. IsSound (record { method = old.method; params = z; result = result; widths = widths; code = code })) (sym b)
    (subst (λ z. IsSound (record { method = old.method; params = old.params; result = z; widths = widths; code = code })) (sym c)
    (sound_new old widths code fs places sound looked)))

pub trimmed_with : (old newer : Procedure) (widths : List ℕ) (code : List Instr) (fs : List Facts) (places : List ℕ) (method : Option ℕ) (params result : ℕ) → IsSound old
    → IsLookedAt old widths code fs places → method ≡ old.method → params ≡ old.params → result ≡ old.result
    → newer ≡ record { method = method; params = params; result = result; widths = widths; code = code } → IsTrimmedTo old newer
trimmed_with old newer widths code fs places method params result sound looked a b c e =
    subst (IsTrimmedTo old) (sym e)
    (subst (λ z. IsTrimmedTo old (record { method = z; params = params; result = result; widths = widths; code = code })) (sym a)
    (subst (λ z. IsTrimmedTo old (record { method = old.method; params = z; result = result; widths = widths; code = code })) (sym b)
    (subst (λ z. IsTrimmedTo old (record { method = old.method; params = old.params; result = z; widths = widths; code = code })) (sym c)
    (trimmed_new old widths code fs places sound looked))))

pub copied_is : (old copy : Procedure) → IsSound old → copy ≡ old → IsTrimmedTo old copy
copied_is old copy s e = record { sound = s; sound_too = subst IsSound (sym e) s; how = inl e }
