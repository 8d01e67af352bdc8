-- What the copies and the pops of a step leave: each value is in its temporary, and all else is as it was.
use Rattle.std.specs.Prelude.{ℕ, zero, suc, ◌+◌, ◌≤◌, List, [], ◌∷◌, ◌++◌, length, take, drop, Option, Some, slice_get}
use Rattle.std.proofs.Common.{◌≡◌, ◌≢◌, inr, refl, sym, ap, ◌∙◌, subst, arith}
use Rattle.vg_meaning.specs.History.{History, full}
use Rattle.vg_meaning.specs.World.{World}
use Rattle.vg_meaning.specs.Answer.{Gives, Piece, and_then}
use Rattle.vg_meaning.specs.Code.{performed}
use Rattle.vg_lin.specs.declared.instr.Operand.{Operand}
use Rattle.vg_lin.specs.Program.{Program as LinProgram}
use Rattle.vg_lin.specs.Steps.{Goes}
use Rattle.vg_lin.specs.State.{LocalState, State, value_in, using, with_local, sets, pops_from}
use Rattle.vg_lin.specs.Meaning.{language}
use Rattle.vg_lin.specs.Structured.{Deciding, Caller as LinCaller, lifted, step as lin_step, truth as lin_truth}
use Rattle.vg_flatten_shapes.specs.declared.room.Room.{Room}
use Rattle.vg_flatten_shapes.specs.Blocks.{Block, structured}
use Rattle.vg_flatten_pushed.specs.Pushed.{pops, popped, lifts}
use Rattle.vg_flatten.proofs.Sound.{AreIn}
use Rattle.vg_flattened.proofs.Numbers.{low_same}
use Rattle.vg_flattened.proofs.Related.{ArePlaced, AreAt, AreWidths, AreKept}
use Rattle.vg_flattened.proofs.Locals.{written_is, others_stay, homes_stay, value_of_home, kept_behind_temp}
use Rattle.vg_flattened.proofs.StackHeld.{in_four, AreSmall}

-- ---- the temporaries

pub popped_long : (first k : ℕ) → length (popped first k) ≡ k
popped_long first zero = refl
popped_long first (suc k) = ap suc (popped_long first k)

pub popped_placed : (first k : ℕ) → ArePlaced first (popped first k)
popped_placed first zero = tt
popped_placed first (suc k) = (inr (ap (λ z. first + z) (sym (popped_long first k))), popped_placed first k)

pub popped_in : (size first k : ℕ) → first + k ≤ size → AreIn size (popped first k)
popped_in size first zero le = tt
popped_in size first (suc k) le = (omega (arith, le), popped_in size first k (omega (arith, le)))

-- ---- the locals

abbrev pub laid : (first k : ℕ) → List ℕ → List LocalState → List LocalState
laid first zero vs ls = ls
laid first (suc k) [] ls = ls
laid first (suc k) (v ∷ vs) ls = laid first k vs (with_local ls (first + k) v)

stays : (first k : ℕ) (vs : List ℕ) (ls : List LocalState) (j : ℕ) → first + k ≤ j → slice_get (laid first k vs ls) j ≡ slice_get ls j
stays first zero vs ls j le = refl
stays first (suc k) [] ls j le = refl
stays first (suc k) (v ∷ vs) ls j le =
    let ne : j ≢ first + k = omega (arith, le) in
    stays first k vs (with_local ls (first + k) v) j (omega (arith, le)) ∙ others_stay ls (first + k) j v ne

pub kept_laid : (r : Room) (ws : List ℕ) (self : Option ℕ) (xs : List ℕ) (k : ℕ) (vs : List ℕ) (ls : List LocalState) → AreKept r ws self xs ls
    → AreKept r ws self xs (laid r.locals k vs ls)
kept_laid r ws self xs zero vs ls h = h
kept_laid r ws self xs (suc k) [] ls h = h
kept_laid r ws self xs (suc k) (v ∷ vs) ls h = kept_laid r ws self xs k vs (with_local ls (r.locals + k) v) (kept_behind_temp r ws self xs ls k v h)

pub at_laid : (r : Room) (widths ws : List ℕ) → AreWidths r widths ws → (self : Option ℕ) (xs : List ℕ) (k : ℕ) (vs : List ℕ) (ls : List LocalState)
    → k ≤ r.temps → length vs ≡ k → AreSmall vs → AreKept r ws self xs ls → AreAt (popped r.locals k) vs (laid r.locals k vs ls)
at_laid r widths ws wide self xs zero [] ls le e small h = tt
at_laid r widths ws wide self xs zero (v ∷ vs) ls le e small h = absurd (omega (arith, e))
at_laid r widths ws wide self xs (suc k) [] ls le e small h = absurd (omega (arith, e))
at_laid r widths ws wide self xs (suc k) (v ∷ vs) ls le e small h = (
  (
    ap value_in (stays r.locals k vs (with_local ls (r.locals + k) v) (r.locals + k) (omega arith))
        ∙ is_there (h.there (r.locals + k) 4 (wide.temps k (omega (arith, le)))),
    small.0,
  ),
  at_laid r widths ws wide self xs k vs (with_local ls (r.locals + k) v) (omega (arith, le)) (omega (arith, e)) small.1 (kept_behind_temp r ws self xs ls k v h),
)
  where
    is_there : (o : Option ℕ) × (slice_get ls (r.locals + k) ≡ Some (record { width = 4; value = o }))
        → value_in (slice_get (with_local ls (r.locals + k) v) (r.locals + k)) ≡ Some v
    is_there (o, at) = ap value_in (written_is ls (r.locals + k) v _ at) ∙ ap Some (low_same v small.0)

-- Values that were laid above others stand with these as one list.
pub laid_both : (first k : ℕ) (vs us : List ℕ) (ls : List LocalState)
    → laid first k us (laid (first + k) (length vs) vs ls) ≡ laid first (length vs + k) (vs ++ us) ls
laid_both first k [] us ls = ap (λ z. laid first z us ls) (omega arith)
laid_both first k (v ∷ vs) us ls =
    let place : first + k + length vs ≡ first + (length vs + k) = omega arith in
    let count : suc (length vs + k) ≡ suc (length vs) + k = omega arith in
    laid_both first k vs us (with_local ls (first + k + length vs) v)
    ∙ ap (λ z. laid first (length vs + k) (vs ++ us) (with_local ls z v)) place ∙ ap (λ z. laid first z (v ∷ (vs ++ us)) ls) count

-- ---- lists

pub split : (k : ℕ) (xs : List ℕ) → take k xs ++ drop k xs ≡ xs
split zero xs = refl
split (suc k) [] = refl
split (suc k) (x ∷ xs) = ap (λ z. x ∷ z) (split k xs)

pub both_small : (xs ys : List ℕ) → AreSmall xs → AreSmall ys → AreSmall (xs ++ ys)
both_small [] ys hx hy = hy
both_small (x ∷ xs) ys hx hy = (hx.0, both_small xs ys hx.1 hy)

pub at_long : (hs : List Operand) (vs : List ℕ) (ls : List LocalState) → AreAt hs vs ls → length vs ≡ length hs
at_long [] [] ls at = refl
at_long [] (v ∷ vs) ls at = absurd at
at_long (h ∷ hs) [] ls at = absurd at
at_long (h ∷ hs) (v ∷ vs) ls at = ap suc (at_long hs vs ls at.1)

pub at_small : (hs : List Operand) (vs : List ℕ) (ls : List LocalState) → AreAt hs vs ls → AreSmall vs
at_small [] [] ls at = tt
at_small [] (v ∷ vs) ls at = absurd at
at_small (h ∷ hs) [] ls at = absurd at
at_small (h ∷ hs) (v ∷ vs) ls at = (at.0.1, at_small hs vs ls at.1)

pub take_long : (k : ℕ) (xs : List ℕ) → k ≤ length xs → length (take k xs) ≡ k
take_long zero xs le = refl
take_long (suc k) [] le = absurd (omega (arith, le))
take_long (suc k) (x ∷ xs) le = ap suc (take_long k xs (omega (arith, le)))

pub drop_both : {A : Type 0} (k : ℕ) (xs : List ℕ) (hs : List A) → length xs ≡ length hs → length (drop k xs) ≡ length (drop k hs)
drop_both zero xs hs e = e
drop_both (suc k) [] [] e = refl
drop_both (suc k) [] (h ∷ hs) e = absurd (omega (arith, e))
drop_both (suc k) (x ∷ xs) [] e = absurd (omega (arith, e))
drop_both (suc k) (x ∷ xs) (h ∷ hs) e = drop_both k xs hs (omega (arith, e))

pub small_take : (k : ℕ) (xs : List ℕ) → AreSmall xs → AreSmall (take k xs)
small_take zero xs h = tt
small_take (suc k) [] h = tt
small_take (suc k) (x ∷ xs) h = (h.0, small_take k xs h.1)

pub small_drop : (k : ℕ) (xs : List ℕ) → AreSmall xs → AreSmall (drop k xs)
small_drop zero xs h = h
small_drop (suc k) [] h = tt
small_drop (suc k) (x ∷ xs) h = small_drop k xs h.1

-- ---- the run

abbrev pub run : LinProgram → LinCaller State → Block → Piece (Deciding State) History
run p go b = performed full (lin_step (language p) go) lin_truth (structured b)

abbrev pub behind_pops : (first k : ℕ) → (vs us : List ℕ) → Deciding State → Deciding State
behind_pops first k vs us d = record d { state = record { locals = laid first k vs d.state.locals; waiting = in_four us; ram = d.state.ram } }

pub pops_do : (p : LinProgram) (go : LinCaller State) (first k : ℕ) (vs us : List ℕ) (d : Deciding State) (w : World History) → length vs ≡ k
    → d.state.waiting ≡ in_four (vs ++ us) → run p go (pops first k) d w ≡ Gives (behind_pops first k vs us d) w
pops_do p go first zero [] us d w e h = ap (λ z. Gives (record d { state = record d.state { waiting = z } }) w) h
pops_do p go first zero (v ∷ vs) us d w e h = absurd (omega (arith, e))
pops_do p go first (suc k) [] us d w e h = absurd (omega (arith, e))
pops_do p go first (suc k) (v ∷ vs) us d w e h =
    ap (λ z. and_then (lifted (pops_from z 4 (first + k) d.state w.outside) d w) (run p go (pops first k))) h
    ∙ pops_do p go first k vs us (record d {
      state = record { locals = with_local d.state.locals (first + k) v; waiting = in_four (vs ++ us); ram = d.state.ram };
    }) w (omega (arith, e)) refl

-- What copies leave.
abbrev pub behind_lifts : (first : ℕ) → (vs : List ℕ) → Deciding State → Deciding State
behind_lifts first vs d = record d { state = record d.state { locals = laid first (length vs) vs d.state.locals } }

-- No copy is to a local from which a later one is.
pub lifts_do : (p : LinProgram) (go : LinCaller State) (locals k : ℕ) (hs : List Operand) (vs : List ℕ) (d : Deciding State) (w : World History)
    → ArePlaced locals hs → AreAt hs vs d.state.locals → run p go (lifts (locals + k) hs) d w ≡ Gives (behind_lifts (locals + k) vs d) w
lifts_do p go locals k [] [] d w placed at = refl
lifts_do p go locals k [] (v ∷ vs) d w placed at = absurd at
lifts_do p go locals k (h ∷ hs) [] d w placed at = absurd at
lifts_do p go locals k (h ∷ hs) (v ∷ vs) d w placed at =
    ap (λ z. and_then (lifted (using z (λ x. Goes (sets (locals + k + length hs) x d.state) w.outside)) d w) (run p go (lifts (locals + k) hs)))
    (value_of_home h v d.state at.0.0)
    ∙ ap (λ z. run p go (lifts (locals + k) hs) (record d { state = sets (locals + k + z) v d.state }) w) (sym long)
    ∙ lifts_do p go locals k hs vs (record d { state = sets (locals + k + length vs) v d.state }) w placed.1
    (subst (λ z. AreAt hs vs (with_local d.state.locals z v)) place
    (homes_stay locals (k + length hs) v hs vs d.state.locals (omega arith) placed.1 at.1))
  where
    long : length vs ≡ length hs
    long = at_long hs vs d.state.locals at.1

    place : locals + (k + length hs) ≡ locals + k + length vs
    place = let e = long in omega (arith, e)
