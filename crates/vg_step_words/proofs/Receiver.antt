-- What is made of an object that is the receiver takes no null check.
use Rattle.std.specs.Prelude.{ℕ, ◌+◌, ◌-◌, ◌≤◌, Bool, true, false, not, ◌==◌, ◌&&◌, nat_lt, if◌then◌else◌, List, ◌∷◌}
use Rattle.std.proofs.Common.{◌≡◌, refl, sym, ap, subst, arith}
use Rattle.vg_meaning.specs.Code.{Code, Nothing, Then, Do}
use Rattle.vg_firm.specs.declared.step.Step.{Step}
use Rattle.vg_firm.specs.declared.step.Step.TheVariants.{This}
use Rattle.vg_lin.specs.declared.instr.Operand.{Operand}
use Rattle.vg_lin.specs.declared.instr.Operand.TheVariants.{Local, Known}
use Rattle.vg_flatten_shapes.specs.declared.fault.Fault.TheVariants.{NotTaken}
use Rattle.vg_flatten_shapes.specs.declared.layout.Layout.{Layout}
use Rattle.vg_flatten_shapes.specs.declared.room.Room.{Room}
use Rattle.vg_flatten_shapes.specs.Shapes.{Shape, only}
use Rattle.vg_flatten_shapes.specs.Blocks.{Block, Skip}
use Rattle.vg_flatten_shapes.specs.Made.{Made, Gives, Refused, behind, after, settled}
use Rattle.vg_flatten_places.specs.Places.{may_be_null}
use Rattle.vg_flatten_steps.specs.Locals.{at_local, get_receiver}
use Rattle.vg_flatten_steps.specs.Steps.{stepped}
use Rattle.vg_flatten_control.specs.Flat.{flat}
use Rattle.vg_step_words.specs.Words.{block_words, waiting_words}
use Rattle.vg_step_words.specs.Code.{is_on_object, is_receiver, leaves_receiver, reads_first, code_words}
use Rattle.vg_step_words.proofs.Made.{Within, within_more, within_behind, within_settled}
use Rattle.vg_step_words.proofs.Places.{first_of}
use Rattle.vg_step_words.proofs.Steps.{within_unchecked}

second_of : (a b : Bool) → (a && b) ≡ true → b ≡ true
second_of true b e = e
second_of false b e = absurd (cc e)

clash : {A : Type 0} (a b : Bool) → (a && not b) ≡ true → b ≡ true → A
clash true true e f = absurd (cc e)
clash true false e f = absurd (cc f)
clash false b e f = absurd (cc e)

module _ (cases : ℕ → ℕ) where
  module _ (lay : Layout) (r : Room) where
    abbrev words : Code Step → ℕ
    words = code_words lay cases (is_on_object r)

    -- what leaves the receiver alone, where it is an object: the newest home is not null, and nothing else was done
    abbrev Own : (n : ℕ) → Made → Type 0
    Own n (Gives b s) = (block_words cases b ≤ n) × ((h : Operand) × (hs : List Operand) × (s ≡ only (h ∷ hs)) × (may_be_null r h ≡ false))
    Own n (Refused why) = Unit {0}

    got_few : (on : is_on_object r ≡ true) (hs : List Operand) → Own 0 (get_receiver r hs)
    got_few on hs = by (r.receiver == 0) refl
      where
        has : r.on_objects ≡ true
        has = first_of r.on_objects (not (r.receiver == 0)) on

        is_there : (b : Bool) → Own 0 (if b then Gives Skip (only (Local 0 ∷ hs)) else Refused NotTaken)
        is_there true = (omega arith, (Local 0, hs, refl, ap (λ o. not (o && true)) has))
        is_there false = tt

        by : (b : Bool) → (r.receiver == 0) ≡ b → Own 0 (if b then Gives Skip (only (Known 0 ∷ hs)) else at_local r 0 hs)
        by true e = clash r.on_objects (r.receiver == 0) on e
        by false e = is_there (nat_lt 0 r.locals)

    own_behind : (n m : ℕ) (a : Block) (made : Made) → block_words cases a ≤ n → Own m made → Own (n + m) (behind a made)
    own_behind n m a (Gives b s) h (few, own) = (omega (arith, h, few), own)
    own_behind n m a (Refused why) h own = tt

    own_after : (n m : ℕ) (made : Made) (go : Shape → Made) → Within cases n made → ((s : Shape) → Own m (go s)) → Own (n + m) (after made go)
    own_after n m (Gives a s) go h own = own_behind n m a (go s) (omega (arith, h)) (own s)
    own_after n m (Refused why) go h own = tt

    own_skipped : (n : ℕ) (made : Made) → Own n made → Own n (after made (λ s. Gives Skip s))
    own_skipped n (Gives b s) (few, own) = (omega (arith, few), own)
    own_skipped n (Refused why) own = tt

    own_step : (p : Step) (s : Shape) → is_on_object r ≡ true → is_receiver p ≡ true → Own (waiting_words s.truth + 0) (flat lay r (Do p) s)
    own_step This s on e =
        own_after (waiting_words s.truth) 0 (settled r s) _ (within_settled cases r s.truth s.homes) (λ s1. got_few on s1.homes)
    own_step p s on e = absurd (cc e)

    own_code : (a : Code Step) (s : Shape) → is_on_object r ≡ true → leaves_receiver a ≡ true → Own (waiting_words s.truth + 0) (flat lay r a s)
    own_code (Do p) s on e = own_step p s on e
    own_code (Then (Do p) Nothing) s on e = own_skipped (waiting_words s.truth + 0) (flat lay r (Do p) s) (own_step p s on e)
    own_code a s on e = absurd (cc e)

    -- an object is read behind it
    read_few : (b : Code Step) (s : Shape) (h : Operand) (hs : List Operand) → reads_first b ≡ true → s ≡ only (h ∷ hs) → may_be_null r h ≡ false
        → Within cases (words b - 16) (flat lay r b s)
    read_few (Do p) s h hs e same f =
        subst (λ s. Within cases (words (Do p) - 16) (flat lay r (Do p) s)) (sym same)
        (skipped (words (Do p) - 16) (stepped lay r p (h ∷ hs)) (within_unchecked cases lay r p h hs e f))
      where
        skipped : (n : ℕ) (made : Made) → Within cases n made → Within cases n (behind Skip made)
        skipped n (Gives b s) h = omega (arith, h)
        skipped n (Refused why) h = tt
    read_few b s h hs e same f = absurd (cc e)

    pub own_few : (a b : Code Step) (s : Shape) → (is_on_object r && leaves_receiver a && reads_first b) ≡ true
        → Within cases (waiting_words s.truth + (words a + words b - 16)) (flat lay r (Then a b) s)
    own_few a b s e = by (flat lay r a s) (own_code a s on (second_of (is_on_object r) (leaves_receiver a) two))
      where
        two : (is_on_object r && leaves_receiver a) ≡ true
        two = first_of (is_on_object r && leaves_receiver a) (reads_first b) e

        on : is_on_object r ≡ true
        on = first_of (is_on_object r) (leaves_receiver a) two

        by : (made : Made) → Own (waiting_words s.truth + 0) made → Within cases (waiting_words s.truth + (words a + words b - 16)) (after made (flat lay r b))
        by (Gives x t) (few, (h, hs, same, f)) =
            within_more cases (waiting_words s.truth + 0 + (words b - 16)) (waiting_words s.truth + (words a + words b - 16)) _ (omega arith)
            (within_behind cases (waiting_words s.truth + 0) (words b - 16) x (flat lay r b t) few
            (read_few b t h hs (second_of (is_on_object r && leaves_receiver a) (reads_first b) e) same f))
        by (Refused why) own = tt
