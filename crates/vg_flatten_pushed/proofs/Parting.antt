-- The values that wait in two parts, and what a step takes of them.
use Rattle.std.specs.Prelude.{
  ℕ,
  ◌+◌,
  ◌-◌,
  ◌<◌,
  ◌≤◌,
  Bool,
  true,
  false,
  ◌&&◌,
  nat_le,
  List,
  [],
  ◌∷◌,
  ◌++◌,
  length,
  reverse,
  take,
  drop,
  Result,
  Option,
  Some,
  None,
  if◌then◌else◌,
}
use Rattle.std.proofs.Common.{◌≡◌, sym, ap, ◌∙◌, subst, arith}
use Rattle.std.proofs.lemmas.List.{append_assoc, reverse-append, reverse-reverse, length-take-le, take_all}
use Rattle.vg_base.specs.declared.refusal.Refusal.{Refusal}
use Rattle.vg_base.specs.declared.refusal.Refusal.TheVariants.{Fault as Faulty, NoMemory as Memory}
use Rattle.vg_firm.specs.declared.step.Step.{Step}
use Rattle.vg_lin.specs.declared.instr.Operand.{Operand}
use Rattle.vg_lin.specs.declared.instr.Operand.TheVariants.{Local as InLocal, Known}
use Rattle.vg_lin.specs.declared.instr.Plain.TheVariants.{Copy}
use Rattle.vg_flatten_shapes.specs.declared.fault.Fault.{Fault}
use Rattle.vg_flatten_shapes.specs.declared.fault.Fault.TheVariants.{NotTaken, TooHigh, TooLong}
use Rattle.vg_flatten_shapes.specs.declared.open.Truth.{Truth}
use Rattle.vg_flatten_shapes.specs.declared.piece.Piece.{Piece}
use Rattle.vg_flatten_shapes.specs.declared.room.Room.{Room}
use Rattle.vg_flatten_shapes.specs.Shapes.{Shape, only, empty, is_none, Taken, taken, temp}
use Rattle.vg_flatten_shapes.specs.Blocks.{One, Choice, open_code}
use Rattle.vg_flatten_shapes.specs.Made.{Made, Gives, Refused, behind, after, by_temp, settled, settled_as}
use Rattle.vg_flatten_shapes.specs.Laying.{IsLong, IsPiece, Fails, Lays}
use Rattle.vg_firm_typed.specs.Steps.{takes}
use Rattle.vg_flatten_pushed.specs.Pushed.{is_high, newer, older, count_of, onto, is_above}

-- ---- homes above others

-- homes above those of a shape
abbrev pub above : List Operand → Shape → Shape
above news s = record { truth = s.truth; homes = reverse news ++ s.homes }

pub pushes_on : (news : List Operand) (i : ℕ) (x : Operand) (s new whole : Shape) → drop i news ≡ x ∷ drop (i + 1) news
    → new ≡ record { truth = s.truth; homes = x ∷ s.homes } → above (drop i news) s ≡ whole → above (drop (i + 1) news) new ≡ whole
pushes_on news i x s new whole ed en h =
    ap (above (drop (i + 1) news)) en ∙ ap (λ z. record { truth = s.truth; homes = z }) one ∙ ap (λ z. above z s) (sym ed) ∙ h
  where
    one : reverse (drop (i + 1) news) ++ (x ∷ s.homes) ≡ reverse (x ∷ drop (i + 1) news) ++ s.homes
    one =
        sym (ap (λ z. z ++ s.homes) (reverse-append (x ∷ []) (drop (i + 1) news))
        ∙ append_assoc (reverse (drop (i + 1) news)) (x ∷ []) s.homes)

-- ---- one piece behind another

pub behind_laid : (at place : ℕ) (m : Made) (more : Shape → Made) (p q x : Piece) → IsPiece p at m → place ≡ at + length p.code
    → IsPiece q place (more p.homes) → x.code ≡ p.code ++ q.code → x.homes ≡ q.homes → IsPiece x at (after m more)
behind_laid at place (Refused why) more p q x h ep g ec eh = absurd h
behind_laid at place (Gives a s) more p q x h ep g ec eh = by_rest (more s) (subst (λ z. IsPiece q place (more z)) h.1 g)
  where
    by_rest : (m : Made) → IsPiece q place m → IsPiece x at (behind a m)
    by_rest (Gives b s1) k = (
      ec ∙ ap (λ z. z ++ q.code) h.0 ∙ ap (λ z. open_code a at ++ z) (k.0 ∙ ap (open_code b) (ep ∙ ap (λ z. at + length z) h.0)),
      eh ∙ k.1,
    )
    by_rest (Refused why) k = absurd k

-- ---- what was made, above the pushed values

onto_long : (at : ℕ) (os : List Operand) (m : Made) → IsLong at m → IsLong at (onto os m)
onto_long at os (Gives b s) h = h
onto_long at os (Refused why) h = tt

pub onto_fails : (e : Refusal Fault) (at : ℕ) (os : List Operand) (m : Made) → Fails e at m → Fails e at (onto os m)
onto_fails Memory at os m h = tt
onto_fails (Faulty TooLong) at os m h = onto_long at os m h
onto_fails (Faulty NotTaken) at os m h = ap (onto os) h
onto_fails (Faulty TooHigh) at os m h = ap (onto os) h

pub onto_piece : (p made : Piece) (at : ℕ) (os : List Operand) (m : Made) → IsPiece made at m → p.code ≡ made.code
    → p.homes ≡ record { truth = made.homes.truth; homes = made.homes.homes ++ os } → IsPiece p at (onto os m)
onto_piece p made at os (Gives b s) h ec eh = (ec ∙ h.0, eh ∙ ap (λ z. record { truth = z.truth; homes = z.homes ++ os }) h.1)
onto_piece p made at os (Refused why) h ec eh = absurd h

-- what was made of a part, above the other
pub above_lays : (res made : Result Piece (Refusal Fault)) (at : ℕ) (go : Shape → Made) (most : ℕ) (s above below : Shape) → above ≡ newer most s
    → below ≡ only (older most s) → ((at : ℕ) (m : Made) → Lays made at m → Lays res at (onto below.homes m)) → Lays made at (go above)
    → Lays res at (onto (older most s) (go (newer most s)))
above_lays res made at go most s above below ea eb h laid =
    subst (λ z. Lays res at (onto z.homes (go (newer most s)))) eb (h at (go (newer most s)) (subst (λ z. Lays made at (go z)) ea laid))

-- ---- homes that are taken

abbrev IsNone : Option Taken → Type 0
IsNone None = Unit {0}
IsNone (Some t) = ⊥

abbrev args_of : Option Taken → List Operand
args_of (Some t) = t.args
args_of None = []

abbrev rest_of : Option Taken → List Operand
rest_of (Some t) = t.rest
rest_of None = []

le_is : (a b : ℕ) → a ≤ b → nat_le a b ≡ true
le_is a b h = grind arith

lt_is : (a b : ℕ) → b < a → nat_le a b ≡ false
lt_is a b h = grind arith

not_le : (a b : ℕ) → nat_le a b ≡ false → b ≤ a
not_le a b h = grind arith

enough : (count : ℕ) (hs : List Operand) → count ≤ length hs
    → taken count hs ≡ Some (record { args = reverse (take count hs); rest = drop count hs })
enough count hs le =
    ap (λ b. if b then Some (record { args = reverse (take count hs); rest = drop count hs }) else None) (le_is count (length hs) le)

pub never_none : (count : ℕ) (hs : List Operand) → count ≤ length hs → taken count hs ≡ None → ⊥
never_none count hs le e = subst IsNone (sym e ∙ enough count hs le) tt

pub taken_row : (count : ℕ) (hs row rest : List Operand) → count ≤ length hs → taken count hs ≡ Some (record { args = row; rest = rest })
    → reverse row ≡ take count hs
taken_row count hs row rest le e = ap (λ o. reverse (args_of o)) (sym e ∙ enough count hs le) ∙ reverse-reverse (take count hs)

pub taken_rest : (count : ℕ) (hs row rest : List Operand) → count ≤ length hs → taken count hs ≡ Some (record { args = row; rest = rest })
    → rest ≡ drop count hs
taken_rest count hs row rest le e = ap rest_of (sym e ∙ enough count hs le)

pub taken_all : (count : ℕ) (hs row rest : List Operand) → count ≡ length hs → taken count hs ≡ Some (record { args = row; rest = rest })
    → reverse row ≡ hs
taken_all count hs row rest is e = taken_row count hs row rest (omega (arith, is)) e ∙ take_all count hs (omega (arith, is))

-- ---- the parts

abbrev newest_of : (count : ℕ) → Shape → Shape
newest_of count s = record { truth = s.truth; homes = take count s.homes }

pub newer_high : (most : ℕ) (s : Shape) → most ≤ length s.homes → newer most s ≡ newest_of (length s.homes - most) s
newer_high most s le = ap (λ b. if b then newest_of (length s.homes - most) s else empty) (le_is most (length s.homes) le)

pub newer_low : (most : ℕ) (s : Shape) → length s.homes < most → newer most s ≡ empty
newer_low most s lt = ap (λ b. if b then newest_of (length s.homes - most) s else empty) (lt_is most (length s.homes) lt)

pub older_low : (most : ℕ) (s : Shape) → length s.homes < most → older most s ≡ s.homes
older_low most s lt = ap (λ k. drop k s.homes) (none (length s.homes) lt)
  where
    none : (n : ℕ) → n < most → n - most ≡ 0
    none n h = omega (arith, h)

-- ---- steps

abbrev above_as : (most : ℕ) → Step → Shape → Bool → Bool
above_as most p s b = b && nat_le (takes p) (count_of (if b then newest_of (length s.homes - most) s else empty))

pub above_is : (most : ℕ) (p : Step) (s : Shape) → most ≤ length s.homes
    → is_above most p s ≡ nat_le (takes p) (length s.homes - most + (if is_none s.truth then 0 else 1))
above_is most p s le =
    ap (above_as most p s) (le_is most (length s.homes) le)
    ∙ ap (λ n. nat_le (takes p) (n + (if is_none s.truth then 0 else 1))) (length-take-le (length s.homes - most) s.homes (omega arith))

pub not_above : (most : ℕ) (p : Step) (s : Shape) → length s.homes < most → is_above most p s ≡ false
not_above most p s lt = ap (above_as most p s) (lt_is most (length s.homes) lt)

pub few_newer : (most : ℕ) (p : Step) (s : Shape) → is_above most p s ≡ false → count_of (newer most s) ≤ takes p
few_newer most p s h = by_high (is_high most s) h
  where
    by_high : (b : Bool) → above_as most p s b ≡ false → count_of (if b then newest_of (length s.homes - most) s else empty) ≤ takes p
    by_high true e = not_le (takes p) (count_of (newest_of (length s.homes - most) s)) e
    by_high false e = omega arith

abbrev number_of : Truth → List Operand → (to : ℕ) → Made
number_of t hs to = Gives (Choice t (One (Copy to (Known 1))) (One (Copy to (Known 0)))) (only (InLocal to ∷ hs))

-- behind the code that makes a number of a test, as many wait
pub settled_long : (r : Room) (s : Shape) (p : Piece) (at : ℕ) → IsPiece p at (settled r s)
    → (length p.homes.homes ≡ count_of s) × (p.homes.truth ≡ None)
settled_long r s p at h = by_truth s.truth s.homes h
  where
    numbered : (t : Truth) (hs : List Operand) (o : Option ℕ) → IsPiece p at (by_temp o (number_of t hs))
        → (length p.homes.homes ≡ length hs + 1) × (p.homes.truth ≡ None)
    numbered t hs (Some to) g = let e = ap (λ z. length z.homes) g.1 in (omega (arith, e), ap (λ z. z.truth) g.1)
    numbered t hs None g = absurd g

    by_truth : (o : Option Truth) (hs : List Operand) → IsPiece p at (settled_as r o hs)
        → (length p.homes.homes ≡ length hs + (if is_none o then 0 else 1)) × (p.homes.truth ≡ None)
    by_truth None hs g = let e = ap (λ z. length z.homes) g.1 in (omega (arith, e), ap (λ z. z.truth) g.1)
    by_truth (Some t) hs g = numbered t hs (temp r hs) g
