-- Stubs, code numbers and layouts of programs that are put.
use Rattle.std.specs.Prelude.{ℕ, zero, suc, ◌+◌, ◌*◌, ◌%◌, ◌<◌, ◌≤◌, ◌≢◌, ◌==◌, Bool, true, false, if◌then◌else◌, List, [], ◌∷◌, ◌++◌, length, get_or, Option, Some, None, slice_get}
use Rattle.std.proofs.Common.{◌≡◌, refl, sym, ap, ◌∙◌, subst, arith, inl, inr}
use Rattle.std.proofs.lemmas.List.{append_assoc}
use Rattle.std.proofs.lemmas.Option.{none-some, same_Some}
use Rattle.avr_instr.specs.declared.instr.Instr.{Instr as Avr}
use Rattle.avr_isa.specs.Standing.{widths}
use Rattle.avr_isa.proofs.Standing.{widths-append}
use Rattle.avr_view.proofs.Going.{below_or_not}
use Rattle.vg_codes.specs.declared.case.Case.{Case}
use Rattle.vg_codes.specs.Codes.{AreCodes}
use Rattle.vg_lin.specs.Program.{Procedure, Program}
use Rattle.vg_lin.specs.Sound.{waits_in, IsSound}
use Rattle.vg_templates.specs.Layouts.{IsLayout}
use Rattle.vg_templates.specs.Linkage.{prologue}
use Rattle.vg_templates.specs.Idle.{stub}
use Rattle.vg_templates.specs.Framed.{framed}
use Rattle.vg_templates.proofs.Framing.{framed-layout}
use Rattle.vg_alloc.proofs.Spotting.{can_be_framed}
use Rattle.vg_put_operations.specs.Coded.{code_from}
use Rattle.vg_select.specs.Selected.{Leading, selected}
use Rattle.vg_put_procedures.specs.Emitted.{code_of, code_at, code_upto, body_code}
use Rattle.vg_put_programs.specs.Programs.{in_turn, turn_of, entry_in, codes_upto, Emission, piece_at, pieces_upto}
use Rattle.vg_laid.specs.Laid.{placed_from, known, codes_from, no_procedure, layout_of, instrs_of, index_in, stubs_code, found_from, codes_by, layout_at, instrs_at, leads_at, AreSound}
use Rattle.vg_laid.proofs.Some.{selected_some, words_some, front, back}
use Rattle.vg_laid.proofs.Standing.{upto_parts}
use Rattle.vg_laid.proofs.Turns.{counted, turned, turn_low}
use Rattle.vg_laid.proofs.Laying.{pieces_fit, entry_is, piece_there, there}

-- ---- numbers

same_number : (a b : ℕ) → (a == b) ≡ true → a ≡ b
same_number a b e = grind arith

is_itself : (a : ℕ) → (a == a) ≡ true
is_itself a = grind arith

is_other : (a b : ℕ) → a ≢ b → (a == b) ≡ false
is_other a b h = grind (arith, h)

-- ---- stubs

pub index_low : (xs : List ℕ) (m : ℕ) → index_in xs m ≤ length xs
index_low [] m = omega arith
index_low (y ∷ ys) m = test (y == m) (index_low ys m)
  where
    test : (b : Bool) → index_in ys m ≤ length ys → (if b then 0 else suc (index_in ys m)) ≤ suc (length ys)
    test true rest = omega arith
    test false rest = omega (arith, rest)

-- The stub of a procedure that is in the list stands where its index says.
pub record StubThere (codes stubs : List ℕ) (m k : ℕ) : Type 0 where
  pub front : List Avr
  pub rest : List Avr
  pub cut : stubs_code codes stubs ≡ front ++ (stub (code_from codes m) ++ rest)
  pub long : widths front ≡ 3 * k

pub stub_there : (codes stubs : List ℕ) (m : ℕ) → index_in stubs m < length stubs → StubThere codes stubs m (index_in stubs m)
stub_there codes [] m h = absurd (omega (arith, h))
stub_there codes (y ∷ ys) m h = test (y == m) refl h (stub_there codes ys m)
  where
    test : (b : Bool) → (y == m) ≡ b → (if b then 0 else suc (index_in ys m)) < suc (length ys)
        → (index_in ys m < length ys → StubThere codes ys m (index_in ys m)) → StubThere codes (y ∷ ys) m (if b then 0 else suc (index_in ys m))
    test true e g behind =
        record {
          front = [];
          rest = stubs_code codes ys;
          cut = ap (λ z. stub (code_from codes z) ++ stubs_code codes ys) (same_number y m e);
          long = refl;
        }
    test false e g behind =
        let r = behind (omega (arith, g)) in
        record {
          front = stub (code_from codes y) ++ r.front;
          rest = r.rest;
          cut = ap (λ z. stub (code_from codes y) ++ z) r.cut ∙ sym (append_assoc (stub (code_from codes y)) r.front (stub (code_from codes m) ++ r.rest));
          long = let w = widths-append (stub (code_from codes y)) r.front in let v = r.long in omega (arith, w, v);
        }

pub stubs_long : (codes stubs : List ℕ) → widths (stubs_code codes stubs) ≡ 3 * length stubs
stubs_long codes [] = refl
stubs_long codes (m ∷ ms) =
    let w = widths-append (stub (code_from codes m)) (stubs_code codes ms) in let rest = stubs_long codes ms in omega (arith, w, rest)

-- ---- code numbers

-- What is found has the number.
pub found_has : (q : ℕ) (xs : List ℕ) (c m : ℕ) → found_from q xs c ≡ Some m → (k : ℕ) × (m ≡ q + k) × (get_or xs k 0 ≡ c)
found_has q [] c m h = absurd (none-some _ h)
found_has q (x ∷ xs) c m h = test (x == c) refl h (found_has (suc q) xs c m)
  where
    test : (b : Bool) → (x == c) ≡ b → (if b then Some q else found_from (suc q) xs c) ≡ Some m
        → (found_from (suc q) xs c ≡ Some m → (k : ℕ) × (m ≡ suc q + k) × (get_or xs k 0 ≡ c)) → (k : ℕ) × (m ≡ q + k) × (get_or (x ∷ xs) k 0 ≡ c)
    test true e g behind = let s = same_Some _ _ g in (0, omega (arith, s), same_number x c e)
    test false e g behind = let r = behind g in let s = r.1 in (suc r.0, omega (arith, s), r.2)

-- The first one that has a number is found.
pub found_back : (q : ℕ) (xs : List ℕ) (k : ℕ) → k < length xs → ((j : ℕ) → j < k → get_or xs j 0 ≢ get_or xs k 0)
    → found_from q xs (get_or xs k 0) ≡ Some (q + k)
found_back q [] k h others = absurd (omega (arith, h))
found_back q (x ∷ xs) zero h others =
    ap (λ b. if b then Some q else found_from (suc q) xs x) (is_itself x) ∙ ap Some (let z : q ≡ q + 0 = omega arith in z)
found_back q (x ∷ xs) (suc k) h others =
    ap (λ b. if b then Some q else found_from (suc q) xs (get_or xs k 0)) (is_other x (get_or xs k 0) (others 0 (omega arith)))
    ∙ found_back (suc q) xs k (omega (arith, h)) (λ j low. others (suc j) (omega (arith, low)))
    ∙ ap Some (let z : suc q + k ≡ q + suc k = omega arith in z)

-- ---- layouts

layout_stands : (o : Option Procedure) → ((m : Procedure) → o ≡ Some m → IsSound m) → IsLayout (layout_of o)
layout_stands (Some m) h = framed-layout m (can_be_framed m (h m refl))
layout_stands None h =
    framed-layout no_procedure (record { narrow = λ k low. absurd (omega (arith, low)); params = omega arith; small = omega arith })

pub layouts_stand : (e : Emission) (p : Program) (ds : List (List Case)) → AreSound e.procedures ds → (m : ℕ) → IsLayout (layout_at e p m)
layouts_stand e p ds h m = layout_stands (slice_get e.procedures m) (λ procedure is. h.sound m procedure is)

-- A sound procedure has code: that of its first instruction.
body_some : (m : Procedure) → IsSound m → (p : Program) (leads : ℕ → Leading) → 1 ≤ length (body_code (framed m) p leads m.code)
body_some m s p leads =
    let l = framed m in
    let t = there m.code 0 s.begins.0 in
    let r = upto_parts l p leads m.code (length m.code) 0 s.begins.0 in
    let ws = waits_in [] m.code 0 in
    let one = selected_some m s p ws (leads 0) t.0 (s.operands 0 t.0 t.1) in
    let is_one : code_at l p leads m.code 0 ≡ selected l p ws (leads 0) t.0 = ap (code_of l p ws (leads 0)) t.1 in
    subst (λ z. 1 ≤ length z) (sym r.1)
    (back (code_upto l p leads m.code 0) (code_at l p leads m.code 0 ++ r.0)
    (front (code_at l p leads m.code 0) r.0 (subst (λ z. 1 ≤ length z) (sym is_one) one)))

-- ---- the code numbers of programs that are put

get_there : (ms : List Procedure) (m : ℕ) → m < length ms → (procedure : Procedure) × (slice_get ms m ≡ Some procedure)
get_there [] m h = absurd (omega (arith, h))
get_there (x ∷ ms) zero h = (x, refl)
get_there (x ∷ ms) (suc m) h = get_there ms m (omega (arith, h))

pub codes_counted : (ms : List Procedure) (s : ℕ) (ds : List (List Case)) (first : ℕ) → length (codes_from ms s ds first) ≡ length ms
codes_counted ms s ds first =
    let placed = placed_from ms s ds first in
    counted (λ j. entry_in placed (turn_of s (length ms) j) % 65536) (codes_upto placed s (length ms)) refl (λ j. refl) (length ms)

module _ (ms : List Procedure) (s : ℕ) (ds : List (List Case)) (first : ℕ) (low : s < length ms)
    (room : first + widths (pieces_upto (known ms s ds first) (length ms)) < 65536) (p : Program)
    (codes : p.codes.code ≡ code_from (known ms s ds first).codes) (dispatches : p.dispatches ≡ ds)
    (sound : (m : ℕ) (procedure : Procedure) → slice_get ms m ≡ Some procedure → IsSound procedure) where
  abbrev e : Emission
  e = known ms s ds first

  some_body : (m : ℕ) (procedure : Procedure) → slice_get ms m ≡ Some procedure
      → 1 ≤ length (body_code (layout_at e p m) p (leads_at e p m) (instrs_at e p m))
  some_body m procedure is =
      subst (λ o. 1 ≤ length (body_code (layout_of o) p (leads_at e p m) (instrs_of o))) (sym is) (body_some procedure (sound m procedure is) p (leads_at e p m))

  some_piece : (m : ℕ) → m < length ms → 1 ≤ widths (piece_at e (turn_of s (length ms) m))
  some_piece m h =
      let t = get_there ms m h in let l = layout_at e p m in let body = body_code l p (leads_at e p m) (instrs_at e p m) in
      subst (λ z. 1 ≤ widths z) (sym (piece_there ms s ds first low room p codes dispatches m t.0 t.1))
      (words_some (prologue l ++ body) (back (prologue l) body (some_body m t.0 t.1)))

  -- of two procedures the one that stands before the other has the lower entry
  order : (j q : ℕ) → j < length ms → q < length ms → turn_of s (length ms) j < turn_of s (length ms) q → code_from e.codes j < code_from e.codes q
  order j q h g less =
      let a = entry_is ms s ds first low room j h in let b = entry_is ms s ds first low room q g in
      let f = pieces_fit e (turn_of s (length ms) q) (turn_of s (length ms) j) less in let o = some_piece j h in omega (arith, a, b, f, o)

  differ : (j q : ℕ) → j < q → q < length ms → code_from e.codes j ≢ code_from e.codes q
  differ j q less g same = elim (below_or_not (turn_of s n j) (turn_of s n q)) [
    | inl before ↦ (let o = order j q h g before in absurd (omega (arith, o, same)))
    | inr past ↦ elim (below_or_not (turn_of s n q) (turn_of s n j)) [
      | inl behind ↦ (let o = order q j g h behind in absurd (omega (arith, o, same)))
      | inr equal ↦
          (let both : turn_of s n j ≡ turn_of s n q = omega (arith, past, equal) in
          let one = turned s n j low h in let two = turned s n q low g in let three = ap (in_turn s n) both in absurd (omega (arith, one, two, three, less)))
    ]
  ]
    where
      n : ℕ
      n = length ms

      h : j < length ms
      h = omega (arith, less, g)

  pub are_codes : 0 < first → AreCodes (length ms) (codes_by e.codes)
  are_codes some =
      record {
        back = λ q h. found_back 0 e.codes q (subst (λ z. q < z) (sym long) h) (λ j less. differ j q less h)
            ∙ ap Some (let z : 0 + q ≡ q = omega arith in z);
        positive = λ q h. (let a = entry_is ms s ds first low room q h in omega (arith, a, some));
        two_bytes = λ q h. (let a = entry_is ms s ds first low room q h in
            let f = pieces_fit e (length ms) (turn_of s (length ms) q) (turn_low s (length ms) q low h) in omega (arith, a, f, room));
      }
    where
      long : length e.codes ≡ length ms
      long = codes_counted ms s ds first
