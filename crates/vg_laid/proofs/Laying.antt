-- Where programs that are put stand.
use Rattle.std.specs.Prelude.{ℕ, zero, suc, ◌+◌, ◌%◌, ◌<◌, ◌≤◌, List, [], ◌∷◌, ◌++◌, length, get_or, Option, Some, None, slice_get}
use Rattle.std.proofs.Common.{◌≡◌, refl, sym, ap, ap₂, ◌∙◌, subst, arith, inl, inr}
use Rattle.std.proofs.lemmas.List.{append_assoc, append-nil}
use Rattle.std.proofs.lemmas.Option.{slice_get_within, none-some}
use Rattle.avr_instr.specs.declared.instr.Instr.{Instr as Avr}
use Rattle.avr_isa.specs.Standing.{widths}
use Rattle.avr_isa.proofs.Standing.{widths-append}
use Rattle.avr_view.proofs.Going.{below_or_not}
use Rattle.vg_codes.specs.declared.case.Case.{Case}
use Rattle.vg_lin.specs.declared.instr.Instr.{Instr}
use Rattle.vg_lin.specs.Program.{Procedure, Program}
use Rattle.vg_templates.specs.Layouts.{Layout}
use Rattle.vg_templates.specs.Linkage.{prologue}
use Rattle.vg_templates.specs.Framed.{framed}
use Rattle.vg_put_operations.specs.Coded.{code_from}
use Rattle.vg_select.specs.Leadings.{leading}
use Rattle.vg_select.specs.Selected.{with_codes}
use Rattle.vg_put_procedures.specs.Emitted.{led, code_upto, body_code, place_of, places_upto}
use Rattle.vg_put_programs.specs.declared.reach.Reach.{Reach}
use Rattle.vg_put_programs.specs.declared.reach.Reach.TheVariants.{Short as Within7, Near as Within12, Far as Beyond}
use Rattle.vg_put_programs.specs.Programs.{turn_of, entry_of, places_of, entry_in, places_at, entries_upto, codes_upto, aim_in, behind_in, reach_in}
use Rattle.vg_put_programs.specs.Programs.{held_for, Sites, sites, held_of, held_at, helds_upto, leads_by, sites_at}
use Rattle.vg_put_programs.specs.Programs.{Emission, piece_of, placed_of, procedure_in, piece_at, pieces_upto, placed_at, placed_upto}
use Rattle.vg_laid.specs.Laid.{unknown, sized, known, reach_of, behind_hop, aim_of, lead_by, lead_of, lead_at, layout_of, instrs_of}
use Rattle.vg_laid.specs.Laid.{layout_at, instrs_at, known_places, guessed_places, sites_of, leads_at, place_at}
use Rattle.vg_laid.proofs.Sizes.{LeadsBy, both_same, both_less, upto_size, apart_less, upto_less, between_less, upto_same}
use Rattle.vg_laid.proofs.Turns.{none_past, counted, got, got_or, turned, turn_low}

-- ---- one procedure

pub there : (is : List Instr) (pc : ℕ) → pc < length is → (i : Instr) × (slice_get is pc ≡ Some i)
there [] pc h = absurd (omega (arith, h))
there (i ∷ is) zero h = (i, refl)
there (i ∷ is) (suc pc) h = there is pc (omega (arith, h))

-- The leads that are kept are those of each instruction.
held_is : (r : Reach) (b a idle : ℕ) → leading (held_for r b a idle) ≡ lead_by r b a idle
held_is Within7 b a idle = refl
held_is Within12 b a idle = refl
held_is Beyond b a idle = refl

led_by : (l : Layout) (x : Sites) (pc : ℕ) (o : Option Instr) → leading (held_of l x pc o) ≡ lead_of l x pc o
led_by l x pc None = refl
led_by l x pc (Some i) = held_is (reach_in l x.entries x.guessed pc i) (behind_in l x.places pc i) (aim_in x.codes x.places i) x.idle

pub leads_are : (l : Layout) (x : Sites) (is : List Instr) (pc : ℕ) → pc < length is → leads_by l x is pc ≡ lead_at l x is pc
leads_are l x is pc low =
    ap led (got (held_at l x is) (helds_upto l x is) refl (λ j. refl) (length is) pc low) ∙ led_by l x pc (slice_get is pc)

-- How far off: as the places say that are guessed, and far off where none are.
pub lead_reach : (l : Layout) (x : Sites) (is : List Instr) (pc : ℕ) → LeadsBy (reach_of l x pc (slice_get is pc)) (lead_at l x is pc)
lead_reach l x is pc =
    record { behind = behind_hop l x.places pc (slice_get is pc); aim = aim_of x.codes x.places (slice_get is pc); idle = x.idle; is = refl }

pub led_reach : (l : Layout) (x : Sites) (is : List Instr) (pc : ℕ) → pc < length is
    → LeadsBy (reach_of l x pc (slice_get is pc)) (leads_by l x is pc)
led_reach l x is pc low =
    subst (LeadsBy (reach_of l x pc (slice_get is pc))) (sym (leads_are l x is pc low)) (lead_reach l x is pc)

abbrev pub nowhere : Sites
nowhere = sites [] [] [] [] 0

pub far_reach : (l : Layout) (is : List Instr) (pc : ℕ) → pc < length is → LeadsBy Beyond (leads_by l nowhere is pc)
far_reach l is pc low =
    subst (λ r. LeadsBy r (leads_by l nowhere is pc)) (far_off (slice_get is pc)) (led_reach l nowhere is pc low)
  where
    far_off : (o : Option Instr) → reach_of l nowhere pc o ≡ Beyond
    far_off None = refl
    far_off (Some i) = refl

-- The code takes as many words, wherever it leads as far off; and most, where it leads far off.
pub piece_size : (entries guessed codes places : List ℕ) (idle : ℕ) (codes' places' : List ℕ) (idle' : ℕ) (ds : List (List Case)) (o : Option Procedure)
    → widths (piece_of (sites entries guessed codes places idle) ds o) ≡ widths (piece_of (sites entries guessed codes' places' idle') ds o)
piece_size entries guessed codes places idle codes' places' idle' ds None = refl
piece_size entries guessed codes places idle codes' places' idle' ds (Some m) =
    let l = framed m in
    let x = sites entries guessed codes places idle in let y = sites entries guessed codes' places' idle' in
    let f = leads_by l x m.code in let g = leads_by l y m.code in
    let p = with_codes (code_from codes) ds in let q = with_codes (code_from codes') ds in
    both_same (prologue l) (body_code l p f m.code) (prologue l) (body_code l q g m.code) refl
    (upto_size l p q refl f g m.code (length m.code) (λ pc low.
    (reach_of l x pc (slice_get m.code pc), led_reach l x m.code pc low, led_reach l y m.code pc low)))

piece_less : (x : Sites) (ds : List (List Case)) (o : Option Procedure) → widths (piece_of x ds o) ≤ widths (piece_of nowhere ds o)
piece_less x ds None = omega arith
piece_less x ds (Some m) =
    let l = framed m in let f = leads_by l x m.code in let g = leads_by l nowhere m.code in
    let p = with_codes (code_from x.codes) ds in let q = with_codes (code_from []) ds in
    both_less (prologue l) (body_code l p f m.code) (prologue l) (body_code l q g m.code) (omega arith)
    (upto_less l p q refl f g m.code (length m.code) (λ pc low.
    (reach_of l x pc (slice_get m.code pc), led_reach l x m.code pc low, far_reach l m.code pc low)))

pub placed_entry : (entry : ℕ) (x : Sites) (ds : List (List Case)) (o : Option Procedure) → (placed_of entry x ds o).entry ≡ entry
placed_entry entry x ds (Some m) = refl
placed_entry entry x ds None = refl

pub placed_place : (entry : ℕ) (x : Sites) (ds : List (List Case)) (o : Option Procedure) (pc : ℕ) → pc < length (instrs_of o)
    → get_or (placed_of entry x ds o).places pc 0
    ≡ place_of (layout_of o) (with_codes (code_from x.codes) ds) (leads_by (layout_of o) x (instrs_of o)) (instrs_of o)
    (entry + widths (prologue (layout_of o))) pc
placed_place entry x ds (Some m) pc h =
    let l = framed m in let p = with_codes (code_from x.codes) ds in
    let f = leads_by l x m.code in let start = entry + widths (prologue l) in
    got_or (place_of l p f m.code start) (places_upto l p f m.code start) refl (λ k. refl) 0 (length m.code) pc h
placed_place entry x ds None pc h = absurd (omega (arith, h))

-- The code of a procedure, as its links have it.
piece_parts : (x : Sites) (ds : List (List Case)) (o : Option Procedure) (m : Procedure) → o ≡ Some m
    → piece_of x ds o
    ≡ prologue (layout_of o) ++ body_code (layout_of o) (with_codes (code_from x.codes) ds) (leads_by (layout_of o) x (instrs_of o)) (instrs_of o)
piece_parts x ds None m e = absurd (none-some _ e)
piece_parts x ds (Some k) m e = refl

pub piece_is : (x : Sites) (p : Program) (o : Option Procedure) (m : Procedure) → p.codes.code ≡ code_from x.codes → o ≡ Some m
    → piece_of x p.dispatches o ≡ prologue (layout_of o) ++ body_code (layout_of o) p (lead_at (layout_of o) x (instrs_of o)) (instrs_of o)
piece_is x p None m ec e = absurd (none-some _ e)
piece_is x p (Some k) m ec e =
    let l = framed k in
    ap (λ z. prologue l ++ z)
    (upto_same l (with_codes (code_from x.codes) p.dispatches) p (sym ec) refl (leads_by l x k.code) (lead_at l x k.code) k.code (length k.code)
    (λ pc low. leads_are l x k.code pc low))

-- ---- all of them

pub pieces_parts : (e : Emission) (n k : ℕ) → k < n → (rest : List Avr) × (pieces_upto e n ≡ pieces_upto e k ++ (piece_at e k ++ rest))
pieces_parts e zero k h = absurd (omega (arith, h))
pieces_parts e (suc n) k h = elim (below_or_not k n) [
  | inl less ↦ (let r = pieces_parts e n k less in (
    r.0 ++ piece_at e n,
    ap (λ z. z ++ piece_at e n) r.1 ∙ append_assoc (pieces_upto e k) (piece_at e k ++ r.0) (piece_at e n)
        ∙ ap (λ z. pieces_upto e k ++ z) (append_assoc (piece_at e k) r.0 (piece_at e n)),
  ))
  | inr past ↦ (let same : n ≡ k = omega (arith, past, h) in
      ([], ap (λ z. pieces_upto e z ++ piece_at e z) same ∙ ap (λ z. pieces_upto e k ++ z) (sym (append-nil (piece_at e k)))))
]

pub pieces_fit : (e : Emission) (n k : ℕ) → k < n → widths (pieces_upto e k) + widths (piece_at e k) ≤ widths (pieces_upto e n)
pieces_fit e n k h =
    let r = pieces_parts e n k h in let a = ap widths r.1 in
    let b = widths-append (pieces_upto e k) (piece_at e k ++ r.0) in let c = widths-append (piece_at e k) r.0 in omega (arith, a, b, c)

module _ (ms : List Procedure) (s : ℕ) (ds : List (List Case)) (first : ℕ) where
  abbrev n : ℕ
  n = length ms

  abbrev e0 : Emission
  e0 = unknown ms s ds

  abbrev e1 : Emission
  e1 = sized ms s ds first

  abbrev e : Emission
  e = known ms s ds first

  pub pieces_size : (k : ℕ) → widths (pieces_upto e1 k) ≡ widths (pieces_upto e k)
  pieces_size zero = refl
  pieces_size (suc k) =
      both_same (pieces_upto e1 k) (piece_at e1 k) (pieces_upto e k) (piece_at e k) (pieces_size k)
      (piece_size e.entries (places_at e.guess k) e1.codes (places_at e1.known k) e1.idle e.codes (places_at e.known k) e.idle ds (procedure_in e k))

  -- they stand as far from one another at most as they would with far jumps, branches and calls alone
  pub pieces_less : (a d : ℕ) → widths (pieces_upto e (a + d)) + widths (pieces_upto e0 a) ≤ widths (pieces_upto e0 (a + d)) + widths (pieces_upto e a)
  pieces_less a d =
      apart_less (λ k. widths (pieces_upto e k)) (λ k. widths (pieces_upto e0 k)) (a + d) (λ k low.
      let less = piece_less (sites_at e k) ds (procedure_in e k) in let u = widths-append (pieces_upto e k) (piece_at e k) in
      let v = widths-append (pieces_upto e0 k) (piece_at e0 k) in omega (arith, less, u, v)) a d (omega arith)

  pub pieces_climb : (a d : ℕ) → widths (pieces_upto e a) ≤ widths (pieces_upto e (a + d))
  pieces_climb a zero = let z : a + 0 ≡ a = omega arith in subst (λ b. widths (pieces_upto e a) ≤ widths (pieces_upto e b)) (sym z) (omega arith)
  pieces_climb a (suc d) =
      let z : a + suc d ≡ suc (a + d) = omega arith in
      subst (λ b. widths (pieces_upto e a) ≤ widths (pieces_upto e b)) (sym z)
      (let rest = pieces_climb a d in let u = widths-append (pieces_upto e (a + d)) (piece_at e (a + d)) in omega (arith, rest, u))

  -- the entries that are guessed; a procedure that is not there has none, and no code number either
  pub guessed_entry : (m : ℕ) → s < n → m < n → code_from e.entries m ≡ first + widths (pieces_upto e0 (turn_of s n m))
  guessed_entry m low h =
      got_or (λ j. entry_in (placed_upto e0 first n) (turn_of s n j)) (entries_upto (placed_upto e0 first n) s n) refl (λ j. refl) 0 n m h
      ∙ ap entry_of (got (placed_at e0 first) (placed_upto e0 first) refl (λ j. refl) n (turn_of s n m) (turn_low s n m low h))
      ∙ placed_entry (first + widths (pieces_upto e0 (turn_of s n m))) nowhere ds (procedure_in e0 (turn_of s n m))

  pub no_entry : (m : ℕ) → n ≤ m → code_from e.entries m ≡ 0
  no_entry m h =
      none_past e.entries m (subst (λ k. k ≤ m)
      (sym (counted (λ j. entry_in (placed_upto e0 first n) (turn_of s n j)) (entries_upto (placed_upto e0 first n) s n) refl (λ j. refl) n)) h)

  pub no_code : (m : ℕ) → n ≤ m → code_from e.codes m ≡ 0
  no_code m h =
      none_past e.codes m (subst (λ k. k ≤ m)
      (sym (counted (λ j. entry_in (placed_upto e1 first n) (turn_of s n j) % 65536) (codes_upto (placed_upto e1 first n) s n) refl (λ j. refl) n)) h)

  module _ (low : s < length ms) (room : first + widths (pieces_upto (known ms s ds first) (length ms)) < 65536) where
    laid : (k : ℕ) → k < n → slice_get (placed_upto e1 first n) k ≡ Some (placed_at e1 first k)
    laid k h = got (placed_at e1 first) (placed_upto e1 first) refl (λ j. refl) n k h

    pub entry_is : (m : ℕ) → m < n → code_from e.codes m ≡ first + widths (pieces_upto e (turn_of s n m))
    entry_is m h =
        got_or (λ j. entry_in (placed_upto e1 first n) (turn_of s n j) % 65536) (codes_upto (placed_upto e1 first n) s n) refl (λ j. refl) 0 n m h
        ∙ ap (λ z. z % 65536) (entry ∙ moved) ∙ small (first + widths (pieces_upto e k)) fits
      where
        k : ℕ
        k = turn_of s n m

        entry : entry_in (placed_upto e1 first n) k ≡ first + widths (pieces_upto e1 k)
        entry =
            ap entry_of (laid k (turn_low s n m low h))
            ∙ placed_entry (first + widths (pieces_upto e1 k)) (sites_at e1 k) ds (procedure_in e1 k)

        moved : first + widths (pieces_upto e1 k) ≡ first + widths (pieces_upto e k)
        moved = ap (λ z. first + z) (pieces_size k)

        fits : first + widths (pieces_upto e k) < 65536
        fits = let f = pieces_fit e n k (turn_low s n m low h) in omega (arith, f, room)

        small : (x : ℕ) → x < 65536 → x % 65536 ≡ x
        small x g = omega (arith, g)

    module _ (p : Program) (codes : p.codes.code ≡ code_from (known ms s ds first).codes) (dispatches : p.dispatches ≡ ds) (m : ℕ) (procedure : Procedure)
        (is : slice_get ms m ≡ Some procedure) where
      abbrev k : ℕ
      k = turn_of s n m

      below : m < n
      below = slice_get_within ms m procedure is

      in_place : procedure_in e k ≡ slice_get ms m
      in_place = ap (slice_get ms) (turned s n m low below)

      abbrev l : Layout
      l = layout_at e p m

      abbrev is' : List Instr
      is' = instrs_at e p m

      abbrev x : Sites
      x = sites_of e p m

      abbrev none : Program
      none = with_codes (code_from []) ds

      -- its code
      pub piece_there : piece_at e k ≡ prologue l ++ body_code l p (leads_at e p m) is'
      piece_there =
          ap (piece_of x ds) in_place ∙ ap (λ z. piece_of x z (slice_get ms m)) (sym dispatches) ∙ piece_is x p (slice_get ms m) procedure codes is

      abbrev sized_sites : Sites
      sized_sites = sites e.entries (guessed_places e p m) [] [] 0

      -- where its instructions stand, as it was learnt
      pub place_known : (pc : ℕ) → pc < length (instrs_at e p m) → get_or (known_places e p m) pc 0 ≡ place_at e p m pc
      place_known pc h =
          ap (λ z. get_or (places_of z) pc 0) (laid k (turn_low s n m low below))
          ∙ ap (λ o. get_or (placed_of (first + widths (pieces_upto e1 k)) sized_sites ds o).places pc 0) in_place
          ∙ placed_place (first + widths (pieces_upto e1 k)) sized_sites ds (slice_get ms m) pc h
          ∙ ap₂ (λ a b. a + widths (prologue l) + b) (ap (λ z. first + z) (pieces_size k) ∙ sym (entry_is m below)) upto
        where
          upto : widths (code_upto l none (leads_by l sized_sites is') is' pc) ≡ widths (code_upto l p (leads_at e p m) is' pc)
          upto =
              upto_size l none p (sym dispatches) (leads_by l sized_sites is') (leads_at e p m) is' pc (λ j less. (
                reach_of l x j (slice_get is' j),
                led_reach l sized_sites is' j (omega (arith, less, h)),
                lead_reach l x is' j,
              ))

      -- where they would stand with far jumps, branches and calls alone: as it was guessed
      abbrev pub far_place : (pc : ℕ) → ℕ
      far_place pc =
          first + widths (pieces_upto e0 k) + widths (prologue (layout_at e p m))
          + widths (code_upto (layout_at e p m) none (leads_by (layout_at e p m) nowhere (instrs_at e p m)) (instrs_at e p m) pc)

      pub place_guessed : (pc : ℕ) → pc < length (instrs_at e p m) → get_or (guessed_places e p m) pc 0 ≡ far_place pc
      place_guessed pc h =
          ap (λ z. get_or (places_of z) pc 0) (got (placed_at e0 first) (placed_upto e0 first) refl (λ j. refl) n k (turn_low s n m low below))
          ∙ ap (λ o. get_or (placed_of (first + widths (pieces_upto e0 k)) nowhere ds o).places pc 0) in_place
          ∙ placed_place (first + widths (pieces_upto e0 k)) nowhere ds (slice_get ms m) pc h

      -- they stand as far from one another at most as there
      pub far_wider : (a d : ℕ) → a + d ≤ length (instrs_at e p m) → place_at e p m (a + d) + far_place a ≤ far_place (a + d) + place_at e p m a
      far_wider a d h =
          let w = between_less l p none dispatches (leads_at e p m) (leads_by l nowhere is') is' (length is') (λ j less.
          (reach_of l x j (slice_get is' j), lead_reach l x is' j, far_reach l is' j less)) a d h in
          omega (arith, w)

      -- and they would end there, where the next procedure would begin
      pub far_end : far_place (length (instrs_at e p m)) ≡ first + widths (pieces_upto e0 (suc (turn_of s (length ms) m)))
      far_end =
          let u = widths-append (pieces_upto e0 k) (piece_at e0 k) in
          let c = ap widths (ap (piece_of nowhere ds) in_place ∙ piece_parts nowhere ds (slice_get ms m) procedure is) in
          let v = widths-append (prologue l) (body_code l none (leads_by l nowhere is') is') in omega (arith, u, c, v)
