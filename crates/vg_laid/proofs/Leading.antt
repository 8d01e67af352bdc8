-- Procedures that are put are linked.
use Rattle.std.specs.Prelude.{ℕ, zero, suc, ◌+◌, ◌-◌, ◌<◌, ◌≤◌, ◌≢◌, Bool, true, false, List, [], ◌∷◌, ◌++◌, length, get_or, Some, slice_get}
use Rattle.std.proofs.Common.{◌≡◌, refl, sym, ap, ap₂, ◌∙◌, subst, arith, inl, inr}
use Rattle.std.proofs.lemmas.List.{append_assoc}
use Rattle.std.proofs.lemmas.Option.{slice_get_within}
use Rattle.avr_instr.specs.declared.instr.Instr.{Instr as Avr}
use Rattle.avr_isa.specs.Standing.{widths}
use Rattle.avr_isa.proofs.Standing.{widths-append}
use Rattle.avr_view.proofs.Going.{below_or_not}
use Rattle.vg_codes.specs.declared.case.Case.{Case}
use Rattle.vg_codes.specs.Dispatch.{cases_of}
use Rattle.vg_lin.specs.declared.instr.Callee.{Callee}
use Rattle.vg_lin.specs.declared.instr.Callee.TheVariants.{Procedure as ByNumber, Code as ByCode}
use Rattle.vg_lin.specs.declared.instr.Call.{Call as Calling}
use Rattle.vg_lin.specs.declared.instr.Test.{Test}
use Rattle.vg_lin.specs.declared.instr.Plain.{Plain as PlainInstr}
use Rattle.vg_lin.specs.declared.instr.Plain.TheVariants.{Copy, Compute, Product, DivideSteps, Load, Store, ReadDevice, WriteDevice, Push, Pop, Find, CodeOf, Stop}
use Rattle.vg_lin.specs.declared.instr.Instr.{Instr}
use Rattle.vg_lin.specs.declared.instr.Instr.TheVariants.{Plain, When, Unless, Jump, Call, Return, Idle}
use Rattle.vg_lin.specs.Program.{Procedure, Program}
use Rattle.vg_lin.specs.Sound.{waits_in, waits_of, Waits, IsSound}
use Rattle.vg_templates.specs.Layouts.{Layout}
use Rattle.vg_templates.specs.Linkage.{prologue}
use Rattle.vg_templates.specs.Calls.{Way, call_code}
use Rattle.vg_templates.specs.Branches.{tests, told_by}
use Rattle.vg_templates.specs.Flow.{branch_code, way_of}
use Rattle.vg_templates.specs.Whole.{Links, template, call_front, call_back}
use Rattle.vg_followed.specs.Tables.{AreCases}
use Rattle.vg_followed.specs.Stands.{HopLeads, TurnLeads, TestLeads, WayLeads, CalleeLeads, call_place}
use Rattle.vg_covered.specs.Fitting.{IsPlainFit, IsFit}
use Rattle.vg_put_operations.specs.Coded.{code_from}
use Rattle.vg_select.specs.Selected.{selected}
use Rattle.vg_put_procedures.specs.Emitted.{code_of, code_at, code_upto, body_code, place_of}
use Rattle.vg_put_programs.specs.declared.reach.Reach.{Reach}
use Rattle.vg_put_programs.specs.Programs.{turn_of, aim_in, behind_in, callee_in, reach_in, Emission, piece_at, pieces_upto}
use Rattle.vg_laid.specs.Linked.{HasPiece, Targets, ProcedureLinked}
use Rattle.vg_laid.specs.Laid.{unknown, known, reach_of, behind_hop, aim_of, hop_by, turn_by, way_by, layout_of, live_of, instrs_of, behind_of, layout_at, instrs_at}
use Rattle.vg_laid.specs.Laid.{known_places, guessed_places, sites_of, leads_at, place_at, links_of}
use Rattle.vg_laid.proofs.Sizes.{turn_words, turn_takes}
use Rattle.vg_laid.proofs.Reaching.{InReach, Nearer, reached, still_in_reach, hop_leads, way_leads, turn_leads}
use Rattle.vg_laid.proofs.Some.{selected_some, words_some}
use Rattle.vg_laid.proofs.Turns.{turn_low}
use Rattle.vg_laid.proofs.Laying.{pieces_parts, pieces_fit, entry_is, piece_there, place_known, far_place, place_guessed, far_wider, far_end, there}
use Rattle.vg_laid.proofs.Laying.{pieces_less, pieces_climb, guessed_entry, no_entry, no_code}

module _ (ms : List Procedure) (s : ℕ) (ds : List (List Case)) (first : ℕ) (stubs : List ℕ) (low : s < length ms)
    (room : first + widths (pieces_upto (known ms s ds first) (length ms)) < 65536) (p : Program)
    (codes : p.codes.code ≡ code_from (known ms s ds first).codes) (dispatches : p.dispatches ≡ ds) (m : ℕ) (procedure : Procedure)
    (is_there : slice_get ms m ≡ Some procedure) (below : m < length ms) (sound : IsSound procedure) where
  abbrev e : Emission
  e = known ms s ds first

  abbrev x : Links
  x = links_of e p stubs

  abbrev l : Layout
  l = layout_at e p m

  abbrev is : List Instr
  is = instrs_at e p m

  abbrev k : ℕ
  k = turn_of s (length ms) m

  abbrev body : List Avr
  body = body_code l p (leads_at e p m) is

  is_is : is ≡ procedure.code
  is_is = ap instrs_of is_there

  entry : code_from e.codes m ≡ first + widths (pieces_upto e k)
  entry = entry_is ms s ds first low room m below

  piece : piece_at e k ≡ prologue l ++ body
  piece = piece_there ms s ds first low room p codes dispatches m procedure is_there

  -- ---- its code stands

  inside : code_from e.codes m + widths (prologue l ++ body) < 65536
  inside =
      let f = pieces_fit e (length ms) k (turn_low s (length ms) m low below) in let w = ap widths piece in
      let en = entry in omega (arith, f, w, en, room)

  has_piece : (start : ℕ) (code front rest : List Avr) → code ≡ front ++ (pieces_upto e (length ms) ++ rest) → first ≡ start + widths front
      → HasPiece start code (code_from e.codes m) (prologue l ++ body)
  has_piece start code front rest cut begins =
      let r = pieces_parts e (length ms) k (turn_low s (length ms) m low below) in
      record {
        front = front ++ pieces_upto e k;
        rest = r.0 ++ rest;
        cut = cut ∙ ap (λ z. front ++ (z ++ rest)) (r.1 ∙ ap (λ z. pieces_upto e k ++ (z ++ r.0)) piece)
            ∙ ap (λ z. front ++ z)
            (append_assoc (pieces_upto e k) ((prologue l ++ body) ++ r.0) rest
            ∙ ap (λ z. pieces_upto e k ++ z) (append_assoc (prologue l ++ body) r.0 rest))
            ∙ sym (append_assoc front (pieces_upto e k) ((prologue l ++ body) ++ (r.0 ++ rest)));
        place = let w = widths-append front (pieces_upto e k) in let en = entry in omega (arith, w, en, begins);
      }

  -- ---- each instruction's code

  abbrev at : ℕ → ℕ
  at pc = place_at e p m pc

  code_is : (pc : ℕ) (i : Instr) → slice_get is pc ≡ Some i → code_at l p (leads_at e p m) is pc ≡ selected l p (waits_in [] is pc) (leads_at e p m pc) i
  code_is pc i q = ap (code_of l p (waits_in [] is pc) (leads_at e p m pc)) q

  some : (pc : ℕ) (i : Instr) → slice_get is pc ≡ Some i → 1 ≤ length (selected l p (waits_in [] is pc) (leads_at e p m pc) i)
  some pc i q =
      subst (λ z. 1 ≤ length (selected z p (waits_in [] is pc) (leads_at e p m pc) i)) (sym (ap layout_of is_there))
      (selected_some procedure sound p (waits_in [] is pc) (leads_at e p m pc) i
      (sound.operands pc i (subst (λ z. slice_get z pc ≡ Some i) is_is q)))

  next : (pc : ℕ) → at (suc pc) ≡ at pc + widths (code_at l p (leads_at e p m) is pc)
  next pc = let w = widths-append (code_upto l p (leads_at e p m) is pc) (code_at l p (leads_at e p m) is pc) in omega (arith, w)

  goes : (pc : ℕ) → at pc ≤ at (suc pc)
  goes pc = let w = next pc in omega (arith, w)

  climbs : (a d : ℕ) → at a ≤ at (a + d)
  climbs a zero = let z : a + 0 ≡ a = omega arith in subst (λ b. at a ≤ at b) (sym z) (omega arith)
  climbs a (suc d) =
      let z : a + suc d ≡ suc (a + d) = omega arith in let c = climbs a d in let g = goes (a + d) in
      subst (λ b. at a ≤ at b) (sym z) (omega (arith, c, g))

  from_to : (a b : ℕ) → a ≤ b → at a ≤ at b
  from_to a b h = let z : a + (b - a) ≡ b = omega (arith, h) in subst (λ c. at a ≤ at c) z (climbs a (b - a))

  strict : (pc : ℕ) (i : Instr) → slice_get is pc ≡ Some i → at pc < at (suc pc)
  strict pc i q =
      let w = next pc in let c = ap widths (code_is pc i q) in
      let o = words_some (selected l p (waits_in [] is pc) (leads_at e p m pc) i) (some pc i q) in omega (arith, w, c, o)

  small : (pc : ℕ) → pc ≤ length is → at pc < 65536
  small pc h =
      let c = from_to pc (length is) h in let w = widths-append (prologue l) body in let i = inside in omega (arith, c, w, i)

  -- ---- where it leads

  abbrev guessed : List ℕ
  guessed = guessed_places e p m

  abbrev places : List ℕ
  places = known_places e p m

  abbrev far : ℕ → ℕ
  far pc = far_place ms s ds first low room p codes dispatches m procedure is_there pc

  far_known : (pc : ℕ) → pc < length is → get_or guessed pc 0 ≡ far pc
  far_known pc h = place_guessed ms s ds first low room p codes dispatches m procedure is_there pc h

  at_known : (pc : ℕ) → pc < length is → get_or places pc 0 ≡ at pc
  at_known pc h = place_known ms s ds first low room p codes dispatches m procedure is_there pc h

  -- no two instructions stand further from one another than they would with far jumps and branches
  nearer : (u v : ℕ) → u < length is → v < length is → Nearer (far u) (far v) (at u) (at v)
  nearer u v h g = elim (below_or_not v u) [
    | inl less ↦ inl (wider v u (omega (arith, less)) h, from_to v u (omega (arith, less)))
    | inr past ↦ inr (wider u v past g, from_to u v past)
  ]
    where
      wider : (a b : ℕ) → a ≤ b → b < length is → at b + far a ≤ far b + at a
      wider a b k j =
          let z : a + (b - a) ≡ b = omega (arith, k) in
          subst (λ c. at c + far a ≤ far c + at a) z
          (far_wider ms s ds first low room p codes dispatches m procedure is_there a (b - a) (omega (arith, k, j)))

  away : (pc to : ℕ) (i : Instr) → slice_get is pc ≡ Some i → to < length is → to ≢ pc → (d : ℕ) → at pc + d < at (suc pc) → at to ≢ at pc + d
  away pc to i q h other d inner same = elim (below_or_not to pc) [
    | inl less ↦
        (let t = there is to h in let a = strict to t.0 t.1 in let b = from_to (suc to) pc (omega (arith, less)) in
        absurd (omega (arith, a, b, same)))
    | inr past ↦ elim (below_or_not pc to) [
      | inl more ↦ (let b = from_to (suc pc) to (omega (arith, more)) in absurd (omega (arith, b, inner, same)))
      | inr equal ↦ absurd (other (omega (arith, past, equal)))
    ]
  ]

  held : (pc to : ℕ) → to < length procedure.code → to < length is
  held pc to h = subst (λ z. to < length z) (sym is_is) h

  -- a branch is the last of the code of its instruction
  branches : (pc to : ℕ) (i : Instr) (t : Test) (truth : Bool) → slice_get is pc ≡ Some i
      → widths (code_at l p (leads_at e p m) is pc) ≡ widths (tests l t ++ branch_code (told_by t.comparison) truth (x.branch m pc))
      → ((es ps : List ℕ) → aim_in es ps i ≡ get_or ps to 0) → ((ps : List ℕ) → behind_in l ps pc i ≡ get_or ps (suc pc) 0) → to ≢ pc → to < length is
      → suc pc < length is → TestLeads x m pc to (at pc + widths (tests l t))
  branches pc to i t truth q w aim behind other h g =
      subst (λ b. TurnLeads b (at pc + widths (tests l t)) (at to)) (sym turn_is)
      (turn_leads r (at pc + widths (tests l t)) (at (suc pc)) (at to) ends in_reach (small to (omega (arith, h)))
      (λ inner same. away pc to i q h other (widths (tests l t) + 1) (omega (arith, inner)) (same ∙ regroup (at pc) (widths (tests l t)))))
    where
      r : Reach
      r = reach_in l e.entries guessed pc i

      turn_is : x.branch m pc ≡ turn_by r (at (suc pc)) (at to)
      turn_is =
          ap (λ o. turn_by (reach_of l (sites_of e p m) pc o) (behind_hop l places pc o) (aim_of e.codes places o)) q
          ∙ ap₂ (turn_by r) (behind places ∙ at_known (suc pc) g) (aim e.codes places ∙ at_known to h)

      ends : at (suc pc) ≡ at pc + widths (tests l t) + turn_words r
      ends =
          let n = next pc in let s = w ∙ ap (λ z. widths (tests l t ++ branch_code (told_by t.comparison) truth z)) turn_is in
          let a = widths-append (tests l t) (branch_code (told_by t.comparison) truth (turn_by r (at (suc pc)) (at to))) in
          let k = turn_takes (told_by t.comparison) truth r (at (suc pc)) (at to) in omega (arith, n, s, a, k)

      in_reach : InReach r (at (suc pc)) (at to)
      in_reach =
          still_in_reach r (far (suc pc)) (far to) (at (suc pc)) (at to) (far (suc pc)) (at (suc pc)) 0 (omega arith) (omega arith) (omega arith)
          (nearer (suc pc) to g h)
          (subst (λ z. InReach r z (far to)) (behind guessed ∙ far_known (suc pc) g)
          (subst (λ z. InReach r (behind_in l guessed pc i) z) (aim e.entries guessed ∙ far_known to h) (reached l e.entries guessed pc i)))

      regroup : (a b : ℕ) → a + b + 1 ≡ a + (b + 1)
      regroup a b = omega arith

  jumps : (pc to : ℕ) → slice_get is pc ≡ Some (Jump to) → to ≢ pc → to < length is → pc < length is → HopLeads (x.jump m pc) (at pc) (at to)
  jumps pc to q other h g =
      subst (λ b. HopLeads b (at pc) (at to)) (sym hop_is)
      (hop_leads r (at pc) (at pc + 1) (at to) refl in_reach (small to (omega (arith, h)))
      (λ same. away pc to (Jump to) q h other 0 (let up = strict pc (Jump to) q in omega (arith, up)) (same ∙ (let z : at pc ≡ at pc + 0 = omega arith in z))))
    where
      r : Reach
      r = reach_in l e.entries guessed pc (Jump to)

      hop_is : x.jump m pc ≡ hop_by r (at pc + 1) (at to)
      hop_is =
          ap (λ o. hop_by (reach_of l (sites_of e p m) pc o) (behind_hop l places pc o) (aim_of e.codes places o)) q
          ∙ ap₂ (λ u v. hop_by r (u + 1) v) (at_known pc g) (at_known to h)

      in_reach : InReach r (at pc + 1) (at to)
      in_reach =
          still_in_reach r (far pc) (far to) (at pc) (at to) (far pc + 1) (at pc + 1) 1 (omega arith) refl refl (nearer pc to g h)
          (subst (λ z. InReach r (z + 1) (far to)) (far_known pc g)
          (subst (λ z. InReach r (get_or guessed pc 0 + 1) z) (far_known to h) (reached l e.entries guessed pc (Jump to))))

  -- ---- calls

  abbrev words : ℕ → ℕ
  words j = widths (pieces_upto e j)

  abbrev far_words : ℕ → ℕ
  far_words j = widths (pieces_upto (unknown ms s ds) j)

  -- where the next procedure begins
  ends_at : at (length is) ≡ first + words (suc k)
  ends_at =
      let en = entry in let u = widths-append (pieces_upto e k) (piece_at e k) in let c = ap widths piece in
      let v = widths-append (prologue l) body in omega (arith, en, u, c, v)

  far_ends_at : far (length is) ≡ first + far_words (suc k)
  far_ends_at = far_end ms s ds first low room p codes dispatches m procedure is_there

  wider : (a b : ℕ) → a ≤ b → words b + far_words a ≤ far_words b + words a
  wider a b h =
      let z : a + (b - a) ≡ b = omega (arith, h) in
      subst (λ c. words c + far_words a ≤ far_words c + words a) z (pieces_less ms s ds first a (b - a))

  further : (a b : ℕ) → a ≤ b → words a ≤ words b
  further a b h = let z : a + (b - a) ≡ b = omega (arith, h) in subst (λ c. words a ≤ words c) z (pieces_climb ms s ds first a (b - a))

  -- Two places, one of them in the code of an instruction, so many words behind its beginning.
  module _ (pc f : ℕ) (pc_low : pc < length is) (inner : at pc + f ≤ at (suc pc)) where
    from_start : at pc + far_words k ≤ far pc + words k
    from_start =
        let w = far_wider ms s ds first low room p codes dispatches m procedure is_there 0 pc (omega (arith, pc_low)) in
        let z : 0 + pc ≡ pc = omega arith in
        let w' = subst (λ c. at c + far 0 ≤ far c + at 0) z w in let en = entry in omega (arith, w', en)

    nowhere_nearer : Nearer (far pc + f) 0 (at pc + f) 0
    nowhere_nearer = inl (let w = from_start in let v = wider 0 k (omega arith) in omega (arith, w, v), omega arith)

    entry_nearer : (q : ℕ) → q < length ms → Nearer (far pc + f) (code_from e.entries q) (at pc + f) (code_from e.codes q)
    entry_nearer q h = elim (below_or_not k j) [
      | inr past ↦
          (let w = wider j k past in let u = further j k past in let v = from_start in let en = entry in
          inl (omega (arith, there, guess, w, v), omega (arith, there, u, en)))
      | inl less ↦
          (let w = wider (suc k) j (omega (arith, less)) in let u = further (suc k) j (omega (arith, less)) in let a = ends_at in let b = far_ends_at in
          let c = to_end in let d = from_to (suc pc) (length is) (omega (arith, pc_low)) in
          inr (omega (arith, there, guess, w, a, b, c), omega (arith, there, u, a, d, inner)))
    ]
      where
        j : ℕ
        j = turn_of s (length ms) q

        there : code_from e.codes q ≡ first + words j
        there = entry_is ms s ds first low room q h

        guess : code_from e.entries q ≡ first + far_words j
        guess = guessed_entry ms s ds first q low h

        to_end : at (length is) + far pc ≤ far (length is) + at pc
        to_end =
            let z : pc + (length is - pc) ≡ length is = omega (arith, pc_low) in
            subst (λ c. at c + far pc ≤ far c + at pc) z
            (far_wider ms s ds first low room p codes dispatches m procedure is_there pc (length is - pc) (omega (arith, pc_low)))

    callee_nearer : (c : Callee) → Nearer (far pc + f) (callee_in e.entries c) (at pc + f) (callee_in e.codes c)
    callee_nearer (ByCode a) = nowhere_nearer
    callee_nearer (ByNumber q) = elim (below_or_not q (length ms)) [
      | inl less ↦ entry_nearer q less
      | inr past ↦
          subst (λ z. Nearer (far pc + f) z (at pc + f) (code_from e.codes q)) (sym (no_entry ms s ds first q past))
          (subst (λ z. Nearer (far pc + f) 0 (at pc + f) z) (sym (no_code ms s ds first q past)) nowhere_nearer)
    ]

  callee_low : (c : Callee) → callee_in e.codes c < 65536
  callee_low (ByCode a) = omega arith
  callee_low (ByNumber q) = elim (below_or_not q (length ms)) [
    | inl less ↦
        (let a = entry_is ms s ds first low room q less in
        let f = pieces_fit e (length ms) (turn_of s (length ms) q) (turn_low s (length ms) q low less) in omega (arith, a, f, room))
    | inr past ↦ (let z = no_code ms s ds first q past in omega (arith, z))
  ]

  callee : (c : Callee) (w : Way) (here : ℕ) → WayLeads w here (callee_in e.codes c) → CalleeLeads x c w here
  callee (ByNumber q) w here h = h
  callee (ByCode a) w here h = tt

  calling : (pc : ℕ) (c : Calling) → slice_get is pc ≡ Some (Call c) → CalleeLeads x c.callee (x.call m pc) (call_place x m pc c)
  calling pc c q =
      subst (λ w. CalleeLeads x c.callee w here) (sym way_is)
      (callee c.callee (way_by r (here + 1) (callee_in e.codes c.callee)) here
      (way_leads r here (here + 1) (callee_in e.codes c.callee) refl in_reach (callee_low c.callee)))
    where
      here : ℕ
      here = at pc + widths (call_front l c)

      r : Reach
      r = reach_in l e.entries guessed pc (Call c)

      pc_low : pc < length is
      pc_low = slice_get_within is pc (Call c) q

      way_is : x.call m pc ≡ way_by r (here + 1) (callee_in e.codes c.callee)
      way_is =
          ap (λ o. way_by (reach_of l (sites_of e p m) pc o) (behind_hop l places pc o) (aim_of e.codes places o)) q
          ∙ ap (λ z. way_by r (z + widths (call_front l c) + 1) (callee_in e.codes c.callee)) (at_known pc pc_low)

      inner : here ≤ at (suc pc)
      inner =
          let n = next pc in let w = ap widths (code_is pc (Call c) q) in
          let a = widths-append (call_front l c) (call_code (way_of c.callee (x.call m pc)) ∷ call_back l (waits_in [] is pc) c) in omega (arith, n, w, a)

      in_reach : InReach r (here + 1) (callee_in e.codes c.callee)
      in_reach =
          still_in_reach r (far pc + widths (call_front l c)) (callee_in e.entries c.callee) here (callee_in e.codes c.callee)
          (far pc + widths (call_front l c) + 1) (here + 1) 1 (omega arith) refl refl (callee_nearer pc (widths (call_front l c)) pc_low inner c.callee)
          (subst (λ z. InReach r (z + widths (call_front l c) + 1) (callee_in e.entries c.callee)) (far_known pc pc_low)
          (reached l e.entries guessed pc (Call c)))

  target : (pc : ℕ) (i : Instr) → slice_get is pc ≡ Some i → Waits procedure (waits_of procedure) pc i → Targets x m pc i
  target pc (Plain i) q w = tt
  target pc (When t to) q w =
      branches pc to (When t to) t true q (ap widths (code_is pc (When t to) q)) (λ es ps. refl) (λ ps. refl) w.0.0 (held pc to w.0.1.0) (held pc (suc pc) w.1.0)
  target pc (Unless t to) q w =
      branches pc to (Unless t to) t false q (ap widths (code_is pc (Unless t to) q)) (λ es ps. refl) (λ ps. refl) w.0.0 (held pc to w.0.1.0)
      (held pc (suc pc) w.1.0)
  target pc (Jump to) q w = jumps pc to q w.0 (held pc to w.1.0) (slice_get_within is pc (Jump to) q)
  target pc (Call c) q w = (ap (behind_of l (at pc) (leads_at e p m pc)) q, calling pc c q)
  target pc (Return r a) q w = tt
  target pc Idle q w = ap (behind_of l (at pc) (leads_at e p m pc)) q

  -- ---- the procedure is linked

  as_template : (pc : ℕ) (i : Instr) → 1 ≤ length (selected l p (waits_in [] is pc) (leads_at e p m pc) i) → 1 ≤ length (template x p m pc i)
  as_template pc (Plain i) h = h
  as_template pc (When t to) h = h
  as_template pc (Unless t to) h = h
  as_template pc (Jump to) h = h
  as_template pc (Call c) h = h
  as_template pc (Return w a) h = h
  as_template pc Idle h = h

  pub procedure_linked : ((pc : ℕ) (i : Instr) → slice_get procedure.code pc ≡ Some i → IsFit p i) → (start : ℕ) (code front rest : List Avr)
      → code ≡ front ++ (pieces_upto e (length ms) ++ rest) → first ≡ start + widths front → ProcedureLinked x p start code m procedure
  procedure_linked fit start code front rest cut begins =
      record {
        layout = ap layout_of is_there;
        live = ap live_of is_there;
        stands = subst (λ z. HasPiece start code (code_from e.codes m) (prologue l ++ body_code l p (leads_at e p m) z)) is_is
            (has_piece start code front rest cut begins);
        room = subst (λ z. code_from e.codes m + widths (prologue l ++ body_code l p (leads_at e p m) z) < 65536) is_is inside;
        places = λ pc. ap (λ z. place_of l p (leads_at e p m) z (code_from e.codes m + widths (prologue l)) pc) is_is;
        waits = λ pc. ap (λ z. waits_in [] z pc) is_is;
        each = λ pc i q. (let here = subst (λ z. slice_get z pc ≡ Some i) (sym is_is) q in
            record { some = as_template pc i (some pc i here); targets = target pc i here (sound.goes_on pc i q); fit = fit pc i q });
      }

-- ---- what fits fits whatever the program

fits_plain : (p q : Program) → p.codes.code ≡ q.codes.code → p.dispatches ≡ q.dispatches → (i : PlainInstr) → IsPlainFit q i → IsPlainFit p i
fits_plain p q codes same (Copy to a) h = h
fits_plain p q codes same (Compute c) h = h
fits_plain p q codes same (Product to a b) h = h
fits_plain p q codes same (DivideSteps r d a) h = h
fits_plain p q codes same (Load k w to a) h = h
fits_plain p q codes same (Store w a from) h = h
fits_plain p q codes same (ReadDevice to address) h = h
fits_plain p q codes same (WriteDevice address a) h = h
fits_plain p q codes same (Push w a) h = h
fits_plain p q codes same (Pop w to) h = h
fits_plain p q codes same (Find place to a) h =
    subst (λ f. AreCases f (cases_of (slice_get p.dispatches place))) (sym codes)
    (subst (λ ds. AreCases q.codes.code (cases_of (slice_get ds place))) (sym same) h)
fits_plain p q codes same (CodeOf k to) h = h
fits_plain p q codes same (Stop code) h = h

pub fits : (p q : Program) → p.codes.code ≡ q.codes.code → p.dispatches ≡ q.dispatches → (i : Instr) → IsFit q i → IsFit p i
fits p q codes same (Plain i) h = fits_plain p q codes same i h
fits p q codes same (When t to) h = h
fits p q codes same (Unless t to) h = h
fits p q codes same (Jump to) h = h
fits p q codes same (Call c) h = h
fits p q codes same (Return w a) h = h
fits p q codes same Idle h = h
