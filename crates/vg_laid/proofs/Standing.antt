-- Linked procedures stand.
use Rattle.std.specs.Prelude.{ℕ, zero, suc, ◌+◌, ◌<◌, List, [], ◌∷◌, ◌++◌, length, drop, Some, slice_get}
use Rattle.std.proofs.Common.{◌≡◌, refl, sym, ap, ◌∙◌, subst, arith, inl, inr}
use Rattle.std.proofs.lemmas.List.{append_assoc, append-nil}
use Rattle.std.proofs.lemmas.Option.{slice_get_within}
use Rattle.avr_instr.specs.declared.instr.Instr.{Instr as Avr}
use Rattle.avr_isa.specs.Standing.{widths, AllStandAt}
use Rattle.avr_isa.proofs.Standing.{front_stands, back_stands, widths-append}
use Rattle.avr_view.specs.Run.{Run}
use Rattle.avr_view.proofs.Going.{below_or_not}
use Rattle.vg_lin.specs.declared.instr.Plain.{Plain as PlainInstr}
use Rattle.vg_lin.specs.declared.instr.Plain.TheVariants.{Copy, Compute, Product, DivideSteps, Load, Store, ReadDevice, WriteDevice, Push, Pop, Find, CodeOf, Stop}
use Rattle.vg_lin.specs.declared.instr.Instr.{Instr}
use Rattle.vg_lin.specs.declared.instr.Instr.TheVariants.{Plain, When, Unless, Jump, Call, Return, Idle}
use Rattle.vg_lin.specs.Program.{Procedure, Program}
use Rattle.vg_lin.specs.Sound.{waits_in, waits_of, GoesOn, Jumps, IsSound}
use Rattle.vg_lin.specs.Sound as sound
use Rattle.vg_templates.specs.Layouts.{Layout}
use Rattle.vg_templates.specs.Linkage.{prologue}
use Rattle.vg_templates.specs.Framed.{framed}
use Rattle.vg_templates.proofs.Framing.{framed-parameters}
use Rattle.vg_alloc.proofs.Spotting.{can_be_framed}
use Rattle.vg_templates.specs.Calls.{HasParameters}
use Rattle.vg_templates.specs.Whole.{Links, template}
use Rattle.vg_followed.specs.Covered.{Covers}
use Rattle.vg_followed.specs.Stands.{LeadsOn, Leads, PlainWaits, WaitsLead, InstrStands, ProcedureStands}
use Rattle.vg_covered.proofs.Covering.{covered}
use Rattle.vg_select.specs.Selected.{Leading, selected}
use Rattle.vg_put_procedures.specs.Emitted.{code_of, code_at, code_upto, body_code}
use Rattle.vg_laid.specs.Linked.{HasPiece, leading_of, Targets, ProcedureLinked}

pub piece_stands : (flash : List ℕ) (start : ℕ) (code : List Avr) (at : ℕ) (piece : List Avr) → AllStandAt flash start code → HasPiece start code at piece
    → AllStandAt flash at piece
piece_stands flash start code at piece all h =
    subst (λ n. AllStandAt flash n piece) (sym h.place)
    (front_stands flash (start + widths h.front) piece h.rest
    (back_stands flash start h.front (piece ++ h.rest) (subst (AllStandAt flash start) h.cut all)))

template_is : (x : Links) (p : Program) (m pc : ℕ) (i : Instr) → template x p m pc i ≡ selected (x.places.layouts m) p (x.waits m pc) (leading_of x m pc) i
template_is x p m pc (Plain q) = refl
template_is x p m pc (When t to) = refl
template_is x p m pc (Unless t to) = refl
template_is x p m pc (Jump to) = refl
template_is x p m pc (Call c) = refl
template_is x p m pc (Return w a) = refl
template_is x p m pc Idle = refl

-- The code of the first instructions has that of each of them.
pub upto_parts : (l : Layout) (p : Program) (leads : ℕ → Leading) (is : List Instr) (n k : ℕ) → k < n
    → (rest : List Avr) × (code_upto l p leads is n ≡ code_upto l p leads is k ++ (code_at l p leads is k ++ rest))
upto_parts l p leads is zero k h = absurd (omega (arith, h))
upto_parts l p leads is (suc n) k h = elim (below_or_not k n) [
  | inl less ↦ (let r = upto_parts l p leads is n k less in (
    r.0 ++ code_at l p leads is n,
    ap (λ z. z ++ code_at l p leads is n) r.1
        ∙ append_assoc (code_upto l p leads is k) (code_at l p leads is k ++ r.0) (code_at l p leads is n)
        ∙ ap (λ z. code_upto l p leads is k ++ z) (append_assoc (code_at l p leads is k) r.0 (code_at l p leads is n)),
  ))
  | inr more ↦ (let e : n ≡ k = omega (arith, more, h) in
      ([], ap (λ z. code_upto l p leads is z ++ code_at l p leads is z) e ∙ ap (λ z. code_upto l p leads is k ++ z) (sym (append-nil (code_at l p leads is k)))))
]

module _ (e : Run) (x : Links) (p : Program) (start : ℕ) (code : List Avr) (m : ℕ) (procedure : Procedure) (all : AllStandAt e.flash start code)
    (s : IsSound procedure) (h : ProcedureLinked x p start code m procedure) where
  abbrev l : Layout
  l = x.places.layouts m

  abbrev leads : ℕ → Leading
  leads = leading_of x m

  abbrev body : List Avr
  body = body_code l p leads procedure.code

  abbrev first : ℕ
  first = x.entry m + widths (prologue l)

  whole : AllStandAt e.flash (x.entry m) (prologue l ++ body)
  whole = piece_stands e.flash start code (x.entry m) (prologue l ++ body) all h.stands

  body_stands : AllStandAt e.flash first body
  body_stands = back_stands e.flash (x.entry m) (prologue l) body whole

  room : first + widths body < 65536
  room = let r = h.room in let w = widths-append (prologue l) body in omega (arith, r, w)

  code_is : (pc : ℕ) (i : Instr) → slice_get procedure.code pc ≡ Some i → code_at l p leads procedure.code pc ≡ template x p m pc i
  code_is pc i q =
      ap (code_of l p (waits_in [] procedure.code pc) (leads pc)) q ∙ ap (λ ws. selected l p ws (leads pc) i) (sym (h.waits pc)) ∙ sym (template_is x p m pc i)

  next : (pc : ℕ) (i : Instr) → slice_get procedure.code pc ≡ Some i → LeadsOn x p m pc i
  next pc i q =
      let a = h.places (suc pc) in let b = h.places pc in
      let w = widths-append (code_upto l p leads procedure.code pc) (code_at l p leads procedure.code pc) in
      let c = ap widths (code_is pc i q) in omega (arith, a, b, w, c)

  parts : (pc : ℕ) (i : Instr) → slice_get procedure.code pc ≡ Some i
      → (rest : List Avr) × (body ≡ code_upto l p leads procedure.code pc ++ (template x p m pc i ++ rest))
  parts pc i q =
      let r = upto_parts l p leads procedure.code (length procedure.code) pc (slice_get_within procedure.code pc i q) in
      (r.0, r.1 ∙ ap (λ z. code_upto l p leads procedure.code pc ++ (z ++ r.0)) (code_is pc i q))

  stands : (pc : ℕ) (i : Instr) → slice_get procedure.code pc ≡ Some i → AllStandAt e.flash (x.place m pc) (template x p m pc i)
  stands pc i q =
      let r = parts pc i q in
      subst (λ n. AllStandAt e.flash n (template x p m pc i)) (sym (h.places pc))
      (front_stands e.flash (first + widths (code_upto l p leads procedure.code pc)) (template x p m pc i) r.0
      (back_stands e.flash first (code_upto l p leads procedure.code pc) (template x p m pc i ++ r.0) (subst (AllStandAt e.flash first) r.1 body_stands)))

  inside : (pc : ℕ) (i : Instr) → slice_get procedure.code pc ≡ Some i → x.place m pc + widths (template x p m pc i) < 65536
  inside pc i q =
      let r = parts pc i q in let b = h.places pc in let all' = ap widths r.1 in
      let w = widths-append (code_upto l p leads procedure.code pc) (template x p m pc i ++ r.0) in
      let v = widths-append (template x p m pc i) r.0 in let room' = room in omega (arith, b, all', w, v, room')

  -- ---- what waits

  waits_on : (to : ℕ) (ws : List ℕ) → GoesOn procedure (waits_of procedure) to ws → x.waits m to ≡ ws
  waits_on to ws g = h.waits to ∙ g.1

  same : (pc to : ℕ) → GoesOn procedure (waits_of procedure) to (waits_of procedure pc) → x.waits m to ≡ x.waits m pc
  same pc to g = waits_on to (waits_of procedure pc) g ∙ sym (h.waits pc)

  plain_waits : (pc : ℕ) (i : PlainInstr) → sound.PlainWaits procedure (waits_of procedure) pc i → PlainWaits (x.waits m pc) (x.waits m (suc pc)) i
  plain_waits pc (Copy to a) g = same pc (suc pc) g
  plain_waits pc (Compute c) g = same pc (suc pc) g
  plain_waits pc (Product to a b) g = same pc (suc pc) g
  plain_waits pc (DivideSteps r d a) g = same pc (suc pc) g
  plain_waits pc (Load k w to a) g = same pc (suc pc) g
  plain_waits pc (Store w a from) g = same pc (suc pc) g
  plain_waits pc (ReadDevice to a) g = same pc (suc pc) g
  plain_waits pc (WriteDevice to a) g = same pc (suc pc) g
  plain_waits pc (Push w a) g = waits_on (suc pc) (w ∷ waits_of procedure pc) g ∙ ap (λ ws. w ∷ ws) (sym (h.waits pc))
  plain_waits pc (Pop w to) (rest, q, g) = h.waits pc ∙ q ∙ ap (λ ws. w ∷ ws) (sym (waits_on (suc pc) rest g))
  plain_waits pc (Find d to a) g = same pc (suc pc) g
  plain_waits pc (CodeOf q to) g = same pc (suc pc) g
  plain_waits pc (Stop c) g = tt

  waits_lead : (pc : ℕ) (i : Instr) → sound.Waits procedure (waits_of procedure) pc i → WaitsLead x m pc i
  waits_lead pc (Plain i) g = plain_waits pc i g
  waits_lead pc (When t to) (j, g) = (same pc to j.1, same pc (suc pc) g)
  waits_lead pc (Unless t to) (j, g) = (same pc to j.1, same pc (suc pc) g)
  waits_lead pc (Jump to) (n, g) = same pc to g
  waits_lead pc (Call c) (n, g) = waits_on (suc pc) (drop c.pushed (waits_of procedure pc)) g ∙ ap (drop c.pushed) (sym (h.waits pc))
  waits_lead pc (Return w a) g = tt
  waits_lead pc Idle g = same pc (suc pc) g

  leading : (pc : ℕ) (i : Instr) → LeadsOn x p m pc i → Targets x m pc i → Leads x p m pc i
  leading pc (Plain i) o t = o
  leading pc (When c to) o t = (o, t)
  leading pc (Unless c to) o t = (o, t)
  leading pc (Jump to) o t = t
  leading pc (Call c) o t = (o, t)
  leading pc (Return w a) o t = tt
  leading pc Idle o t = (o, t)

  instr_stands : (pc : ℕ) (i : Instr) → slice_get procedure.code pc ≡ Some i → InstrStands e x p m procedure pc i
  instr_stands pc i q =
      let each = h.each pc i q in
      record {
        stands = stands pc i q;
        room = inside pc i q;
        some = each.some;
        leads = leading pc i (next pc i q) each.targets;
        waits = waits_lead pc i (s.goes_on pc i q);
        covers =
            subst (λ z. Covers z (x.places.live m) p procedure.result pc i) (sym h.layout)
            (subst (λ z. Covers (framed procedure) z p procedure.result pc i) (sym h.live) (covered procedure s pc p i q (s.operands pc i q) each.fit));
      }

  pub procedure_stands : ProcedureStands e x p m procedure
  procedure_stands =
      record {
        prologue_stands = front_stands e.flash (x.entry m) (prologue l) body whole;
        room = let r = room in omega (arith, r);
        begins = h.places 0 ∙ (let z : first + 0 ≡ first = omega arith in z);
        locals = ap (λ (z : Layout). z.widths) h.layout;
        arguments =
            subst (λ z. HasParameters z (x.places.live m 0) procedure.params) (sym h.layout)
            (subst (λ z. HasParameters (framed procedure) (z 0) procedure.params) (sym h.live) (framed-parameters procedure (can_be_framed procedure s)));
        result = s.result;
        waits = h.waits 0;
        each = instr_stands;
      }
