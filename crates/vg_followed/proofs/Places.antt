-- Which procedure and which instruction stand at a place.
use Rattle.std.proofs.Common.{◌≡◌, ℕ, zero, suc, List, [], ◌∷◌, Some, None, refl, slice_get}
use Rattle.vg_lin.specs.declared.instr.Instr.{Instr}
use Rattle.vg_lin.specs.Meaning.{codes_in}
use Rattle.vg_lin.specs.Program.{Procedure, Program}
use Rattle.vg_lin.specs.Steps.{fetch}
use Rattle.avr_view.specs.Run.{Run}
use Rattle.vg_templates.specs.Whole.{Links}
use Rattle.vg_followed.specs.Stands.{InstrStands, ProcedureStands, Stands}

pub record Fetched (ms : List Procedure) (m pc : ℕ) (i : Instr) : Type 0 where
  pub procedure : Procedure
  pub there : slice_get ms m ≡ Some procedure
  pub instr : slice_get procedure.code pc ≡ Some i

pub fetched : (ms : List Procedure) (m pc : ℕ) (i : Instr) → fetch (codes_in ms) m pc ≡ Some i → Fetched ms m pc i
fetched [] m pc i e = absurd (let clash : None ≡ Some i = e in cc)
fetched (q ∷ qs) zero pc i e = record { procedure = q; there = refl; instr = e }
fetched (q ∷ qs) (suc m) pc i e = let f = fetched qs m pc i e in record { procedure = f.procedure; there = f.there; instr = f.instr }

-- the instruction stands, and so does its procedure
pub record Placed (e : Run) (x : Links) (p : Program) (m pc : ℕ) (i : Instr) : Type 0 where
  pub procedure : Procedure
  pub there : slice_get p.procedures m ≡ Some procedure
  pub stands : ProcedureStands e x p m procedure
  pub instr : InstrStands e x p m procedure pc i

pub placed : (e : Run) (x : Links) (p : Program) → Stands e x p → (m pc : ℕ) (i : Instr) → fetch (codes_in p.procedures) m pc ≡ Some i → Placed e x p m pc i
placed e x p st m pc i h =
    let f = fetched p.procedures m pc i h in
    let stands = st.procedures m f.procedure f.there in
    record { procedure = f.procedure; there = f.there; stands = stands; instr = stands.each pc i f.instr }
