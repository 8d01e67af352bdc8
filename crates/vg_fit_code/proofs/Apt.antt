-- Code that asks for no more than flattened code does is fit but for its arithmetic.
use Rattle.std.specs.Prelude.{ℕ, List, [], ◌∷◌, slice_get}
use Rattle.std.specs.List.{AllByRecursion}
use Rattle.vg_codes.specs.Dispatch.{cases_of}
use Rattle.vg_firm.specs.Program.{Procedure as FirmProcedure}
use Rattle.vg_lin.specs.declared.instr.Plain.{Plain as PlainInstr}
use Rattle.vg_lin.specs.declared.instr.Plain.TheVariants.{Copy, Compute, Product, DivideSteps, Load, Store, ReadDevice, WriteDevice, Push, Pop, Find, CodeOf, Stop}
use Rattle.vg_lin.specs.declared.instr.Instr.{Instr}
use Rattle.vg_lin.specs.declared.instr.Instr.TheVariants.{Plain, When, Unless, Jump, Call, Return, Idle}
use Rattle.vg_lin.specs.Program.{Procedure, Program}
use Rattle.vg_apt.specs.Apt.{IsApt, AreApt}
use Rattle.vg_flatten_shapes.specs.declared.layout.Layout.{Layout}
use Rattle.vg_flatten.specs.Flattened.{IsFlat}
use Rattle.vg_flat_each.specs.Each.{Carries}
use Rattle.vg_flat_each.proofs.Pushed.{each_flattened}
use Rattle.vg_followed.specs.Tables.{AreCases}
use Rattle.vg_fit_code.specs.Making.{CodeApt, IsMade, IsPlainMade}
use Rattle.vg_fit_code.proofs.Making.{parts_last}

-- ---- flattened code

carries : Carries IsApt
carries =
    record {
      copies = λ to a. tt;
      computes = λ c. tt;
      loads = λ m w to a. tt;
      stores = λ w a from. tt;
      pushes = λ w a. tt;
      pops = λ w to. tt;
      codes = λ q to. tt;
      stops = λ code. tt;
      whens = λ t to. tt;
      unlesses = λ t to. tt;
      jumps = λ to. tt;
      calls = λ callee to xs. parts_last callee to xs;
      returns = λ w a. tt;
    }

pub flattened_apt : (lay : Layout) (m : FirmProcedure) (new : Procedure) → IsFlat lay m new → CodeApt m.body → AreApt new.code
flattened_apt lay m new f h = each_flattened IsApt carries lay m new f h

-- ---- code for each instruction

module _ (p : Program) (finds : (place : ℕ) → AreCases p.codes.code (cases_of (slice_get p.dispatches place))) where
  plain_made : (q : PlainInstr) → IsApt (Plain q) → IsPlainMade p q
  plain_made (Find place to a) h = finds place
  plain_made (DivideSteps r d a) h = absurd h
  plain_made (ReadDevice to address) h = h
  plain_made (WriteDevice address a) h = h
  plain_made (Copy to a) h = tt
  plain_made (Compute c) h = tt
  plain_made (Product to a b) h = tt
  plain_made (Load m w to a) h = tt
  plain_made (Store w a from) h = tt
  plain_made (Push w a) h = tt
  plain_made (Pop w to) h = tt
  plain_made (CodeOf q to) h = tt
  plain_made (Stop code) h = tt

  made : (i : Instr) → IsApt i → IsMade p i
  made (Plain q) h = plain_made q h
  made (When t to) h = tt
  made (Unless t to) h = tt
  made (Jump to) h = tt
  made (Call c) h = h
  made (Return w a) h = tt
  made Idle h = tt

  pub apt_made : (code : List Instr) → AreApt code → AllByRecursion (IsMade p) code
  apt_made [] h = tt
  apt_made (i ∷ is) (a, h) = (made i a, apt_made is h)
