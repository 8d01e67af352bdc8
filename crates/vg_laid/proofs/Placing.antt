-- A linked program stands in the flash of its image.
use Rattle.std.specs.Prelude.{ℕ, zero, suc, ◌+◌, ◌*◌, ◌<◌, ◌≤◌, true, List, [], ◌∷◌, length, slice_index, Some, None}
use Rattle.std.specs.List.{AllByRecursion}
use Rattle.std.proofs.Common.{◌≡◌, sym, ap, ◌∙◌, subst, arith}
use Rattle.std.proofs.lemmas.List.{append-nil}
use Rattle.vg_meaning.specs.Outside.{IsVector}
use Rattle.avr_instr.specs.Spelled.{InRange}
use Rattle.avr_instr.specs.declared.instr.Instr.TheVariants.{Reti}
use Rattle.avr_isa.specs.Cpu.{flash_byte}
use Rattle.avr_isa.specs.Standing.{StandsAt, AllStandAt}
use Rattle.avr_view.specs.Run.{Run}
use Rattle.vg_lin.specs.Program.{Program}
use Rattle.vg_templates.specs.Startup.{bytes_from}
use Rattle.vg_templates.specs.Idle.{idle_piece, stub}
use Rattle.vg_templates.specs.Whole.{Links}
use Rattle.vg_followed.specs.Tables.{HoldsTables}
use Rattle.vg_followed.specs.Stands.{HandlerStands, Stands}
use Rattle.vg_image.specs.Image.{Parts, slot_code, first_table, code_start, flash_of, words_of}
use Rattle.vg_image.proofs.Parts.{slots_stand, tables_stand, code_stands}
use Rattle.vg_laid.proofs.Standing.{piece_stands, procedure_stands}
use Rattle.vg_laid.specs.Images.{HandlerLinked, ProgramLinked}

-- A byte of the bytes that are read.
byte_read : (flash : List ℕ) (at : ℕ) (list : List ℕ) (i : ℕ) → bytes_from flash at (length list) ≡ list → i < length list
    → flash_byte flash (at + i) ≡ slice_index list i
byte_read flash at [] i e h = absurd (omega (arith, h))
byte_read flash at (x ∷ list) zero e h = ap (flash_byte flash) (let z : at + 0 ≡ at = omega arith in z) ∙ first e
  where
    first : {y : ℕ} {ys : List ℕ} → (y ∷ ys) ≡ (x ∷ list) → y ≡ x
    first q = ap (λ zs. slice_index zs 0) q
byte_read flash at (x ∷ list) (suc i) e h =
    ap (flash_byte flash) (let z : at + suc i ≡ suc at + i = omega arith in z) ∙ byte_read flash (suc at) list i (rest e) (omega (arith, h))
  where
    behind : List ℕ → List ℕ
    behind [] = []
    behind (z ∷ zs) = zs

    rest : {y : ℕ} {ys : List ℕ} → (y ∷ ys) ≡ (x ∷ list) → ys ≡ list
    rest q = ap behind q

module _ (e : Run) (x : Links) (p : Program) (parts : Parts) (flash : e.flash ≡ flash_of parts) (slots : (k at : ℕ) → parts.slots k ≡ Some at → at < 65536)
    (ranged : AllByRecursion InRange parts.code) (words : words_of parts < 65536) (h : ProgramLinked x p parts) (sleeps : e.lets_in (x.idle + 1) ≡ true)
    (wakes : e.lets_in (x.idle + 2) ≡ true) where
  start : ℕ
  start = code_start parts.tables

  all : AllStandAt e.flash (code_start parts.tables) parts.code
  all = subst (λ f. AllStandAt f (code_start parts.tables) parts.code) (sym flash) (code_stands parts slots ranged words)

  slot : (k : ℕ) → IsVector k → AllStandAt e.flash (2 * k) (slot_code (parts.slots k))
  slot k (low, high) =
      subst (λ f. AllStandAt f (2 * k) (slot_code (parts.slots k))) (sym flash) (slots_stand parts slots ranged words k (omega (arith, low)) (omega (arith, high)))

  handled : (vector m : ℕ) → HandlerLinked x p parts vector m → HandlerStands e x p vector m
  handled vector m g =
      record {
        procedure = g.procedure;
        there = g.there;
        receives_nothing = g.receives_nothing;
        stub = g.at;
        handled = record {
          slot = (subst (λ o. AllStandAt e.flash (2 * vector) (slot_code o)) g.slot (slot vector g.is_vector)).0;
          away = λ same. (let v = g.is_vector in let placed = g.stands.place in let far : 70 ≤ code_start parts.tables = omega arith in
              omega (arith, v.1, placed, far, same));
          stands = piece_stands e.flash (code_start parts.tables) parts.code g.at (stub (x.entry m)) all g.stands;
          room = g.room;
          ends = g.ends;
        };
      }

  empty : (vector : ℕ) → IsVector vector → parts.slots vector ≡ None → StandsAt e.flash (2 * vector) Reti
  empty vector v none = (subst (λ o. AllStandAt e.flash (2 * vector) (slot_code o)) none (slot vector v)).0

  holds : HoldsTables e.flash p.tables
  holds = record {
    each = λ i low. byte_read e.flash first_table p.tables i read low;
    inside = let few = h.few_tables in omega (arith, few);
  }
    where
      read : bytes_from e.flash first_table (length p.tables) ≡ p.tables
      read =
          ap (λ f. bytes_from f first_table (length p.tables)) flash
          ∙ ap (λ n. bytes_from (flash_of parts) n (length p.tables)) (let z : first_table ≡ first_table + 0 = omega arith in z)
          ∙ tables_stand parts slots ranged words [] p.tables [] (h.tables ∙ sym (append-nil p.tables))

  pub program_stands : Stands e x p
  program_stands =
      record {
        layouts = h.layouts;
        procedures = λ m procedure there.
            procedure_stands e x p (code_start parts.tables) parts.code m procedure all (h.sound m procedure there) (h.procedures m procedure there);
        idle = record {
          stands = piece_stands e.flash (code_start parts.tables) parts.code x.idle idle_piece all h.idle;
          room = h.idle_room;
          woken = h.woken;
          sleeps = sleeps;
          wakes = wakes;
        };
        handlers = λ vector m e1. handled vector m (h.handlers vector m e1);
        passes = λ vector v none. empty vector v (h.passes vector v none);
        codes = h.codes;
        tables = holds;
      }
