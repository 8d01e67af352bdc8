-- The run of a linked image begins with its start procedure.
use Rattle.std.specs.Prelude.{ℕ, ◌+◌, ◌<◌, ◌≤◌, true, [], length, drop}
use Rattle.std.proofs.Common.{◌≡◌, sym, ap, ap₂, ◌∙◌, subst, arith}
use Rattle.std.proofs.lemmas.List.{take-append-drop, length-take-le, length-map}
use Rattle.std.proofs.lemmas.Option.{slice_get_within}
use Rattle.avr_instr.specs.declared.instr.Instr.TheVariants.{Jmp}
use Rattle.avr_isa.specs.Standing.{widths, StandsAt, AllStandAt}
use Rattle.avr_view.specs.Run.{Run}
use Rattle.vg_lin.specs.Program.{Program}
use Rattle.vg_templates.specs.Startup.{bytes_from}
use Rattle.vg_followed.specs.Reset.{reset_code}
use Rattle.vg_templates.specs.Whole.{Links}
use Rattle.vg_followed.specs.Stands.{Stands}
use Rattle.vg_image.specs.Image.{first_table, code_start, flash_of}
use Rattle.vg_image.proofs.Parts.{jumps, tables_stand, code_stands}
use Rattle.vg_laid.proofs.Standing.{piece_stands}
use Rattle.vg_laid.proofs.Placing.{program_stands}
use Rattle.vg_followed.specs.Runs.{Begins}
use Rattle.vg_tables.specs.Bytes.{byte_of}
use Rattle.vg_laid.specs.Laid.{codes_by}
use Rattle.vg_link.specs.declared.linked.Linked.{Linked}
use Rattle.vg_link.specs.declared.unlinked.Unlinked.{Unlinked}
use Rattle.vg_link.specs.Linking.{bytes_by, program_of, CanBeLinked, IsLinked}

module _ (u : Unlinked) (linked : Linked) (can : CanBeLinked u) (h : IsLinked u linked) (e : Run) (same : e.flash ≡ linked.flash)
    (static : e.static ≡ u.static_bytes) (floor : e.floor ≤ 0x1100) (sleeps : e.lets_in (linked.idle + 1) ≡ true)
    (wakes : e.lets_in (linked.idle + 2) ≡ true) where
  abbrev p : Program
  p = program_of u linked.codes

  abbrev start : ℕ
  start = code_start h.parts.tables

  flash : e.flash ≡ flash_of h.parts
  flash = same ∙ h.flash

  pub stands : Stands e h.links p
  stands =
      program_stands e h.links p h.parts flash h.slots h.ranged h.words h.program
      (subst (λ z. e.lets_in (z + 1) ≡ true) (sym h.idle) sleeps) (subst (λ z. e.lets_in (z + 2) ≡ true) (sym h.idle) wakes)

  code : AllStandAt e.flash start h.parts.code
  code = subst (λ f. AllStandAt f start h.parts.code) (sym flash) (code_stands h.parts h.slots h.ranged h.words)

  some : 70 ≤ start
  some = omega arith

  within : u.static_bytes ≤ length (bytes_by linked.codes u.tables)
  within = subst (λ z. u.static_bytes ≤ z) (sym (length-map u.tables (byte_of (codes_by linked.codes)))) can.within

  columns : bytes_from e.flash first_table e.static ≡ p.ram
  columns =
      ap₂ (λ f n. bytes_from f first_table n) flash (static ∙ sym (length-take-le u.static_bytes (bytes_by linked.codes u.tables) within))
      ∙ ap (λ n. bytes_from (flash_of h.parts) n (length p.ram)) (let z : first_table ≡ first_table + 0 = omega arith in z)
      ∙ tables_stand h.parts h.slots h.ranged h.words [] p.ram (drop u.static_bytes (bytes_by linked.codes u.tables))
      (h.program.tables ∙ sym (take-append-drop u.static_bytes (bytes_by linked.codes u.tables)))

  pub begins : Begins e h.links p
  begins =
      record {
        first = can.start.0;
        there = can.start.1;
        no_params = can.start.2;
        start = start;
        from = first_table;
        jump = subst (λ f. StandsAt f 0 (Jmp start)) (sym flash) (jumps h.parts h.slots h.ranged h.words);
        away = λ z. (let s = some in omega (arith, s, z));
        code = subst (λ n. AllStandAt e.flash start (reset_code n first_table)) (sym static)
            (piece_stands e.flash start h.parts.code start (reset_code u.static_bytes first_table) code h.reset);
        entry = h.entry ∙ ap (λ n. start + widths (reset_code n first_table)) (sym static);
        room = subst (λ n. start + widths (reset_code n first_table) < 65536) (sym static) small;
        room_at = let few = can.few_static in omega (arith, few, static);
        floor = floor;
        columns = columns;
      }
    where
      small : start + widths (reset_code u.static_bytes first_table) < 65536
      small =
          let two = h.codes.two_bytes u.start (slice_get_within u.procedures u.start can.start.0 can.start.1) in
          let a = h.entries u.start in let b = h.entry in omega (arith, two, a, b)

  pub image_begins : (x : Links) × Stands e x p × Begins e x p
  image_begins = (h.links, stands, begins)
