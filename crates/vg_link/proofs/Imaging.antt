-- What linking makes is linked.
use Rattle.std.specs.Prelude.{ℕ, ◌+◌, ◌*◌, ◌/◌, ◌<◌, ◌≤◌, List, [], ◌++◌, length, Option, Some, slice_get}
use Rattle.std.specs.List.{AllByRecursion}
use Rattle.std.proofs.Common.{◌≡◌, refl, sym, ap, ap₂, ◌∙◌, subst, arith, inl, inr}
use Rattle.std.proofs.lemmas.List.{append_assoc, length-map}
use Rattle.std.proofs.lemmas.Option.{slice_get_within}
use Rattle.avr_instr.specs.declared.instr.Instr.{Instr as Avr}
use Rattle.avr_instr.specs.Spelled.{InRange}
use Rattle.avr_isa.specs.Standing.{widths}
use Rattle.avr_isa.proofs.Standing.{widths-append}
use Rattle.avr_view.proofs.Going.{below_or_not}
use Rattle.vg_codes.specs.declared.case.Case.{Case}
use Rattle.vg_codes.specs.Codes.{AreCodes}
use Rattle.vg_lin.specs.Program.{Procedure, Program}
use Rattle.vg_templates.specs.Idle.{idle_piece, stub}
use Rattle.vg_followed.specs.Reset.{reset_code}
use Rattle.vg_templates.specs.Whole.{Links}
use Rattle.vg_image.specs.Image.{Parts, parts, first_table, code_start, flash_of, words_of}
use Rattle.vg_image.proofs.Parts.{bytes_count}
use Rattle.vg_put_operations.specs.Coded.{code_from}
use Rattle.vg_select.specs.Selected.{with_codes}
use Rattle.vg_put_programs.specs.declared.placed.Placed.{Placed}
use Rattle.vg_put_programs.specs.Programs.{Emission, emission, turn_of, codes_upto, pieces_upto, placed_upto, AreWithin}
use Rattle.vg_followed.specs.Stands.{ReceivesNothing}
use Rattle.vg_laid.specs.Linked.{HasPiece, ProcedureLinked}
use Rattle.vg_laid.specs.Images.{HandlerLinked, ProgramLinked}
use Rattle.vg_tables.specs.declared.datum.Datum.{Datum}
use Rattle.vg_tables.specs.Bytes.{byte_of}
use Rattle.vg_laid.specs.Laid.{known, index_in, stub_at, stubs_code, found_from, codes_by, links_of}
use Rattle.vg_laid.proofs.Laying.{pieces_size, entry_is}
use Rattle.vg_laid.proofs.Turns.{none_past}
use Rattle.vg_laid.proofs.Within.{all_within}
use Rattle.vg_laid.proofs.Leading.{procedure_linked, fits}
use Rattle.vg_laid.proofs.Stubs.{stub_there, stubs_long, found_has, layouts_stand, are_codes, codes_counted}
use Rattle.vg_link.specs.declared.linked.Linked.{Linked}
use Rattle.vg_link.specs.declared.unlinked.Handler.{Handler}
use Rattle.vg_link.specs.declared.unlinked.Unlinked.{Unlinked}
use Rattle.vg_link.specs.Linking.{handler_in, stubs_of, slot_of, slots_upto, bytes_by, program_of, CanBeLinked, IsLinked, first_of, laid_by, end_by, idle_of, words_laid}
use Rattle.vg_link.proofs.Before.{kept_found}
use Rattle.vg_link.proofs.Handlers.{handler_there, slot_is, slot_low}

start_same : (codes : List ℕ) (ds : List Datum) → code_start (bytes_by [] ds) ≡ code_start (bytes_by codes ds)
start_same codes ds = ap (λ n. 70 + (n + 1) / 2) (length-map ds (byte_of (codes_by [])) ∙ sym (length-map ds (byte_of (codes_by codes))))

pub first_is : (u : Unlinked) (n first : ℕ) (reset : List Avr) → n ≡ 70 + (length u.tables + 1) / 2 → reset ≡ reset_code u.static_bytes first_table
    → first ≡ n + widths reset → first ≡ first_of u
first_is u n first reset en er ef =
    ef ∙ ap₂ (λ a b. a + widths b) (en ∙ ap (λ k. 70 + (k + 1) / 2) (sym (length-map u.tables (byte_of (codes_by []))))) er

pub words_are : (u : Unlinked) (end count words : ℕ) (stubs : List ℕ) → end ≡ idle_of u → count ≡ length stubs → stubs ≡ stubs_of u.handlers
    → words ≡ end + 4 + 3 * count → words ≡ words_laid u
words_are u end count words stubs ee ec es ew = ew ∙ ap₂ (λ a b. a + 4 + 3 * b) ee (ec ∙ ap length es)

-- What is known of it before anything is put, of lists that are those of the program.
module _ (u : Unlinked) (ps : List Procedure) (ds : List (List Case)) (ep : ps ≡ u.procedures) (ed : ds ≡ u.dispatches) where
  pub laid_placed : (guess : List Placed) (entries : List ℕ) (first : ℕ) (placed : List Placed) → first ≡ first_of u
      → placed ≡ placed_upto (emission ps u.start ds guess entries [] [] 0) first (length ps) → placed ≡ laid_by u guess entries
  laid_placed guess entries first placed ef h =
      h ∙ ap₂ (λ a b. placed_upto (emission a u.start b guess entries [] [] 0) first (length a)) ep ed
      ∙ ap (λ z. placed_upto (emission u.procedures u.start u.dispatches guess entries [] [] 0) z (length u.procedures)) ef

  pub laid_end : (guess : List Placed) (entries : List ℕ) (first end : ℕ) → first ≡ first_of u
      → end ≡ first + widths (pieces_upto (emission ps u.start ds guess entries [] [] 0) (length ps)) → end ≡ end_by u guess entries
  laid_end guess entries first end ef h =
      h ∙ ap₂ (λ a b. first + widths (pieces_upto (emission a u.start b guess entries [] [] 0) (length a))) ep ed
      ∙ ap (λ z. z + widths (pieces_upto (emission u.procedures u.start u.dispatches guess entries [] [] 0) (length u.procedures))) ef

  -- the code of reset, of all procedures, of the piece in which the program waits, and of the stubs
  pub whole_is : (far : List Placed) (entries : List ℕ) (placed : List Placed) (codes : List ℕ) (idle : ℕ) (stubs : List ℕ) (reset one two three : List Avr)
      → one ≡ reset ++ pieces_upto (emission ps u.start ds far entries placed codes idle) (length ps) → two ≡ one ++ idle_piece → three ≡ two ++ stubs_code codes stubs
      → three ≡ ((reset ++ pieces_upto (emission u.procedures u.start u.dispatches far entries placed codes idle) (length u.procedures)) ++ idle_piece)
      ++ stubs_code codes stubs
  whole_is far entries placed codes idle stubs reset one two three e1 e2 e3 =
      e3 ∙ ap (λ z. z ++ stubs_code codes stubs) (e2 ∙ ap (λ z. z ++ idle_piece) (e1
      ∙ ap₂ (λ a b. reset ++ pieces_upto (emission a u.start b far entries placed codes idle) (length a)) ep ed))

-- The stubs stand within two bytes of word addresses, where all words do.
pub stubs_low : (u : Unlinked) → words_laid u < 65536 → (end : ℕ) (stubs : List ℕ) → end ≡ idle_of u → stubs ≡ stubs_of u.handlers
    → end + 4 + 3 * length stubs < 65536
stubs_low u room end stubs ee es =
    subst (λ z. z < 65536) (sym (words_are u end (length stubs) (end + 4 + 3 * length stubs) stubs ee refl es refl)) room

pub few_bytes : (u : Unlinked) → CanBeLinked u → (codes bytes : List ℕ) → bytes ≡ bytes_by codes u.tables → length bytes ≤ 60000
few_bytes u can codes bytes e =
    subst (λ z. length z ≤ 60000) (sym e) (subst (λ k. k ≤ 60000) (sym (length-map u.tables (byte_of (codes_by codes)))) can.few_tables)

pub start_low : (u : Unlinked) → CanBeLinked u → u.start < length u.procedures
start_low u can = slice_get_within u.procedures u.start can.start.0 can.start.1

pub are_within : (u : Unlinked) → CanBeLinked u → AreWithin u.procedures
are_within u can = all_within u.procedures u.dispatches can.sound

module _ (u : Unlinked) (can : CanBeLinked u) (room : words_laid u < 65536) where
  abbrev n : ℕ
  n = length u.procedures

  abbrev first : ℕ
  first = first_of u

  abbrev e : Emission
  e = known u.procedures u.start u.dispatches first

  abbrev codes : List ℕ
  codes = e.codes

  abbrev stubs : List ℕ
  stubs = stubs_of u.handlers

  abbrev p : Program
  p = program_of u codes

  abbrev x : Links
  x = links_of e p stubs

  abbrev reset : List Avr
  reset = reset_code u.static_bytes first_table

  abbrev pieces : List Avr
  pieces = pieces_upto e n

  abbrev code : List Avr
  code = ((reset ++ pieces) ++ idle_piece) ++ stubs_code codes stubs

  abbrev all : Parts
  all = parts (slots_upto u.handlers stubs (e.idle + 4) 35) (bytes_by codes u.tables) code

  abbrev start : ℕ
  start = code_start (bytes_by codes u.tables)

  -- ---- where the parts stand

  low : u.start < n
  low = slice_get_within u.procedures u.start can.start.0 can.start.1

  begins : first ≡ start + widths reset
  begins = ap (λ z. z + widths reset) (start_same codes u.tables)

  idle_is : e.idle ≡ first + widths pieces
  idle_is = ap (λ z. first + z) (pieces_size u.procedures u.start u.dispatches first n)

  idle_room : e.idle + 4 < 65536
  idle_room = let r = room in omega (arith, r)

  stubs_room : e.idle + 4 + 3 * length stubs < 65536
  stubs_room = let r = room in omega (arith, r)

  pieces_room : first + widths pieces < 65536
  pieces_room = let i = idle_is in let r = idle_room in omega (arith, i, r)

  words : words_of all ≡ words_laid u
  words =
      let a = widths-append ((reset ++ pieces) ++ idle_piece) (stubs_code codes stubs) in let b = widths-append (reset ++ pieces) idle_piece in
      let c = widths-append reset pieces in let d = stubs_long codes stubs in let b' = begins in let i = idle_is in omega (arith, a, b, c, d, b', i)

  cut : code ≡ reset ++ (pieces ++ (idle_piece ++ stubs_code codes stubs))
  cut = append_assoc (reset ++ pieces) idle_piece (stubs_code codes stubs) ∙ append_assoc reset pieces (idle_piece ++ stubs_code codes stubs)

  has_reset : HasPiece start code start reset
  has_reset =
      record { front = []; rest = pieces ++ (idle_piece ++ stubs_code codes stubs); cut = cut; place = omega arith }

  has_idle : HasPiece start code e.idle idle_piece
  has_idle =
      record {
        front = reset ++ pieces;
        rest = stubs_code codes stubs;
        cut = append_assoc (reset ++ pieces) idle_piece (stubs_code codes stubs);
        place = let w = widths-append reset pieces in let b = begins in let i = idle_is in omega (arith, w, b, i);
      }

  has_stub : (m : ℕ) → index_in stubs m < length stubs → HasPiece start code (stub_at stubs (e.idle + 4) m) (stub (code_from codes m))
  has_stub m h =
      let t = stub_there codes stubs m h in
      record {
        front = ((reset ++ pieces) ++ idle_piece) ++ t.front;
        rest = t.rest;
        cut = ap (λ z. ((reset ++ pieces) ++ idle_piece) ++ z) t.cut
            ∙ sym (append_assoc ((reset ++ pieces) ++ idle_piece) t.front (stub (code_from codes m) ++ t.rest));
        place = let a = widths-append ((reset ++ pieces) ++ idle_piece) t.front in let b = widths-append (reset ++ pieces) idle_piece in
            let c = widths-append reset pieces in let d = t.long in let b' = begins in let i = idle_is in omega (arith, a, b, c, d, b', i);
      }

  -- ---- code numbers

  codes_are : AreCodes n (codes_by codes)
  codes_are =
      are_codes u.procedures u.start u.dispatches first low pieces_room p refl refl can.sound.sound (let s = code_start_some in omega (arith, s))
    where
      code_start_some : 70 ≤ code_start (bytes_by [] u.tables)
      code_start_some = omega arith

  codes_long : length codes ≡ n
  codes_long = codes_counted u.procedures u.start u.dispatches first

  two_bytes : (q : ℕ) → code_from codes q < 65536
  two_bytes q = elim (below_or_not q n) [
    | inl less ↦ codes_are.two_bytes q less
    | inr past ↦ (let z = none_past codes q (subst (λ k. k ≤ q) (sym codes_long) past) in omega (arith, z))
  ]

  entry : code_from codes u.start ≡ first
  entry =
      entry_is u.procedures u.start u.dispatches first low pieces_room u.start low
      ∙ ap (λ k. first + widths (pieces_upto e k)) turn_zero ∙ (let z : first + 0 ≡ first = omega arith in z)
    where
      turn_zero : turn_of u.start n u.start ≡ 0
      turn_zero = grind arith

  -- ---- the program

  procedures : (m : ℕ) (procedure : Procedure) → slice_get u.procedures m ≡ Some procedure → ProcedureLinked x p start code m procedure
  procedures m procedure is =
      procedure_linked u.procedures u.start u.dispatches first stubs low pieces_room p refl refl m procedure is
      (slice_get_within u.procedures m procedure is) (can.sound.sound m procedure is)
      (λ pc i q. fits p (with_codes (code_from codes) u.dispatches) refl refl i (can.sound.fit m procedure is pc i q (code_from codes) two_bytes))
      start code reset (idle_piece ++ stubs_code codes stubs) cut begins

  handled : (vector m : ℕ) → handler_in u.handlers vector ≡ Some m → HandlerLinked x p all vector m
  handled vector m h =
      let c = can.handlers vector m h in let there = handler_there u.handlers vector m h in
      record {
        is_vector = c.0;
        procedure = c.1.0;
        there = c.1.1;
        receives_nothing = subst ReceivesNothing (sym (procedures m c.1.0 c.1.1).layout) c.1.2;
        at = stub_at stubs (e.idle + 4) m;
        slot = slot_is u.handlers stubs (e.idle + 4) vector (let v = c.0.1 in omega (arith, v)) ∙ ap (slot_of stubs (e.idle + 4)) h;
        stands = has_stub m there;
        room = let r = stubs_room in omega (arith, r, there);
        ends = refl;
      }

  linked_program : ProgramLinked x p all
  linked_program =
      record {
        layouts = layouts_stand e p u.dispatches can.sound;
        sound = can.sound.sound;
        procedures = procedures;
        idle = has_idle;
        idle_room = idle_room;
        woken = refl;
        handlers = handled;
        passes = λ vector v none. slot_is u.handlers stubs (e.idle + 4) vector (let h = v.1 in omega (arith, h)) ∙ ap (slot_of stubs (e.idle + 4)) none;
        codes = λ c m h. (let f = found_has 0 codes c m (kept_found u.start (found_from 0 codes c) m h) in
            let z : m ≡ f.0 = omega (arith, f.1) in ap (code_from codes) z ∙ f.2);
        tables = refl;
        few_tables = subst (λ k. k ≤ 60000) (sym (length-map u.tables (byte_of (codes_by codes)))) can.few_tables;
      }

  linked_image : AllByRecursion InRange code → IsLinked u (record { flash = flash_of all; codes = codes; idle = e.idle })
  linked_image ranged =
      record {
        links = x;
        parts = all;
        program = linked_program;
        flash = refl;
        slots = slot_low u.handlers stubs (e.idle + 4) stubs_room;
        ranged = ranged;
        words = let w = words in omega (arith, w, room);
        idle = refl;
        codes = codes_are;
        entries = λ m. refl;
        reset = has_reset;
        entry = entry ∙ begins;
      }

  image_size : AllByRecursion InRange code → length (flash_of all) ≡ 2 * words_laid u
  image_size ranged =
      bytes_count all (slot_low u.handlers stubs (e.idle + 4) stubs_room) ranged (let w = words in omega (arith, w, room)) ∙ ap (λ k. 2 * k) words

  -- The same of what linking makes, one list after the other.
  module _ (far : List Placed) (entries : List ℕ) (placed : List Placed) (codes' known : List ℕ) (count idle : ℕ) (stubs' : List ℕ)
      (reset' : List Avr) (hs : List Handler) (ds : List Datum) (slots slots' : List (Option ℕ)) (tables tables' : List ℕ) (code' code'' : List Avr) (bytes flash : List ℕ)
      (eg : far ≡ e.guess) (ee : entries ≡ e.entries) (ep : placed ≡ e.known) (en : count ≡ n) (ec : codes' ≡ codes_upto placed u.start count count)
      (ek : known ≡ codes') (ei : idle ≡ e.idle) (es : stubs' ≡ stubs) (er : reset' ≡ reset) (eh : hs ≡ u.handlers) (ed : ds ≡ u.tables)
      (ew : code' ≡ ((reset' ++ pieces_upto (emission u.procedures u.start u.dispatches far entries placed known idle) n) ++ idle_piece) ++ stubs_code known stubs')
      (el : slots ≡ slots_upto hs stubs' (idle + 4) 35) (et : tables ≡ bytes_by known ds) (ew' : code'' ≡ code') (el' : slots' ≡ slots)
      (et' : tables' ≡ tables) (ef : bytes ≡ flash_of (parts slots' tables' code'')) (ef' : flash ≡ bytes) where
    codes_same : codes' ≡ codes
    codes_same = ec ∙ ap₂ (λ z k. codes_upto z u.start k k) ep en

    known_same : known ≡ codes
    known_same = ek ∙ codes_same

    emission_same : emission u.procedures u.start u.dispatches far entries placed known idle ≡ e
    emission_same =
        ap₂ (λ a b. emission u.procedures u.start u.dispatches a b placed known idle) eg ee
        ∙ ap (λ a. emission u.procedures u.start u.dispatches e.guess e.entries a known idle) ep
        ∙ ap₂ (λ a b. emission u.procedures u.start u.dispatches e.guess e.entries e.known a b) known_same ei

    code_same : code'' ≡ code
    code_same =
        ew' ∙ ew ∙ ap₂ (λ a b. ((a ++ pieces_upto b n) ++ idle_piece) ++ stubs_code known stubs') er emission_same
        ∙ ap₂ (λ a b. ((reset ++ pieces) ++ idle_piece) ++ stubs_code a b) known_same es

    slots_same : slots' ≡ slots_upto u.handlers stubs (e.idle + 4) 35
    slots_same =
        el' ∙ el ∙ ap₂ (λ a b. slots_upto a b (idle + 4) 35) eh es ∙ ap (λ b. slots_upto u.handlers stubs (b + 4) 35) ei

    tables_same : tables' ≡ bytes_by codes u.tables
    tables_same = et' ∙ et ∙ ap₂ bytes_by known_same ed

    flash_same : flash ≡ flash_of all
    flash_same =
        ef' ∙ ef ∙ ap₂ (λ a b. flash_of (parts a b code'')) slots_same tables_same
        ∙ ap (λ a. flash_of (parts (slots_upto u.handlers stubs (e.idle + 4) 35) (bytes_by codes u.tables) a)) code_same

    pub image_linked : AllByRecursion InRange code'' → IsLinked u (record { flash = flash; codes = codes'; idle = idle })
    image_linked ranged =
        subst (IsLinked u)
        (sym (ap₂ (λ a b. made a b idle) flash_same codes_same ∙ ap (λ a. made (flash_of all) codes a) ei))
        (linked_image (subst (AllByRecursion InRange) code_same ranged))
      where
        made : List ℕ → List ℕ → ℕ → Linked
        made a b c = record { flash = a; codes = b; idle = c }

    pub flash_size : AllByRecursion InRange code'' → length flash ≡ 2 * words_laid u
    flash_size ranged = ap length flash_same ∙ image_size (subst (AllByRecursion InRange) code_same ranged)
