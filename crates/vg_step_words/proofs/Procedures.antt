-- How many words whole procedures take.
use Rattle.std.specs.Prelude.{ℕ, zero, suc, ◌+◌, ◌-◌, ◌*◌, ◌≤◌, Bool, true, false, not, ◌==◌, ◌&&◌, if◌then◌else◌, List, [], ◌∷◌, length, map}
use Rattle.std.proofs.Common.{◌≡◌, refl, sym, ap, ◌∙◌, subst, arith}
use Rattle.vg_firm.specs.Program.{Procedure as FirmProcedure}
use Rattle.vg_lin.specs.Program.{Procedure}
use Rattle.vg_flatten_shapes.specs.declared.layout.Layout.{Layout}
use Rattle.vg_flatten_shapes.specs.declared.open.Open.{Open}
use Rattle.vg_flatten_shapes.specs.declared.open.Open.TheVariants.{Set, Break, Continue}
use Rattle.vg_flatten_shapes.specs.declared.room.Room.{Room}
use Rattle.vg_flatten_shapes.specs.Shapes.{empty}
use Rattle.vg_flatten_shapes.specs.Blocks.{open_code, set_in}
use Rattle.vg_flatten_shapes.specs.Made.{Gives}
use Rattle.vg_flatten_control.specs.Flat.{flat}
use Rattle.vg_flatten.specs.Flattened.{IsFlat, zeroes, own_params, receivers, whole}
use Rattle.vg_expand.specs.Code.{expanded}
use Rattle.vg_step_words.specs.Words.{list_words, grown_list, open_words, block_words, waiting_words}
use Rattle.vg_step_words.specs.Code.{is_on_object, code_words}
use Rattle.vg_step_words.specs.Procedures.{procedure_words}
use Rattle.vg_step_words.proofs.Expanding.{expansion_few}
use Rattle.vg_step_words.proofs.Blocks.{block_covers}
use Rattle.vg_step_words.proofs.Made.{Within}
use Rattle.vg_step_words.proofs.Whole.{within_flat}

-- a receiver is there or not
received : (b : Bool) → not (receivers b == 0) ≡ b
received true = refl
received false = refl

narrow_result : (b : Bool) (w : ℕ) → w ≤ 4 → (if b then 4 else w) ≤ 4
narrow_result true w h = omega arith
narrow_result false w h = h

module _ (cases : ℕ → ℕ) where
  set_words : (behind again : ℕ) (os : List Open) → grown_list cases (map (set_in behind again) os) ≡ open_words cases os
  set_words behind again [] = refl
  set_words behind again (Set i ∷ os) = let rest = set_words behind again os in omega (arith, rest)
  set_words behind again (Break ∷ os) = let rest = set_words behind again os in omega (arith, rest)
  set_words behind again (Continue ∷ os) = let rest = set_words behind again os in omega (arith, rest)

  zeroes_few : (count i : ℕ) → block_words cases (zeroes count i) ≤ 7 * count
  zeroes_few zero i = omega arith
  zeroes_few (suc count) i = let rest = zeroes_few count (suc i) in omega (arith, rest)

  module _ (lay : Layout) (m : FirmProcedure) (p : Procedure) (f : IsFlat lay m p) where
    on_object : is_on_object f.room ≡ (m.on_objects && m.receives)
    on_object =
        ap (λ (b : Bool). b && not (f.room.receiver == 0)) f.on_objects
        ∙ (ap (λ (n : ℕ). m.on_objects && not (n == 0)) f.receiver ∙ ap (λ (b : Bool). m.on_objects && b) (received m.receives))

    body_few : m.result ≤ 4 → flat lay f.room m.body empty ≡ Gives f.block f.shape
        → block_words cases f.block + waiting_words f.shape.truth ≤ code_words lay cases (m.on_objects && m.receives) m.body
    body_few narrow e =
        let few : r.result ≤ 4 = subst (λ (n : ℕ). n ≤ 4) (sym f.given) (narrow_result m.receives m.result narrow) in
        let made = subst (Within cases (0 + code_words lay cases (is_on_object r) m.body)) e (within_flat cases lay r few m.body empty) in
        subst (λ (b : Bool). block_words cases f.block + waiting_words f.shape.truth ≤ code_words lay cases b m.body) on_object (omega (arith, made))
      where
        r : Room
        r = f.room

    pub procedure_few : m.result ≤ 4 → flat lay f.room m.body empty ≡ Gives f.block f.shape → grown_list cases p.code ≤ procedure_words lay cases m
    procedure_few narrow e =
        let code : grown_list cases p.code ≡ open_words cases (open_code (whole m f.block) 0) =
        ap (grown_list cases) f.code ∙ set_words 0 0 (open_code (whole m f.block) 0) in
        let all = block_covers cases (whole m f.block) 0 in
        let none = zeroes_few (length m.widths - m.params) (own_params m) in
        let body = body_few narrow e in
        let result = narrow_result m.receives m.result narrow in
        omega (arith, code, all, none, body, result)

pub procedures_few : (cases : ℕ → ℕ) (first : ℕ) (lay : Layout) (m : FirmProcedure) (p : Procedure) (f : IsFlat lay m p) → m.result ≤ 4
    → flat lay f.room m.body empty ≡ Gives f.block f.shape → list_words cases (expanded first p).code ≤ procedure_words lay cases m
procedures_few cases first lay m p f narrow e =
    let code = procedure_few cases lay m p f narrow e in
    let all = expansion_few cases first p in omega (arith, code, all)
