-- That what the code makes of a procedure, where the oldest waiting values are pushed, is the flattened procedure.
use Rattle.std.specs.Prelude.{◌≡◌, ℕ, ◌+◌, ◌-◌, ◌≤◌, true, false, List, ◌++◌, length, map, replicate, Some}
use Rattle.std.specs.List.{AllByRecursion}
use Rattle.std.proofs.Common.{inr, refl, sym, ap, ◌∙◌, subst, arith}
use Rattle.vg_firm.specs.Program.{Procedure as FirmProcedure}
use Rattle.vg_lin.specs.declared.instr.Instr.{Instr}
use Rattle.vg_lin.specs.Program.{Procedure}
use Rattle.vg_lin.specs.Sound.{IsWidth, IsSound}
use Rattle.vg_flatten_shapes.specs.declared.open.Open.{Open}
use Rattle.vg_flatten_shapes.specs.declared.layout.Layout.{Layout}
use Rattle.vg_flatten_shapes.specs.declared.room.Room.{Room}
use Rattle.vg_flatten_shapes.specs.Shapes.{Shape, empty, is_empty}
use Rattle.vg_flatten_shapes.specs.Blocks.{Block, open_code}
use Rattle.vg_flatten_shapes.specs.Made.{Made, Gives, Refused}
use Rattle.vg_flatten_pushed.specs.Pushed.{older}
use Rattle.vg_flatten_pushed.specs.Stacked.{stacked}
use Rattle.vg_flatten.specs.Closing.{AllSet}
use Rattle.vg_flatten_shapes.specs.Blocks.{set_in}
use Rattle.vg_flatten.specs.Flattened.{receivers, own_widths, own_params, all_widths, result_width, whole, temps_for, IsFlat}
use Rattle.vg_flatten.specs.Searching.{HomesNeverDo, NeedsAsManyPushed}
use Rattle.vg_flatten.specs.Sealing.{IsWhole}
use Rattle.vg_flatten.proofs.PushedBlocks.{BlockOn, MadeOn}
use Rattle.vg_flatten.proofs.PushedShapes.{empty_older}
use Rattle.vg_flatten.proofs.StackedBlocks.{body_on}
use Rattle.vg_flatten.proofs.Whole.{own_long}
use Rattle.vg_flatten.proofs.PushedWhole.{whole_sound, on_zeroes}
use Rattle.vg_flatten.proofs.PushedOnward.{leads_onward}
use Rattle.vg_flatten.specs.Loops.{has_loop}
use Rattle.vg_lin.specs.Onward.{all_lead_on}

module _ (lay : Layout) (m : FirmProcedure) (r : Room) (most : ℕ) (receiver : r.receiver ≡ receivers m.receives) (on : r.on_objects ≡ m.on_objects)
    (locals : r.locals ≡ length (own_widths m)) (given : r.result ≡ result_width m) (few : r.locals + r.temps ≤ 252) (hp : m.params ≤ length m.widths)
    (hw : AllByRecursion IsWidth m.widths) (hr : m.result ≤ 4) (open' : List Open) (code : List Instr) (widths : List ℕ)
    (is : IsWhole open' (stacked lay r most m.body empty) m) (sealed : code ≡ map (set_in 0 0) open') (set : AllSet open')
    (ws : widths ≡ all_widths m ++ replicate r.temps 4) where
  abbrev pub procedure : Procedure
  procedure = record { method = Some m.method; params = own_params m; result = result_width m; widths = widths; code = code }

  block_on : (L : Type 0) (b : Block) (s : Shape) → (has_loop m.body ≡ true → L) → is_empty s ≡ true → stacked lay r most m.body empty ≡ Gives b s
      → BlockOn L (result_width m) (length (own_widths m) + r.temps) 0 0 b
  block_on L b s l e h =
      subst (λ n. BlockOn L (result_width m) (length (own_widths m) + r.temps) 0 n b) (empty_older most s e)
      (subst (λ w. BlockOn L w (length (own_widths m) + r.temps) 0 (length (older most s)) b) given
      (subst (λ z. BlockOn L r.result (z + r.temps) 0 (length (older most s)) b) locals
      (subst (λ z. MadeOn L r.result (r.locals + r.temps) most 0 z) h (body_on L lay r most m.body l)).0))

  code_is : (b : Block) → open' ≡ open_code (whole m b) 0 → code ≡ map (set_in 0 0) (open_code (whole m b) 0)
  code_is b e = sealed ∙ ap (map (set_in 0 0)) e

  sound_by : (x : Made) → stacked lay r most m.body empty ≡ x → IsWhole open' x m → IsSound procedure
  sound_by (Refused why) e h = absurd h
  sound_by (Gives b s) e h =
      subst (λ z. IsSound (record { method = Some m.method; params = own_params m; result = result_width m; widths = z; code = code })) (sym ws)
      (whole_sound m b r.temps (Some m.method) code hp hw hr (omega (arith, few, locals)) (block_on (Unit {0}) b s (λ l. tt) h.0 e)
      (subst AllSet h.1 set) (code_is b h.1))

  pub pushed_sound : IsSound procedure
  pushed_sound = sound_by (stacked lay r most m.body empty) refl is

  flat_by : 1 ≤ most → r.temps ≡ temps_for (length (own_widths m)) → HomesNeverDo lay m → NeedsAsManyPushed lay m most → (x : Made)
      → stacked lay r most m.body empty ≡ x → IsWhole open' x m → IsFlat lay m procedure
  flat_by one all never needs (Refused why) e h = absurd h
  flat_by one all never needs (Gives b s) e h =
      record {
        room = r;
        block = b;
        shape = s;
        made = inr (record { pushes = most; one = one; made = e; all = all; least = needs });
        done = h.0;
        receiver = receiver;
        on_objects = on;
        locals = locals;
        given = given;
        fits = omega (arith, few, locals);
        method = refl;
        parameters = refl;
        result = refl;
        widths = ws;
        code = code_is b h.1;
        fewest = λ most from. absurd (never most from);
      }

  pub pushed_flat : 1 ≤ most → r.temps ≡ temps_for (length (own_widths m)) → HomesNeverDo lay m → NeedsAsManyPushed lay m most → IsFlat lay m procedure
  pushed_flat one all never needs = flat_by one all never needs (stacked lay r most m.body empty) refl is

  onward_by : (x : Made) → stacked lay r most m.body empty ≡ x → IsWhole open' x m → has_loop m.body ≡ false → all_lead_on 0 code ≡ true
  onward_by (Refused why) e h none = absurd h
  onward_by (Gives b s) e h none =
      let own = own_long m.receives m.widths in
      ap (all_lead_on 0) (code_is b h.1)
      ∙ leads_onward (result_width m) (length (own_widths m) + r.temps) 0 0 (whole m b) (
        0,
        on_zeroes ⊥ (result_width m) (length (own_widths m) + r.temps) (length m.widths - m.params) (own_params m) (omega (arith, hp, own)),
        (0, block_on ⊥ b s (λ l. not_both (sym none ∙ l)) h.0 e, (refl, refl, refl, tt)),
      ) (subst AllSet h.1 set)
    where
      not_both : false ≡ true → ⊥
      not_both l = grind arith

  -- no jump leads back where the body has no loop
  pub pushed_onward : has_loop m.body ≡ false → all_lead_on 0 code ≡ true
  pushed_onward none = onward_by (stacked lay r most m.body empty) refl is none
