-- That what the code makes of a procedure is the flattened procedure.
use Rattle.std.specs.Prelude.{◌≡◌, ℕ, zero, suc, ◌+◌, ◌-◌, ◌<◌, ◌≤◌, true, false, List, [], ◌∷◌, ◌++◌, length, drop, map, replicate, Some}
use Rattle.std.specs.List.{AllByRecursion}
use Rattle.std.specs.Prelude.{Result, Ok, Err}
use Rattle.std.specs.Result.{IsErrAnd}
use Rattle.std.proofs.lemmas.List.{append_assoc}
use Rattle.std.proofs.Common.{inl, refl, sym, ap, ◌∙◌, subst, arith}
use Rattle.vg_firm.specs.Program.{Procedure as FirmProcedure}
use Rattle.vg_lin.specs.declared.instr.Instr.{Instr}
use Rattle.vg_lin.specs.Program.{Procedure}
use Rattle.vg_lin.specs.Sound.{IsWidth, IsSound}
use Rattle.vg_lin.specs.declared.instr.Operand.TheVariants.{Known}
use Rattle.vg_lin.specs.declared.instr.Plain.TheVariants.{Copy}
use Rattle.vg_lin.specs.declared.instr.Instr.TheVariants.{Plain, Return}
use Rattle.vg_flatten_shapes.specs.declared.open.Open.{Open}
use Rattle.vg_flatten_shapes.specs.declared.open.Open.TheVariants.{Set}
use Rattle.vg_flatten_shapes.specs.declared.piece.Piece.{Piece}
use Rattle.vg_flatten_shapes.specs.declared.layout.Layout.{Layout}
use Rattle.vg_flatten_shapes.specs.declared.room.Room.{Room}
use Rattle.vg_flatten_shapes.specs.Shapes.{Shape, empty, is_empty}
use Rattle.vg_flatten_shapes.specs.Blocks.{Block, open_code}
use Rattle.vg_flatten_shapes.specs.Made.{Made, Gives, Refused}
use Rattle.vg_flatten_control.specs.Flat.{flat}
use Rattle.vg_flatten.specs.Closing.{AllSet}
use Rattle.vg_flatten_shapes.specs.Blocks.{set_in}
use Rattle.vg_flatten.specs.Flattened.{zeroes, zero_list, receivers, own_widths, own_params, widened, all_widths, result_width, whole, IsFlat}
use Rattle.vg_flatten_shapes.specs.Laying.{IsPiece, Fails}
use Rattle.vg_flatten_shapes.specs.Blocks.{block_size}
use Rattle.vg_flatten_shapes.proofs.Sizes.{block_long}
use Rattle.vg_base.specs.declared.refusal.Refusal.{Refusal}
use Rattle.vg_base.specs.declared.refusal.Refusal.TheVariants.{Fault as Faulty, NoMemory as Memory}
use Rattle.vg_flatten_shapes.specs.declared.fault.Fault.{Fault}
use Rattle.vg_flatten_shapes.specs.declared.fault.Fault.TheVariants.{NotTaken, TooHigh, TooLong}
use Rattle.vg_flatten.specs.Searching.{NeedsAsMany}
use Rattle.vg_flatten.specs.Refusals.{IsTooLong}
use Rattle.vg_flatten.specs.Sealing.{IsNotTaken, IsWhole, WholeFails, Wholes}
use Rattle.vg_flatten.proofs.Sound.{MadeIn, BlockIn, in_flat}
use Rattle.vg_flatten.proofs.Whole.{whole_sound, own_long, in_zeroes}
use Rattle.vg_flatten.proofs.Onward.{leads_onward}
use Rattle.vg_flatten.specs.Loops.{has_loop}
use Rattle.vg_lin.specs.Onward.{all_lead_on}

pub zero_code : (c i at : ℕ) → open_code (zeroes c i) at ≡ zero_list c i
zero_code zero i at = refl
zero_code (suc c) i at = ap (λ z. Set (Plain (Copy i (Known 0))) ∷ z) (zero_code c (suc i) (at + 1))

-- one more of the list
pub wide_on : (row ws : List ℕ) (n t x : ℕ) → t < n → row ++ replicate (n - t) x ≡ ws → (row ++ x ∷ []) ++ replicate (n - (t + 1)) x ≡ ws
wide_on row ws n t x lt h =
    append_assoc row (x ∷ []) (replicate (n - (t + 1)) x) ∙ ap (λ c. row ++ replicate c x) (one_less n t lt) ∙ h
  where
    one_less : (a b : ℕ) → b < a → suc (a - (b + 1)) ≡ a - b
    one_less a b l = omega (arith, l)

-- the widths of which some are four bytes
pub widened_is : (n : ℕ) (ws : List ℕ) → n ≤ length ws → widened n ws ≡ replicate n 4 ++ drop n ws
widened_is zero ws le = refl
widened_is (suc n) [] le = absurd (omega (arith, le))
widened_is (suc n) (w ∷ ws) le = ap (λ z. 4 ∷ z) (widened_is n ws (omega (arith, le)))

pub zero_on : (code all : List Open) (f n i : ℕ) → i < f + n → code ++ zero_list (f + n - i) i ≡ all
    → (code ++ Set (Plain (Copy i (Known 0))) ∷ []) ++ zero_list (f + n - (i + 1)) (i + 1) ≡ all
zero_on code all f n i lt h =
    append_assoc code (Set (Plain (Copy i (Known 0))) ∷ []) (zero_list (f + n - (i + 1)) (i + 1))
    ∙ ap (λ z. code ++ Set (Plain (Copy i (Known 0))) ∷ zero_list (f + n - (i + 1)) z) (onward i)
    ∙ ap (λ c. code ++ zero_list c i) (one_less (f + n) i lt) ∙ h
  where
    onward : (a : ℕ) → a + 1 ≡ suc a
    onward a = omega arith

    one_less : (a b : ℕ) → b < a → suc (a - (b + 1)) ≡ a - b
    one_less a b l = omega (arith, l)

-- the instructions of a whole procedure, of its parts
pub whole_laid : (m : FirmProcedure) (made : Made) (body : Piece) (first rest code : List Open) (at : ℕ)
    → first ≡ zero_list (length m.widths - m.params) (own_params m)
    → at ≡ 0 + length first → IsPiece body at made → is_empty body.homes ≡ true → rest ≡ body.code ++ Set (Return (result_width m) (Known 0)) ∷ [] → code ≡ first ++ rest
    → IsWhole code made m
whole_laid m (Refused why) body first rest code at hf ha hp he hr hc = absurd hp
whole_laid m (Gives b s) body first rest code at hf ha hp he hr hc = (
  ap is_empty (sym hp.1) ∙ he,
  hc ∙ ap (λ z. z ++ rest) zs ∙ ap (λ z. open_code (zeroes (length m.widths - m.params) (own_params m)) 0 ++ z) (hr
      ∙ ap (λ z. z ++ Set (Return (result_width m) (Known 0)) ∷ []) (hp.0 ∙ ap (open_code b) place)),
)
  where
    zs : first ≡ open_code (zeroes (length m.widths - m.params) (own_params m)) 0
    zs = hf ∙ sym (zero_code (length m.widths - m.params) (own_params m) 0)

    place : at ≡ 0 + length (open_code (zeroes (length m.widths - m.params) (own_params m)) 0)
    place = ha ∙ ap (λ z. 0 + length z) zs

-- what is too long in a part is too long in the whole
zeroes_long : (m : FirmProcedure) (first : List Open) → first ≡ zero_list (length m.widths - m.params) (own_params m)
    → length first ≤ block_size (zeroes (length m.widths - m.params) (own_params m))
zeroes_long m first hf =
    let is = ap length (hf ∙ sym (zero_code (length m.widths - m.params) (own_params m) 0)) in
    let l = block_long (zeroes (length m.widths - m.params) (own_params m)) 0 in
    omega (arith, is, l)

whole_late : (m : FirmProcedure) (made : Made) (first : List Open) (e : Refusal Fault) (n : ℕ) → first ≡ zero_list (length m.widths - m.params) (own_params m)
    → n ≡ length first → (e ≡ Faulty TooLong) × (65535 < 0 + n) → WholeFails e made m
whole_late m made first e n hf en h = subst (λ z. WholeFails z made m) (sym h.0) (by_made made)
  where
    by_made : (made : Made) → IsTooLong m made
    by_made (Gives b s) = let far = h.1 in let l = zeroes_long m first hf in omega (arith, far, l, en)
    by_made (Refused why) = tt

whole_fails : (m : FirmProcedure) (made : Made) (first : List Open) (at : ℕ) (e : Refusal Fault)
    → first ≡ zero_list (length m.widths - m.params) (own_params m) → at ≡ 0 + length first → Fails e at made → WholeFails e made m
whole_fails m made first at Memory hf ep h = tt
whole_fails m made first at (Faulty TooHigh) hf ep h = h
whole_fails m made first at (Faulty NotTaken) hf ep h = subst IsNotTaken (sym h) refl
whole_fails m (Refused why) first at (Faulty TooLong) hf ep h = tt
whole_fails m (Gives b s) first at (Faulty TooLong) hf ep h = let l = zeroes_long m first hf in omega (arith, h, l, ep)

whole_err : (res : Result (List Open) (Refusal Fault)) (e : Refusal Fault) (made : Made) (m : FirmProcedure) → IsErrAnd res (λ y. y ≡ e) → WholeFails e made m
    → Wholes res made m
whole_err (Ok code) e made m r h = absurd r
whole_err (Err y) e made m r h = subst (λ z. WholeFails z made m) (sym r) h

pub late_lays : (m : FirmProcedure) (made : Made) (first : List Open) (res : Result (List Open) (Refusal Fault)) (e : Refusal Fault) (n : ℕ)
    → IsErrAnd res (λ y. y ≡ e) → first ≡ zero_list (length m.widths - m.params) (own_params m) → n ≡ length first
    → (e ≡ Faulty TooLong) × (65535 < 0 + n) → Wholes res made m
late_lays m made first res e n r hf en h = whole_err res e made m r (whole_late m made first e n hf en h)

pub fails_lays : (m : FirmProcedure) (go : Shape → Made) (s : Shape) (first : List Open) (at : ℕ) (res : Result (List Open) (Refusal Fault)) (e : Refusal Fault)
    → IsErrAnd res (λ y. y ≡ e) → s ≡ empty → first ≡ zero_list (length m.widths - m.params) (own_params m) → at ≡ 0 + length first → Fails e at (go s)
    → Wholes res (go empty) m
fails_lays m go s first at res e r is hf ep h =
    whole_err res e (go empty) m r (whole_fails m (go empty) first at e hf ep (subst (λ z. Fails e at (go z)) is h))

module _ (lay : Layout) (m : FirmProcedure) (r : Room) (receiver : r.receiver ≡ receivers m.receives) (on : r.on_objects ≡ m.on_objects) (locals : r.locals ≡ length (own_widths m))
    (given : r.result ≡ result_width m) (few : r.locals + r.temps ≤ 252) (hp : m.params ≤ length m.widths)
    (hw : AllByRecursion IsWidth m.widths) (hr : m.result ≤ 4) (open' : List Open) (code : List Instr) (widths : List ℕ) (is : IsWhole open' (flat lay r m.body empty) m)
    (sealed : code ≡ map (set_in 0 0) open') (set : AllSet open') (ws : widths ≡ all_widths m ++ replicate r.temps 4) where
  abbrev pub procedure : Procedure
  procedure = record { method = Some m.method; params = own_params m; result = result_width m; widths = widths; code = code }

  block_in : (b : Block) (s : Shape) → flat lay r m.body empty ≡ Gives b s → BlockIn (Unit {0}) (result_width m) (length (own_widths m) + r.temps) b
  block_in b s e =
      subst (λ w. BlockIn (Unit {0}) w (length (own_widths m) + r.temps) b) given
      (subst (λ z. BlockIn (Unit {0}) r.result (z + r.temps) b) locals (subst (λ z. MadeIn (Unit {0}) r.result (r.locals + r.temps) z) e (in_flat (Unit {0}) lay r m.body empty (λ l. tt) (tt, tt))).0)

  code_is : (b : Block) → open' ≡ open_code (whole m b) 0 → code ≡ map (set_in 0 0) (open_code (whole m b) 0)
  code_is b e = sealed ∙ ap (map (set_in 0 0)) e

  sound_by : (x : Made) → flat lay r m.body empty ≡ x → IsWhole open' x m → IsSound procedure
  sound_by (Refused why) e h = absurd h
  sound_by (Gives b s) e h =
      subst (λ z. IsSound (record { method = Some m.method; params = own_params m; result = result_width m; widths = z; code = code })) (sym ws)
      (whole_sound m b r.temps (Some m.method) code hp hw hr (omega (arith, few, locals)) (block_in b s e) (subst AllSet h.1 set) (code_is b h.1))

  pub procedure_sound : IsSound procedure
  procedure_sound = sound_by (flat lay r m.body empty) refl is

  flat_by : NeedsAsMany lay m r.temps → (x : Made) → flat lay r m.body empty ≡ x → IsWhole open' x m → IsFlat lay m procedure
  flat_by needs (Refused why) e h = absurd h
  flat_by needs (Gives b s) e h =
      record {
        room = r;
        block = b;
        shape = s;
        made = inl e;
        done = h.0;
        receiver = receiver;
        on_objects = on;
        locals = locals;
        given = given;
        fits = omega (arith, few, locals);
        method = refl;
        parameters = refl;
        result = refl;
        widths = ws;
        code = code_is b h.1;
        fewest = λ most from. (needs most from, e);
      }

  pub procedure_flat : NeedsAsMany lay m r.temps → IsFlat lay m procedure
  procedure_flat needs = flat_by needs (flat lay r m.body empty) refl is

  onward_by : (x : Made) → flat lay r m.body empty ≡ x → IsWhole open' x m → has_loop m.body ≡ false → all_lead_on 0 code ≡ true
  onward_by (Refused why) e h none = absurd h
  onward_by (Gives b s) e h none =
      let own = own_long m.receives m.widths in
      ap (all_lead_on 0) (code_is b h.1)
      ∙ leads_onward (result_width m) (r.locals + r.temps) (whole m b) (
        in_zeroes ⊥ (result_width m) (r.locals + r.temps) (length m.widths - m.params) (own_params m) (omega (arith, hp, locals, own)),
        (
          subst (λ w. BlockIn ⊥ w (r.locals + r.temps) b) given
              (subst (λ z. MadeIn ⊥ r.result (r.locals + r.temps) z) e (in_flat ⊥ lay r m.body empty (λ l. not_both (sym none ∙ l)) (tt, tt))).0,
          (refl, tt),
        ),
      ) (subst AllSet h.1 set)
    where
      not_both : false ≡ true → ⊥
      not_both l = grind arith

  -- no jump leads back where the body has no loop
  pub procedure_onward : has_loop m.body ≡ false → all_lead_on 0 code ≡ true
  procedure_onward none = onward_by (flat lay r m.body empty) refl is none
