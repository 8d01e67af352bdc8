-- Procedures that receive nothing.
use Rattle.std.specs.Prelude.{ℕ, ◌+◌, Bool, true, false, ◌==◌, List, ◌∷◌, ◌++◌, take, replicate, Option}
use Rattle.std.specs.List.{AllByRecursion}
use Rattle.std.proofs.Common.{◌≡◌, refl, sym, ap, ◌∙◌, subst, arith}
use Rattle.vg_firm.specs.Program.{Procedure as FirmProcedure}
use Rattle.vg_lin.specs.Program.{Procedure}
use Rattle.vg_expand.specs.Code.{expanded}
use Rattle.vg_finding.specs.Finders.{with_finders}
use Rattle.vg_finding.proofs.Instructions.{each_found}
use Rattle.vg_templates.specs.Calls.{sum_of}
use Rattle.vg_templates.specs.Living.{is_live}
use Rattle.vg_templates.specs.Framed.{on_stack, arriving, framed}
use Rattle.vg_followed.specs.Stands.{ReceivesNothing}
use Rattle.vg_flatten_shapes.specs.declared.layout.Layout.{Layout}
use Rattle.vg_flatten.specs.Flattened.{receivers, with_receiver_width, widened, wide_params, IsFlat}
use Rattle.vg_flat_each.specs.Each.{EachStep}
use Rattle.vg_flat_names.specs.Names.{Names, NoReceiver}
use Rattle.vg_flat_names.proofs.Expanded.{names_expanded}
use Rattle.vg_flat_names.proofs.Flat.{names_flattened}
use Rattle.vg_unreceived.proofs.Unread.{IsOther, dead}

-- Nothing is pushed, and nothing that arrives is kept.
abbrev Takes : (live : ℕ → Bool) (widths : List ℕ) (params : ℕ) → Type 0
Takes live ws n = (sum_of (take (on_stack ws n) ws) ≡ 0) × AllByRecursion (λ kept. kept ≡ false) (arriving live ws n)

one_taken : (live : ℕ → Bool) (ws : List ℕ) → live 0 ≡ false → Takes live (2 ∷ ws) 1
one_taken live ws e = (refl, (e, tt))

pub none : (p : Procedure) → p.params ≡ 0 → ReceivesNothing (framed p)
none p e = record { on_stack = h.0; in_registers = h.1 }
  where
    h : Takes (λ k. is_live p.code k 0) p.widths p.params
    h = subst (Takes (λ k. is_live p.code k 0) p.widths) (sym e) (refl, tt)

pub one : (p : Procedure) (ws : List ℕ) → p.params ≡ 1 → p.widths ≡ 2 ∷ ws → is_live p.code 0 0 ≡ false → ReceivesNothing (framed p)
one p ws e ew dies = record { on_stack = h.0; in_registers = h.1 }
  where
    h : Takes (λ k. is_live p.code k 0) p.widths p.params
    h =
        subst (Takes (λ k. is_live p.code k 0) p.widths) (sym e)
        (subst (λ vs. Takes (λ k. is_live p.code k 0) vs 1) (sym ew) (one_taken (λ k. is_live p.code k 0) ws dies))

-- ---- flattened and expanded procedures

module _ (lay : Layout) (first : ℕ) (m : FirmProcedure) (p : Procedure) (is : IsFlat lay m p) (unnamed : EachStep NoReceiver m.body) where
  behind : (i : ℕ) → m.receives ≡ true → (0 == receivers m.receives + i) ≡ false
  behind i e = ap (λ b. 0 == receivers b + i) e ∙ is_next i
    where
      is_next : (i : ℕ) → (0 == 1 + i) ≡ false
      is_next i = grind arith

  pub unread : m.receives ≡ true → AllByRecursion (Names (IsOther 0)) (expanded first p).code
  unread e = names_expanded (IsOther 0) (λ n. refl) first p (names_flattened (IsOther 0) (λ n. refl) m (λ i. behind i e) lay p is unnamed)

  pub dead_receiver : m.receives ≡ true → is_live (expanded first p).code 0 0 ≡ false
  dead_receiver e = dead 0 (expanded first p).code 0 (unread e)

  -- where a procedure has its parameters and locals, it receives nothing if the first local is dead where it begins
  module _ (new : Procedure) (params : new.params ≡ p.params) (widths : new.widths ≡ p.widths)
      (dies : m.receives ≡ true → is_live new.code 0 0 ≡ false) where
    receives_nothing : m.params ≡ 0 → ReceivesNothing (framed new)
    receives_nothing alone = by m.receives refl
      where
        count : (b : Bool) → m.receives ≡ b → new.params ≡ receivers b + 0
        count b e = params ∙ (is.parameters ∙ (ap (λ n. receivers m.receives + n) alone ∙ ap (λ c. receivers c + 0) e))

        by : (b : Bool) → m.receives ≡ b → ReceivesNothing (framed new)
        by false e = none new (count false e)
        by true e =
            one new (widened (wide_params m) m.widths ++ replicate is.room.temps 4) (count true e)
            (widths ∙ (is.widths ∙ ap (λ b. with_receiver_width b (widened (wide_params m) m.widths) ++ replicate is.room.temps 4) e)) (dies e)

  pub nothing : m.params ≡ 0 → ReceivesNothing (framed (expanded first p))
  nothing = receives_nothing (expanded first p) refl refl dead_receiver

  -- with calls of finders in place of look-ups: these name what the look-ups do
  pub nothing_found : (numbers : List (Option ℕ)) → m.params ≡ 0 → ReceivesNothing (framed (with_finders numbers (expanded first p)))
  nothing_found numbers =
      receives_nothing (with_finders numbers (expanded first p)) refl refl
      (λ e. dead 0 (with_finders numbers (expanded first p)).code 0
      (each_found (Names (IsOther 0)) numbers (λ d q to a looks names. (tt, (names.1, tt), names.0)) (expanded first p).code (unread e)))
