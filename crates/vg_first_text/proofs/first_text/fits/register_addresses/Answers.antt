use Rattle.std.proofs.Common.{◌≡◌, None, true, false, sym, ap, ◌∙◌, subst, refl}
use Rattle.std.specs.Prelude.{is_some}
use Rattle.indexmap.specs.IndexMap.{get}
use Rattle.vg_first_text.specs.FirstText.{AreRegisters}
use Rattle.vg_first_text.specs.FirstViews.{register_view, same_name, TellsAddresses}
use Rattle.vg_first_text.proofs.Registers.{one_more_fits, one_more_told, number_at, name_at, found_none}
use Rattle.vg_scan.proofs.Rows.{row_at, row_more}
use Rattle.vg_first_text.proofs.first_text.fits.register_addresses.Goals as goal

pub returns-in_default-clause-not : goal.returns-in_default-clause-not
returns-in_default-clause-not c = λ _ _ h.
    c.in_default.ensures.none (number_at _ _ _ (subst AreRegisters
    (row_at register_view c.args.registers.now c.loop-register.register-index _ c.loop-register-test.true) h))

pub returns-then-is_some-clause-not : goal.returns-then-is_some-clause-not
returns-then-is_some-clause-not c = λ _ _ h.
    let a = name_at _ _ _ (subst AreRegisters (row_at register_view c.args.registers.now c.loop-register.register-index _ c.loop-register-test.true) h) in
    let some : is_some c.in_ok-insert.field-0 ≡ true = sym c.is_some.ensures ∙ c.if-is_some.true in
    let none : c.in_ok-insert.field-0 ≡ None = c.in_ok-insert.ensures.old ∙ c.loop-register.invariant.told (record { ref_ptr = (0, 0); now = _ }) ∙ a in
    let clash : true ≡ false = sym some ∙ ap is_some none in
    cc

pub loop-register-preserved : goal.loop-register-preserved
loop-register-preserved c =
    let none = sym c.in_ok-insert.ensures.old ∙ found_none c.in_ok-insert.field-0 (sym c.is_some.ensures ∙ c.if-is_some.false) in
    let more = row_more register_view c.args.registers.now c.loop-register.register-index _ c.loop-register-test.true in
    record {
      fit = subst AreRegisters (sym more) (one_more_fits _ _ c.loop-register.invariant.fit c.in-Some.ensures.some.1
          (sym (c.loop-register.invariant.told (record { ref_ptr = (0, 0); now = _ })) ∙ none));
      told = subst (TellsAddresses (get same_name c.insert.new.self)) (sym more)
          (one_more_told (get same_name c.loop-register.addresses) (get same_name c.insert.new.self) _ _
          (record { ref_ptr = (0, 0); now = _ }) c.in-Some.address c.loop-register.invariant.told refl c.in-Some.ensures.some.0 none
          c.in_ok-insert.ensures.updates.0);
    }
