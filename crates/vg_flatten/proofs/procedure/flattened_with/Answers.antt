use Rattle.std.proofs.Common.{true, false, length, map, ◌++◌, ◌+◌, ◌≡◌, refl, replicate, Some, ap, sym, subst, ◌∙◌}
use Rattle.vg_firm.specs.Held.{code_of, procedure_of}
use Rattle.vg_lin.specs.Onward.{all_lead_on}
use Rattle.vg_lin.specs.Sound.{IsSound}
use Rattle.vg_lin.specs.Program.{Procedure}
use Rattle.vg_flatten_shapes.specs.Blocks.{set_in}
use Rattle.vg_flatten.specs.Closing.{AllSet}
use Rattle.vg_flatten.specs.Flattened.{IsFlat, own_params, result_width}
use Rattle.vg_flatten.specs.Loops.{has_loop}
use Rattle.vg_flatten.proofs.Rooms.{room_of}
use Rattle.vg_flatten.proofs.Finished.{procedure_sound, procedure_flat, procedure_onward}
use Rattle.vg_flatten.proofs.procedure.flattened_with.Goals as goal

pub new-made-requires : goal.new-made-requires
new-made-requires c =
    let own_is = c.requires.own in
    subst (λ w. IsSound (record {
      method = Some c.args.procedure.now.method;
      params = c.receivers-receiver.result + c.args.procedure.now.params;
      result = w;
      widths = c.in_ok-widths.widths;
      code = c.in_ok-instrs.instrs;
    })) (sym c.result_width-given.ensures)
    (subst (λ z. IsSound (record {
      method = Some c.args.procedure.now.method;
      params = z + c.args.procedure.now.params;
      result = result_width (procedure_of c.args.procedure.now);
      widths = c.in_ok-widths.widths;
      code = c.in_ok-instrs.instrs;
    })) (sym c.receivers-receiver.ensures)
    (procedure_sound c.args.layout.now (procedure_of c.args.procedure.now)
    (room_of c.receivers-receiver.result c.args.procedure.now.on_objects (length c.args.own.now) c.args.temps c.result_width-given.result)
    c.receivers-receiver.ensures refl
    (ap length own_is) c.result_width-given.ensures c.requires.room c.requires.params c.requires.widths c.requires.given c.in_ok-code.code c.in_ok-instrs.instrs
    c.in_ok-widths.widths c.in_ok-code.ensures (c.in_ok-instrs.ensures.0 ∙ ap (map (set_in 0 0)) c.as_slice.ensures)
    (subst AllSet c.as_slice.ensures c.in_ok-instrs.ensures.1)
    (c.in_ok-widths.ensures ∙ ap (λ z. z ++ replicate c.args.temps 4) c.in_ok-all_widths.ensures)))

pub returns : goal.returns
returns c =
    let own_is = c.requires.own in
    let made_is : ◌≡◌ {A = Procedure} c.new-made.result record {
      method = Some c.args.procedure.now.method;
      params = own_params (procedure_of c.args.procedure.now);
      result = result_width (procedure_of c.args.procedure.now);
      widths = c.in_ok-widths.widths;
      code = c.in_ok-instrs.instrs;
    } =
    c.new-made.ensures ∙ ap (λ z. record {
      method = Some c.args.procedure.now.method;
      params = z + c.args.procedure.now.params;
      result = c.result_width-given.result;
      widths = c.in_ok-widths.widths;
      code = c.in_ok-instrs.instrs;
    }) c.receivers-receiver.ensures ∙ ap (λ w. record {
      method = Some c.args.procedure.now.method;
      params = own_params (procedure_of c.args.procedure.now);
      result = w;
      widths = c.in_ok-widths.widths;
      code = c.in_ok-instrs.instrs;
    }) c.result_width-given.ensures in
    record {
      flat = λ needs.
          subst (IsFlat c.args.layout.now (procedure_of c.args.procedure.now)) (sym made_is)
          (procedure_flat c.args.layout.now (procedure_of c.args.procedure.now)
          (room_of c.receivers-receiver.result c.args.procedure.now.on_objects (length c.args.own.now) c.args.temps c.result_width-given.result)
          c.receivers-receiver.ensures refl
          (ap length own_is) c.result_width-given.ensures c.requires.room c.requires.params c.requires.widths c.requires.given c.in_ok-code.code c.in_ok-instrs.instrs
          c.in_ok-widths.widths c.in_ok-code.ensures (c.in_ok-instrs.ensures.0 ∙ ap (map (set_in 0 0)) c.as_slice.ensures)
          (subst AllSet c.as_slice.ensures c.in_ok-instrs.ensures.1)
          (c.in_ok-widths.ensures ∙ ap (λ z. z ++ replicate c.args.temps 4) c.in_ok-all_widths.ensures) needs);
      onward =
          subst (λ z. has_loop (code_of c.args.procedure.now.body) ≡ false → all_lead_on 0 z.code ≡ true) (sym made_is)
          (procedure_onward c.args.layout.now (procedure_of c.args.procedure.now)
          (room_of c.receivers-receiver.result c.args.procedure.now.on_objects (length c.args.own.now) c.args.temps c.result_width-given.result)
          c.receivers-receiver.ensures refl
          (ap length own_is) c.result_width-given.ensures c.requires.room c.requires.params c.requires.widths c.requires.given c.in_ok-code.code c.in_ok-instrs.instrs
          c.in_ok-widths.widths c.in_ok-code.ensures (c.in_ok-instrs.ensures.0 ∙ ap (map (set_in 0 0)) c.as_slice.ensures)
          (subst AllSet c.as_slice.ensures c.in_ok-instrs.ensures.1)
          (c.in_ok-widths.ensures ∙ ap (λ z. z ++ replicate c.args.temps 4) c.in_ok-all_widths.ensures));
      few = c.keeps.ensures.few;
      cause = tt;
      refusal = λ e. tt;
    }
