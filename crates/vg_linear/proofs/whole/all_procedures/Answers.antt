use Rattle.std.proofs.Common.{subst, sym, map}
use Rattle.vg_firm.specs.Held.{procedure_of}
use Rattle.vg_linear.specs.Flats.{AreAllFlat}
use Rattle.vg_linear.specs.Widths.{AllHaveWidths}
use Rattle.vg_linear.proofs.Wholes.{flats_left, flats_refused}
use Rattle.vg_linear.proofs.whole.all_procedures.Goals as goal

pub flatten_all-requires : goal.flatten_all-requires
flatten_all-requires c = subst AllHaveWidths (sym c.as_slice.ensures) c.requires.widths

pub returns-in-Err : goal.returns-in-Err
returns-in-Err c = record {
  made = tt;
  plain = λ is. tt;
  refusal = flats_refused c.args.layout.now c.args.firm.now c.as_slice.result.now c.as_slice.ensures c.in-Err.why c.in-Err.ensures.refusal;
  typed = flats_left c.args.layout.now c.args.firm.now c.as_slice.result.now c.as_slice.ensures c.in-Err.why c.in-Err.ensures.typed;
}

pub made_of-requires : goal.made_of-requires
made_of-requires c = record {
  few = c.requires.few;
  main = c.requires.main;
  flat = subst (λ z. AreAllFlat c.args.layout.now (map procedure_of z) c.in-Ok.flats) c.as_slice.ensures c.in-Ok.ensures.flat;
}
