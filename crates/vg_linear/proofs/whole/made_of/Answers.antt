use Rattle.std.proofs.Common.{arith}
use Rattle.vg_linear.proofs.Wholes.{all_made, all_plain, expanded_left, expanded_refused}
use Rattle.vg_linear.proofs.whole.made_of.Goals as goal

pub returns-in-Err : goal.returns-in-Err
returns-in-Err c = record {
  made = tt;
  plain = λ is. tt;
  refusal = expanded_refused c.args.layout.now c.args.firm.now c.args.flats c.requires.flat c.in_ok-begun.begun c.in_ok-begun.ensures
      c.as_slice.result.now c.as_slice.ensures c.in_ok-trimmed.trimmed c.in_ok-trimmed.ensures.trimmed c.in_ok-trimmed.ensures.short
      c.as_slice-2.result.now c.as_slice-2.ensures _ c.in-Err.why c.in-Err.ensures;
  typed = expanded_left c.args.layout.now c.args.firm.now c.args.flats c.requires.flat c.in_ok-begun.begun c.in_ok-begun.ensures
      c.as_slice.result.now c.as_slice.ensures c.in_ok-trimmed.trimmed c.in_ok-trimmed.ensures.trimmed c.in_ok-trimmed.ensures.short
      c.as_slice-2.result.now c.as_slice-2.ensures _ c.in-Err.why c.in-Err.ensures;
}

pub returns : goal.returns
returns c = record {
  made = all_made c.args.layout.now c.args.firm.now c.args.flats c.requires.flat c.in_ok-begun.begun c.in_ok-begun.ensures
      c.as_slice.result.now c.as_slice.ensures c.in_ok-trimmed.trimmed c.in_ok-trimmed.ensures.trimmed c.in_ok-trimmed.ensures.short
      c.as_slice-2.result.now c.as_slice-2.ensures _ c.in-Ok.expanded c.in_ok-routined.routined (omega arith) c.in-Ok.ensures c.in_ok-routined.ensures
      c.len-2.result c.as_slice-4.result.now c.in_ok-found.found.dispatches c.as_slice-3.result.now c.in_ok-found.found.procedures
      c.len-2.ensures c.as_slice-4.ensures c.as_slice-3.ensures c.in_ok-found.ensures c.in_ok-trimmed.ensures.apt;
  plain = λ is. all_plain c.args.layout.now c.args.firm.now c.args.flats c.requires.flat c.in_ok-begun.begun c.in_ok-begun.ensures
      c.as_slice.result.now c.as_slice.ensures c.in_ok-trimmed.trimmed c.in_ok-trimmed.ensures.trimmed c.in_ok-trimmed.ensures.short
      c.as_slice-2.result.now c.as_slice-2.ensures _ c.in-Ok.expanded c.in_ok-routined.routined (omega arith) c.in-Ok.ensures c.in_ok-routined.ensures
      c.len-2.result c.as_slice-4.result.now c.in_ok-found.found.dispatches c.as_slice-3.result.now c.in_ok-found.found.procedures
      c.len-2.ensures c.as_slice-4.ensures c.as_slice-3.ensures c.in_ok-found.ensures (c.in_ok-trimmed.ensures.same is);
  refusal = tt;
  typed = λ t. tt;
}
