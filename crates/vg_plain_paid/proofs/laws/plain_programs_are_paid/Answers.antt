use Rattle.vg_plain_paid.proofs.Programs.{can_be_paid}
use Rattle.vg_plain_paid.proofs.laws.plain_programs_are_paid.Goals as goal

pub returns : goal.returns
returns c =
    can_be_paid
    (record {
      few = λ lay m t. c.typed_need_few_pushed.ensures lay m t.most t.few t.code t.takes;
      bytes = c.flattened_procedures_take_few_bytes.ensures.least_found;
    })
