use Rattle.std.proofs.Common.{Ok, inl, inr, refl, subst}
use Rattle.vg_io.specs.Piece.{AppendsAll, AppendsFront}
use Rattle.vg_why.specs.Asked.{WhyIn}
use Rattle.vg_commands.proofs.why.run_why.Goals as goal

pub returns-in-Ok-put-clause-holds : goal.returns-in-Ok-put-clause-holds
returns-in-Ok-put-clause-holds g c =
    inr (record {
      bytes = c.in-Ok.text.items;
      whole = c.in-Ok.ensures.whole;
      answer = Ok c.in-Ok-why_lines.lines;
      says = subst (λ bytes. WhyIn bytes c.args.member.now c.in-Ok-why_lines.lines) c.deref.ensures.value c.in-Ok-why_lines.ensures.lines;
      puts = inl (refl, subst (λ piece. AppendsAll (g.O.Sink.told c.args.out.now) (g.O.Sink.told c.put.new.self) piece) c.as_slice.ensures c.in-Ok-put.ensures.ok);
    })

pub returns-clause-holds : goal.returns-clause-holds
returns-clause-holds g c =
    inr (record {
      bytes = c.in-Ok.text.items;
      whole = c.in-Ok.ensures.whole;
      answer = Ok c.in-Ok-why_lines.lines;
      says = subst (λ bytes. WhyIn bytes c.args.member.now c.in-Ok-why_lines.lines) c.deref.ensures.value c.in-Ok-why_lines.ensures.lines;
      puts = inr (refl, subst (λ piece. AppendsFront (g.O.Sink.told c.args.out.now) (g.O.Sink.told c.put.new.self) piece) c.as_slice.ensures c.in-Err-put.ensures.failed, c.in-Err-put.ensures.cause);
    })
