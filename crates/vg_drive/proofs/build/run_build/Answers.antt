use Rattle.std.proofs.Common.{Ok, inl, inr, refl, subst}
use Rattle.vg_build.specs.Image.{IsBuiltOf}
use Rattle.vg_drive.proofs.build.run_build.Goals as goal

pub returns-in-Ok-put_both-clause-holds : goal.returns-in-Ok-put_both-clause-holds
returns-in-Ok-put_both-clause-holds g c =
    inr (record {
      some = c.requires.some;
      stack = c.requires.stack;
      bytes = c.in-Ok.text.items;
      whole = c.in-Ok.ensures.whole;
      answer = Ok c.in-Ok-build.built;
      says = subst (λ bytes. IsBuiltOf bytes c.args.asked c.args.init_steps c.in-Ok-build.built) c.deref.ensures.value c.in-Ok-build.ensures.headline;
      puts = inl (refl, c.in-Ok-put_both.ensures.hex, c.in-Ok-put_both.ensures.note);
    })

pub returns-clause-holds : goal.returns-clause-holds
returns-clause-holds g c =
    inr (record {
      some = c.requires.some;
      stack = c.requires.stack;
      bytes = c.in-Ok.text.items;
      whole = c.in-Ok.ensures.whole;
      answer = Ok c.in-Ok-build.built;
      says = subst (λ bytes. IsBuiltOf bytes c.args.asked c.args.init_steps c.in-Ok-build.built) c.deref.ensures.value c.in-Ok-build.ensures.headline;
      puts = inr (refl, c.in-Err-put_both.ensures.fails);
    })
