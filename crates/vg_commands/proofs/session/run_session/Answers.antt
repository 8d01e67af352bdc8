use Rattle.std.proofs.Common.{inr}
use Rattle.vg_commands.proofs.Plays.{as_given}
use Rattle.vg_commands.proofs.session.run_session.Goals as goal

pub returns-clause-holds : goal.returns-clause-holds
returns-clause-holds g c =
    inr (record {
      text = c.in-Ok.texts.0.items;
      script_text = c.in-Ok.texts.1.items;
      whole = c.in-Ok.ensures.whole;
      answer = c.play.result;
      says = as_given _ _ _ _ _ _ _ _ c.deref.ensures.value c.deref-2.ensures.value c.play.ensures.plays;
      cause = c.play.ensures.cause;
      tells = c.status_of_played.ensures;
    })
