use Rattle.std.proofs.Common.{inr}
use Rattle.vg_commands.proofs.Sims.{as_given, simulates}
use Rattle.vg_commands.proofs.sim.run_sim.Goals as goal

pub returns-clause-holds : goal.returns-clause-holds
returns-clause-holds g c =
    inr (record {
      image_text = c.in-Ok.texts.0.items;
      script_text = c.in-Ok.texts.1.items;
      whole = c.in-Ok.ensures.whole;
      answer = c.simulate_text.result;
      says = as_given _ _ _ _ _ _ _ c.deref.ensures.value c.deref-2.ensures.value
          (simulates _ _ _ _ _ c.simulate_text.ensures.ended c.simulate_text.ensures.write_fault c.simulate_text.ensures.cause
          c.simulate_text.ensures.hex_refused c.simulate_text.ensures.script_refused c.simulate_text.ensures.nothing);
      tells = c.status_of_simulated.ensures;
    })
