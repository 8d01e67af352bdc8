use Rattle.vg_core.specs.HeldProgram.{program_at}
use Rattle.vg_compile.proofs.Does.{bound_holds, calls_bounded, does, refused_calls, refused_frames, refused_handlers, refused_linear, refused_room}
use Rattle.vg_packed_small.proofs.Procedures.{main_there}
use Rattle.vg_compile.proofs.Linking.{always_links, few}
use Rattle.vg_compile.proofs.compiling.compile.Goals as goal

pub image_of-requires : goal.image_of-requires
image_of-requires c = record {
  few = few (program_at c.args.program.now) c.args.heap.now c.args.live.now c.args.numbers.now c.args.columns.now c.in_ok-firm.firm
      c.requires.given c.in_ok-firm.ensures.from;
  main = main_there (program_at c.args.program.now) c.args.heap.now c.args.live.now c.args.numbers.now c.args.columns.now c.in_ok-firm.firm
      c.in_ok-firm.ensures.from c.requires.given c.requires.ready;
  links = always_links (program_at c.args.program.now) c.args.heap.now c.args.live.now c.args.numbers.now c.args.columns.now c.in_ok-firm.firm
      c.in_ok-firm.ensures.from c.in_ok-firm.ensures.rows c.requires.given c.requires.ready c.requires.chip;
}

pub returns-in-Ok-clause-does : goal.returns-in-Ok-clause-does
returns-in-Ok-clause-does c = λ ready.
    does (program_at c.args.program.now) c.args.heap.now c.args.live.now c.args.numbers.now c.args.columns.now c.in_ok-firm.firm c.args.costs.now
    c.in-Ok.image.linked c.in-Ok.image.bound
    c.requires.given c.in_ok-firm.ensures.from c.in_ok-firm.ensures.rows c.in-Ok.ensures.image ready

pub returns-in-Ok-clause-bound : goal.returns-in-Ok-clause-bound
returns-in-Ok-clause-bound c = λ ready.
    bound_holds (program_at c.args.program.now) c.args.heap.now c.args.live.now c.args.numbers.now c.args.columns.now c.in_ok-firm.firm c.args.costs.now
    c.in-Ok.image.linked c.in-Ok.image.bound
    c.requires.given c.in_ok-firm.ensures.from c.in_ok-firm.ensures.rows c.in-Ok.ensures.image ready

pub returns-in-Ok-clause-calls : goal.returns-in-Ok-clause-calls
returns-in-Ok-clause-calls c = λ ready.
    calls_bounded (program_at c.args.program.now) c.args.heap.now c.args.live.now c.args.numbers.now c.args.columns.now c.in_ok-firm.firm c.args.costs.now
    c.in-Ok.image.linked c.in-Ok.image.bound
    c.requires.given c.in_ok-firm.ensures.from c.in_ok-firm.ensures.rows c.in-Ok.ensures.image ready

pub returns-clause-deep : goal.returns-clause-deep
returns-clause-deep c = λ ready.
    refused_calls (program_at c.args.program.now) c.args.heap.now c.args.live.now c.args.numbers.now c.args.columns.now c.in_ok-firm.firm c.args.costs.now
    c.requires.given c.in_ok-firm.ensures.from c.in-Err.why c.in-Err.ensures.deep ready

pub returns-clause-linear : goal.returns-clause-linear
returns-clause-linear c =
    refused_linear (program_at c.args.program.now) c.args.heap.now c.args.live.now c.args.numbers.now c.args.columns.now c.in_ok-firm.firm
    c.in_ok-firm.ensures.from c.in_ok-firm.ensures.typed c.in-Err.why c.in-Err.ensures.linear

pub returns-clause-frames : goal.returns-clause-frames
returns-clause-frames c =
    refused_frames (program_at c.args.program.now) c.args.heap.now c.args.live.now c.args.numbers.now c.args.columns.now c.in_ok-firm.firm c.args.costs.now
    c.in_ok-firm.ensures.from c.in_ok-firm.ensures.typed c.in-Err.why c.in-Err.ensures.frames

pub returns-clause-handlers : goal.returns-clause-handlers
returns-clause-handlers c =
    refused_handlers (program_at c.args.program.now) c.args.heap.now c.args.live.now c.args.numbers.now c.args.columns.now c.in_ok-firm.firm
    c.in_ok-firm.ensures.from c.in_ok-firm.ensures.typed c.in-Err.why c.in-Err.ensures.handlers

pub returns-clause-room : goal.returns-clause-room
returns-clause-room c =
    refused_room (program_at c.args.program.now) c.args.heap.now c.args.live.now c.args.numbers.now c.args.columns.now c.in_ok-firm.firm
    c.in_ok-firm.ensures.from c.in_ok-firm.ensures.typed c.in-Err.why c.in-Err.ensures.room
