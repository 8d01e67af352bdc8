-- The worked program does what is said of it.
use Rattle.std.proofs.Common.{ℕ, ◌<◌, false, List, [], refl, arith}
use Rattle.vg_meaning.specs.Outside.{before, AreReads, AreVectors}
use Rattle.avr_instr.specs.declared.instr.Instr.TheVariants.{Ldi}
use Rattle.avr_isa.specs.declared.ending.MachineEnd.TheVariants.{Stop}
use Rattle.avr_isa.specs.Agrees.{FollowsSeen}
use Rattle.avr_isa.specs.Cpu.{PowerOn, IsPowerOn}
use Rattle.avr_isa.specs.Machine.{State, machine, started}
use Rattle.avr_isa.specs.Standing.{AllStandAt}
use Rattle.avr_isa.proofs.Standing.{emitted_stand}
use Rattle.avr_bytes.specs.Bytes.{IsFlash}
use Rattle.avr_bytes.proofs.Runs.{image-bytes}
use Rattle.avr_view.specs.Registers.{put}
use Rattle.avr_view.specs.Run.{Run, Ended}
use Rattle.avr_view.specs.View.{View, At}
use Rattle.avr_view.specs.Start.{start_code, Started}
use Rattle.avr_view.specs.Worked.{stopping, stopping_image, stopped}
use Rattle.avr_view.proofs.Going.{goes_then}
use Rattle.avr_view.proofs.Steps.{goes_does}
use Rattle.avr_view.proofs.JumpSteps.{ends_rjmp}
use Rattle.avr_view.proofs.StartSteps.{goes_started}
use Rattle.avr_view.proofs.SeenRuns.{follows_stop}

also : {A B : Type 0} → A → B → A × B
also a b = (a, b)

is_flash : IsFlash stopping_image
is_flash =
    image-bytes stopping_image
    (also (omega arith) (also (omega arith) (also (omega arith) (also (omega arith)
    (also (omega arith) (also (omega arith) (also (omega arith) (also (omega arith)
    (also (omega arith) (also (omega arith) (also (omega arith) (also (omega arith)
    (also (omega arith) (also (omega arith) (also (omega arith) (also (omega arith) tt))))))))))))))))

stands : AllStandAt stopping_image 0 stopping
stands =
    emitted_stand stopping [] 0 refl (omega arith)
    (also (omega arith) (also ((omega arith, omega arith), omega arith) (also (omega arith, omega arith)
    (also ((omega arith, omega arith), omega arith) (also (omega arith, omega arith) (also ((omega arith, omega arith), omega arith)
    (also (omega arith) tt)))))))

abbrev run : Run
run =
    record { flash = stopping_image; static = 0; floor = 0x1100; whole = []; lets_in = λ pc. false; is_flash = is_flash; apart = omega arith }

pub stops_so : (memory : PowerOn) (reads interrupts : List ℕ) (clock : ℕ) → IsPowerOn memory → AreReads reads → AreVectors interrupts
    → FollowsSeen (machine stopping_image memory reads interrupts) clock 0x1100 0 stopped
stops_so memory reads interrupts clock powered r is =
    follows_stop run memory reads interrupts clock 7 0 stopped refl (before reads interrupts) 7 refl refl
    (goes_then run deep 5 2 (started memory reads interrupts) (Started run memory (before reads interrupts) 6) goal
    (goes_started run deep 2 16 memory reads interrupts powered r is stands.0 (λ clash. absurd (omega arith)) start (omega arith) (omega arith))
    (λ t p.
    let next : View = record { regs = put p.regs 24 7; static = []; stack = []; out = before reads interrupts } in
    goes_then run deep 1 1 t (At run 7 next) goal (goes_does run deep (Ldi 24 7) 6 _ t stands.1.1.1.1.1.0 tt (omega arith) p.at)
    (λ u a. ends_rjmp run deep 7 _ u a stands.1.1.1.1.1.1.0)))
  where
    deep : Type 0
    deep = 0 < 0

    goal : State → Type 0
    goal = Ended run (Stop 7) (before reads interrupts)

    start : AllStandAt stopping_image 2 (start_code 16)
    start = (stands.1.0, (stands.1.1.0, (stands.1.1.1.0, (stands.1.1.1.1.0, tt))))
