-- What an answer says, by the command that it answers: a clause on `build` or on `sim` is one on its file or files.
use Rattle.std.proofs.Common.{◌≡◌, ℕ, ◌≤◌, ◌⊎◌, ◌↔◌, List, [], Option, Some, None, refl, subst, arith, inl, inr}
use Rattle.vg_io.specs.Count.{Rose}
use Rattle.vg_io.specs.declared.file.File.{File}
use Rattle.vg_words.specs.Commands.{Command, Build, Run, Sim, Why, Try}
use Rattle.vg_base.specs.declared.place.Place.{Place}
use Rattle.vg_build.specs.Answer.{first_place}
use Rattle.vg_layout.specs.Text.{layout_text}
use Rattle.vg_hex.specs.HexText.{hex_text}
use Rattle.vg_faults.specs.Starting.{init_steps}
use Rattle.vg_faults.specs.declared.fault.Fault.TheVariants.{NotBuilt}
use Rattle.vg_layout.specs.declared.layout.Layout.{Layout}
use Rattle.vg_status.specs.declared.status.Status.{Status}
use Rattle.vg_status.specs.declared.status.Status.TheVariants.{Refused, Usage, WriteFault}
use Rattle.vg_drive.specs.Answers.{ForImage, ForSecond}
use Rattle.vg_commands.specs.Commands.{IsAnswerOf, IsAnswerOfBuild, IsAnswerOfRun, IsAnswerOfSim, IsAnswerOfTry, IsAnswerOfWhy, OnBuild, OnLive, OnRun, OnSim, OnSource, OnTry, OnWhy, PutsNothing}
use Rattle.vg_commands.specs.Leaves.{Change, Fails, IsSame, PlayBy, SimBy, WhyBy}
use Rattle.vg_drive.specs.Mirrors.{AnswerBy, BuildBy, TryBy}
use Rattle.vg_status.specs.Statuses.{IsBeforePuts}
use Rattle.vg_drive.proofs.Builds as builds
use Rattle.vg_commands.proofs.Plays as plays
use Rattle.vg_commands.proofs.Sims as sims
use Rattle.vg_drive.proofs.Tries as tries
use Rattle.vg_commands.proofs.Whys as whys

pub on_build : (c : Option Command) (s : Status) (told : Option (List File)) (out note : Change) (P : List ℕ → Option ℕ → ℕ → Type 0)
    → AnswerBy c s told out note
    → ((file : List ℕ) (asked : Option ℕ) (clock : ℕ) → BuildBy s told file asked clock out note → P file asked clock) → OnBuild c P
on_build None s told out note P h f = tt
on_build (Some (Build file asked clock)) s told out note P h f = f file asked clock h
on_build (Some (Run file script steps)) s told out note P h f = tt
on_build (Some (Sim hex script steps)) s told out note P h f = tt
on_build (Some (Why file member)) s told out note P h f = tt
on_build (Some (Try objects)) s told out note P h f = tt

pub on_run : (c : Option Command) (s : Status) (told : Option (List File)) (out note : Change) (P : (file script : List ℕ) → ℕ → Type 0)
    → AnswerBy c s told out note → ((file script : List ℕ) (steps : ℕ) → PlayBy s told file script steps out → P file script steps) → OnRun c P
on_run None s told out note P h f = tt
on_run (Some (Build file asked clock)) s told out note P h f = tt
on_run (Some (Run file script steps)) s told out note P h f = f file script steps h.0
on_run (Some (Sim hex script steps)) s told out note P h f = tt
on_run (Some (Why file member)) s told out note P h f = tt
on_run (Some (Try objects)) s told out note P h f = tt

pub on_source : (c : Option Command) (s : Status) (told : Option (List File)) (out note : Change) (P : List ℕ → ℕ → Type 0) → AnswerBy c s told out note
    → ((file : List ℕ) (asked : Option ℕ) (clock : ℕ) → BuildBy s told file asked clock out note → P file clock)
    → ((file script : List ℕ) (steps : ℕ) → PlayBy s told file script steps out → P file init_steps)
    → ((file member : List ℕ) → WhyBy s told file member out → P file init_steps) → OnSource c P
on_source None s told out note P h f g w = tt
on_source (Some (Build file asked clock)) s told out note P h f g w = f file asked clock h
on_source (Some (Run file script steps)) s told out note P h f g w = g file script steps h.0
on_source (Some (Sim hex script steps)) s told out note P h f g w = tt
on_source (Some (Why file member)) s told out note P h f g w = w file member h.0
on_source (Some (Try objects)) s told out note P h f g w = tt

pub on_live : (c : Option Command) (s : Status) (told : Option (List File)) (out note : Change) (P : List ℕ → ℕ → Type 0) → AnswerBy c s told out note
    → ((file : List ℕ) (asked : Option ℕ) (clock : ℕ) → BuildBy s told file asked clock out note → P file clock)
    → ((file member : List ℕ) → WhyBy s told file member out → P file init_steps) → OnLive c P
on_live None s told out note P h f w = tt
on_live (Some (Build file asked clock)) s told out note P h f w = f file asked clock h
on_live (Some (Run file script steps)) s told out note P h f w = tt
on_live (Some (Sim hex script steps)) s told out note P h f w = tt
on_live (Some (Why file member)) s told out note P h f w = w file member h.0
on_live (Some (Try objects)) s told out note P h f w = tt

pub on_why : (c : Option Command) (s : Status) (told : Option (List File)) (out note : Change) (P : (file member : List ℕ) → Type 0)
    → AnswerBy c s told out note → ((file member : List ℕ) → WhyBy s told file member out → P file member) → OnWhy c P
on_why None s told out note P h f = tt
on_why (Some (Build file asked clock)) s told out note P h f = tt
on_why (Some (Run file script steps)) s told out note P h f = tt
on_why (Some (Sim hex script steps)) s told out note P h f = tt
on_why (Some (Why file member)) s told out note P h f = f file member h.0
on_why (Some (Try objects)) s told out note P h f = tt

pub on_try : (c : Option Command) (s : Status) (told : Option (List File)) (out note : Change) (P : ℕ → Type 0) → AnswerBy c s told out note
    → ((objects : ℕ) → TryBy s objects out note → P objects) → OnTry c P
on_try None s told out note P h f = tt
on_try (Some (Build file asked clock)) s told out note P h f = tt
on_try (Some (Run file script steps)) s told out note P h f = tt
on_try (Some (Sim hex script steps)) s told out note P h f = tt
on_try (Some (Why file member)) s told out note P h f = tt
on_try (Some (Try objects)) s told out note P h f = f objects h

-- what follows on each file of a source text
pub with_source : (c : Option Command) (P Q : List ℕ → ℕ → Type 0) → ((file : List ℕ) (clock : ℕ) → P file clock → Q file clock) → OnSource c P → OnSource c Q
with_source None P Q f h = tt
with_source (Some (Build file asked clock)) P Q f h = f file clock h
with_source (Some (Run file script steps)) P Q f h = f file init_steps h
with_source (Some (Sim hex script steps)) P Q f h = tt
with_source (Some (Why file member)) P Q f h = f file init_steps h
with_source (Some (Try objects)) P Q f h = tt

pub on_sim : (c : Option Command) (s : Status) (told : Option (List File)) (out note : Change) (P : (hex script : List ℕ) → ℕ → Type 0)
    → AnswerBy c s told out note → ((hex script : List ℕ) (steps : ℕ) → SimBy s told hex script steps out → P hex script steps) → OnSim c P
on_sim None s told out note P h f = tt
on_sim (Some (Build file asked clock)) s told out note P h f = tt
on_sim (Some (Run file script steps)) s told out note P h f = tt
on_sim (Some (Sim hex script steps)) s told out note P h f = f hex script steps h.0
on_sim (Some (Why file member)) s told out note P h f = tt
on_sim (Some (Try objects)) s told out note P h f = tt

pub answers_of : (c : Option Command) (s : Status) (told : Option (List File)) (out note : Change) → AnswerBy c s told out note → IsAnswerOf c s
answers_of None s told out note h = h.0
answers_of (Some (Build file asked clock)) s told out note h = builds.answers_by s told file asked clock out note h
answers_of (Some (Run file script steps)) s told out note h = plays.answers_by s told file script steps out h.0
answers_of (Some (Sim hex script steps)) s told out note h = sims.answers_by s told hex script steps out h.0
answers_of (Some (Why file member)) s told out note h = whys.answers_by s told file member out h.0
answers_of (Some (Try objects)) s told out note h = tries.answers_by s objects out note h

-- words without a meaning are Usage, and nothing else is
usage_means : (c : Option Command) (s : Status) → IsAnswerOf c s → (s ≡ Usage) ↔ (c ≡ None)
usage_means None s is = (λ e. refl, λ e. is)
usage_means (Some (Build file asked clock)) s is = (λ e. absurd (subst IsAnswerOfBuild e is), λ e. cc)
usage_means (Some (Run file script steps)) s is = (λ e. absurd (subst IsAnswerOfRun e is), λ e. cc)
usage_means (Some (Sim hex script steps)) s is = (λ e. absurd (subst IsAnswerOfSim e is), λ e. cc)
usage_means (Some (Why file member)) s is = (λ e. absurd (subst IsAnswerOfWhy e is), λ e. cc)
usage_means (Some (Try objects)) s is = (λ e. absurd (subst IsAnswerOfTry e is), λ e. cc)

pub usage_of : (c : Option Command) (s : Status) (told : Option (List File)) (out note : Change) → AnswerBy c s told out note → (s ≡ Usage) ↔ (c ≡ None)
usage_of c s told out note h = usage_means c s (answers_of c s told out note h)

pub write_fault_of : (c : Option Command) (s : Status) (told : Option (List File)) (out note : Change) → AnswerBy c s told out note → s ≡ WriteFault
    → Fails out ⊎ Fails note
write_fault_of None s told out note h e = let u = h.0 in cc
write_fault_of (Some (Build file asked clock)) s told out note h e = builds.write_fault_by s told file asked clock out note h e
write_fault_of (Some (Run file script steps)) s told out note h e = inl (plays.write_fault_by s told file script steps out h.0 e)
write_fault_of (Some (Sim hex script steps)) s told out note h e = inl (sims.write_fault_by s told hex script steps out h.0 e)
write_fault_of (Some (Why file member)) s told out note h e = inl (whys.write_fault_by s told file member out h.0 e)
write_fault_of (Some (Try objects)) s told out note h e = tries.write_fault_by s objects out note h e

-- nothing was put to the second sink before the first put
pub note_before_of : (c : Option Command) (s : Status) (told : Option (List File)) (out note : Change) → AnswerBy c s told out note → IsBeforePuts s
    → IsSame note
note_before_of None s told out note h before = h.2
note_before_of (Some (Build file asked clock)) s told out note h before = (builds.before_by s told file asked clock out note h before).1
note_before_of (Some (Run file script steps)) s told out note h before = h.1
note_before_of (Some (Sim hex script steps)) s told out note h before = h.1
note_before_of (Some (Why file member)) s told out note h before = h.1
note_before_of (Some (Try objects)) s told out note h before = (tries.before_by s objects out note h before).1

-- and nothing to the first
pub out_before_of : (c : Option Command) (s : Status) (told : Option (List File)) (out note : Change) → AnswerBy c s told out note → PutsNothing c s
    → IsSame out
out_before_of None s told out note h before = h.1
out_before_of (Some (Build file asked clock)) s told out note h before = (builds.before_by s told file asked clock out note h before).0
out_before_of (Some (Run file script steps)) s told out note h before = plays.before_by s told file script steps out h.0 before
out_before_of (Some (Sim hex script steps)) s told out note h before = sims.before_by s told hex script steps out h.0 before
out_before_of (Some (Why file member)) s told out note h before = whys.before_by s told file member out h.0 before
out_before_of (Some (Try objects)) s told out note h before = (tries.before_by s objects out note h before).0

-- what holds of the image holds of it with what follows
pub of_image : (told : Option (List File)) (file : List ℕ) (asked : Option ℕ) (clock : ℕ) (P Q : List ℕ → Layout → Type 0)
    → ((image : List ℕ) (layout : Layout) → P image layout → Q image layout)
    → ForImage told file asked clock P → ForImage told file asked clock Q
of_image None file asked clock P Q f (image, layout, h) = (image, layout, f image layout h)
of_image (Some files) file asked clock P Q f (image, layout, is, h) = (image, layout, is, f image layout h)

-- what holds of the second text holds of it with what follows
pub with_second : (c : Option Command) (told : Option (List File)) (P Q : List ℕ → Type 0) → ((second : List ℕ) → P second → Q second) → ForSecond c told P
    → ForSecond c told Q
with_second None told P Q f h = f [] h
with_second (Some (Build file asked clock)) told P Q f h =
    of_image told file asked clock (λ image layout. P (layout_text layout)) (λ image layout. Q (layout_text layout))
    (λ image layout. f (layout_text layout)) h
with_second (Some (Run file script steps)) told P Q f h = f [] h
with_second (Some (Sim hex script steps)) told P Q f h = f [] h
with_second (Some (Why file member)) told P Q f h = f [] h
with_second (Some (Try objects)) told P Q f h =
    tries.with_try objects (λ built. P (hex_text built.image)) (λ built. Q (hex_text built.image)) (λ built. f (hex_text built.image)) h

-- a count that rose first has risen by the end, and one that rose from a later value rose from an earlier one
pub rises_on : (a b d : ℕ) → Rose a b → b ≤ d → Rose a d
rises_on a b d (inl r) le = inl (omega (arith, r, le))
rises_on a b d (inr r) le = inr (omega (arith, r, le))

pub rose_later : (a b d : ℕ) → a ≤ b → Rose b d → Rose a d
rose_later a b d le (inl h) = inl (omega (arith, le, h))
rose_later a b d le (inr h) = inr h

pub either_later : (A : Type 0) (a b d : ℕ) → b ≤ d → A ⊎ Rose a b → A ⊎ Rose a d
either_later A a b d le (inl h) = inl h
either_later A a b d le (inr h) = inr (rises_on a b d h le)

-- a form that is not built stands at the first place
pub first_of : (c : Option Command) (s : Status) (told : Option (List File)) (out note : Change) → AnswerBy c s told out note
    → (place : Place) → s ≡ Refused (NotBuilt place) → place ≡ first_place
first_of None s told out note h place e = let u = h.0 in cc
first_of (Some (Build file asked clock)) s told out note h place e = builds.first_by s told file asked clock out note h place e
first_of (Some (Run file script steps)) s told out note h place e =
    absurd (subst IsAnswerOfRun e (plays.answers_by s told file script steps out h.0))
first_of (Some (Sim hex script steps)) s told out note h place e = absurd (subst IsAnswerOfSim e (sims.answers_by s told hex script steps out h.0))
first_of (Some (Why file member)) s told out note h place e = absurd (subst IsAnswerOfWhy e (whys.answers_by s told file member out h.0))
first_of (Some (Try objects)) s told out note h place e = tries.first_by s objects out note h place e
