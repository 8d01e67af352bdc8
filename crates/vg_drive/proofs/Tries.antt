-- What an answer of `try` says: each clause of vg_build on the generated text, lifted to the status, and what was put.
use Rattle.std.proofs.Common.{◌≡◌, ℕ, ◌⊎◌, ◌↔◌, List, [], ◌++◌, Option, Some, None, Result, Ok, Err, refl, sym, ap, ◌∙◌, subst, inl, inr, append-nil}
use Rattle.std.specs.Prelude.{IfErr, IfOk, OnErr, OnOk}
use Rattle.vg_base.specs.declared.place.Place.{Place}
use Rattle.vg_base.specs.declared.refusal.Refusal.TheVariants as refusal
use Rattle.vg_io.specs.Piece.{AppendsAll, AppendsFront}
use Rattle.vg_io.specs.declared.asked.Asked.{Asked}
use Rattle.avr_isa.specs.declared.ending.MachineEnd.{MachineEnd}
use Rattle.avr_sim.specs.Run.{simulated}
use Rattle.avr_sim.proofs.Told.{appends_both, appends_front, appends_nothing}
use Rattle.vg_faults.specs.Room.{HasRoomFault}
use Rattle.vg_faults.specs.Starting.{init_steps}
use Rattle.vg_faults.specs.declared.fault.Fault.{Fault}
use Rattle.vg_faults.specs.declared.fault.Fault.TheVariants.{NotBuilt}
use Rattle.vg_gen.specs.Generated.{generated}
use Rattle.vg_gen.specs.Summary.{summary}
use Rattle.vg_hex.specs.HexText.{hex_text}
use Rattle.vg_build.specs.Answer as of_bytes
use Rattle.vg_build.specs.Answer.{Answer, Answers, HasFault, IsCause, fault_in, first_place}
use Rattle.vg_build.specs.Image.{IsBuiltOf}
use Rattle.vg_build.specs.declared.building.Built.{Built}
use Rattle.vg_build.proofs.Faults.{answered_of, first_of}
use Rattle.vg_sim.specs.Shown.{lines_of}
use Rattle.vg_status.specs.declared.status.Status.{Status}
use Rattle.vg_status.specs.declared.status.Status.TheVariants.{Refused, ReadFault, WriteFault, NoMemory}
use Rattle.vg_drive.specs.declared.trial.Trial.{Trial}
use Rattle.vg_commands.specs.Commands.{IsAnswerOfTry}
use Rattle.vg_commands.specs.Leaves.{Change, Fails, FetchedBy, GainsAll, GainsFront, IsBehindFiles, IsSame}
use Rattle.vg_drive.specs.Mirrors.{IsReady, TrialFails, TriesBy, TryBy, TryFails, TryShows}
use Rattle.vg_drive.specs.Mirrors.{lines_in, run_in}
use Rattle.vg_commands.specs.Endings.{status_of_ending}
use Rattle.vg_status.specs.Statuses.{IsBeforePuts, IsSettled, IsShown}
use Rattle.vg_drive.specs.Trials.{ForTry, trial_of, try_lines, try_steps}
use Rattle.vg_drive.proofs.Builds.{all_is_front, fault_answer, no_front, refuses}
use Rattle.vg_commands.proofs.Fetches.{nothing_fetched}
use Rattle.vg_commands.proofs.Statuses.{ending_behind_files, ending_not_before, ending_not_other, ending_of_try, refusal_behind_files, refusal_no_write, refusal_not_shown}

-- WHAT BUILD ANSWERS

-- what is said of a text is said of one that is the same
pub answers_as : (given text : List ℕ) (asked : Option ℕ) (clock : ℕ) (r : Answer) → given ≡ text → IfOk r (λ built. IsBuiltOf given asked clock built)
    → IfErr r (λ why. IsCause why given asked clock) → Answers text asked clock r
answers_as given text asked clock (Ok built) same is cause = subst (λ bytes. IsBuiltOf bytes asked clock built) same is
answers_as given text asked clock (Err why) same is cause = subst (λ bytes. IsCause why bytes asked clock) same cause

-- WHAT IS PUT

-- the summary, and behind it the lines of the run or a front of them
pub lines_all : {V E : Type 0} (r : Result V E) (a b c : Option (List ℕ)) (front lines : List ℕ) → AppendsAll a b front → OnOk r (AppendsAll b c lines)
    → OnOk r (AppendsAll a c (front ++ lines))
lines_all (Ok v) a b c front lines h k = appends_both a b c front lines h k
lines_all (Err e) a b c front lines h k = tt

pub lines_front : {V E : Type 0} (r : Result V E) (a b c : Option (List ℕ)) (front lines : List ℕ) → AppendsAll a b front → OnErr r (AppendsFront b c lines)
    → OnErr r (AppendsFront a c (front ++ lines))
lines_front (Ok v) a b c front lines h k = tt
lines_front (Err e) a b c front lines h k =
    subst (λ whole. AppendsFront a c (front ++ whole)) (append-nil lines) (appends_front a b c front lines [] h k)

-- a front of the summary alone
pub summary_front : (a b : Option (List ℕ)) (front lines : List ℕ) → AppendsFront a b front → AppendsFront a b (front ++ lines)
summary_front a b front lines h = appends_front a a b [] front lines (appends_nothing a) h

-- a put to the first sink failed, behind the HEX text
pub lines_fail : {V E : Type 0} (r : Result V E) (trial : Trial) (out note : Change) → GainsAll note trial.hex → OnErr r (GainsFront out (lines_in trial))
    → OnErr r (Fails out) → OnErr r (TrialFails trial out note)
lines_fail (Ok v) trial out note hex front fails = tt
lines_fail (Err e) trial out note hex front fails = inr (hex, front, fails)

-- THE TRIAL OF WHAT WAS BUILT

run_is : (n : ℕ) (built : Built) (trial : Trial) → IsReady n built trial → run_in trial ≡ trial_of built.image
run_is n built trial ready =
    ap (λ m. simulated m trial.script.reads trial.script.interrupts try_steps) ready.machine
    ∙ ap (λ reads. simulated built.image reads trial.script.interrupts try_steps) ready.reads
    ∙ ap (λ interrupts. simulated built.image [] interrupts try_steps) ready.interrupts

lines_are : (n : ℕ) (built : Built) (trial : Trial) → IsReady n built trial → lines_in trial ≡ try_lines n built
lines_are n built trial ready =
    ap (λ s. s ++ lines_of (run_in trial)) ready.summary
    ∙ ap (λ m. summary n built.objects built.methods built.layout.static_bytes ++ lines_of m) (run_is n built trial ready)

pub trial_shows : (n : ℕ) (built : Built) (trial : Trial) (end : Option MachineEnd) (s : Status) (out note : Change) → IsReady n built trial
    → end ≡ (run_in trial).ended → s ≡ status_of_ending end → GainsAll note trial.hex → GainsAll out (lines_in trial) → TriesBy n (Ok built) s out note
trial_shows n built trial end s out note ready ends tells hex lines =
    inr (inl (
      tells ∙ ap status_of_ending (ends ∙ ap (λ m. m.ended) (run_is n built trial ready)),
      subst (λ l. GainsAll out l) (lines_are n built trial ready) lines,
      subst (λ t. GainsAll note t) ready.hex hex,
    ))

fails_as : (n : ℕ) (built : Built) (trial : Trial) (out note : Change) → IsReady n built trial → TrialFails trial out note → TryFails n built out note
fails_as n built trial out note ready (inl h) = inl (subst (λ t. GainsFront note t) ready.hex h.0, h.1, h.2)
fails_as n built trial out note ready (inr h) =
    inr (subst (λ t. GainsAll note t) ready.hex h.0, subst (λ l. GainsFront out l) (lines_are n built trial ready) h.1, h.2)

pub trial_fails : (n : ℕ) (built : Built) (trial : Trial) (out note : Change) → IsReady n built trial → TrialFails trial out note
    → TriesBy n (Ok built) WriteFault out note
trial_fails n built trial out note ready h = inr (inr (refl, fails_as n built trial out note ready h))

-- THE ANSWER TO THE TEXT, BY THE STATUS

settled_answer : (n : ℕ) (r : Answer) (s : Status) (out note : Change) → TriesBy n r s out note → IsSettled s → of_bytes.IsSettled r
settled_answer n (Ok built) s out note h settled = tt
settled_answer n (Err (refusal.Fault why)) s out note h settled = tt
settled_answer n (Err refusal.NoMemory) s out note h settled = absurd (subst IsSettled h.0 settled)

same_fault : (p q : Fault) → Refused p ≡ Refused q → p ≡ q
same_fault p q e = cc

same_some : (p q : Fault) → Some p ≡ Some q → p ≡ q
same_some p q e = cc

not_refused : (end : Option MachineEnd) (s : Status) (why : Fault) → s ≡ status_of_ending end → s ≡ Refused why → ⊥
not_refused end s why tells e = ending_not_other end (Refused why) (λ h. h) (sym tells ∙ e)

not_failed : (end : Option MachineEnd) (s : Status) → s ≡ status_of_ending end → s ≡ WriteFault → ⊥
not_failed end s tells e = ending_not_other end WriteFault (λ h. h) (sym tells ∙ e)

-- the status names exactly the fault of the answer
refused_iff : (n : ℕ) (r : Answer) (s : Status) (out note : Change) → TriesBy n r s out note → (why : Fault) → (s ≡ Refused why) ↔ (fault_in r ≡ Some why)
refused_iff n (Ok built) s out note (inl h) why = (λ e. let d = h.0 in cc, λ k. cc)
refused_iff n (Ok built) s out note (inr (inl h)) why = (λ e. absurd (not_refused (trial_of built.image).ended s why h.0 e), λ k. cc)
refused_iff n (Ok built) s out note (inr (inr h)) why = (λ e. let d = h.0 in cc, λ k. cc)
refused_iff n (Err (refusal.Fault w)) s out note h why =
    (λ e. ap Some (same_fault w why (sym h.0 ∙ e)), λ k. h.0 ∙ ap Refused (same_some w why k))
refused_iff n (Err refusal.NoMemory) s out note h why = (λ e. let d : s ≡ NoMemory = h.0 in cc, λ k. cc)

-- all was put
shown_is : (n : ℕ) (r : Answer) (s : Status) (out note : Change) → TriesBy n r s out note → IsShown s
    → (built : Built) × (r ≡ Ok built) × TryShows n built s out note
shown_is n (Ok built) s out note (inl h) shown = absurd (subst IsShown h.0 shown)
shown_is n (Ok built) s out note (inr (inl h)) shown = (built, refl, h)
shown_is n (Ok built) s out note (inr (inr h)) shown = absurd (subst IsShown h.0 shown)
shown_is n (Err why) s out note h shown = absurd (refusal_not_shown why (subst IsShown h.0 shown))

-- WriteFault: a put failed
failed_is : (n : ℕ) (r : Answer) (s : Status) (out note : Change) → TriesBy n r s out note → s ≡ WriteFault
    → (built : Built) × (r ≡ Ok built) × TryFails n built out note
failed_is n (Ok built) s out note (inl h) e = let d = h.0 in cc
failed_is n (Ok built) s out note (inr (inl h)) e = absurd (not_failed (trial_of built.image).ended s h.0 e)
failed_is n (Ok built) s out note (inr (inr h)) e = (built, refl, h.1)
failed_is n (Err why) s out note h e = absurd (refusal_no_write why (sym h.0 ∙ e))

before_same : (n : ℕ) (r : Answer) (s : Status) (out note : Change) → TriesBy n r s out note → IsBeforePuts s → IsSame out × IsSame note
before_same n (Ok built) s out note (inl h) before = (h.1, h.2)
before_same n (Ok built) s out note (inr (inl h)) before = absurd (ending_not_before (trial_of built.image).ended (subst IsBeforePuts h.0 before))
before_same n (Ok built) s out note (inr (inr h)) before = absurd (subst IsBeforePuts h.0 before)
before_same n (Err why) s out note h before = (h.1, h.2)

pub before_by : (s : Status) (n : ℕ) (out note : Change) → TryBy s n out note → IsBeforePuts s → IsSame out × IsSame note
before_by s n out note h before = before_same n h.answer s out note h.puts before

-- WHICH ANSWERS

put_answer : (n : ℕ) (r : Answer) (s : Status) (out note : Change) → Answers (generated n) None init_steps r → TriesBy n r s out note → IsAnswerOfTry s
put_answer n (Ok built) s out note says (inl h) = subst IsAnswerOfTry (sym h.0) tt
put_answer n (Ok built) s out note says (inr (inl h)) = subst IsAnswerOfTry (sym h.0) (ending_of_try (trial_of built.image).ended)
put_answer n (Ok built) s out note says (inr (inr h)) = subst IsAnswerOfTry (sym h.0) tt
put_answer n (Err (refusal.Fault why)) s out note says h = subst IsAnswerOfTry (sym h.0) (fault_answer why (generated n) None init_steps says)
put_answer n (Err refusal.NoMemory) s out note says h = subst IsAnswerOfTry (sym h.0) tt

pub answers_by : (s : Status) (n : ℕ) (out note : Change) → TryBy s n out note → IsAnswerOfTry s
answers_by s n out note h = put_answer n h.answer s out note h.says h.puts

-- the answer of `try` tells of no file, and nothing was asked for
tries_behind_files : (n : ℕ) (r : Answer) (s : Status) (out note : Change) → TriesBy n r s out note → IsBehindFiles s
tries_behind_files n (Ok built) s out note (inl h) = subst IsBehindFiles (sym h.0) tt
tries_behind_files n (Ok built) s out note (inr (inl h)) = subst IsBehindFiles (sym h.0) (ending_behind_files (trial_of built.image).ended)
tries_behind_files n (Ok built) s out note (inr (inr h)) = subst IsBehindFiles (sym h.0) tt
tries_behind_files n (Err why) s out note h = subst IsBehindFiles (sym h.0) (refusal_behind_files why)

pub fetched_by : (s : Status) (n : ℕ) (out note : Change) → TryBy s n out note → (asked : List Asked) → FetchedBy s asked asked []
fetched_by s n out note h asked = nothing_fetched s (tries_behind_files n h.answer s out note h.puts) asked

pub never_read : (s : Status) (n : ℕ) (out note : Change) → TryBy s n out note → s ≡ ReadFault → ⊥
never_read s n out note h e = subst IsBehindFiles e (tries_behind_files n h.answer s out note h.puts)

-- REFUSALS

pub refused_by : (s : Status) (n : ℕ) (out note : Change) → TryBy s n out note → (why : Fault) → s ≡ Refused why → HasFault why (generated n) None init_steps
refused_by s n out note h why e =
    answered_of (generated n) None init_steps h.answer h.says why ((refused_iff n h.answer s out note h.puts why).0 e)

pub refuses_by : (s : Status) (n : ℕ) (out note : Change) → TryBy s n out note → IsSettled s → (why : Fault)
    → HasRoomFault why (generated n) None init_steps → s ≡ Refused why
refuses_by s n out note h settled why k =
    (refused_iff n h.answer s out note h.puts why).1
    (refuses why (generated n) None init_steps h.answer h.says (settled_answer n h.answer s out note h.puts settled) k)

pub first_by : (s : Status) (n : ℕ) (out note : Change) → TryBy s n out note → (place : Place) → s ≡ Refused (NotBuilt place) → place ≡ first_place
first_by s n out note h place e =
    first_of (generated n) None init_steps h.answer h.says place ((refused_iff n h.answer s out note h.puts (NotBuilt place)).0 e)

-- WHAT THE SINKS HOLD

built_of : (n : ℕ) (r : Answer) (built : Built) → r ≡ Ok built → Answers (generated n) None init_steps r → IsBuiltOf (generated n) None init_steps built
built_of n r built same says = subst (λ r. Answers (generated n) None init_steps r) same says

-- what holds of what was built holds of it with what follows
pub with_try : (n : ℕ) (P Q : Built → Type 0) → ((built : Built) → P built → Q built) → ForTry n P → ForTry n Q
with_try n P Q f (built, is, h) = (built, is, f built h)

pub shown_by : (s : Status) (n : ℕ) (out note : Change) → TryBy s n out note → IsShown s
    → ForTry n (λ built. (s ≡ status_of_ending (trial_of built.image).ended) × GainsAll out (try_lines n built) × GainsAll note (hex_text built.image))
shown_by s n out note h shown =
    let (built, same, shows) = shown_is n h.answer s out note h.puts shown in
    let is : IsBuiltOf (generated n) None init_steps built = built_of n h.answer built same h.says in
    (built, is, (shows.0, shows.1, subst (λ t. GainsAll note t) is.hex shows.2))

front_of : (n : ℕ) (built : Built) (out note : Change) → TryFails n built out note → GainsFront out (try_lines n built)
front_of n built out note (inl h) = no_front out.before out.after (try_lines n built) h.2
front_of n built out note (inr h) = h.1

pub front_by : (s : Status) (n : ℕ) (out note : Change) → TryBy s n out note → s ≡ WriteFault → ForTry n (λ built. GainsFront out (try_lines n built))
front_by s n out note h e =
    let (built, same, fails) = failed_is n h.answer s out note h.puts e in
    (built, built_of n h.answer built same h.says, front_of n built out note fails)

fails_of : (n : ℕ) (built : Built) (out note : Change) → TryFails n built out note → Fails out ⊎ Fails note
fails_of n built out note (inl h) = inr h.1
fails_of n built out note (inr h) = inl h.2

pub write_fault_by : (s : Status) (n : ℕ) (out note : Change) → TryBy s n out note → s ≡ WriteFault → Fails out ⊎ Fails note
write_fault_by s n out note h e =
    let (built, same, fails) = failed_is n h.answer s out note h.puts e in fails_of n built out note fails

-- the second sink
pub second_by : (s : Status) (n : ℕ) (out note : Change) → TryBy s n out note → IsShown s → ForTry n (λ built. GainsAll note (hex_text built.image))
second_by s n out note h shown =
    with_try n (λ built. (s ≡ status_of_ending (trial_of built.image).ended) × GainsAll out (try_lines n built) × GainsAll note (hex_text built.image))
    (λ built. GainsAll note (hex_text built.image)) (λ built k. k.2) (shown_by s n out note h shown)

hex_front : (n : ℕ) (built : Built) (out note : Change) → TryFails n built out note → GainsFront note built.hex
hex_front n built out note (inl h) = h.0
hex_front n built out note (inr h) = all_is_front note.before note.after built.hex h.0

pub second_front_by : (s : Status) (n : ℕ) (out note : Change) → TryBy s n out note → s ≡ WriteFault
    → ForTry n (λ built. GainsFront note (hex_text built.image))
second_front_by s n out note h e =
    let (built, same, fails) = failed_is n h.answer s out note h.puts e in
    let is : IsBuiltOf (generated n) None init_steps built = built_of n h.answer built same h.says in
    (built, is, subst (λ t. GainsFront note t) is.hex (hex_front n built out note fails))
