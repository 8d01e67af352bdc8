-- What an answer of `sim` says: each clause of vg_sim, lifted from the two texts and their answer to the two files and the status.
-- A file is missing, or the answer to the texts was given: what the status says of either is in Statuses and in the first lemmas here.
use Rattle.std.proofs.Common.{◌≡◌, ℕ, ◌≤◌, ◌<◌, ◌⊎◌, ◌↔◌, List, length, Option, Some, None, refl, sym, ap, ◌∙◌, subst, arith, inl, inr}
use Rattle.vg_base.specs.Limits.{image_text_limit}
use Rattle.vg_io.specs.declared.file.File.{File}
use Rattle.vg_fetch.specs.Told.{ForFiles}
use Rattle.vg_fetch.specs.declared.fetch.NoFile.{NoFile}
use Rattle.vg_fetch.specs.declared.fetch.NoFile.TheVariants as missing
use Rattle.avr_isa.specs.Machine.{State}
use Rattle.avr_isa.specs.declared.ending.MachineEnd.{MachineEnd}
use Rattle.avr_isa.specs.declared.ending.MachineEnd.TheVariants as machine_end
use Rattle.avr_sim.specs.Run.{simulated}
use Rattle.vg_hex.specs.HexImage.{HexImage, fault_in}
use Rattle.vg_hex.specs.declared.fault.HexFault.{HexFault}
use Rattle.vg_hex.proofs.Again.{one_image}
use Rattle.vg_script.specs.Script.{IsScript, Lists, first_bad}
use Rattle.vg_sim.specs.Refusal.{IsRefusal}
use Rattle.vg_sim.specs.Shown.{ForRun, lines_of}
use Rattle.vg_sim.specs.declared.simulate.Simulated.{Simulated}
use Rattle.vg_sim.specs.declared.simulate.Simulated.TheVariants.{Ended, WriteFault as PutFailed, HexRefused as HexFails}
use Rattle.vg_sim.specs.declared.simulate.Simulated.TheVariants.{ScriptRefused as ScriptFails, NoMemory as Wanting}
use Rattle.vg_status.specs.declared.status.Status.{Status}
use Rattle.vg_status.specs.declared.status.Status.TheVariants.{ReadFault, WriteFault, NoMemory, HexRefused, ScriptRefused}
use Rattle.vg_commands.specs.Texts.{ForTexts}
use Rattle.vg_commands.specs.Commands.{IsAnswerOfSim}
use Rattle.vg_commands.specs.Leaves.{Change, Fails, GainsAll, GainsFront, IsBehindFiles, IsLong, IsSame, SimBy, Simulates}
use Rattle.vg_commands.specs.Endings.{status_of_ending, status_of_simulated, status_without_file}
use Rattle.vg_status.specs.Statuses.{IsBeforePuts, IsSettled, IsShown}
use Rattle.vg_commands.proofs.Files.{of_files, of_texts}
use Rattle.vg_commands.proofs.Statuses.{ending_not_before, ending_not_other, missing_no_write, missing_not_shown, missing_of_sim, missing_unsettled}

-- what the clauses of a simulation say together
pub simulates : (answer : Simulated) (hex script : List ℕ) (steps : ℕ) (out : Change)
    → ((end : Option MachineEnd) → answer ≡ Ended end → ForRun hex script steps (λ m. (end ≡ m.ended) × GainsAll out (lines_of m)))
    → (answer ≡ PutFailed → ForRun hex script steps (λ m. GainsFront out (lines_of m))) → (answer ≡ PutFailed → Fails out)
    → ((fault : HexFault) → answer ≡ HexFails fault → fault_in hex ≡ Some fault)
    → ((line : ℕ) → answer ≡ ScriptFails line → (fault_in hex ≡ None) × (first_bad script ≡ Some line)) → (IsRefusal answer → IsSame out)
    → Simulates answer hex script steps out
simulates (Ended end) hex script steps out ended failed cause spelled scripted nothing = ended end refl
simulates PutFailed hex script steps out ended failed cause spelled scripted nothing = (failed refl, cause refl)
simulates (HexFails fault) hex script steps out ended failed cause spelled scripted nothing = (spelled fault refl, nothing tt)
simulates (ScriptFails line) hex script steps out ended failed cause spelled scripted nothing = (scripted line refl, nothing tt)
simulates Wanting hex script steps out ended failed cause spelled scripted nothing = nothing tt

pub as_given : (answer : Simulated) (a b c d : List ℕ) (steps : ℕ) (out : Change) → c ≡ a → d ≡ b → Simulates answer c d steps out
    → Simulates answer a b steps out
as_given answer a b c d steps out e f h = subst (λ u. Simulates answer u b steps out) e (subst (λ v. Simulates answer c v steps out) f h)

-- THE ANSWER TO THE TEXTS, BY THE STATUS

pub simulated_behind_files : (answer : Simulated) → IsBehindFiles (status_of_simulated answer)
simulated_behind_files (Ended None) = tt
simulated_behind_files (Ended (Some machine_end.Idle)) = tt
simulated_behind_files (Ended (Some (machine_end.Stop code))) = tt
simulated_behind_files (Ended (Some (machine_end.Wants address))) = tt
simulated_behind_files (Ended (Some (machine_end.Bad pc word))) = tt
simulated_behind_files PutFailed = tt
simulated_behind_files (HexFails fault) = tt
simulated_behind_files (ScriptFails line) = tt
simulated_behind_files Wanting = tt

simulated_answer : (answer : Simulated) → IsAnswerOfSim (status_of_simulated answer)
simulated_answer (Ended None) = tt
simulated_answer (Ended (Some machine_end.Idle)) = tt
simulated_answer (Ended (Some (machine_end.Stop code))) = tt
simulated_answer (Ended (Some (machine_end.Wants address))) = tt
simulated_answer (Ended (Some (machine_end.Bad pc word))) = tt
simulated_answer PutFailed = tt
simulated_answer (HexFails fault) = tt
simulated_answer (ScriptFails line) = tt
simulated_answer Wanting = tt

-- all was put: the machine has ended, or its budget is spent
ended_is : (answer : Simulated) → IsShown (status_of_simulated answer) → (end : Option MachineEnd) × (answer ≡ Ended end)
ended_is (Ended end) shown = (end, refl)
ended_is PutFailed shown = absurd shown
ended_is (HexFails fault) shown = absurd shown
ended_is (ScriptFails line) shown = absurd shown
ended_is Wanting shown = absurd shown

failed_is : (answer : Simulated) → status_of_simulated answer ≡ WriteFault → answer ≡ PutFailed
failed_is (Ended end) e = absurd (ending_not_other end WriteFault (λ h. h) e)
failed_is PutFailed e = refl
failed_is (HexFails fault) e = cc
failed_is (ScriptFails line) e = cc
failed_is Wanting e = cc

-- WHAT IS SHOWN

-- a run with what holds of it
run_with : (hex script : List ℕ) (steps : ℕ) (P Q : State → Type 0) → ((m : State) → P m → Q m) → ForRun hex script steps P → ForRun hex script steps Q
run_with hex script steps P Q f run =
    record { image = run.image; spelled = run.spelled; lists = run.lists; scripted = run.scripted; holds = f _ run.holds }

abbrev Shows : Status → Change → State → Type 0
Shows s out m = (s ≡ status_of_ending m.ended) × GainsAll out (lines_of m)

pub shown_by : (s : Status) (told : Option (List File)) (hex script : List ℕ) (steps : ℕ) (out : Change) → SimBy s told hex script steps out → IsShown s
    → ForTexts told hex script (λ h t. ForRun h t steps (Shows s out))
shown_by s told hex script steps out (inl h) shown = absurd (missing_not_shown h.reason (subst IsShown h.tells shown))
shown_by s told hex script steps out (inr h) shown =
    let (end, is) = ended_is h.answer (subst IsShown h.tells shown) in
    let run = subst (λ a. Simulates a h.image_text h.script_text steps out) is h.says in
    let tells : s ≡ status_of_ending end = h.tells ∙ ap status_of_simulated is in
    of_texts told hex script h.image_text h.script_text (λ x y. ForRun x y steps (Shows s out)) h.whole
    (run_with h.image_text h.script_text steps _ (Shows s out) (λ m k. (tells ∙ ap status_of_ending k.0, k.1)) run)

pub lines_front_by : (s : Status) (told : Option (List File)) (hex script : List ℕ) (steps : ℕ) (out : Change) → SimBy s told hex script steps out
    → s ≡ WriteFault → ForTexts told hex script (λ h t. ForRun h t steps (λ m. GainsFront out (lines_of m)))
lines_front_by s told hex script steps out (inl h) e = absurd (missing_no_write h.reason (sym h.tells ∙ e))
lines_front_by s told hex script steps out (inr h) e =
    let is = failed_is h.answer (sym h.tells ∙ e) in
    of_texts told hex script h.image_text h.script_text (λ x y. ForRun x y steps (λ m. GainsFront out (lines_of m))) h.whole
    (subst (λ a. Simulates a h.image_text h.script_text steps out) is h.says).0

pub write_fault_by : (s : Status) (told : Option (List File)) (hex script : List ℕ) (steps : ℕ) (out : Change) → SimBy s told hex script steps out
    → s ≡ WriteFault → Fails out
write_fault_by s told hex script steps out (inl h) e = absurd (missing_no_write h.reason (sym h.tells ∙ e))
write_fault_by s told hex script steps out (inr h) e =
    (subst (λ a. Simulates a h.image_text h.script_text steps out) (failed_is h.answer (sym h.tells ∙ e)) h.says).1

before_same : (answer : Simulated) (hex script : List ℕ) (steps : ℕ) (out : Change) → Simulates answer hex script steps out
    → IsBeforePuts (status_of_simulated answer) → IsSame out
before_same (Ended end) hex script steps out says before = absurd (ending_not_before end before)
before_same PutFailed hex script steps out says before = absurd before
before_same (HexFails fault) hex script steps out says before = says.1
before_same (ScriptFails line) hex script steps out says before = says.1
before_same Wanting hex script steps out says before = says

pub before_by : (s : Status) (told : Option (List File)) (hex script : List ℕ) (steps : ℕ) (out : Change) → SimBy s told hex script steps out
    → IsBeforePuts s → IsSame out
before_by s told hex script steps out (inl h) before = h.out_same
before_by s told hex script steps out (inr h) before =
    before_same h.answer h.image_text h.script_text steps out h.says (subst IsBeforePuts h.tells before)

pub answers_by : (s : Status) (told : Option (List File)) (hex script : List ℕ) (steps : ℕ) (out : Change) → SimBy s told hex script steps out → IsAnswerOfSim s
answers_by s told hex script steps out (inl h) = subst IsAnswerOfSim (sym h.tells) (missing_of_sim h.reason)
answers_by s told hex script steps out (inr h) = subst IsAnswerOfSim (sym h.tells) (simulated_answer h.answer)

-- REFUSALS

same_fault : (p q : HexFault) → HexRefused p ≡ HexRefused q → p ≡ q
same_fault p q e = cc

same_line : (p q : ℕ) → ScriptRefused p ≡ ScriptRefused q → p ≡ q
same_line p q e = cc

some_fault : (p q : HexFault) → Some p ≡ Some q → p ≡ q
some_fault p q e = cc

some_line : (p q : ℕ) → Some p ≡ Some q → p ≡ q
some_line p q e = cc

-- a text that spells an image has no fault
no_hex_fault : (P : State → Type 0) (hex script : List ℕ) (steps : ℕ) → ForRun hex script steps P → (why : HexFault) → fault_in hex ≡ Some why → ⊥
no_hex_fault P hex script steps run why e = let f = run.spelled.faultless in cc

no_bad_line : (P : State → Type 0) (hex script : List ℕ) (steps : ℕ) → ForRun hex script steps P → (line : ℕ) → first_bad script ≡ Some line → ⊥
no_bad_line P hex script steps run line e = let g = run.scripted.good in cc

-- exactly the first fault of the HEX text is named
hex_fault_iff : (answer : Simulated) (hex script : List ℕ) (steps : ℕ) (out : Change) → Simulates answer hex script steps out
    → IsSettled (status_of_simulated answer) → (why : HexFault) → (status_of_simulated answer ≡ HexRefused why) ↔ (fault_in hex ≡ Some why)
hex_fault_iff (Ended end) hex script steps out says settled why =
    (λ e. absurd (ending_not_other end (HexRefused why) (λ h. h) e), λ k. absurd (no_hex_fault _ hex script steps says why k))
hex_fault_iff PutFailed hex script steps out says settled why = (λ e. cc, λ k. absurd (no_hex_fault _ hex script steps says.0 why k))
hex_fault_iff (HexFails fault) hex script steps out says settled why =
    (λ e. says.0 ∙ ap Some (same_fault fault why e), λ k. ap HexRefused (some_fault fault why (sym says.0 ∙ k)))
hex_fault_iff (ScriptFails line) hex script steps out says settled why = (λ e. cc, λ k. let f = says.0.0 in cc)
hex_fault_iff Wanting hex script steps out says settled why = absurd settled

-- exactly the first bad line of the script is named, where the HEX text has no fault
bad_line_iff : (answer : Simulated) (hex script : List ℕ) (steps : ℕ) (out : Change) → Simulates answer hex script steps out
    → IsSettled (status_of_simulated answer) → (line : ℕ) → (status_of_simulated answer ≡ ScriptRefused line) ↔
    ((fault_in hex ≡ None) × (first_bad script ≡ Some line))
bad_line_iff (Ended end) hex script steps out says settled line =
    (λ e. absurd (ending_not_other end (ScriptRefused line) (λ h. h) e), λ k. absurd (no_bad_line _ hex script steps says line k.1))
bad_line_iff PutFailed hex script steps out says settled line = (λ e. cc, λ k. absurd (no_bad_line _ hex script steps says.0 line k.1))
bad_line_iff (HexFails fault) hex script steps out says settled line = (λ e. cc, λ k. let f = says.0 in let g = k.0 in cc)
bad_line_iff (ScriptFails n) hex script steps out says settled line =
    (λ e. (says.0.0, says.0.1 ∙ ap Some (same_line n line e)), λ k. ap ScriptRefused (some_line n line (sym says.0.1 ∙ k.1)))
bad_line_iff Wanting hex script steps out says settled line = absurd settled

-- what is said of the status of an answer is said of the status
told_as : (s : Status) (answer : Simulated) (t : Status) (X : Type 0) → s ≡ status_of_simulated answer → (status_of_simulated answer ≡ t) ↔ X → (s ≡ t) ↔ X
told_as s answer t X tells f = (λ e. f.0 (sym tells ∙ e), λ x. tells ∙ f.1 x)

pub hex_refused_by : (s : Status) (told : Option (List File)) (hex script : List ℕ) (steps : ℕ) (out : Change) → SimBy s told hex script steps out
    → IsSettled s → ForFiles told hex script (λ h t. (why : HexFault) → (s ≡ HexRefused why) ↔ (fault_in h ≡ Some why))
hex_refused_by s told hex script steps out (inl h) settled = absurd (missing_unsettled h.reason (subst IsSettled h.tells settled))
hex_refused_by s told hex script steps out (inr h) settled =
    of_files told hex script h.image_text h.script_text (λ x y. (why : HexFault) → (s ≡ HexRefused why) ↔ (fault_in x ≡ Some why)) h.whole
    (λ why. told_as s h.answer (HexRefused why) _ h.tells
    (hex_fault_iff h.answer h.image_text h.script_text steps out h.says (subst IsSettled h.tells settled) why))

pub script_refused_by : (s : Status) (told : Option (List File)) (hex script : List ℕ) (steps : ℕ) (out : Change) → SimBy s told hex script steps out
    → IsSettled s → ForFiles told hex script (λ h t. (line : ℕ) → (s ≡ ScriptRefused line) ↔ ((fault_in h ≡ None) × (first_bad t ≡ Some line)))
script_refused_by s told hex script steps out (inl h) settled = absurd (missing_unsettled h.reason (subst IsSettled h.tells settled))
script_refused_by s told hex script steps out (inr h) settled =
    of_files told hex script h.image_text h.script_text
    (λ x y. (line : ℕ) → (s ≡ ScriptRefused line) ↔ ((fault_in x ≡ None) × (first_bad y ≡ Some line))) h.whole
    (λ line. told_as s h.answer (ScriptRefused line) _ h.tells
    (bad_line_iff h.answer h.image_text h.script_text steps out h.says (subst IsSettled h.tells settled) line))

-- COMPLETENESS

-- a script has one pair of lists
pub one_lists : (script : List ℕ) (a b : Lists) → IsScript script a → IsScript script b → a ≡ b
one_lists script a b h k =
    let r : a.reads ≡ b.reads = h.reads ∙ sym k.reads in
    let i : a.interrupts ≡ b.interrupts = h.interrupts ∙ sym k.interrupts in
    ap (λ x. record { reads = x; interrupts = a.interrupts }) r ∙ ap (λ x. record { reads = b.reads; interrupts = x }) i

-- the run of two texts is that of their image and lists
that_run : (hex script image : List ℕ) (lists : Lists) (steps : ℕ) (end : Option MachineEnd) (Q : State → Type 0) → HexImage hex image → IsScript script lists
    → ForRun hex script steps (λ m. (end ≡ m.ended) × Q m) → end ≡ (simulated image lists.reads lists.interrupts steps).ended
that_run hex script image lists steps end Q spelled scripted run =
    let i = one_image hex run.image image run.spelled spelled in
    let l = one_lists script run.lists lists run.scripted scripted in
    run.holds.0 ∙ ap (λ x. (simulated x run.lists.reads run.lists.interrupts steps).ended) i
    ∙ ap (λ x. (simulated image x.reads x.interrupts steps).ended) l

-- the answer that a text that spells an image and a script have, or why they have another
abbrev Completes : Status → (hex script : List ℕ) → (steps : ℕ) → (rest : Type 0) → Type 0
Completes s hex script steps rest =
    (image : List ℕ) (lists : Lists) → HexImage hex image → IsScript script lists → length hex ≤ image_text_limit → length script ≤ image_text_limit
    → ((s ≡ status_of_ending (simulated image lists.reads lists.interrupts steps).ended) ⊎ (s ≡ NoMemory)) ⊎ rest

answer_completes : (answer : Simulated) (hex script : List ℕ) (steps : ℕ) (out : Change) (shelf : Type 0) → Simulates answer hex script steps out
    → Completes (status_of_simulated answer) hex script steps (shelf ⊎ Fails out)
answer_completes (Ended end) hex script steps out shelf says =
    λ image lists spelled scripted _ _. inl (inl (ap status_of_ending (that_run hex script image lists steps end _ spelled scripted says)))
answer_completes PutFailed hex script steps out shelf says = λ image lists spelled scripted _ _. inr (inr says.1)
answer_completes (HexFails fault) hex script steps out shelf says =
    λ image lists spelled scripted _ _. let f = spelled.faultless in let g = says.0 in cc
answer_completes (ScriptFails line) hex script steps out shelf says =
    λ image lists spelled scripted _ _. let f = scripted.good in let g = says.0.1 in cc
answer_completes Wanting hex script steps out shelf says = λ image lists spelled scripted _ _. inl (inr refl)

both_short : (a b : ℕ) → (image_text_limit < a) ⊎ (image_text_limit < b) → a ≤ image_text_limit → b ≤ image_text_limit → ⊥
both_short a b (inl h) p q = omega (arith, h, p)
both_short a b (inr h) p q = omega (arith, h, q)

pub missing_completes : (reason : NoFile) (s : Status) (long shelf : Type 0) → s ≡ status_without_file reason → (reason ≡ missing.Long → long)
    → (s ≡ ReadFault → shelf) → (s ≡ NoMemory) ⊎ (shelf ⊎ long)
missing_completes missing.Failed s long shelf tells too_long read = inr (inl (read tells))
missing_completes missing.Wanting s long shelf tells too_long read = inl tells
missing_completes missing.Long s long shelf tells too_long read = inr (inr (too_long refl))

unless_long : (told : Option (List File)) (hex script : List ℕ) (s : Status) (steps : ℕ) (shelf out : Type 0)
    → (s ≡ NoMemory) ⊎ (shelf ⊎ IsLong told hex script)
    → ForFiles told hex script (λ h t. Completes s h t steps (shelf ⊎ out))
unless_long None hex script s steps shelf out h = tt
unless_long (Some files) hex script s steps shelf out (inl e) = λ image lists spelled scripted p q. inl (inr e)
unless_long (Some files) hex script s steps shelf out (inr (inl r)) = λ image lists spelled scripted p q. inr (inl r)
unless_long (Some files) hex script s steps shelf out (inr (inr long)) = λ image lists spelled scripted p q. absurd (both_short _ _ long p q)

pub complete_by : (s : Status) (told : Option (List File)) (hex script : List ℕ) (steps : ℕ) (out : Change) (shelf : Type 0) → SimBy s told hex script steps out
    → (s ≡ ReadFault → shelf) → ForFiles told hex script (λ h t. Completes s h t steps (shelf ⊎ Fails out))
complete_by s told hex script steps out shelf (inl h) read =
    unless_long told hex script s steps shelf (Fails out) (missing_completes h.reason s _ shelf h.tells h.too_long read)
complete_by s told hex script steps out shelf (inr h) read =
    of_files told hex script h.image_text h.script_text (λ x y. Completes s x y steps (shelf ⊎ Fails out)) h.whole
    (subst (λ t. Completes t h.image_text h.script_text steps (shelf ⊎ Fails out)) (sym h.tells)
    (answer_completes h.answer h.image_text h.script_text steps out shelf h.says))
