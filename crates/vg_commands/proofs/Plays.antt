-- What an answer of `run` says: vg_run's contract, lifted from the two texts and their answer to the two files and the status.
-- A file is missing, or the answer to the texts was given: what the status says of either is in Statuses and in the first lemmas here.
use Rattle.std.proofs.Common.{◌≡◌, ℕ, ◌≤◌, ◌<◌, ◌⊎◌, ◌↔◌, List, length, Option, Some, None, refl, sym, ap, ◌∙◌, subst, arith, inl, inr}
use Rattle.std.specs.Option.{option_map}
use Rattle.vg_base.specs.Limits.{image_text_limit, text_limit}
use Rattle.vg_io.specs.declared.file.File.{File}
use Rattle.vg_fetch.specs.Told.{ForFile, ForFiles}
use Rattle.vg_syntax.specs.Tree.{Node}
use Rattle.vg_source.specs.Values.{Heap}
use Rattle.vg_source.specs.Program.{source_of}
use Rattle.vg_source.specs.Session.{Session, Started, session, started}
use Rattle.vg_script.specs.Script.{IsScript, Lists, first_bad}
use Rattle.avr_sim.specs.Run.{trace_lines}
use Rattle.vg_faults.specs.declared.fault.Fault.{Fault}
use Rattle.vg_faults.specs.declared.fault.Fault.TheVariants.{NoTree, TooDeep, TooMany, Broken, InitTrap, InitSteps, InitDepth, InitTouches, InitTooBig, Allocates, StaticFull, TableFull}
use Rattle.vg_faults.specs.declared.fault.Fault.TheVariants.{StackFull, CodeFull, NoMember, NotBuilt}
use Rattle.vg_faults.specs.Judged.{IsLegal}
use Rattle.vg_faults.specs.Starting.{StartsIn, init_steps}
use Rattle.vg_faults.specs.Faults.{HasFault}
use Rattle.vg_faults.proofs.Once.{no_start_fault, one_fault, one_legal}
use Rattle.vg_run.specs.Shown.{ForSession, ending_in, lines_of}
use Rattle.vg_run.specs.Answer.{Plays}
use Rattle.vg_run.specs.declared.playing.RunEnd.{RunEnd}
use Rattle.vg_run.specs.declared.playing.RunEnd.TheVariants as run_end
use Rattle.vg_run.specs.declared.playing.Played.{Played}
use Rattle.vg_run.specs.declared.playing.Played.TheVariants as played
use Rattle.vg_status.specs.declared.status.Status.{Status}
use Rattle.vg_status.specs.declared.status.Status.TheVariants.{ReadFault, Refused, WriteFault, NoMemory, ScriptRefused}
use Rattle.vg_commands.specs.Texts.{ForTexts}
use Rattle.vg_commands.specs.Commands.{IsAnswerOfRun}
use Rattle.vg_commands.specs.Leaves.{Change, Fails, GainsAll, GainsFront, IsBehindFiles, IsLongRun, IsSame, PlayBy}
use Rattle.vg_commands.specs.Endings.{status_of_end, status_of_played}
use Rattle.vg_status.specs.Statuses.{IsBeforeLines, IsSettled, IsShown}
use Rattle.vg_commands.proofs.Files.{of_files, of_first, of_texts}
use Rattle.vg_commands.proofs.Sims.{missing_completes, one_lists}
use Rattle.vg_commands.proofs.Statuses.{missing_no_write, missing_not_shown, missing_of_run, missing_unsettled}

pub as_given : (answer : Played) (a b c d : List ℕ) (steps : ℕ) (before now : Option (List ℕ)) → c ≡ a → d ≡ b → Plays answer c d steps before now
    → Plays answer a b steps before now
as_given answer a b c d steps before now e f h =
    subst (λ u. Plays answer u b steps before now) e (subst (λ v. Plays answer c v steps before now) f h)

-- THE ANSWER TO THE TEXTS, BY THE STATUS

pub played_behind_files : (answer : Played) → IsBehindFiles (status_of_played answer)
played_behind_files (played.Ended run_end.Idle) = tt
played_behind_files (played.Ended (run_end.Stop code)) = tt
played_behind_files (played.Ended (run_end.Wants address)) = tt
played_behind_files (played.Ended run_end.Budget) = tt
played_behind_files (played.Ended run_end.Depth) = tt
played_behind_files played.WriteFault = tt
played_behind_files (played.Refused why) = tt
played_behind_files (played.ScriptRefused line) = tt
played_behind_files played.NoMemory = tt

-- an ending has a status of its own
end_not_other : (end : RunEnd) (s : Status) → (IsShown s → ⊥) → status_of_end (ending_in end) ≡ s → ⊥
end_not_other run_end.Idle s other e = other (subst IsShown e tt)
end_not_other (run_end.Stop code) s other e = other (subst IsShown e tt)
end_not_other (run_end.Wants address) s other e = other (subst IsShown e tt)
end_not_other run_end.Budget s other e = other (subst IsShown e tt)
end_not_other run_end.Depth s other e = other (subst IsShown e tt)

end_answer : (end : RunEnd) → IsAnswerOfRun (status_of_end (ending_in end))
end_answer run_end.Idle = tt
end_answer (run_end.Stop code) = tt
end_answer (run_end.Wants address) = tt
end_answer run_end.Budget = tt
end_answer run_end.Depth = tt

end_not_before : (end : RunEnd) → IsBeforeLines (status_of_end (ending_in end)) → ⊥
end_not_before run_end.Idle h = h
end_not_before (run_end.Stop code) h = h
end_not_before (run_end.Wants address) h = h
end_not_before run_end.Budget h = h
end_not_before run_end.Depth h = h

-- what is not built is no fault of a text
fault_answer : (why : Fault) (bytes : List ℕ) → HasFault why bytes init_steps → IsAnswerOfRun (Refused why)
fault_answer (NoTree p) bytes h = tt
fault_answer (TooDeep p) bytes h = tt
fault_answer (TooMany what limit p) bytes h = tt
fault_answer (Broken rule p) bytes h = tt
fault_answer (InitTrap code p) bytes h = tt
fault_answer InitSteps bytes h = tt
fault_answer InitDepth bytes h = tt
fault_answer (InitTouches address) bytes h = tt
fault_answer InitTooBig bytes h = tt
fault_answer (Allocates p line) bytes h = h
fault_answer (StaticFull need) bytes h = h
fault_answer (TableFull need) bytes h = h
fault_answer (StackFull need left) bytes h = h
fault_answer (CodeFull words) bytes h = h
fault_answer NoMember bytes h = h
fault_answer (NotBuilt p) bytes h = h

played_answer : (answer : Played) (text script : List ℕ) (steps : ℕ) (a b : Option (List ℕ)) → Plays answer text script steps a b
    → IsAnswerOfRun (status_of_played answer)
played_answer (played.Ended end) text script steps a b says = end_answer end
played_answer played.WriteFault text script steps a b says = tt
played_answer (played.Refused why) text script steps a b says = fault_answer why text says.0
played_answer (played.ScriptRefused line) text script steps a b says = tt
played_answer played.NoMemory text script steps a b says = tt

ended_is : (answer : Played) → IsShown (status_of_played answer) → (end : RunEnd) × (answer ≡ played.Ended end)
ended_is (played.Ended end) shown = (end, refl)
ended_is played.WriteFault shown = absurd shown
ended_is (played.Refused why) shown = absurd shown
ended_is (played.ScriptRefused line) shown = absurd shown
ended_is played.NoMemory shown = absurd shown

failed_is : (answer : Played) → status_of_played answer ≡ WriteFault → answer ≡ played.WriteFault
failed_is (played.Ended end) e = absurd (end_not_other end WriteFault (λ h. h) e)
failed_is played.WriteFault e = refl
failed_is (played.Refused why) e = cc
failed_is (played.ScriptRefused line) e = cc
failed_is played.NoMemory e = cc

wanting_is : (answer : Played) → status_of_played answer ≡ NoMemory → answer ≡ played.NoMemory
wanting_is (played.Ended end) e = absurd (end_not_other end NoMemory (λ h. h) e)
wanting_is played.WriteFault e = cc
wanting_is (played.Refused why) e = cc
wanting_is (played.ScriptRefused line) e = cc
wanting_is played.NoMemory e = refl

-- WHAT IS SHOWN

-- a session with what holds of it
session_with : (text script : List ℕ) (steps : ℕ) (P Q : Session → Type 0) → ((x : Session) → P x → Q x) → ForSession text script steps P
    → ForSession text script steps Q
session_with text script steps P Q f run =
    record { tree = run.tree; legal = run.legal; heap = run.heap; starts = run.starts; lists = run.lists; scripted = run.scripted; holds = f _ run.holds }

abbrev Shows : Status → Change → Session → Type 0
Shows s out x = (option_map status_of_end x.ending ≡ Some s) × GainsAll out (lines_of x)

pub played_by : (s : Status) (told : Option (List File)) (file script : List ℕ) (steps : ℕ) (out : Change) → PlayBy s told file script steps out → IsShown s
    → ForTexts told file script (λ t u. ForSession t u steps (Shows s out))
played_by s told file script steps out (inl h) shown = absurd (missing_not_shown h.reason (subst IsShown h.tells shown))
played_by s told file script steps out (inr h) shown =
    let (end, is) = ended_is h.answer (subst IsShown h.tells shown) in
    let run = subst (λ a. Plays a h.text h.script_text steps out.before out.after) is h.says in
    let tells : status_of_end (ending_in end) ≡ s = sym (h.tells ∙ ap status_of_played is) in
    of_texts told file script h.text h.script_text (λ x y. ForSession x y steps (Shows s out)) h.whole
    (session_with h.text h.script_text steps _ (Shows s out) (λ x k. (ap (option_map status_of_end) k.0 ∙ ap Some tells, k.1)) run)

pub front_by : (s : Status) (told : Option (List File)) (file script : List ℕ) (steps : ℕ) (out : Change) → PlayBy s told file script steps out
    → s ≡ WriteFault → ForTexts told file script (λ t u. ForSession t u steps (λ x. GainsFront out (lines_of x)))
front_by s told file script steps out (inl h) e = absurd (missing_no_write h.reason (sym h.tells ∙ e))
front_by s told file script steps out (inr h) e =
    of_texts told file script h.text h.script_text (λ x y. ForSession x y steps (λ m. GainsFront out (lines_of m))) h.whole
    (subst (λ a. Plays a h.text h.script_text steps out.before out.after) (failed_is h.answer (sym h.tells ∙ e)) h.says)

abbrev Traced : Change → Session → Type 0
Traced out x = GainsFront out (trace_lines x.trace)

traced : (told : Option (List File)) (file script text script_text : List ℕ) (steps : ℕ) (out : Change)
    → ForFiles told file script (λ x y. (x ≡ text) × (y ≡ script_text)) → IsSame out ⊎ ForSession text script_text steps (Traced out)
    → IsSame out ⊎ ForTexts told file script (λ t u. ForSession t u steps (Traced out))
traced told file script text script_text steps out whole (inl same) = inl same
traced told file script text script_text steps out whole (inr run) =
    inr (of_texts told file script text script_text (λ t u. ForSession t u steps (Traced out)) whole run)

pub trace_by : (s : Status) (told : Option (List File)) (file script : List ℕ) (steps : ℕ) (out : Change) → PlayBy s told file script steps out
    → s ≡ NoMemory → IsSame out ⊎ ForTexts told file script (λ t u. ForSession t u steps (Traced out))
trace_by s told file script steps out (inl h) e = inl h.out_same
trace_by s told file script steps out (inr h) e =
    traced told file script h.text h.script_text steps out h.whole
    (subst (λ a. Plays a h.text h.script_text steps out.before out.after) (wanting_is h.answer (sym h.tells ∙ e)) h.says)

pub write_fault_by : (s : Status) (told : Option (List File)) (file script : List ℕ) (steps : ℕ) (out : Change) → PlayBy s told file script steps out
    → s ≡ WriteFault → Fails out
write_fault_by s told file script steps out (inl h) e = absurd (missing_no_write h.reason (sym h.tells ∙ e))
write_fault_by s told file script steps out (inr h) e = h.cause (failed_is h.answer (sym h.tells ∙ e))

before_same : (answer : Played) (text script : List ℕ) (steps : ℕ) (out : Change) → Plays answer text script steps out.before out.after
    → IsBeforeLines (status_of_played answer) → IsSame out
before_same (played.Ended end) text script steps out says before = absurd (end_not_before end before)
before_same played.WriteFault text script steps out says before = absurd before
before_same (played.Refused why) text script steps out (fault, same) before = same
before_same (played.ScriptRefused line) text script steps out (starts, bad, same) before = same
before_same played.NoMemory text script steps out says before = absurd before

pub before_by : (s : Status) (told : Option (List File)) (file script : List ℕ) (steps : ℕ) (out : Change) → PlayBy s told file script steps out
    → IsBeforeLines s → IsSame out
before_by s told file script steps out (inl h) before = h.out_same
before_by s told file script steps out (inr h) before =
    before_same h.answer h.text h.script_text steps out h.says (subst IsBeforeLines h.tells before)

pub answers_by : (s : Status) (told : Option (List File)) (file script : List ℕ) (steps : ℕ) (out : Change) → PlayBy s told file script steps out
    → IsAnswerOfRun s
answers_by s told file script steps out (inl h) = subst IsAnswerOfRun (sym h.tells) (missing_of_run h.reason)
answers_by s told file script steps out (inr h) =
    subst IsAnswerOfRun (sym h.tells) (played_answer h.answer h.text h.script_text steps out.before out.after h.says)

-- REFUSALS

same_fault : (p q : Fault) → Refused p ≡ Refused q → p ≡ q
same_fault p q e = cc

same_line : (p q : ℕ) → ScriptRefused p ≡ ScriptRefused q → p ≡ q
same_line p q e = cc

some_line : (p q : ℕ) → Some p ≡ Some q → p ≡ q
some_line p q e = cc

-- a text that was run is one that starts, and its script has no bad line
run_starts : (P : Session → Type 0) (text script : List ℕ) (steps : ℕ) → ForSession text script steps P → StartsIn text init_steps
run_starts P text script steps run = (run.tree, run.legal, run.heap, run.starts)

no_bad_line : (P : Session → Type 0) (text script : List ℕ) (steps : ℕ) → ForSession text script steps P → (line : ℕ) → first_bad script ≡ Some line → ⊥
no_bad_line P text script steps run line e = let g = run.scripted.good in cc

-- exactly the fault of the text is named
fault_iff : (answer : Played) (text script : List ℕ) (steps : ℕ) (a b : Option (List ℕ)) → Plays answer text script steps a b
    → IsSettled (status_of_played answer) → (why : Fault) → (status_of_played answer ≡ Refused why) ↔ HasFault why text init_steps
fault_iff (played.Ended end) text script steps a b says settled why =
    (λ e. absurd (end_not_other end (Refused why) (λ h. h) e), λ k. absurd (no_start_fault text init_steps why (run_starts _ text script steps says) k))
fault_iff played.WriteFault text script steps a b says settled why =
    (λ e. cc, λ k. absurd (no_start_fault text init_steps why (run_starts _ text script steps says) k))
fault_iff (played.Refused w) text script steps a b says settled why =
    (λ e. subst (λ x. HasFault x text init_steps) (same_fault w why e) says.0, λ k. ap Refused (one_fault text init_steps w why says.0 k))
fault_iff (played.ScriptRefused line) text script steps a b (starts, bad, same) settled why =
    (λ e. cc, λ k. absurd (no_start_fault text init_steps why starts k))
fault_iff played.NoMemory text script steps a b says settled why = absurd settled

-- exactly the first bad line of the script is named, where the text starts
line_iff : (answer : Played) (text script : List ℕ) (steps : ℕ) (a b : Option (List ℕ)) → Plays answer text script steps a b
    → IsSettled (status_of_played answer) → (line : ℕ)
    → (status_of_played answer ≡ ScriptRefused line) ↔ (StartsIn text init_steps × (first_bad script ≡ Some line))
line_iff (played.Ended end) text script steps a b says settled line =
    (λ e. absurd (end_not_other end (ScriptRefused line) (λ h. h) e), λ k. absurd (no_bad_line _ text script steps says line k.1))
line_iff played.WriteFault text script steps a b says settled line = (λ e. cc, λ k. absurd (no_bad_line _ text script steps says line k.1))
line_iff (played.Refused w) text script steps a b says settled line = (λ e. cc, λ k. absurd (no_start_fault text init_steps w k.0 says.0))
line_iff (played.ScriptRefused n) text script steps a b (starts, bad, same) settled line =
    (λ e. (starts, bad ∙ ap Some (same_line n line e)), λ k. ap ScriptRefused (some_line n line (sym bad ∙ k.1)))
line_iff played.NoMemory text script steps a b says settled line = absurd settled

-- what is said of the status of an answer is said of the status
told_as : (s : Status) (answer : Played) (t : Status) (X : Type 0) → s ≡ status_of_played answer → (status_of_played answer ≡ t) ↔ X → (s ≡ t) ↔ X
told_as s answer t X tells f = (λ e. f.0 (sym tells ∙ e), λ x. tells ∙ f.1 x)

pub exactly_by : (s : Status) (told : Option (List File)) (file script : List ℕ) (steps : ℕ) (out : Change) → PlayBy s told file script steps out
    → IsSettled s → ForFile told file (λ bytes. (why : Fault) → (s ≡ Refused why) ↔ HasFault why bytes init_steps)
exactly_by s told file script steps out (inl h) settled = absurd (missing_unsettled h.reason (subst IsSettled h.tells settled))
exactly_by s told file script steps out (inr h) settled =
    of_first told file script h.text h.script_text (λ bytes. (why : Fault) → (s ≡ Refused why) ↔ HasFault why bytes init_steps) h.whole
    (λ why. told_as s h.answer (Refused why) _ h.tells
    (fault_iff h.answer h.text h.script_text steps out.before out.after h.says (subst IsSettled h.tells settled) why))

pub script_by : (s : Status) (told : Option (List File)) (file script : List ℕ) (steps : ℕ) (out : Change) → PlayBy s told file script steps out
    → IsSettled s
    → ForFiles told file script (λ t u. (line : ℕ) → (s ≡ ScriptRefused line) ↔ (StartsIn t init_steps × (first_bad u ≡ Some line)))
script_by s told file script steps out (inl h) settled = absurd (missing_unsettled h.reason (subst IsSettled h.tells settled))
script_by s told file script steps out (inr h) settled =
    of_files told file script h.text h.script_text
    (λ t u. (line : ℕ) → (s ≡ ScriptRefused line) ↔ (StartsIn t init_steps × (first_bad u ≡ Some line))) h.whole
    (λ line. told_as s h.answer (ScriptRefused line) _ h.tells
    (line_iff h.answer h.text h.script_text steps out.before out.after h.says (subst IsSettled h.tells settled) line))

-- COMPLETENESS

same_heap : (h k : Heap) → Started h ≡ Started k → h ≡ k
same_heap h k e = cc

-- the session of two texts is that of their tree, heap and lists
that_session : (P : Session → Type 0) (text script : List ℕ) (steps : ℕ) (tree : Node) (heap : Heap) (lists : Lists) (run : ForSession text script steps P)
    → IsLegal text tree → started (source_of tree) init_steps ≡ Started heap → IsScript script lists
    → session (source_of tree) heap (Some 400) lists.reads lists.interrupts steps
    ≡ session (source_of run.tree) run.heap (Some 400) run.lists.reads run.lists.interrupts steps
that_session P text script steps tree heap lists run legal starts scripted =
    let t : tree ≡ run.tree = one_legal text tree run.tree legal run.legal in
    let h : heap ≡ run.heap = same_heap heap run.heap (sym starts ∙ ap (λ x. started (source_of x) init_steps) t ∙ run.starts) in
    let l : lists ≡ run.lists = one_lists script lists run.lists scripted run.scripted in
    ap (λ x. session (source_of x) heap (Some 400) lists.reads lists.interrupts steps) t
    ∙ ap (λ x. session (source_of run.tree) x (Some 400) lists.reads lists.interrupts steps) h
    ∙ ap (λ x. session (source_of run.tree) run.heap (Some 400) x.reads x.interrupts steps) l

-- the answer that a text that starts and a script have, or why they have another
abbrev Completes : Status → (text script : List ℕ) → (steps : ℕ) → (rest : Type 0) → Type 0
Completes s text script steps rest =
    (tree : Node) (heap : Heap) (lists : Lists) → IsLegal text tree → started (source_of tree) init_steps ≡ Started heap → IsScript script lists
    → length text ≤ text_limit → length script ≤ image_text_limit
    → ((option_map status_of_end (session (source_of tree) heap (Some 400) lists.reads lists.interrupts steps).ending ≡ Some s) ⊎ (s ≡ NoMemory)) ⊎ rest

answer_completes : (answer : Played) (text script : List ℕ) (steps : ℕ) (out : Change) (shelf : Type 0) → Plays answer text script steps out.before out.after
    → (answer ≡ played.WriteFault → Fails out) → Completes (status_of_played answer) text script steps (shelf ⊎ Fails out)
answer_completes (played.Ended end) text script steps out shelf says cause =
    λ tree heap lists legal starts scripted _ _. inl (inl
    (ap (λ x. option_map status_of_end x.ending) (that_session _ text script steps tree heap lists says legal starts scripted)
    ∙ ap (option_map status_of_end) says.holds.0))
answer_completes played.WriteFault text script steps out shelf says cause = λ tree heap lists legal starts scripted _ _. inr (inr (cause refl))
answer_completes (played.Refused why) text script steps out shelf says cause =
    λ tree heap lists legal starts scripted _ _. absurd (no_start_fault text init_steps why (tree, legal, heap, starts) says.0)
answer_completes (played.ScriptRefused line) text script steps out shelf (begins, bad, same) cause =
    λ tree heap lists legal starts scripted _ _. let f = scripted.good in cc
answer_completes played.NoMemory text script steps out shelf says cause = λ tree heap lists legal starts scripted _ _. inl (inr refl)

both_short : (a b : ℕ) → (text_limit < a) ⊎ (image_text_limit < b) → a ≤ text_limit → b ≤ image_text_limit → ⊥
both_short a b (inl h) p q = omega (arith, h, p)
both_short a b (inr h) p q = omega (arith, h, q)

unless_long : (told : Option (List File)) (file script : List ℕ) (s : Status) (steps : ℕ) (shelf out : Type 0)
    → (s ≡ NoMemory) ⊎ (shelf ⊎ IsLongRun told file script)
    → ForFiles told file script (λ t u. Completes s t u steps (shelf ⊎ out))
unless_long None file script s steps shelf out h = tt
unless_long (Some files) file script s steps shelf out (inl e) = λ tree heap lists legal starts scripted p q. inl (inr e)
unless_long (Some files) file script s steps shelf out (inr (inl r)) = λ tree heap lists legal starts scripted p q. inr (inl r)
unless_long (Some files) file script s steps shelf out (inr (inr long)) = λ tree heap lists legal starts scripted p q. absurd (both_short _ _ long p q)

pub complete_by : (s : Status) (told : Option (List File)) (file script : List ℕ) (steps : ℕ) (out : Change) (shelf : Type 0)
    → PlayBy s told file script steps out → (s ≡ ReadFault → shelf) → ForFiles told file script (λ t u. Completes s t u steps (shelf ⊎ Fails out))
complete_by s told file script steps out shelf (inl h) read =
    unless_long told file script s steps shelf (Fails out) (missing_completes h.reason s _ shelf h.tells h.too_long read)
complete_by s told file script steps out shelf (inr h) read =
    of_files told file script h.text h.script_text (λ x y. Completes s x y steps (shelf ⊎ Fails out)) h.whole
    (subst (λ t. Completes t h.text h.script_text steps (shelf ⊎ Fails out)) (sym h.tells)
    (answer_completes h.answer h.text h.script_text steps out shelf h.says h.cause))
