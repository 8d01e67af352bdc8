-- Each clause of the top call: what the answer says of its command, and then what the fault line adds to the second sink.
-- A clause on `build`, `run` or `sim` is one lemma on its files (Builds, Plays, Sims), lifted to all words by on_build, on_run or on_sim; one on a source
-- text is lifted from both by on_source (Sources).
use Rattle.vg_faults.specs.declared.fault.Fault.TheVariants.{NoTree, TooDeep, TooMany, Broken}
use Rattle.vg_drive.proofs.Builds as builds
use Rattle.vg_commands.proofs.Plays as plays
use Rattle.vg_commands.proofs.Sims as sims
use Rattle.vg_drive.proofs.Tries as tries
use Rattle.vg_commands.proofs.Whys as whys
use Rattle.vg_drive.proofs.Commands.{answers_of, either_later, first_of, on_build, on_run, on_sim, on_try, on_why, out_before_of, rose_later, usage_of, write_fault_of}
use Rattle.vg_commands.proofs.Fetches.{asks_all_by, asks_front_by, failed_by, too_long_by}
use Rattle.vg_drive.proofs.Notes.{fronts_of, headline_of, line_front_of, line_last_of, line_of, second_of, tried_of}
use Rattle.vg_drive.proofs.Sources.{allocates_of, exactly_of, init_is, source_is}
use Rattle.vg_drive.proofs.call.run.Goals as goal

pub returns-clause-usage : goal.returns-clause-usage
returns-clause-usage g c = usage_of _ _ _ _ _ c.answer-status.ensures.holds

pub returns-clause-answers : goal.returns-clause-answers
returns-clause-answers g c = answers_of _ _ _ _ _ c.answer-status.ensures.holds

pub returns-clause-asked : goal.returns-clause-asked
returns-clause-asked g c = asks_front_by _ _ _ _ c.answer-status.ensures.fetched

pub returns-clause-asked_all : goal.returns-clause-asked_all
returns-clause-asked_all g c = asks_all_by _ _ _ _ c.answer-status.ensures.fetched

pub returns-clause-read_failed : goal.returns-clause-read_failed
returns-clause-read_failed g c = failed_by _ _ _ _ c.answer-status.ensures.fetched

pub returns-clause-too_long : goal.returns-clause-too_long
returns-clause-too_long g c = too_long_by _ _ _ _ c.answer-status.ensures.fetched

pub returns-clause-no_tree : goal.returns-clause-no_tree
returns-clause-no_tree g c =
    λ settled. source_is _ _ _ _ (λ bytes clock f place. f (NoTree place) tt) (exactly_of _ _ _ _ _ c.answer-status.ensures.holds settled)

pub returns-clause-too_deep : goal.returns-clause-too_deep
returns-clause-too_deep g c =
    λ settled. source_is _ _ _ _ (λ bytes clock f place. f (TooDeep place) tt) (exactly_of _ _ _ _ _ c.answer-status.ensures.holds settled)

pub returns-clause-too_many : goal.returns-clause-too_many
returns-clause-too_many g c =
    λ settled. source_is _ _ _ _ (λ bytes clock f what limit place. f (TooMany what limit place) tt)
    (exactly_of _ _ _ _ _ c.answer-status.ensures.holds settled)

pub returns-clause-broken : goal.returns-clause-broken
returns-clause-broken g c =
    λ settled. source_is _ _ _ _ (λ bytes clock f rule place. f (Broken rule place) tt) (exactly_of _ _ _ _ _ c.answer-status.ensures.holds settled)

pub returns-clause-init : goal.returns-clause-init
returns-clause-init g c =
    λ settled. source_is _ _ _ _ (λ bytes clock f. init_is _ bytes clock f) (exactly_of _ _ _ _ _ c.answer-status.ensures.holds settled)

pub returns-clause-allocates : goal.returns-clause-allocates
returns-clause-allocates g c = λ settled. allocates_of _ _ _ _ _ c.answer-status.ensures.holds settled

pub returns-clause-static_full : goal.returns-clause-static_full
returns-clause-static_full g c =
    λ settled. on_build _ _ _ _ _ _ c.answer-status.ensures.holds (λ file asked clock h. builds.static_full_by _ _ file asked clock _ _ h settled)

pub returns-clause-table_full : goal.returns-clause-table_full
returns-clause-table_full g c =
    λ settled. on_build _ _ _ _ _ _ c.answer-status.ensures.holds (λ file asked clock h. builds.table_full_by _ _ file asked clock _ _ h settled)

pub returns-clause-stack_full : goal.returns-clause-stack_full
returns-clause-stack_full g c =
    λ settled. on_build _ _ _ _ _ _ c.answer-status.ensures.holds (λ file asked clock h. builds.stack_full_by _ _ file asked clock _ _ h settled)

pub returns-clause-stack_short : goal.returns-clause-stack_short
returns-clause-stack_short g c =
    on_build _ _ _ _ _ _ c.answer-status.ensures.holds (λ file asked clock h. builds.stack_short_by _ _ file asked clock _ _ h)

pub returns-clause-code_full : goal.returns-clause-code_full
returns-clause-code_full g c =
    on_build _ _ _ _ _ _ c.answer-status.ensures.holds (λ file asked clock h. builds.code_full_by _ _ file asked clock _ _ h)

pub returns-clause-not_built : goal.returns-clause-not_built
returns-clause-not_built g c =
    on_build _ _ _ _ _ _ c.answer-status.ensures.holds (λ file asked clock h. builds.not_built_by _ _ file asked clock _ _ h)

pub returns-clause-not_built_large : goal.returns-clause-not_built_large
returns-clause-not_built_large g c =
    on_build _ _ _ _ _ _ c.answer-status.ensures.holds (λ file asked clock h. builds.large_by _ _ file asked clock _ _ h)

pub returns-clause-not_built_first : goal.returns-clause-not_built_first
returns-clause-not_built_first g c = first_of _ _ _ _ _ c.answer-status.ensures.holds

pub returns-clause-complete : goal.returns-clause-complete
returns-clause-complete g c =
    on_build _ _ _ _ _ _ c.answer-status.ensures.holds
    (λ file asked clock h. builds.complete_by _ _ file asked clock _ _ _ _ h c.answer-status.ensures.read (either_later _ _ _ _ c.put_fault_line.ensures.later))

pub returns-clause-headline : goal.returns-clause-headline
returns-clause-headline g c = headline_of _ _ _ _ _ _ c.answer-status.ensures.holds c.put_fault_line.ensures.none

pub returns-clause-out_front : goal.returns-clause-out_front
returns-clause-out_front g c =
    λ e. on_build _ _ _ _ _ _ c.answer-status.ensures.holds (λ file asked clock h. builds.out_front_by _ _ file asked clock _ _ h e)

pub returns-clause-hex_refused : goal.returns-clause-hex_refused
returns-clause-hex_refused g c =
    λ settled. on_sim _ _ _ _ _ _ c.answer-status.ensures.holds (λ hex script steps h. sims.hex_refused_by _ _ hex script steps _ h settled)

pub returns-clause-script_refused : goal.returns-clause-script_refused
returns-clause-script_refused g c =
    λ settled. on_sim _ _ _ _ _ _ c.answer-status.ensures.holds (λ hex script steps h. sims.script_refused_by _ _ hex script steps _ h settled)

pub returns-clause-shown : goal.returns-clause-shown
returns-clause-shown g c =
    λ shown. on_sim _ _ _ _ _ _ c.answer-status.ensures.holds (λ hex script steps h. sims.shown_by _ _ hex script steps _ h shown)

pub returns-clause-lines_front : goal.returns-clause-lines_front
returns-clause-lines_front g c =
    λ e. on_sim _ _ _ _ _ _ c.answer-status.ensures.holds (λ hex script steps h. sims.lines_front_by _ _ hex script steps _ h e)

pub returns-clause-sim_complete : goal.returns-clause-sim_complete
returns-clause-sim_complete g c =
    on_sim _ _ _ _ _ _ c.answer-status.ensures.holds
    (λ hex script steps h. sims.complete_by _ _ hex script steps _ _ h c.answer-status.ensures.read)

pub returns-clause-played : goal.returns-clause-played
returns-clause-played g c =
    λ shown. on_run _ _ _ _ _ _ c.answer-status.ensures.holds (λ file script steps h. plays.played_by _ _ file script steps _ h shown)

pub returns-clause-played_front : goal.returns-clause-played_front
returns-clause-played_front g c =
    λ e. on_run _ _ _ _ _ _ c.answer-status.ensures.holds (λ file script steps h. plays.front_by _ _ file script steps _ h e)

pub returns-clause-played_trace : goal.returns-clause-played_trace
returns-clause-played_trace g c =
    λ e. on_run _ _ _ _ _ _ c.answer-status.ensures.holds (λ file script steps h. plays.trace_by _ _ file script steps _ h e)

pub returns-clause-run_script_refused : goal.returns-clause-run_script_refused
returns-clause-run_script_refused g c =
    λ settled. on_run _ _ _ _ _ _ c.answer-status.ensures.holds (λ file script steps h. plays.script_by _ _ file script steps _ h settled)

pub returns-clause-run_complete : goal.returns-clause-run_complete
returns-clause-run_complete g c =
    on_run _ _ _ _ _ _ c.answer-status.ensures.holds
    (λ file script steps h. plays.complete_by _ _ file script steps _ _ h c.answer-status.ensures.read)

pub returns-clause-no_member : goal.returns-clause-no_member
returns-clause-no_member g c =
    λ settled. on_why _ _ _ _ _ _ c.answer-status.ensures.holds (λ file member h. whys.no_member_by _ _ file member _ h settled)

pub returns-clause-why_lines : goal.returns-clause-why_lines
returns-clause-why_lines g c =
    λ e. on_why _ _ _ _ _ _ c.answer-status.ensures.holds (λ file member h. whys.lines_by _ _ file member _ h e)

pub returns-clause-why_front : goal.returns-clause-why_front
returns-clause-why_front g c =
    λ e. on_why _ _ _ _ _ _ c.answer-status.ensures.holds (λ file member h. whys.front_by _ _ file member _ h e)

pub returns-clause-why_complete : goal.returns-clause-why_complete
returns-clause-why_complete g c =
    on_why _ _ _ _ _ _ c.answer-status.ensures.holds (λ file member h. whys.complete_by _ _ file member _ _ h c.answer-status.ensures.read)

pub returns-clause-try_refused : goal.returns-clause-try_refused
returns-clause-try_refused g c = on_try _ _ _ _ _ _ c.answer-status.ensures.holds (λ n h. tries.refused_by _ n _ _ h)

pub returns-clause-try_refuses : goal.returns-clause-try_refuses
returns-clause-try_refuses g c = λ settled. on_try _ _ _ _ _ _ c.answer-status.ensures.holds (λ n h. tries.refuses_by _ n _ _ h settled)

pub returns-clause-tried : goal.returns-clause-tried
returns-clause-tried g c = tried_of _ _ _ _ _ _ c.answer-status.ensures.holds c.put_fault_line.ensures.none

pub returns-clause-tried_front : goal.returns-clause-tried_front
returns-clause-tried_front g c = λ e. on_try _ _ _ _ _ _ c.answer-status.ensures.holds (λ n h. tries.front_by _ n _ _ h e)

pub returns-clause-write_fault : goal.returns-clause-write_fault
returns-clause-write_fault g c =
    λ e. either_later _ _ _ _ c.put_fault_line.ensures.later (write_fault_of _ _ _ _ _ c.answer-status.ensures.holds e)

pub returns-clause-out_none : goal.returns-clause-out_none
returns-clause-out_none g c = λ before. out_before_of _ _ _ _ _ c.answer-status.ensures.holds before

pub returns-clause-note_second : goal.returns-clause-note_second
returns-clause-note_second g c =
    λ shown. second_of _ _ _ _ _ _ c.answer-status.ensures.holds shown (c.put_fault_line.ensures.none shown)

pub returns-clause-note_fronts : goal.returns-clause-note_fronts
returns-clause-note_fronts g c =
    fronts_of _ _ _ _ _ _ _ c.answer-status.ensures.holds c.put_fault_line.ensures.front

pub returns-clause-note_line_last : goal.returns-clause-note_line_last
returns-clause-note_line_last g c =
    line_last_of _ _ _ _ _ _ _ _ _ c.answer-status.ensures.holds c.put_fault_line.ensures.whole (rose_later _ _ _ c.answer-status.ensures.later)

pub returns-clause-note_line_front : goal.returns-clause-note_line_front
returns-clause-note_line_front g c =
    line_front_of _ _ _ _ _ _ _ c.answer-status.ensures.holds c.put_fault_line.ensures.front

pub returns-clause-note_line : goal.returns-clause-note_line
returns-clause-note_line g c =
    line_of _ _ _ _ _ _ _ _ _ c.answer-status.ensures.holds c.put_fault_line.ensures.whole (rose_later _ _ _ c.answer-status.ensures.later)
