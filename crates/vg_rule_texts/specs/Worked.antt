-- The worked programs keep all rules.
use Rattle.std.specs.Prelude.{◌≡◌, refl, None}
use Rattle.vg_rules.specs.Refusal.{refusal_of}
use Rattle.vg_examples.specs.Arrays.{arrays}
use Rattle.vg_examples.specs.Bounds.{index_below, index_above, index_within, index_empty}
use Rattle.vg_examples.specs.Casts.{casts}
use Rattle.vg_examples.specs.ClassCasts.{class_casts}
use Rattle.vg_examples.specs.Control.{control, late_new, late_check}
use Rattle.vg_examples.specs.Delegate.{delegate}
use Rattle.vg_examples.specs.Dispatch.{dispatch}
use Rattle.vg_examples.specs.Division.{division}
use Rattle.vg_examples.specs.Firmware.{firmware}
use Rattle.vg_examples.specs.Handlers.{handlers}
use Rattle.vg_examples.specs.Idioms.{counter, constant, table, callback, toggle, loops}
use Rattle.vg_examples.specs.InitClock.{init_clock}
use Rattle.vg_examples.specs.InitTouch.{init_touch}
use Rattle.vg_examples.specs.LeadingZeros.{leading_zeros}
use Rattle.vg_examples.specs.LeastInt.{least_int}
use Rattle.vg_examples.specs.Literals.{literals}
use Rattle.vg_examples.specs.NegativeLength.{negative_length}
use Rattle.vg_examples.specs.NodeList.{node_list}
use Rattle.vg_examples.specs.Parentheses.{called_method, called_value, in_parentheses}
use Rattle.vg_examples.specs.Recursion.{recursion}
use Rattle.vg_examples.specs.Room.{full, over_full}
use Rattle.vg_examples.specs.Scopes.{scopes, blocks}
use Rattle.vg_examples.specs.Shifts.{shifts}
use Rattle.vg_examples.specs.StartOrder.{writes_what_it_reads, divides_by_zero, super_first, order_of_making}
use Rattle.vg_examples.specs.StoreToNull.{store_to_null}
use Rattle.vg_examples.specs.Ticks.{constructions, deep_start, too_deep_start}
use Rattle.vg_examples.specs.TwoReads.{two_reads}

legal_arrays : refusal_of arrays ≡ None
legal_arrays = refl

legal_index_below : refusal_of index_below ≡ None
legal_index_below = refl

legal_index_above : refusal_of index_above ≡ None
legal_index_above = refl

legal_index_within : refusal_of index_within ≡ None
legal_index_within = refl

legal_index_empty : refusal_of index_empty ≡ None
legal_index_empty = refl

legal_casts : refusal_of casts ≡ None
legal_casts = refl

legal_class_casts : refusal_of class_casts ≡ None
legal_class_casts = refl

legal_control : refusal_of control ≡ None
legal_control = refl

legal_late_new : refusal_of late_new ≡ None
legal_late_new = refl

legal_late_check : refusal_of late_check ≡ None
legal_late_check = refl

legal_delegate : refusal_of delegate ≡ None
legal_delegate = refl

legal_dispatch : refusal_of dispatch ≡ None
legal_dispatch = refl

legal_division : refusal_of division ≡ None
legal_division = refl

legal_firmware : refusal_of firmware ≡ None
legal_firmware = refl

legal_handlers : refusal_of handlers ≡ None
legal_handlers = refl

legal_counter : refusal_of counter ≡ None
legal_counter = refl

legal_constant : refusal_of constant ≡ None
legal_constant = refl

legal_table : refusal_of table ≡ None
legal_table = refl

legal_callback : refusal_of callback ≡ None
legal_callback = refl

legal_toggle : refusal_of toggle ≡ None
legal_toggle = refl

legal_loops : refusal_of loops ≡ None
legal_loops = refl

legal_init_clock : refusal_of init_clock ≡ None
legal_init_clock = refl

legal_init_touch : refusal_of init_touch ≡ None
legal_init_touch = refl

legal_leading_zeros : refusal_of leading_zeros ≡ None
legal_leading_zeros = refl

legal_least_int : refusal_of least_int ≡ None
legal_least_int = refl

legal_literals : refusal_of literals ≡ None
legal_literals = refl

legal_negative_length : refusal_of negative_length ≡ None
legal_negative_length = refl

legal_node_list : refusal_of node_list ≡ None
legal_node_list = refl

legal_called_method : refusal_of called_method ≡ None
legal_called_method = refl

legal_called_value : refusal_of called_value ≡ None
legal_called_value = refl

legal_in_parentheses : refusal_of in_parentheses ≡ None
legal_in_parentheses = refl

legal_recursion : refusal_of recursion ≡ None
legal_recursion = refl

legal_full : refusal_of full ≡ None
legal_full = refl

legal_over_full : refusal_of over_full ≡ None
legal_over_full = refl

legal_scopes : refusal_of scopes ≡ None
legal_scopes = refl

legal_blocks : refusal_of blocks ≡ None
legal_blocks = refl

legal_shifts : refusal_of shifts ≡ None
legal_shifts = refl

legal_writes_what_it_reads : refusal_of writes_what_it_reads ≡ None
legal_writes_what_it_reads = refl

legal_divides_by_zero : refusal_of divides_by_zero ≡ None
legal_divides_by_zero = refl

legal_super_first : refusal_of super_first ≡ None
legal_super_first = refl

legal_order_of_making : refusal_of order_of_making ≡ None
legal_order_of_making = refl

legal_store_to_null : refusal_of store_to_null ≡ None
legal_store_to_null = refl

legal_constructions : refusal_of constructions ≡ None
legal_constructions = refl

legal_deep_start : refusal_of deep_start ≡ None
legal_deep_start = refl

legal_too_deep_start : refusal_of too_deep_start ≡ None
legal_too_deep_start = refl

legal_two_reads : refusal_of two_reads ≡ None
legal_two_reads = refl
