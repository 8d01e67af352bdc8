-- What each step becomes, from where values wait.
use Rattle.std.specs.Prelude.{List, slice_get}
use Rattle.vg_firm.specs.declared.step.Step.{Step}
use Rattle.vg_firm.specs.declared.step.Step.TheVariants.{Number, This, Local, SetLocal, Forget, Operate, Apply, ReadDevice, WriteDevice}
use Rattle.vg_firm.specs.declared.step.Step.TheVariants.{Load as LoadOne, Store as StoreOne, LoadAt, StoreAt, LoadItem, StoreItem, Length, LoadNothing, StoreNothing, IsWithin, StopUnlessWithin, Bind, BindFor, Call, CallFor, CallValue, Idle}
use Rattle.vg_lin.specs.declared.instr.Operand.{Operand}
use Rattle.vg_flatten_shapes.specs.declared.layout.Layout.{Layout}
use Rattle.vg_flatten_shapes.specs.declared.room.Room.{Room}
use Rattle.vg_flatten_shapes.specs.Shapes.{only}
use Rattle.vg_flatten_shapes.specs.Blocks.{TakeInterrupt}
use Rattle.vg_flatten_shapes.specs.Made.{Made, Gives}
use Rattle.vg_flatten_values.specs.Values.{operated, applied}
use Rattle.vg_flatten_places.specs.Places.{load_one, load_of, lone_of, array_length, store_one, store_of, places_in, memory_of, load_item, store_item}
use Rattle.vg_flatten_steps.specs.Locals.{put_number, get_local, get_receiver, set_local, forgotten, read, written}
use Rattle.vg_flatten_steps.specs.Calls.{called, called_for, called_value, bound, bound_for}
use Rattle.vg_flatten_steps.specs.Objects.{is_one_of, cast_to}
use Rattle.vg_flatten_places.specs.Places.{load_no_field, store_no_field}

-- Where no truth value waits as a test.
abbrev pub stepped : Layout → Room → Step → List Operand → Made
stepped lay r (Number v) hs = put_number v hs
stepped lay r This hs = get_receiver r hs
stepped lay r (Local i) hs = get_local r i hs
stepped lay r (SetLocal i) hs = set_local r i hs
stepped lay r Forget hs = forgotten hs
stepped lay r (Operate op) hs = operated r op hs
stepped lay r (Apply op) hs = applied r op hs
stepped lay r (ReadDevice address) hs = read r address hs
stepped lay r (WriteDevice address) hs = written address hs
stepped lay r (Call q count) hs = called lay r q count hs
stepped lay r (CallFor d count) hs = called_for r d count hs
stepped lay r (CallValue count) hs = called_value r count hs
stepped lay r (Bind q) hs = bound r q hs
stepped lay r (BindFor d) hs = bound_for r d hs
stepped lay r Idle hs = Gives TakeInterrupt (only hs)
stepped lay r (LoadOne home c) hs = load_one r (memory_of home) (slice_get (places_in lay home) c) hs
stepped lay r (LoadAt home c first) hs = load_of r (memory_of home) first (slice_get (places_in lay home) c) hs
stepped lay r (StoreOne c width) hs = store_one width (slice_get lay.ram c) hs
stepped lay r (StoreAt c first width) hs = store_of r first width (slice_get lay.ram c) hs
stepped lay r (LoadItem e) hs = load_item r (lone_of lay e.table) e (slice_get (places_in lay e.home) e.column) (slice_get lay.tables e.table) hs
stepped lay r (StoreItem e) hs = store_item r (lone_of lay e.table) e (slice_get lay.ram e.column) (slice_get lay.tables e.table) hs
stepped lay r (Length table) hs = array_length r (lone_of lay table) (slice_get lay.tables table) hs
stepped lay r LoadNothing hs = load_no_field r hs
stepped lay r StoreNothing hs = store_no_field r hs
stepped lay r (IsWithin first count) hs = is_one_of r first count hs
stepped lay r (StopUnlessWithin first count) hs = cast_to r first count hs
