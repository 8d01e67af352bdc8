-- What is known of a procedure while its body is flattened, of its parts.
use Rattle.std.specs.Prelude.{ℕ, Bool}
use Rattle.vg_flatten_shapes.specs.declared.room.Room.{Room}

abbrev pub room_of : (receiver : ℕ) → (on : Bool) → (locals temps result : ℕ) → Room
room_of receiver on locals temps result = record { receiver = receiver; on_objects = on; locals = locals; temps = temps; result = result }
