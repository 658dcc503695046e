-- What a joiner holds.
use Rattle.std.specs.Prelude.{List}
use Rattle.order.specs.Desk.{State, Desk}
use Rattle.joiner.specs.declared.joiner.Joiner.{Joiner}

abbrev pub state_of : {B : Type 0} → Joiner B → State
state_of j = record { table = j.table; feeds = j.feeds; queue = j.queue; last = j.last }

abbrev pub desk_of : {B T : Type 0} → Joiner B → List T → Desk T
desk_of j slots = record { joiner = state_of j; slots = slots }
