-- What a call makes of a feed's state.
use Rattle.std.specs.Prelude.{Ok, Err, Result}
use Rattle.refusals.specs.Said.{Said, said, plain}
use Rattle.order.specs.declared.state.FeedState.{FeedState}
use Rattle.order.specs.declared.state.FeedState.TheVariants.{Idle, Holding, Closing, Closed}
use Rattle.joiner.specs.declared.moves.Move.{Move}
use Rattle.joiner.specs.declared.moves.Move.TheVariants.{Put, Close, Take}

abbrev pub changed : FeedState → Move → FeedState
changed Idle (Put (Ok t)) = Holding t
changed Idle (Put (Err r)) = Idle
changed Idle Close = Closed
changed Idle Take = Idle
changed (Holding t) (Put r) = Holding t
changed (Holding t) Close = Closing t
changed (Holding t) Take = Idle
changed (Closing t) (Put r) = Closing t
changed (Closing t) Close = Closing t
changed (Closing t) Take = Closed
changed Closed (Put r) = Closed
changed Closed Close = Closed
changed Closed Take = Closed

abbrev pub change_answer : FeedState → Move → Result (Unit {0}) Said
change_answer Idle (Put (Ok t)) = Ok tt
change_answer Idle (Put (Err r)) = Err (said r)
change_answer Idle Close = Ok tt
change_answer Idle Take = Ok tt
change_answer (Holding t) (Put r) = Err (plain 6)
change_answer (Holding t) Close = Ok tt
change_answer (Holding t) Take = Ok tt
change_answer (Closing t) (Put r) = Err (plain 5)
change_answer (Closing t) Close = Err (plain 5)
change_answer (Closing t) Take = Ok tt
change_answer Closed (Put r) = Err (plain 5)
change_answer Closed Close = Err (plain 5)
change_answer Closed Take = Ok tt
