-- What the beginning of an ask comes to.
use Rattle.std.specs.Prelude.{Bool, true, false}
use Rattle.asks.specs.Solved.{SolvedAsk}
use Rattle.login_hall.specs.declared.begun.Begun.{Begun}
use Rattle.login_hall.specs.declared.begun.Begun.TheVariants as begins

-- the solved ask: at once, or once its work is done
abbrev pub solution_of : Begun → SolvedAsk
solution_of (begins.Work work) = work
solution_of (begins.Ready solved) = solved

abbrev pub is_work : Begun → Bool
is_work (begins.Work work) = true
is_work (begins.Ready solved) = false
