use Rattle.login_desk.proofs.PlayLemmas.{starved_first}
use Rattle.login_desk.proofs.play.play_script.Goals as goal

pub returns-in_default-clause-play : goal.returns-in_default-clause-play
returns-in_default-clause-play g c = starved_first _ _

pub returns-in_default-make-clause-play : goal.returns-in_default-make-clause-play
returns-in_default-make-clause-play g c = starved_first _ _
