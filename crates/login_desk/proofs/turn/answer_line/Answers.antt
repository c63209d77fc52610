use Rattle.std.proofs.Common.{sym}
use Rattle.login_desk.proofs.PlayLemmas.{skipped_turn}
use Rattle.login_desk.proofs.turn.answer_line.Goals as goal

pub returns-then-is_skipped-clause-turn : goal.returns-then-is_skipped-clause-turn
returns-then-is_skipped-clause-turn g c =
    skipped_turn c.args.player.now c.args.line.now c.args.outside.now.written (sym c.if-is_skipped.ensures.value)
