use Rattle.std.proofs.Common.{◌≡◌}
use Rattle.asks.proofs.PasswordLemmas.{plain_is_solved}
use Rattle.login_hall.proofs.found.ready.Goals as goal

pub returns : goal.returns
returns c =
    let solved = rw (plain_is_solved c.args.ask c.requires) at c.of_journal.ensures.value in
    let same : c.in-Some.solved ≡ _ = cc in
    same
