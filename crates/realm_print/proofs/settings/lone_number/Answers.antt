use Rattle.toml.proofs.Views.{view-Table}
use Rattle.realm_print.proofs.TableLemmas.{lone_back}
use Rattle.realm_print.proofs.settings.lone_number.Goals as goal

pub returns-clause-read : goal.returns-clause-read
returns-clause-read c =
    λ least most range path. rw (view-Table, c.in_ok-put.ensures, c.new-table.ensures.empty, c.from.ensures) (lone_back c.args.key.now c.args.number least most range path)
