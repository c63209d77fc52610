use Rattle.realm_print.proofs.RealmLemmas.{realm_back, realm_plain}
use Rattle.realm_print.proofs.print.realm_table.Goals as goal

pub returns-clause-read : goal.returns-clause-read
returns-clause-read c =
    realm_back c.args.parts.now _ _ _ (rw c.new-table.ensures.empty at c.in_ok-put_head.ensures) c.in_ok-put_settings.ensures c.in_ok-put_lists.ensures
    c.requires c.execs-execs.ensures.sound

pub returns-clause-plain : goal.returns-clause-plain
returns-clause-plain c =
    realm_plain c.args.parts.now _ _ _ (rw c.new-table.ensures.empty at c.in_ok-put_head.ensures) c.in_ok-put_settings.ensures c.in_ok-put_lists.ensures
