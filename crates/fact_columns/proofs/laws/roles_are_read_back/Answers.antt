use Rattle.login_base.specs.Names.{is_name}
use Rattle.keeper_columns.specs.Words.{role_in, is_role_before}
use Rattle.fact_columns.specs.Lists.{in_order}
use Rattle.fact_columns.specs.Words.{role_text}
use Rattle.fact_columns.proofs.ItemLemmas.{name_read, names_tie}
use Rattle.fact_columns.proofs.ReadBack.{are_read, read_back, in_order_up, in_order_all}
use Rattle.fact_columns.proofs.laws.roles_are_read_back.Goals as goal

pub returns : goal.returns
returns c =
    let roles = c.args.roles.now in
    let ordered = in_order is_role_before roles in
    let named = in_order_all is_role_before is_name roles c.requires.names in
    record { roles = read_back role_text role_in is_role_before ordered (are_read role_text role_in is_name name_read ordered named) (in_order_up is_role_before names_tie roles) }
