use Rattle.std.proofs.Common.{◌≡◌, Option, option_map, codes, refl, arith}
use Rattle.toml.specs.Data.{Data}
use Rattle.toml.specs.View.{view, table_view}
use Rattle.toml.specs.declared.value.Value.{Value}
use Rattle.toml.proofs.Views.{view-Table}
use Rattle.realm_print.specs.Fields.{Fields, made}
use Rattle.realm_print.proofs.FieldLemmas.{begun, more, more_some, wider, if_wider, plain_made, plain_table}
use Rattle.realm_print.proofs.TableLemmas.{user_made, user_back, all_fit}
use Rattle.realm_print.proofs.users.RealmUserPrints.print.Goals as goal

pub print_any-requires-2 : goal.print_any-requires-2
print_any-requires-2 c = all_fit c.as_slice-2.result.now

abbrev seen : Option Value → Option Data
seen o = option_map (λ (v : Value). view v) o

abbrev fields : goal.In_ok-put_some-6 → Fields
fields c =
    user_made (view c.in_ok-name.name) (seen c.in_ok-roles.roles) (seen c.unusual.result) (seen c.in_ok-password.password)
    (seen c.in_ok-otp.otp) (seen c.in_ok-recovery.recovery) (seen c.in_ok-actions.actions)

table_made : (c : goal.In_ok-put_some-6) → table_view c.put_some-6.new.table ≡ made (fields c)
table_made c =
    let none = begun _ c.new-table.ensures.empty in
    let name = more (codes "name") (view c.in_ok-name.name) _ _ _ _ c.in_ok-put.ensures refl none in
    let roles = more_some (codes "roles") _ _ _ _ c.in_ok-put_some.ensures name in
    let enabled = more_some (codes "enabled") _ _ _ _ c.in_ok-put_some-2.ensures roles in
    let password = more_some (codes "password") _ _ _ _ c.in_ok-put_some-3.ensures enabled in
    let otp = more_some (codes "otp") _ _ _ _ c.in_ok-put_some-4.ensures password in
    let recovery = more_some (codes "recovery") _ _ _ _ c.in_ok-put_some-5.ensures otp in
    more_some (codes "actions") _ _ _ _ c.in_ok-put_some-6.ensures recovery

pub returns-clause-read : goal.returns-clause-read
returns-clause-read c =
    λ path. rw (view-Table, table_made c) (user_back c.args.self.now (view c.in_ok-name.name) _ _ _ _ _ _ (record {
      name_read = c.in_ok-name.ensures.read;
      roles_read = rw c.as_slice.ensures.items at c.in_ok-roles.ensures.read;
      enabled_read = c.unusual.ensures.read;
      password_read = c.in_ok-password.ensures.read;
      otp_read = c.in_ok-otp.ensures.read;
      recovery_read = c.in_ok-recovery.ensures.read;
      actions_read = rw c.as_slice-2.ensures.items at c.in_ok-actions.ensures.read;
    }) path)

pub returns-clause-plain : goal.returns-clause-plain
returns-clause-plain c =
    rw (view-Table, table_made c) (plain_table 1 _ (plain_made 1 (fields c) (
      c.in_ok-actions.ensures.plain,
      (
        c.in_ok-recovery.ensures.plain,
        (
          if_wider 0 1 _ c.in_ok-otp.ensures.plain (omega arith),
          (
            c.in_ok-password.ensures.plain,
            (
              if_wider 0 1 _ c.unusual.ensures.plain (omega arith),
              (
                c.in_ok-roles.ensures.plain,
                (wider 0 1 _ c.in_ok-name.ensures.plain (omega arith), tt),
              ),
            ),
          ),
        ),
      ),
    )))
