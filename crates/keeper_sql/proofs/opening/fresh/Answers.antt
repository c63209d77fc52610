use Rattle.sqlite.proofs.Callers.{memory_is_clean}
use Rattle.keeper_sql.proofs.opening.fresh.Goals as goal

pub returns-in_ok-make_schema-in-Ok : goal.returns-in_ok-make_schema-in-Ok
returns-in_ok-make_schema-in-Ok c = record { ours = (c.in_ok-make_schema-in-Ok.ensures.made (memory_is_clean c.make_schema.new.conn)).ours.schema_is }
