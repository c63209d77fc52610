use Rattle.std.proofs.Common.{rules, inr}
use Rattle.realm_file.proofs.DocumentLemmas.{read_some, read_none}
use Rattle.realm_file.proofs.read.read_realm.Goals as goal

pub returns-in-Ok-realm_in-clause-ok : goal.returns-in-Ok-realm_in-clause-ok
returns-in-Ok-realm_in-clause-ok c = rw (read_some c.args.bytes.now _ c.in-Ok.ensures.ok.0 c.in-Ok.ensures.ok.1) c.in-Ok-realm_in.ensures

pub returns-in-Err-clause-err : goal.returns-in-Err-clause-err
returns-in-Err-clause-err c = inr (read_none c.args.bytes.now (c.in-Err.ensures.refused (search rules)))

pub returns-clause-err : goal.returns-clause-err
returns-clause-err c = inr (rw (read_some c.args.bytes.now _ c.in-Ok.ensures.ok.0 c.in-Ok.ensures.ok.1) (rw c.in-Err-Fault.field-0-is at c.in-Err-Fault.ensures))
