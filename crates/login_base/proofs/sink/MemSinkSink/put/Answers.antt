use Rattle.std.proofs.Common.{rules, [], refl, append-nil}
use Rattle.login_base.proofs.sink.MemSinkSink.put.Goals as goal

pub returns-in-Err-clause-bytes : goal.returns-in-Err-clause-bytes
returns-in-Err-clause-bytes c = ([], c.args.bytes.now, refl, search (rules, append-nil))
