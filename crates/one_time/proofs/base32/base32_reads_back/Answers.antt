use Rattle.std.proofs.Common.{arith}
use Rattle.one_time.proofs.ReadBack.{reads_back}
use Rattle.one_time.proofs.base32.base32_reads_back.Goals as goal

pub returns : goal.returns
returns c = record {
  value = reads_back c.args.bytes.now (λ j inside. let fits = c.type_inv.bytes j in omega (arith, fits));
}
