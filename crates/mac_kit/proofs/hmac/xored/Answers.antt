use Rattle.std.proofs.Common.{◌∙◌, sym, arith}
use Rattle.std.proofs.lemmas.List.{length-set, length-replicate}
use Rattle.mac_kit.proofs.Steps.{xored-none, xored_more}
use Rattle.mac_kit.proofs.hmac.xored.Goals as goal

pub bytes-init : goal.bytes-init
bytes-init g c = record {
  size = length-replicate _ _;
  done = sym (xored-none _);
}

pub bytes-preserved : goal.bytes-preserved
bytes-preserved g c = record {
  size = length-set c.bytes.out c.bytes.i _ ∙ c.bytes.invariant.size;
  done = xored_more c.bytes.i c.args.first.now c.args.second.now c.bytes.out (omega arith) (omega arith) (omega arith) c.bytes.invariant.done;
}
