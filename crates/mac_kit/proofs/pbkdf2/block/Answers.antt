use Rattle.std.proofs.Common.{arith, rules}
use Rattle.mac_kit.specs.Hmac.{hmac}
use Rattle.mac_kit.proofs.Steps.{first_round, round_more, all_rounds}
use Rattle.mac_kit.proofs.pbkdf2.block.Goals as goal

pub rounds-init : goal.rounds-init
rounds-init g c = record {
  size = search rules;
  value = λ password taken.
      first_round (hmac g.H.BlockHash.digest_of g.row.B) password c.args.salt.now c.args.number c.mac-last.result c.to_be_bytes.result
      (c.mac-last.ensures.value password taken) c.to_be_bytes.ensures;
}

pub rounds-preserved : goal.rounds-preserved
rounds-preserved g c = record {
  size = search rules;
  value = λ password taken.
      round_more (hmac g.H.BlockHash.digest_of g.row.B) password c.args.salt.now c.args.number c.rounds.counter
      c.rounds.last c.mac-last-in-rounds.result c.rounds.sum c.xored-sum.result (omega arith)
      (c.rounds.invariant.value password taken) (c.mac-last-in-rounds.ensures.value password taken) c.xored-sum.ensures.value;
}

pub returns-clause-value : goal.returns-clause-value
returns-clause-value g c = λ password taken.
    all_rounds (hmac g.H.BlockHash.digest_of g.row.B) password c.args.salt.now c.args.number c.rounds.counter c.args.count c.rounds.sum
    (omega arith) (c.rounds.invariant.value password taken).1
