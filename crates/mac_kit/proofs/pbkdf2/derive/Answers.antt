use Rattle.std.proofs.Common.{◌*◌, ◌≤◌, length, arith}
use Rattle.mac_kit.specs.Hmac.{hmac}
use Rattle.mac_kit.proofs.Steps.{none_written, block_more, starts_inside, all_written}
use Rattle.mac_kit.proofs.pbkdf2.derive.Goals as goal

pub parts-init : goal.parts-init
parts-init g c = λ password taken.
    none_written (hmac g.H.BlockHash.digest_of g.row.B) password c.args.salt.now c.args.count g.row.N (length c.args.out.now) c.args.out.now

pub parts-preserved : goal.parts-preserved
parts-preserved g c = λ password taken.
    let inside : c.parts.i * g.row.N ≤ length c.args.out.now = omega (arith, starts_inside c.parts.i (length c.args.out.now) g.row.N (omega arith) (omega arith)) in
    block_more (hmac g.H.BlockHash.digest_of g.row.B) password c.args.salt.now c.args.count c.parts.i g.row.N (length c.args.out.now)
    c.parts.out c.put.new.out c.block.result c.block.ensures.size inside (c.block.ensures.value password taken)
    (c.parts.invariant password taken) (rw c.parts.auto.out at c.put.ensures.value)

pub returns : goal.returns
returns g c = record {
  value = λ password taken.
      all_written (hmac g.H.BlockHash.digest_of g.row.B) password c.args.salt.now c.args.count c.parts.i g.row.N (length c.args.out.now)
      c.parts.out c.parts.auto.out (omega arith) (omega arith) (c.parts.invariant password taken).1;
}
