use Rattle.std.proofs.Common.{refl}
use Rattle.login_base.specs.IdText.{id_bytes}
use Rattle.login_base.proofs.HexText.{assembled, sixteen}
use Rattle.login_base.proofs.id.id_text.Goals as goal

pub returns : goal.returns
unfolding id_bytes
returns c = record { text = assembled c.put_hex.new.out c.put_hex-2.new.out c.put_hex-3.new.out _ _ _ _ (sixteen c.args.id.now.serial) (sixteen c.args.id.now.high) (sixteen c.args.id.now.low) refl c.put_hex.ensures c.put_hex-2.ensures c.put_hex-3.ensures }
