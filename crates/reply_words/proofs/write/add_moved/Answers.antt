use Rattle.std.specs.Prelude.{codes, decimal}
use Rattle.reply_words.proofs.TextLemmas.{two_fields}
use Rattle.reply_words.proofs.write.add_moved.Goals as goal

pub returns : goal.returns
returns c =
    two_fields c.args.out.now.items c.add_number.new.out.items c.add_number-2.new.out.items (codes "refused 15 CredentialMoved had=") (decimal c.args.had) (codes " now=") (decimal c.args.now)
    c.in_ok-add_number.ensures
    c.in_ok-add_number-2.ensures
