use Rattle.std.proofs.Common.{◌≡◌, ◌++◌, take}
use Rattle.std.specs.Prelude.{codes}
use Rattle.std.specs.List.{flat_map}
use Rattle.reply_words.specs.Words.{need_words}
use Rattle.reply_words.proofs.write.add_more_needs.Given as goal

abbrev pub invariant-loop-need : goal.invariant-loop-need
invariant-loop-need l = l.out.items ≡ l.fn.out.items ++ flat_map (λ need. codes "," ++ need_words need) (take l.need-index l.needs)
