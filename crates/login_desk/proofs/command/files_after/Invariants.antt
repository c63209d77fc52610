use Rattle.std.proofs.Common.{◌≡◌, Some, drop}
use Rattle.login_desk.specs.Command.{files_after, no_words, words_read}
use Rattle.login_desk.proofs.command.files_after.Given as goal

abbrev pub invariant-loop-i : goal.invariant-loop-i
invariant-loop-i l = files_after l.command (Some (words_read l.reading)) (drop l.i l.arguments) ≡ files_after l.command (Some no_words) (drop 1 l.arguments)
