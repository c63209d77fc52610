use Rattle.std.proofs.Common.{◌≡◌, true, take}
use Rattle.std.specs.List.{list_all}
use Rattle.web_laws.specs.Names.{need_has_name}
use Rattle.web_laws.proofs.names.know_needs.Given as goal

abbrev pub invariant-loop-need : goal.invariant-loop-need
invariant-loop-need l = list_all need_has_name (take l.need-index l.asked) ≡ true
