use Rattle.std.proofs.Common.{◌≡◌, ◌++◌, take}
use Rattle.std.specs.List.{flat_map}
use Rattle.web_pages.specs.Forms.{need_form}
use Rattle.web_pages.proofs.forms.add_need_forms.Given as goal

abbrev pub invariant-loop-need : goal.invariant-loop-need
invariant-loop-need l = l.out.items ≡ l.fn.out.items ++ flat_map (need_form l.tab l.code) (take l.need-index l.asked)
