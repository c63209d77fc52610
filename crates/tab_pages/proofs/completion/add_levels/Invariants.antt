use Rattle.std.proofs.Common.{◌≡◌, ◌++◌, take}
use Rattle.tab_pages.specs.Pages.{levels_recorded}
use Rattle.tab_pages.proofs.completion.add_levels.Given as goal

abbrev pub invariant-loop-level : goal.invariant-loop-level
invariant-loop-level l = l.added ≡ l.initial.added ++ levels_recorded l.setting l.session (take l.level-index l.levels)
