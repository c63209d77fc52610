use Rattle.std.proofs.Common.{sym, refl}
use Rattle.realm_print.specs.Levels.{level_members}
use Rattle.realm_print.proofs.TableLemmas.{level_more}
use Rattle.realm_print.proofs.levels.level_table.Goals as goal

pub levels-init : goal.levels-init
unfolding level_members
levels-init c = rw c.new-table.ensures.empty refl

pub levels-preserved : goal.levels-preserved
levels-preserved c =
    rw (c.in_ok-put.ensures, c.from.ensures, c.name_text.ensures.text, c.levels.invariant)
    (level_more c.args.levels.now c.levels.level-index c.level-item.result c.levels-test.true (sym c.level-item.is) c.requires)
