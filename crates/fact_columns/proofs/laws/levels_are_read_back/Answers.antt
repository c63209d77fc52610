use Rattle.keeper_columns.specs.Words.{level_in, is_level_before}
use Rattle.fact_columns.specs.Lists.{in_order}
use Rattle.fact_columns.specs.Words.{level_text, is_reached}
use Rattle.fact_columns.proofs.ItemLemmas.{level_read, levels_tie}
use Rattle.fact_columns.proofs.ReadBack.{are_read, read_back, in_order_up, in_order_all}
use Rattle.fact_columns.proofs.laws.levels_are_read_back.Goals as goal

pub returns : goal.returns
returns c =
    let levels = c.args.levels.now in
    let ordered = in_order is_level_before levels in
    let within = in_order_all is_level_before is_reached levels c.requires.range in
    record { levels = read_back level_text level_in is_level_before ordered (are_read level_text level_in is_reached level_read ordered within) (in_order_up is_level_before levels_tie levels) }
