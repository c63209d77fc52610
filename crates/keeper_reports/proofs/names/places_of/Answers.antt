use Rattle.keeper_reports.proofs.NameLemmas.{one_more}
use Rattle.keeper_reports.proofs.names.places_of.Goals as goal

pub loop-place-preserved : goal.loop-place-preserved
loop-place-preserved c =
    one_more c.loop-place.places c.note.new.places c.args.accounts.now c.loop-place.place c.index-accounts-place.result c.index-accounts-place.is c.loop-place-test.true c.loop-place.invariant c.in_ok-note.ensures
