use Rattle.std.proofs.Common.{SFits, w64, sym, ◌∙◌, rules}
use Rattle.std.proofs.lemmas.Int.{to_z-of_z}
use Rattle.keeper_reports.proofs.NameLemmas.{inserted, untouched}
use Rattle.keeper_reports.proofs.names.note.Goals as goal

pub returns-in_ok-insert : goal.returns-in_ok-insert
returns-in_ok-insert c =
    let fits : SFits w64 c.args.id.now = search rules in
    let same = to_z-of_z w64 c.args.id.now fits in
    let had = rw same at c.contains_key.ensures in
    inserted c.args.places.now c.insert.new.self c.args.id.now c.args.place (sym had ∙ c.if-not-contains_key.true) (rw same at c.in_ok-insert.ensures.updates)

pub returns-else-not-contains_key : goal.returns-else-not-contains_key
returns-else-not-contains_key c =
    let fits : SFits w64 c.args.id.now = search rules in
    let same = to_z-of_z w64 c.args.id.now fits in
    let had = rw same at c.contains_key.ensures in
    untouched c.args.places.now c.args.id.now c.args.place (sym had ∙ c.if-not-contains_key.false)
