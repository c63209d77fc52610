use Rattle.std.proofs.Common.{◌≡◌, true, false, map, take, sym, ◌∙◌}
use Rattle.std.proofs.lemmas.Bool.{not-true, not-false}
use Rattle.std.proofs.Math.ListN.{drop_of_length-le}
use Rattle.realm_fields.specs.Reading.{is_among}
use Rattle.realm_file.proofs.DoubledLemmas.{has, stands_first, goes_on, names_more, holds_more, ends}
use Rattle.realm_file.proofs.rules.first_doubled.Goals as goal

pub returns-then-not-branch : goal.returns-then-not-branch
returns-then-not-branch g c =
    let name = g.T.Named.name in
    let item = c.index-items-i.result in
    let known : has c.as_bytes.result.now c.items.seen.keys ≡ true =
    not-false (has c.as_bytes.result.now c.items.seen.keys) (sym c.in_ok-insert.ensures.added ∙ c.if-not-branch.true) in
    let is : c.as_bytes.result.now ≡ name item = c.as_bytes.ensures.bytes ∙ c.name.ensures in
    let found : is_among (map name (take c.items.i c.args.items.now)) (name item) ≡ true =
    sym (c.items.invariant.seen (name item)) ∙ (rw is at known) in
    stands_first name c.args.items.now c.items.i item c.items-test.true (sym c.index-items-i.is) _ found c.items.invariant.same

pub items-preserved : goal.items-preserved
items-preserved g c =
    let name = g.T.Named.name in
    let item = c.index-items-i.result in
    let new : has c.as_bytes.result.now c.items.seen.keys ≡ false =
    not-true (has c.as_bytes.result.now c.items.seen.keys) (sym c.in_ok-insert.ensures.added ∙ c.if-not-branch.false) in
    let is : c.as_bytes.result.now ≡ name item = c.as_bytes.ensures.bytes ∙ c.name.ensures in
    let none : is_among (map name (take c.items.i c.args.items.now)) (name item) ≡ false =
    sym (c.items.invariant.seen (name item)) ∙ (rw is at new) in
    record {
      same = goes_on name c.args.items.now c.items.i item c.items-test.true (sym c.index-items-i.is) _ none c.items.invariant.same;
      seen = λ q. rw (c.in_ok-insert.ensures.keys, names_more name c.args.items.now c.items.i item c.items-test.true (sym c.index-items-i.is))
          (holds_more q c.as_bytes.result c.items.seen.keys _ (name item) is (c.items.invariant.seen q));
    }

pub returns : goal.returns
returns g c =
    ends g.T.Named.name c.args.items.now c.items.i _ _ (drop_of_length-le c.args.items.now c.items-test.false) c.items.invariant.same
