use Rattle.realm_file.proofs.RuleLemmas.{keeps_rules}
use Rattle.realm_file.proofs.read.by_rules.Goals as goal

pub realm_of-requires : goal.realm_of-requires
realm_of-requires c =
    let same = c.in_ok-flow.ensures.same in
    let apart = rw (c.as_slice.ensures.items, c.as_slice-2.ensures.items) at c.in_ok-check_names_apart.ensures in
    let bound = rw (same, c.as_slice-3.ensures.items, c.as_slice-4.ensures.items) at c.in_ok-check_bound.ensures in
    rw same (keeps_rules c.args.draft c.requires apart bound)
