use Rattle.std.proofs.Common.{◌≡◌, ◌^◌, ◌++◌, ap, sym, subst, ◌∙◌}
use Rattle.hall_answers.specs.HasSerials.{HasSerials}
use Rattle.script_play.specs.Base.{base_of}
use Rattle.script_play.proofs.FirstLemmas.{first_stored, first_version, first_started, base_serials, started_realm}
use Rattle.script_play.proofs.player.Player.start.Goals as goal

pub start-requires-clause-stored : goal.start-requires-clause-stored
start-requires-clause-stored c = first_stored c.in_ok-hall.hall.base c.in_ok-hall.ensures.base

pub start-requires-clause-version : goal.start-requires-clause-version
start-requires-clause-version c = first_version c.in_ok-hall.hall.base c.in_ok-hall.ensures.base

pub invariant_of-result : goal.invariant_of-result
invariant_of-result c =
    let start = c.in_ok-start in
    let base = c.in_ok-hall.hall.base in
    started_realm c.started.new.self base start.start (c.started.ensures.base ∙ ap (λ b. b ++ start.start) start.ensures.same.base) c.started.ensures.journal start.ensures.realm

pub returns-clause-base : goal.returns-clause-base
returns-clause-base c =
    let start = c.in_ok-start in
    let base = c.in_ok-hall.hall.base in
    c.started.ensures.base ∙ ap (λ b. b ++ start.start) start.ensures.same.base
    ∙ first_started base start.start c.args.given c.in_ok-hall.ensures.base start.ensures.start

pub returns-clause-serials : goal.returns-clause-serials
returns-clause-serials c =
    let start = c.in_ok-start in
    let base = c.in_ok-hall.hall.base in
    let is_base : base ++ start.start ≡ base_of c.args.given = first_started base start.start c.args.given c.in_ok-hall.ensures.base start.ensures.start in
    subst (λ b. HasSerials b (2 ^ 62)) is_base (base_serials base (base ++ start.start) c.in_ok-hall.ensures.base start.ensures.raises)
