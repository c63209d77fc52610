use Rattle.std.proofs.Common.{sym, ap, ◌∙◌, rules, arith}
use Rattle.std.specs.Prelude.{reverse}
use Rattle.web_requests.proofs.SpaceLemmas.{goes, stays, stays_empty}
use Rattle.web_requests.proofs.texts.without_last_spaces.Goals as goal

pub returns-then-last-ne32 : goal.returns-then-last-ne32
returns-then-last-ne32 c = record { front = sym (stays c.loop-last.rest.now c.in-Some.more.now c.in-Some.last.now (search rules) (search rules)) ∙ ap reverse c.loop-last.invariant }

pub loop-last-preserved : goal.loop-last-preserved
loop-last-preserved c = sym (goes c.loop-last.rest.now c.in-Some.more.now c.in-Some.last.now (search rules) (search rules)) ∙ c.loop-last.invariant

pub returns : goal.returns
returns c = record { front = sym (stays_empty c.loop-last.rest.now (search rules)) ∙ ap reverse c.loop-last.invariant }
