-- How far an ask raises the counters.
use Rattle.std.proofs.Common.{ℕ, ◌≤◌, List, ◌++◌, arith}
use Rattle.asks.specs.declared.ask.Ask.{Ask}
use Rattle.asks.specs.declared.ask.Ask.TheVariants as asks
use Rattle.facts.specs.declared.fact.Fact.{Fact}
use Rattle.asks.specs.declared.finding.Finding.{Finding}
use Rattle.asks.specs.Solved.{SolvedAsk}
use Rattle.hall_answers.specs.Setting.{Setting, setting_at}
use Rattle.login_base.specs.declared.draws.Draws.{Draws}
use Rattle.hall_answers.proofs.Lifts.{Lifts, nothing, Raising}
use Rattle.token_asks.proofs.SerialLemmas.{verify_lifts, reset_lifts}
use Rattle.tab_pages.proofs.SerialLemmas.{page_lifts}
use Rattle.root_asks.proofs.SerialLemmas.{new_tab_lifts, logout_lifts}
use Rattle.tab_asks.proofs.SerialLemmas.{post_lifts}
use Rattle.admin_asks.proofs.SerialLemmas.{admin_raises}
use Rattle.login_hall.specs.Due.{due, due_ask}
use Rattle.login_hall.specs.Legal.{Raises}

raised : (most : ℕ) (old more : List Fact) → most ≤ 4 → Lifts most old more → Raises old (old ++ more)
raised most old more few l = record { tabs = omega (arith, few, l.tabs); stored = omega (arith, few, l.stored); version = let e = l.version in omega arith }

raised_with_version : (most : ℕ) (old more : List Fact) → most ≤ 4 → Raising most old more → Raises old (old ++ more)
raised_with_version most old more few r = record { tabs = omega (arith, few, r.tabs); stored = omega (arith, few, r.stored); version = r.version }

-- an ask raises each counter by a few at most
pub raises : (setting : Setting) (ask : Ask) (finding : Finding) → Raises setting.facts (setting.facts ++ (due_ask setting ask finding).added)
raises setting (asks.Bad at) finding = raised 0 setting.facts _ (omega arith) (nothing 0 setting.facts)
raises setting (asks.NewTab new) finding = raised 3 setting.facts _ (omega arith) (new_tab_lifts setting new)
raises setting (asks.Page root tab) finding = raised 1 setting.facts _ (omega arith) (page_lifts setting root tab)
raises setting (asks.Post post) finding = raised 2 setting.facts _ (omega arith) (post_lifts setting post finding)
raises setting (asks.Verify key) finding = raised 1 setting.facts _ (omega arith) (verify_lifts setting key)
raises setting (asks.Reset key password) finding = raised 1 setting.facts _ (omega arith) (reset_lifts setting key finding)
raises setting (asks.Logout root) finding = raised 0 setting.facts _ (omega arith) (logout_lifts setting root)
raises setting (asks.Admin access verb) finding = raised_with_version 3 setting.facts _ (omega arith) (admin_raises setting access verb finding)

pub raises_at : (facts : List Fact) (solved : SolvedAsk) (moment : ℕ) (draws : Draws) → Raises facts (facts ++ (due facts solved moment draws).added)
raises_at facts solved moment draws = raises (setting_at facts moment draws) solved.ask solved.finding
