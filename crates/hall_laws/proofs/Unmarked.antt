-- Asks add no mark, and so keep the codes counted.
use Rattle.std.proofs.Common.{◌≡◌, true, List, ◌++◌, refl}
use Rattle.realm_data.specs.declared.realm_parts.RealmParts.{RealmParts}
use Rattle.asks.specs.declared.ask.Ask.{Ask}
use Rattle.facts.specs.declared.fact.Fact.{Fact}
use Rattle.facts.specs.declared.fact.Fact.TheVariants as events
use Rattle.asks.specs.declared.finding.Finding.{Finding}
use Rattle.std.specs.Prelude.{Option}
use Rattle.hall_answers.specs.Setting.{Setting}
use Rattle.tab_asks.specs.declared.passing.Passing.{Passing}
use Rattle.login_hall.specs.Due.{due_ask}
use Rattle.login_hall.specs.Start.{IsStart}
use Rattle.login_hall.proofs.StartLemmas.{no_mark}
use Rattle.hall_laws.specs.Repeats.{HasCodesCounted}
use Rattle.hall_laws.proofs.Added.{is_plain, plain_allows, ask_all}
use Rattle.hall_laws.proofs.EvidenceFacts.{evidence_all}
use Rattle.hall_laws.proofs.CodeSerials.{IsUnmarked, codes_kept, all_unmarked}

unmarked : (fact : Fact) → is_plain fact ≡ true → IsUnmarked fact
unmarked (events.Mark tabs stored used kept) h = absurd cc
unmarked fact h = refl

pub ask_counts : (setting : Setting) (ask : Ask) (finding : Finding) → HasCodesCounted setting.facts → HasCodesCounted (setting.facts ++ (due_ask setting ask finding).added)
ask_counts setting ask finding counted =
    codes_kept setting.facts (due_ask setting ask finding).added
    (ask_all IsUnmarked (plain_allows IsUnmarked unmarked) (λ tab user session moment. refl) setting ask finding (λ user opened. refl) (λ credential step. refl) (λ key. refl) (λ post accepted.
    let passing : Passing = record { tab = accepted.known.tab; user = accepted.user; credential = accepted.credential; moment = setting.moment } in
    evidence_all IsUnmarked (λ p. refl) (λ p execution kind. refl) (λ credential step. refl) (λ credential number. refl) passing post.form)) counted

pub start_counts : (base : List Fact) (realm : Option RealmParts) (added : List Fact) → IsStart base realm added → HasCodesCounted base → HasCodesCounted (base ++ added)
start_counts base realm added start counted = codes_kept base added (all_unmarked added (no_mark base realm added start)) counted
