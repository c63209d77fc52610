use Rattle.std.proofs.Common.{ap, ◌∙◌}
use Rattle.facts.specs.declared.tabs.TabState.{TabState}
use Rattle.facts.proofs.TabLemmas.{tab_state_more}
use Rattle.login_progress.specs.declared.known_tab.KnownTab.{KnownTab}
use Rattle.tab_asks.proofs.post.known_after.Goals as goal

pub returns : goal.returns
returns c =
    let k = c.args.known.now in
    record {
      known = ap (λ (s : TabState). let after : KnownTab = record k { state = s } in after)
          (c.tab_state_with.ensures.value ∙ tab_state_more k.root k.tab k.state c.args.setting.now.facts c.args.evidence.now c.requires.state);
    }
