-- The ids of the sessions that are outlived.
use Rattle.std.specs.Prelude.{ℕ, not, List, map, filter, Option, option_to_list}
use Rattle.login_base.specs.declared.id.SessionId.{SessionId}
use Rattle.facts.specs.declared.fact.Fact.{Fact}
use Rattle.facts.specs.declared.tabs.RootSession.{RootSession}
use Rattle.facts.specs.Sessions.{outlived_sessions}
use Rattle.facts.specs.Tabs.{is_live}

-- that of one session, where there is one that doesn't live any more
abbrev pub outlived_id : ℕ → Option RootSession → List SessionId
outlived_id now left =
    map (λ (own : RootSession). own.session) (filter (λ (own : RootSession). not (is_live now own)) (option_to_list left))

-- those of all
abbrev pub outlived_ids : ℕ → List Fact → List SessionId
outlived_ids now facts = map (λ (own : RootSession). own.session) (outlived_sessions now facts)
