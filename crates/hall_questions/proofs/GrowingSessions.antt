-- The sessions that stand behind more facts: those before, as the new facts leave them, and then those of the new.
use Rattle.std.proofs.Common.{◌≡◌, List, [], ◌∷◌, ◌++◌, Some, None, refl, ap, sym, ◌∙◌, append_assoc}
use Rattle.std.specs.Prelude.{Option, fold, option_to_list}
use Rattle.std.specs.List.{flat_map}
use Rattle.std.proofs.lemmas.Grind.{flat_map-append}
use Rattle.std.proofs.lemmas.List.{append-nil}
use Rattle.facts.specs.declared.fact.Fact.{Fact}
use Rattle.facts.specs.declared.fact.Fact.TheVariants as events
use Rattle.facts.specs.declared.tabs.RootSession.{RootSession}
use Rattle.facts.specs.Sessions.{session_begun, session_later, session_left, standing_sessions}
use Rattle.facts.proofs.PlacesLemmas.{fold_append}

-- what more facts make of a session: none where they end it
abbrev left_of : List Fact → RootSession → List RootSession
left_of more own = option_to_list (fold session_later (Some own) more)

-- and of sessions
abbrev pub left_after : List Fact → List RootSession → List RootSession
left_after more owns = flat_map (left_of more) owns

-- no session comes back
none_later : (fact : Fact) → session_later None fact ≡ None
none_later (events.Seen session moment) = refl
none_later (events.SessionEnd session) = refl
none_later fact = refl

none_left : (more : List Fact) → fold session_later None more ≡ None
none_left [] = refl
none_left (fact ∷ more) = ap (λ (own : Option RootSession). fold session_later own more) (none_later fact) ∙ none_left more

-- one session that may be gone
one_left : (own : Option RootSession) (more : List Fact) → option_to_list (fold session_later own more) ≡ left_after more (option_to_list own)
one_left None more = ap option_to_list (none_left more)
one_left (Some own) more = sym (append-nil (left_of more own))

pub sessions_joined : (front more : List Fact) → standing_sessions (front ++ more) ≡ left_after more (standing_sessions front) ++ standing_sessions more
unfolding standing_sessions
sessions_joined [] more = refl
sessions_joined (fact ∷ front) more =
    let own = session_left fact front in
    let new = standing_sessions more in
    ap (λ (o : Option RootSession). option_to_list o ++ standing_sessions (front ++ more)) (fold_append session_later (session_begun fact) front more)
    ∙ ap (λ (owns : List RootSession). owns ++ standing_sessions (front ++ more)) (one_left own more)
    ∙ ap (λ (owns : List RootSession). left_after more (option_to_list own) ++ owns) (sessions_joined front more)
    ∙ sym (append_assoc (left_after more (option_to_list own)) (left_after more (standing_sessions front)) new)
    ∙ ap (λ (owns : List RootSession). owns ++ new) (sym (flat_map-append (left_of more) (option_to_list own) (standing_sessions front)))

pub sessions_grow : (one other more : List Fact) → standing_sessions one ≡ standing_sessions other
    → standing_sessions (one ++ more) ≡ standing_sessions (other ++ more)
sessions_grow one other more h =
    sessions_joined one more
    ∙ ap (λ (owns : List RootSession). left_after more owns ++ standing_sessions more) h
    ∙ sym (sessions_joined other more)
