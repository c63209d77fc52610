-- What is known of a tab, by the last fact of a kind and by what stands behind it.
use Rattle.std.proofs.Common.{◌≡◌, ℕ, Bool, true, false, ◌&&◌, ◌||◌, List, [], ◌∷◌, Some, None, refl, sym, ap, ◌∙◌}
use Rattle.std.specs.Prelude.{Option, fold, is_some, unwrap_or, option_and_then, if◌then◌else◌}
use Rattle.std.specs.List.{list_any}
use Rattle.std.specs.Option.{option_or}
use Rattle.login_base.specs.IdText.{same_id}
use Rattle.login_base.specs.declared.id.RootKey.{RootKey}
use Rattle.login_base.specs.declared.id.SessionId.{SessionId}
use Rattle.login_base.specs.declared.id.TabKey.{TabKey}
use Rattle.login_base.specs.declared.id.UserId.{UserId}
use Rattle.facts.specs.declared.fact.Fact.{Fact}
use Rattle.facts.specs.declared.fact.Fact.TheVariants as events
use Rattle.facts.specs.declared.tabs.Opening.{Opening}
use Rattle.facts.specs.declared.tabs.Page.{Page}
use Rattle.facts.specs.declared.tabs.RootSession.{RootSession}
use Rattle.facts.specs.declared.tabs.TabState.{TabState}
use Rattle.facts.specs.Places.{last_of, after_last}
use Rattle.facts.specs.Tabs.{tab_state, tab_after, no_tab, is_root, session_after, opening_after, page_after, named_after, completed_after}
use Rattle.facts.proofs.PlacesLemmas.{option_or_assoc, option_or_none}
use Rattle.hall_laws.specs.TabHistory.{opening_by, page_by, name_by, root_by, completes, is_completed, session_by, use_by, ends, session_behind, last_session}

-- ---- the last of a kind

either_or : {A : Type 0} (here : Bool) (new : A) (own : Option A) → (if here then Some new else own) ≡ option_or (if here then Some new else None) own
either_or true new own = refl
either_or false new own = refl

opening_step : (root : RootKey) (tab : TabKey) (own : Option Opening) (fact : Fact) → opening_after root tab own fact ≡ option_or (opening_by root tab fact) own
opening_step root tab own (events.Opened of opened version level life moment) =
    either_or (same_id opened.0 tab.0 && same_id of.0 root.0) (record { version = version; level = level; life = life; moment = moment }) own
opening_step root tab own fact = refl

page_step : (tab : TabKey) (own : Option Page) (fact : Fact) → page_after tab own fact ≡ option_or (page_by tab fact) own
page_step tab own (events.Rendered of code action offer) = either_or (same_id of.0 tab.0) (record { code = code; action = action; offer = offer }) own
page_step tab own fact = refl

name_step : (tab : TabKey) (own : Option UserId) (fact : Fact) → named_after tab own fact ≡ option_or (name_by tab fact) own
name_step tab own (events.Named of user) = either_or (same_id of.0 tab.0) user own
name_step tab own fact = refl

one_more : {A : Type 0} (later here own : Option A) (after : Option A) → after ≡ option_or here own → option_or later after ≡ option_or (option_or later here) own
one_more later here own after h = ap (option_or later) h ∙ sym (option_or_assoc later here own)

opening_fold : (root : RootKey) (tab : TabKey) (state : TabState) (facts : List Fact) → (fold (tab_after root tab) state facts).opening ≡ option_or (last_of (opening_by root tab) facts) state.opening
opening_fold root tab state [] = refl
opening_fold root tab state (fact ∷ facts) =
    opening_fold root tab (tab_after root tab state fact) facts
    ∙ one_more (last_of (opening_by root tab) facts) (opening_by root tab fact) state.opening (opening_after root tab state.opening fact) (opening_step root tab state.opening fact)

page_fold : (root : RootKey) (tab : TabKey) (state : TabState) (facts : List Fact) → (fold (tab_after root tab) state facts).page ≡ option_or (last_of (page_by tab) facts) state.page
page_fold root tab state [] = refl
page_fold root tab state (fact ∷ facts) =
    page_fold root tab (tab_after root tab state fact) facts
    ∙ one_more (last_of (page_by tab) facts) (page_by tab fact) state.page (page_after tab state.page fact) (page_step tab state.page fact)

name_fold : (root : RootKey) (tab : TabKey) (state : TabState) (facts : List Fact) → (fold (tab_after root tab) state facts).named ≡ option_or (last_of (name_by tab) facts) state.named
name_fold root tab state [] = refl
name_fold root tab state (fact ∷ facts) =
    name_fold root tab (tab_after root tab state fact) facts
    ∙ one_more (last_of (name_by tab) facts) (name_by tab fact) state.named (named_after tab state.named fact) (name_step tab state.named fact)

pub opening_is : (root : RootKey) (tab : TabKey) (facts : List Fact) → (tab_state root tab facts).opening ≡ last_of (opening_by root tab) facts
unfolding tab_state
opening_is root tab facts = opening_fold root tab no_tab facts ∙ option_or_none (last_of (opening_by root tab) facts)

pub page_is : (root : RootKey) (tab : TabKey) (facts : List Fact) → (tab_state root tab facts).page ≡ last_of (page_by tab) facts
unfolding tab_state
page_is root tab facts = page_fold root tab no_tab facts ∙ option_or_none (last_of (page_by tab) facts)

pub name_is : (root : RootKey) (tab : TabKey) (facts : List Fact) → (tab_state root tab facts).named ≡ last_of (name_by tab) facts
unfolding tab_state
name_is root tab facts = name_fold root tab no_tab facts ∙ option_or_none (last_of (name_by tab) facts)

-- ---- what stands behind the last

or_false : (b : Bool) → (b || false) ≡ b
or_false true = refl
or_false false = refl

or_swap : (here later own : Bool) → (later || (here || own)) ≡ ((here || later) || own)
or_swap true true own = refl
or_swap false true own = refl
or_swap true false own = refl
or_swap false false own = refl

-- ---- completed

-- completed from before, with these facts behind
abbrev completed_from : TabKey → Bool → List Fact → Bool
completed_from tab own facts =
    if is_some (last_of (root_by tab) facts) then list_any (completes tab) (after_last (root_by tab) facts) else list_any (completes tab) facts || own

opened_step : (same own : Bool) (root : RootKey) → (if same then false else own) ≡ (if is_some (if same then Some root else None) then false else own)
opened_step true own root = refl
opened_step false own root = refl

done_step : (same own : Bool) → (if same then true else own) ≡ (same || own)
done_step true own = refl
done_step false own = refl

completed_step : (tab : TabKey) (own : Bool) (fact : Fact) → completed_after tab own fact ≡ (if is_some (root_by tab fact) then false else completes tab fact || own)
completed_step tab own (events.Opened root of version level life moment) = opened_step (same_id of.0 tab.0) own root
completed_step tab own (events.Completed of user session moment) = done_step (same_id of.0 tab.0) own
completed_step tab own fact = refl

completed_turn : (tab : TabKey) (later here : Option RootKey) (behind facts : List Fact) (fact : Fact) (own next : Bool)
    → next ≡ (if is_some here then false else completes tab fact || own)
    → (if is_some later then list_any (completes tab) behind else list_any (completes tab) facts || next)
    ≡ (if is_some (option_or later here) then list_any (completes tab) (if is_some later then behind else (if is_some here then facts else fact ∷ facts)) else list_any (completes tab) (fact ∷ facts) || own)
completed_turn tab (Some root) here behind facts fact own next h = refl
completed_turn tab None (Some root) behind facts fact own next h = ap (λ (b : Bool). list_any (completes tab) facts || b) h ∙ or_false (list_any (completes tab) facts)
completed_turn tab None None behind facts fact own next h = ap (λ (b : Bool). list_any (completes tab) facts || b) h ∙ or_swap (completes tab fact) (list_any (completes tab) facts) own

completed_fold : (root : RootKey) (tab : TabKey) (state : TabState) (facts : List Fact) → (fold (tab_after root tab) state facts).completed ≡ completed_from tab state.completed facts
completed_fold root tab state [] = refl
completed_fold root tab state (fact ∷ facts) =
    completed_fold root tab (tab_after root tab state fact) facts
    ∙ completed_turn tab (last_of (root_by tab) facts) (root_by tab fact) (after_last (root_by tab) facts) facts fact state.completed (completed_after tab state.completed fact)
    (completed_step tab state.completed fact)

-- ---- what stands behind the last: all, where there is none

none_behind : {A : Type 0} (later here : Option A) (behind facts : List Fact) (fact : Fact) → option_or later here ≡ None
    → (if is_some later then behind else (if is_some here then facts else fact ∷ facts)) ≡ fact ∷ facts
none_behind (Some x) here behind facts fact h = absurd cc
none_behind None (Some x) behind facts fact h = absurd cc
none_behind None None behind facts fact h = refl

all_behind : {A : Type 0} (pick : Fact → Option A) (facts : List Fact) → last_of pick facts ≡ None → after_last pick facts ≡ facts
all_behind pick [] h = refl
all_behind pick (fact ∷ facts) h = none_behind (last_of pick facts) (pick fact) (after_last pick facts) facts fact h

from_start : (tab : TabKey) (facts : List Fact) (last : Option RootKey) → last_of (root_by tab) facts ≡ last → completed_from tab false facts ≡ is_completed tab facts
from_start tab facts (Some root) h = rw h refl
from_start tab facts None h = rw (h, all_behind (root_by tab) facts h) (or_false (list_any (completes tab) facts))

pub completed_is : (root : RootKey) (tab : TabKey) (facts : List Fact) → (tab_state root tab facts).completed ≡ is_completed tab facts
unfolding tab_state
completed_is root tab facts = completed_fold root tab no_tab facts ∙ from_start tab facts (last_of (root_by tab) facts) refl

-- ---- the session

abbrev session_from : RootKey → Option RootSession → List Fact → Option RootSession
session_from root own facts =
    if is_some (last_of (session_by root) facts) then option_and_then (session_behind (after_last (session_by root) facts)) (last_of (session_by root) facts)
    else option_and_then (session_behind facts) own

-- a fact begins a session in place of the one that was there, or may as well stand behind it
abbrev Turns : Option RootSession → Option RootSession → List Fact → Fact → Option RootSession → Type 0
Turns (Some new) next facts fact own = next ≡ Some new
Turns None next facts fact own = option_and_then (session_behind facts) next ≡ option_and_then (session_behind (fact ∷ facts)) own

begun_turn : (begins : Bool) (new : RootSession) (own : Option RootSession) (facts : List Fact) (fact : Fact)
    → option_and_then (session_behind facts) own ≡ option_and_then (session_behind (fact ∷ facts)) own
    → Turns (if begins then Some new else None) (if begins then Some new else own) facts fact own
begun_turn true new own facts fact h = refl
begun_turn false new own facts fact h = h

-- a fact that neither uses nor ends a session
neutral : (own : Option RootSession) (facts : List Fact) (fact : Fact) → ((session : SessionId) → ends session fact ≡ false) → ((session : SessionId) → use_by session fact ≡ None)
    → option_and_then (session_behind facts) own ≡ option_and_then (session_behind (fact ∷ facts)) own
neutral None facts fact e u = refl
neutral (Some own) facts fact e u = rw (e own.session, u own.session, option_or_none (last_of (use_by own.session) facts)) refl

seen_last : (ended : Bool) (last : Option ℕ) (moment : ℕ) (own : RootSession)
    → ◌≡◌ {A = Option RootSession} (if ended then None else Some (record own { seen = unwrap_or last moment })) (if ended then None else Some (record own { seen = unwrap_or (option_or last (Some moment)) own.seen }))
seen_last ended (Some seen) moment own = refl
seen_last ended None moment own = refl

seen_turn : (same : Bool) (moment : ℕ) (own : RootSession) (facts : List Fact)
    → session_behind facts (if same then record own { seen = moment } else own)
    ≡ (if list_any (ends own.session) facts then None else Some (record own { seen = unwrap_or (option_or (last_of (use_by own.session) facts) (if same then Some moment else None)) own.seen }))
seen_turn true moment own facts = seen_last (list_any (ends own.session) facts) (last_of (use_by own.session) facts) moment own
seen_turn false moment own facts = rw (option_or_none (last_of (use_by own.session) facts)) refl

end_turn : (same : Bool) (own : RootSession) (facts : List Fact)
    → option_and_then (session_behind facts) (if same then None else Some own)
    ≡ (if same || list_any (ends own.session) facts then None else Some (record own { seen = unwrap_or (option_or (last_of (use_by own.session) facts) None) own.seen }))
end_turn true own facts = refl
end_turn false own facts = rw (option_or_none (last_of (use_by own.session) facts)) refl

turns : (root : RootKey) (own : Option RootSession) (facts : List Fact) (fact : Fact) → Turns (session_by root fact) (session_after root own fact) facts fact own
turns root own facts (events.Session session of user moment idle most) =
    let fact = events.Session session of user moment idle most in
    let new : RootSession = record { session = session; user = user; opened = moment; seen = moment; idle = idle; max = most } in
    begun_turn (is_root root of) new own facts fact (neutral own facts fact (λ s. refl) (λ s. refl))
turns root None facts (events.Seen session moment) = refl
turns root (Some own) facts (events.Seen session moment) = seen_turn (same_id own.session.0 session.0) moment own facts
turns root None facts (events.SessionEnd session) = refl
turns root (Some own) facts (events.SessionEnd session) = end_turn (same_id own.session.0 session.0) own facts
turns root own facts fact = neutral own facts fact (λ s. refl) (λ s. refl)

session_turn : (later here : Option RootSession) (behind facts : List Fact) (fact : Fact) (own next : Option RootSession) → Turns here next facts fact own
    → (if is_some later then option_and_then (session_behind behind) later else option_and_then (session_behind facts) next)
    ≡ (if is_some (option_or later here) then option_and_then (session_behind (if is_some later then behind else (if is_some here then facts else fact ∷ facts))) (option_or later here) else option_and_then (session_behind (fact ∷ facts)) own)
session_turn (Some last) here behind facts fact own next h = refl
session_turn None (Some new) behind facts fact own next h = ap (option_and_then (session_behind facts)) h
session_turn None None behind facts fact own next h = h

from_none : (own : Option RootSession) → own ≡ option_and_then (session_behind []) own
from_none None = refl
from_none (Some own) = refl

session_fold : (root : RootKey) (tab : TabKey) (state : TabState) (facts : List Fact) → (fold (tab_after root tab) state facts).session ≡ session_from root state.session facts
session_fold root tab state [] = from_none state.session
session_fold root tab state (fact ∷ facts) =
    session_fold root tab (tab_after root tab state fact) facts
    ∙ session_turn (last_of (session_by root) facts) (session_by root fact) (after_last (session_by root) facts) facts fact state.session (session_after root state.session fact)
    (turns root state.session facts fact)

session_start : (root : RootKey) (facts : List Fact) (last : Option RootSession) → last_of (session_by root) facts ≡ last → session_from root None facts ≡ last_session root facts
session_start root facts (Some own) h = rw h refl
session_start root facts None h = rw h refl

pub session_is : (root : RootKey) (tab : TabKey) (facts : List Fact) → (tab_state root tab facts).session ≡ last_session root facts
unfolding tab_state
session_is root tab facts = session_fold root tab no_tab facts ∙ session_start root facts (last_of (session_by root) facts) refl
