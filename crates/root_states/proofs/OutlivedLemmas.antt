-- The sessions that are outlived, fact by fact.
use Rattle.std.proofs.Common.{◌≡◌, ℕ, ◌+◌, ◌≤◌, suc, Bool, false, not, List, ◌++◌, ◌∷◌, [], length, map, filter, drop, Option, Some, None, option_map, option_to_list, slice_get, drop-cons, drop_of_length-le, append_assoc, append-nil, add-one, refl, ap, sym, ◌∙◌, arith}
use Rattle.std.specs.Prelude.{fold}
use Rattle.std.proofs.lemmas.Grind.{fold-append}
use Rattle.std.proofs.lemmas.List.{map-append}
use Rattle.std.proofs.lemmas.List.Elements.{filter-append}
use Rattle.std.proofs.lemmas.Option.{get_or_from_slice_get, slice_get_within, same_Some}
use Rattle.login_base.specs.declared.id.SessionId.{SessionId}
use Rattle.facts.specs.declared.fact.Fact.{Fact}
use Rattle.facts.specs.declared.fact.Fact.TheVariants as events
use Rattle.facts.specs.declared.subject.Subject.{Subject}
use Rattle.facts.specs.declared.tabs.RootSession.{RootSession}
use Rattle.facts.specs.Sessions.{session_begun, session_later, session_left, standing_sessions, outlived_sessions}
use Rattle.facts.specs.Subjects.{subject_of, is_session, is_of_session}
use Rattle.facts.specs.Tabs.{is_live}
use Rattle.fact_walks.proofs.Unread.{unread}
use Rattle.root_states.specs.About.{of_beginning, of_session}
use Rattle.root_states.specs.Outlived.{outlived_id, outlived_ids}

-- ---- facts that aren't read

pub none_begun_at : (facts : List Fact) (i : ℕ) (subject : Subject)
    → option_map subject_of (slice_get facts i) ≡ Some subject → is_session subject ≡ false
    → option_map session_begun (slice_get facts i) ≡ Some None
none_begun_at facts i subject at other = unread is_session session_begun None of_beginning facts i subject at other

pub same_at : (own : RootSession) (facts : List Fact) (i : ℕ) (subject : Subject)
    → option_map subject_of (slice_get facts i) ≡ Some subject → is_of_session own.session subject ≡ false
    → option_map (session_later (Some own)) (slice_get facts i) ≡ Some (Some own)
same_at own facts i subject at other =
    unread (is_of_session own.session) (session_later (Some own)) (Some own) (of_session own) facts i subject at other

-- ---- one session

-- none stays none
none_later : (fact : Fact) → session_later None fact ≡ None
none_later (events.Seen session moment) = refl
none_later (events.SessionEnd session) = refl
none_later fact = refl

pub none_left : (facts : List Fact) → fold session_later None facts ≡ None
none_left [] = refl
none_left (fact ∷ facts) =
    ap (λ (own : Option RootSession). fold session_later own facts) (none_later fact) ∙ none_left facts

-- the list from a place on
rest_at : (facts : List Fact) (i : ℕ) (fact : Fact) → slice_get facts i ≡ Some fact
    → drop i facts ≡ fact ∷ drop (i + 1) facts
rest_at facts i fact at =
    drop-cons facts i fact (slice_get_within facts i fact at)
    ∙ ap (λ (x : Fact). x ∷ drop (suc i) facts) (get_or_from_slice_get facts i fact fact at)
    ∙ ap (λ (n : ℕ). fact ∷ drop n facts) (sym (add-one i))

module _ (facts : List Fact) (i : ℕ) where
  left_from : (o : Option Fact) (own new : Option RootSession) → slice_get facts i ≡ o
      → option_map (session_later own) o ≡ Some new
      → fold session_later own (drop i facts) ≡ fold session_later new (drop (i + 1) facts)
  left_from None own new at h = absurd cc
  left_from (Some fact) own new at h =
      ap (fold session_later own) (rest_at facts i fact at)
      ∙ ap (λ (o : Option RootSession). fold session_later o (drop (i + 1) facts))
      (same_Some (session_later own fact) new h)

  -- one fact later
  pub left_on : (own new : Option RootSession) → option_map (session_later own) (slice_get facts i) ≡ Some new
      → fold session_later own (drop i facts) ≡ fold session_later new (drop (i + 1) facts)
  left_on own new h = left_from (slice_get facts i) own new refl h

  -- one fact later it is over
  pub ended_on : (start own new : Option RootSession) → start ≡ fold session_later own (drop i facts)
      → option_map (session_later own) (slice_get facts i) ≡ Some None → new ≡ None → new ≡ start
  ended_on start own new h k e = e ∙ sym (h ∙ left_on own None k ∙ none_left (drop (i + 1) facts))

module _ (facts more : List Fact) (i : ℕ) where
  -- of a fact that begins none, none is left
  pub none_begun : (later : List Fact) (new : Option RootSession)
      → option_map session_begun (slice_get facts i) ≡ Some None → new ≡ None
      → option_map (λ (fact : Fact). session_left fact later) (slice_get facts i) ≡ Some new
  none_begun later new h e = begun_from (slice_get facts i) None h ∙ ap Some (none_left later ∙ sym e)
    where
      begun_from : (o : Option Fact) (own : Option RootSession) → option_map session_begun o ≡ Some own
          → option_map (λ (fact : Fact). session_left fact later) o ≡ Some (fold session_later own later)
      begun_from None own h = absurd cc
      begun_from (Some fact) own h =
          ap (λ (o : Option RootSession). Some (fold session_later o later)) (same_Some (session_begun fact) own h)

  -- what both parts make of it
  pub left_behind : (own left new : Option RootSession) → option_map session_begun (slice_get facts i) ≡ Some own
      → left ≡ fold session_later own (drop (i + 1) facts)
      → new ≡ fold session_later left more
      → option_map (λ (fact : Fact). session_left fact (drop (i + 1) facts ++ more)) (slice_get facts i) ≡ Some new
  left_behind own left new h k e =
      begun_from (slice_get facts i) h
      ∙ ap Some
      (fold-append session_later own (drop (i + 1) facts) more
      ∙ ap (λ (o : Option RootSession). fold session_later o more) (sym k) ∙ sym e)
    where
      begun_from : (o : Option Fact) → option_map session_begun o ≡ Some own
          → option_map (λ (fact : Fact). session_left fact (drop (i + 1) facts ++ more)) o
          ≡ Some (fold session_later own (drop (i + 1) facts ++ more))
      begun_from None h = absurd cc
      begun_from (Some fact) h =
          ap (λ (o : Option RootSession). Some (fold session_later o (drop (i + 1) facts ++ more)))
          (same_Some (session_begun fact) own h)

  -- it ended in the first part
  pub ended_before : (own new : Option RootSession) → option_map session_begun (slice_get facts i) ≡ Some own
      → None ≡ fold session_later own (drop (i + 1) facts) → new ≡ None
      → option_map (λ (fact : Fact). session_left fact (drop (i + 1) facts ++ more)) (slice_get facts i) ≡ Some new
  ended_before own new h k e = left_behind own None new h k (e ∙ sym (none_left more))

-- ---- all sessions

module _ (now : ℕ) where
  pub no_ids : outlived_ids now [] ≡ []
  unfolding standing_sessions
  no_ids = refl

  pub ids_on : (fact : Fact) (later : List Fact)
      → outlived_ids now (fact ∷ later) ≡ outlived_id now (session_left fact later) ++ outlived_ids now later
  unfolding standing_sessions
  ids_on fact later =
      let outlived : RootSession → Bool = λ (own : RootSession). not (is_live now own) in
      let id : RootSession → SessionId = λ (own : RootSession). own.session in
      let left = option_to_list (session_left fact later) in
      ap (map id) (filter-append outlived left (standing_sessions later))
      ∙ map-append id (filter outlived left) (outlived_sessions now later)

  -- what is found is moved over, one fact after the other
  moved : (all old new : List SessionId) (fact : Fact) (later : List Fact) (left : Option RootSession)
      → session_left fact later ≡ left
      → all ≡ old ++ outlived_ids now (fact ∷ later) → new ≡ old ++ outlived_id now left
      → all ≡ new ++ outlived_ids now later
  moved all old new fact later left h k e =
      k ∙ ap (λ (ids : List SessionId). old ++ ids) (ids_on fact later)
      ∙ ap (λ (o : Option RootSession). old ++ (outlived_id now o ++ outlived_ids now later)) h
      ∙ sym (append_assoc old (outlived_id now left) (outlived_ids now later))
      ∙ ap (λ (ids : List SessionId). ids ++ outlived_ids now later) (sym e)

  moved_from : (all old new : List SessionId) (facts more : List Fact) (i : ℕ) (o : Option Fact)
      (left : Option RootSession)
      → slice_get facts i ≡ o
      → option_map (λ (fact : Fact). session_left fact (drop (i + 1) facts ++ more)) o ≡ Some left
      → all ≡ old ++ outlived_ids now (drop i facts ++ more) → new ≡ old ++ outlived_id now left
      → all ≡ new ++ outlived_ids now (drop (i + 1) facts ++ more)
  moved_from all old new facts more i None left at h k e = absurd cc
  moved_from all old new facts more i (Some fact) left at h k e =
      moved all old new fact (drop (i + 1) facts ++ more) left
      (same_Some (session_left fact (drop (i + 1) facts ++ more)) left h)
      (k ∙ ap (λ (rest : List Fact). old ++ outlived_ids now (rest ++ more)) (rest_at facts i fact at)) e

  pub moved_at : (all old new : List SessionId) (facts more : List Fact) (i : ℕ) (left : Option RootSession)
      → option_map (λ (fact : Fact). session_left fact (drop (i + 1) facts ++ more)) (slice_get facts i) ≡ Some left
      → all ≡ old ++ outlived_ids now (drop i facts ++ more) → new ≡ old ++ outlived_id now left
      → all ≡ new ++ outlived_ids now (drop (i + 1) facts ++ more)
  moved_at all old new facts more i left h k e = moved_from all old new facts more i (slice_get facts i) left refl h k e

  -- at the end all of the chronicle are moved
  pub all_moved : (all new : List SessionId) (facts more : List Fact) (i : ℕ) → length facts ≤ i
      → all ≡ new ++ outlived_ids now (drop i facts ++ more) → all ≡ new ++ outlived_ids now more
  all_moved all new facts more i past h =
      h ∙ ap (λ (rest : List Fact). new ++ outlived_ids now (rest ++ more)) (drop_of_length-le facts past)

  pub moved_first : (all old new : List SessionId) (fact : Fact) (later rest : List Fact) (left : Option RootSession)
      → rest ≡ fact ∷ later → left ≡ session_left fact later
      → all ≡ old ++ outlived_ids now rest → new ≡ old ++ outlived_id now left → all ≡ new ++ outlived_ids now later
  moved_first all old new fact later rest left is h k e =
      moved all old new fact later left (sym h) (k ∙ ap (λ (fs : List Fact). old ++ outlived_ids now fs) is) e

  -- at the end nothing is left to be moved
  pub none_behind : (all old : List SessionId) (rest : List Fact) → length rest ≡ 0 → all ≡ old ++ outlived_ids now rest
      → old ≡ all
  none_behind all old [] none h = sym (h ∙ ap (λ (ids : List SessionId). old ++ ids) no_ids ∙ append-nil old)
  none_behind all old (fact ∷ rest) none h = absurd (omega arith)
