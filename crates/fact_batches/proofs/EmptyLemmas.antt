-- Tables without rows.
use Rattle.std.proofs.Common.{◌≡◌, ℕ, pos, negsuc, Bool, true, false, cond, List, [], ◌∷◌, refl, sym, ap, ◌∙◌}
use Rattle.std.specs.Prelude.{Option, Some, None, option_map, option_and_then}
use Rattle.std.specs.List.Sorted.{IsStrictlySortedBy}
use Rattle.login_base.specs.IdText.{id_of}
use Rattle.login_base.specs.declared.id.SessionId.{SessionId}
use Rattle.login_base.specs.declared.id.TokenKey.{TokenKey}
use Rattle.login_base.specs.declared.id.UserId.{UserId}
use Rattle.keeper_rows.specs.declared.change.RowKey.{RowKey}
use Rattle.keeper_rows.specs.declared.change.RowKey.TheVariants as keys
use Rattle.keeper_rows.specs.Applied.{no_rows}
use Rattle.facts.specs.declared.fact.Fact.{Fact}
use Rattle.facts.specs.declared.fact.Fact.TheVariants as events
use Rattle.facts.specs.Accounts.{name_of}
use Rattle.facts.specs.Realms.{current_realm}
use Rattle.fact_rows.specs.Due.{row_due}
use Rattle.fact_rows.specs.Found.{holder_of, session_kept, token_kept}
use Rattle.fact_rows.specs.Rows.{realm_row, account_row, secret_row, session_row, token_row, mark_row}
use Rattle.fact_rows.specs.StandFor.{row_in, IsOrdered, StandFor}
use Rattle.fact_rows.specs.Stored.{has_rows}

-- none of what rows are made of is there
record IsBlank (facts : List Fact) : Type 0 where
  realm : current_realm facts ≡ None
  names : (user : UserId) → name_of user facts ≡ None
  holders : (serial : ℕ) → holder_of serial facts ≡ None
  sessions : (id : SessionId) → session_kept id facts ≡ None
  tokens : (key : TokenKey) → token_kept key facts ≡ None
  rows : has_rows facts ≡ false

no_case : {R : Type 0} (b : Bool) (o : Option R) → o ≡ None → cond b o None ≡ None
no_case true o h = h
no_case false o h = refl

no_item : {A R : Type 0} (f : A → Option R) (o : Option A) → ((x : A) → f x ≡ None) → option_and_then f o ≡ None
no_item f None each = refl
no_item f (Some x) each = each x

module _ (moment : ℕ) (facts : List Fact) (blank : IsBlank facts) where
  none_due : (key : RowKey) → row_due moment facts key ≡ None
  unfolding realm_row account_row secret_row session_row token_row mark_row
  none_due (keys.Realm version) = rw blank.realm refl
  none_due (keys.Account (pos n)) = ap (option_map _) (no_case _ _ (ap (option_map _) (blank.names (record { 0 = n }))))
  none_due (keys.Account (negsuc n)) = refl
  none_due (keys.Secret (pos n)) = ap (option_map _) (no_case _ _ (ap (option_and_then _) (blank.holders n)))
  none_due (keys.Secret (negsuc n)) = refl
  none_due (keys.Session text) = ap (option_map _) (no_item _ (id_of text) (λ id. ap (option_map _) (blank.sessions (record { 0 = id }))))
  none_due (keys.Token text) = ap (option_map _) (no_item _ (id_of text) (λ id. ap (option_map _) (blank.tokens (record { 0 = id }))))
  none_due keys.Mark = rw blank.rows refl

  none_there : (key : RowKey) → row_in no_rows key ≡ None
  none_there (keys.Realm version) = refl
  none_there (keys.Account id) = refl
  none_there (keys.Secret serial) = refl
  none_there (keys.Session text) = refl
  none_there (keys.Token text) = refl
  none_there keys.Mark = refl

  ordered : IsOrdered no_rows
  unfolding IsStrictlySortedBy
  ordered = record { realms = tt; accounts = tt; secrets = tt; sessions = tt; tokens = tt; marks = tt }

  stands : StandFor no_rows moment facts
  stands = record { ordered = ordered; same = λ key. none_there key ∙ sym (none_due key) }

pub nothing_stands : (moment : ℕ) → StandFor no_rows moment []
unfolding current_realm name_of holder_of session_kept token_kept has_rows
nothing_stands moment =
    stands moment [] (record {
      realm = refl;
      names = λ user. refl;
      holders = λ serial. refl;
      sessions = λ id. refl;
      tokens = λ key. refl;
      rows = refl;
    })

pub mark_stands : (moment : ℕ) → StandFor no_rows moment (events.Mark 0 0 0 0 ∷ [])
unfolding current_realm name_of holder_of session_kept token_kept has_rows
mark_stands moment =
    stands moment (events.Mark 0 0 0 0 ∷ []) (record {
      realm = refl;
      names = λ user. refl;
      holders = λ serial. refl;
      sessions = λ id. refl;
      tokens = λ key. refl;
      rows = refl;
    })
