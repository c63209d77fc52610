-- The words of a reply are plain.
use Rattle.std.proofs.Common.{◌≡◌, ℕ, ◌&&◌, Bool, true, List, [], ◌∷◌, ◌++◌, refl}
use Rattle.std.specs.Prelude.{Option, Some, None, codes, decimal}
use Rattle.std.specs.List.{list_all, flat_map}
use Rattle.login_base.specs.IdText.{id_bytes}
use Rattle.login_base.specs.Names.{is_name}
use Rattle.login_base.specs.declared.id.Code.{Code}
use Rattle.login_base.specs.declared.id.RootKey.{RootKey}
use Rattle.login_base.specs.declared.id.TabKey.{TabKey}
use Rattle.realm_data.specs.declared.action.Action.{Action}
use Rattle.realm_data.specs.declared.action.Action.TheVariants as actions
use Rattle.flow_tree.specs.declared.exec.Kind.{Kind}
use Rattle.flow_tree.specs.declared.exec.Kind.TheVariants as kinds
use Rattle.asks.specs.declared.rule.Rule.{Rule}
use Rattle.asks.specs.declared.rule.Rule.TheVariants as rules
use Rattle.asks.specs.declared.reply.Need.{Need}
use Rattle.asks.specs.declared.reply.Next.{Next}
use Rattle.asks.specs.declared.reply.Next.TheVariants as nexts
use Rattle.asks.specs.declared.reply.What.{What}
use Rattle.asks.specs.declared.reply.What.TheVariants as whats
use Rattle.asks.specs.declared.reply.Who.{Who}
use Rattle.reply_words.specs.Words.{rule_words, kind_words, action_words, listed, number_words, need_words, form_words, shown_words, action_page_words, next_words, current_words, other_user_words, done_words, what_words, keys_words}
use Rattle.web_laws.specs.Names.{need_has_name, next_has_names, has_names}
use Rattle.web_laws.specs.Plain.{is_plain_text, next_has_plain_texts, has_plain_texts}
use Rattle.web_laws.proofs.PlainLemmas.{IsPlain, and_first, and_second, plain_append, labelled, plain_name, plain_id, plain_number}

rule_plain : (rule : Rule) → IsPlain (rule_words rule)
rule_plain rules.WrongKey = refl
rule_plain rules.UserTaken = refl
rule_plain rules.TooManyUsers = refl
rule_plain rules.NoSuchUser = refl
rule_plain rules.NothingThere = refl
rule_plain rules.AccountDisabled = refl
rule_plain rules.TooManyTokens = refl
rule_plain rules.NoSuchSession = refl
rule_plain rules.RealmRefused = refl

kind_plain : (kind : Kind) → IsPlain (kind_words kind)
kind_plain kinds.Allow = refl
kind_plain kinds.Deny = refl
kind_plain kinds.Cookie = refl
kind_plain kinds.Username = refl
kind_plain kinds.Password = refl
kind_plain kinds.Form = refl
kind_plain kinds.Otp = refl
kind_plain kinds.Recovery = refl

pub action_plain : (action : Action) → IsPlain (action_words action)
unfolding action_words
action_plain actions.Terms = refl
action_plain actions.VerifyEmail = refl
action_plain actions.UpdatePassword = refl
action_plain actions.ConfigureOtp = refl
action_plain actions.RecoveryCodes = refl

-- ---- pages

number_plain : (kind : Kind) (n : ℕ) → IsPlain (number_words kind n)
number_plain kinds.Allow n = refl
number_plain kinds.Deny n = refl
number_plain kinds.Cookie n = refl
number_plain kinds.Username n = refl
number_plain kinds.Password n = refl
number_plain kinds.Form n = refl
number_plain kinds.Otp n = refl
number_plain kinds.Recovery n = plain_number n

need_plain : (need : Need) → need_has_name need ≡ true → IsPlain (need_words need)
need_plain need e =
    let named = labelled need.id (codes ":") (kind_words need.kind) (plain_name need.id e) refl (kind_plain need.kind) in
    plain_append (need.id ++ codes ":" ++ kind_words need.kind) (number_words need.kind need.number) named (number_plain need.kind need.number)

more_plain : {A : Type 0} (words : A → List ℕ) (fits : A → Bool) → ((x : A) → fits x ≡ true → IsPlain (words x)) → (xs : List A) → list_all fits xs ≡ true → IsPlain (flat_map (λ y. codes "," ++ words y) xs)
more_plain words fits plain [] e = refl
more_plain words fits plain (x ∷ xs) e =
    plain_append (words x) (flat_map (λ y. codes "," ++ words y) xs) (plain x (and_first (fits x) (list_all fits xs) e)) (more_plain words fits plain xs (and_second (fits x) (list_all fits xs) e))

listed_plain : {A : Type 0} (words : A → List ℕ) (fits : A → Bool) → ((x : A) → fits x ≡ true → IsPlain (words x)) → (xs : List A) → list_all fits xs ≡ true → IsPlain (listed words xs)
listed_plain words fits plain [] e = refl
listed_plain words fits plain (x ∷ xs) e =
    plain_append (words x) (flat_map (λ y. codes "," ++ words y) xs) (plain x (and_first (fits x) (list_all fits xs) e)) (more_plain words fits plain xs (and_second (fits x) (list_all fits xs) e))

form_plain : (code : Code) (asked : List Need) → list_all need_has_name asked ≡ true → IsPlain (form_words code asked)
form_plain code asked e =
    labelled (codes "form code=" ++ id_bytes code.0) (codes " asked=") (listed need_words asked) (plain_id code.0) refl (listed_plain need_words need_has_name need_plain asked e)

shown_plain : (action : Action) (shown : List (List ℕ)) → list_all is_plain_text shown ≡ true → IsPlain (shown_words action shown)
shown_plain actions.ConfigureOtp shown e = listed_plain (λ text. text) is_plain_text (λ text p. p) shown e
shown_plain actions.RecoveryCodes shown e = listed_plain (λ text. text) is_plain_text (λ text p. p) shown e
shown_plain actions.Terms shown e = refl
shown_plain actions.VerifyEmail shown e = refl
shown_plain actions.UpdatePassword shown e = refl

page_plain : (code : Code) (kind : Action) (shown : List (List ℕ)) → list_all is_plain_text shown ≡ true → IsPlain (action_page_words code kind shown)
page_plain code kind shown e =
    let front = codes "action code=" ++ id_bytes code.0 in
    plain_append (front ++ codes " kind=" ++ action_words kind) (shown_words kind shown) (labelled front (codes " kind=") (action_words kind) (plain_id code.0) refl (action_plain kind)) (shown_plain kind shown e)

next_plain : (next : Next) → next_has_names next ≡ true → next_has_plain_texts next ≡ true → IsPlain (next_words next)
next_plain (nexts.Form code asked) names texts = form_plain code asked names
next_plain (nexts.Action code kind shown) names texts = page_plain code kind shown texts

-- ---- replies

current_plain : (current : Option Code) → IsPlain (current_words current)
current_plain (Some code) = plain_id code.0
current_plain None = refl

other_plain : (tab session : Who) → (is_name tab.name && is_name session.name) ≡ true → IsPlain (other_user_words tab session)
other_plain tab session e =
    labelled (codes "refused 10 OtherUser tab=" ++ tab.name) (codes " session=") session.name
    (plain_name tab.name (and_first (is_name tab.name) (is_name session.name) e)) refl (plain_name session.name (and_second (is_name tab.name) (is_name session.name) e))

done_plain : (session user : List ℕ) (level : ℕ) → IsPlain session → is_name user ≡ true → IsPlain (done_words session user level)
done_plain session user level s e =
    let front = codes "done session=" ++ session in
    labelled (front ++ codes " user=" ++ user) (codes " level=") (decimal level) (labelled front (codes " user=") user s refl (plain_name user e)) refl (plain_number level)

pub what_plain : (what : What) → has_names what ≡ true → has_plain_texts what ≡ true → IsPlain (what_words what)
what_plain (whats.BadForm at) names texts = plain_name at names
what_plain (whats.AdminRefused rule) names texts = rule_plain rule
what_plain whats.UnknownClient names texts = refl
what_plain whats.LevelUnknown names texts = refl
what_plain (whats.TooManyRoots count) names texts = plain_number count
what_plain (whats.TooManyTabs count) names texts = plain_number count
what_plain whats.UnknownTab names texts = refl
what_plain whats.TabExpired names texts = refl
what_plain (whats.Stale current) names texts = current_plain current
what_plain (whats.OtherUser tab session) names texts = other_plain tab session names
what_plain whats.Finished names texts = refl
what_plain whats.NotAsked names texts = refl
what_plain (whats.Locked until) names texts = plain_number until
what_plain whats.Disabled names texts = refl
what_plain (whats.CredentialMoved had now) names texts = labelled (codes "refused 15 CredentialMoved had=" ++ decimal had) (codes " now=") (decimal now) (plain_number had) refl (plain_number now)
what_plain (whats.BadCredentials next) names texts = next_plain next names texts
what_plain (whats.BadCode next) names texts = next_plain next names texts
what_plain (whats.CodeSpent step next) names texts = plain_append (codes "refused 18 CodeSpent step=" ++ decimal step) (next_words next) (plain_number step) (next_plain next names texts)
what_plain whats.TokenUnknown names texts = refl
what_plain whats.TokenSpent names texts = refl
what_plain (whats.TokenExpired expiry) names texts = plain_number expiry
what_plain (whats.Denied execution) names texts = plain_name execution names
what_plain (whats.NotConfigured execution) names texts = plain_name execution names
what_plain whats.DeadEnd names texts = refl
what_plain (whats.LevelMissed level) names texts = plain_number level
what_plain (whats.Done session user level) names texts = done_plain (id_bytes session.0) user.name level (plain_id session.0) names
what_plain (whats.Action code kind shown) names texts = page_plain code kind shown texts
what_plain (whats.Form code asked) names texts = form_plain code asked names
what_plain (whats.ActionDone user kind) names texts = labelled (codes "action-done user=" ++ user.name) (codes " kind=") (action_words kind) (plain_name user.name names) refl (action_plain kind)
what_plain whats.LoggedOut names texts = refl
what_plain (whats.Told text) names texts = texts
what_plain whats.StoreFault names texts = refl
what_plain whats.DiceFault names texts = refl
what_plain whats.Memory names texts = refl

keys_plain : (opened : Option RootKey) (tab : Option TabKey) → IsPlain (keys_words opened tab)
keys_plain (Some root) (Some tab) =
    let front = codes "root=" ++ id_bytes root.0 in
    plain_append (front ++ codes " tab=" ++ id_bytes tab.0) (codes " ") (labelled front (codes " tab=") (id_bytes tab.0) (plain_id root.0) refl (plain_id tab.0)) refl
keys_plain (Some root) None = refl
keys_plain None tab = refl

pub words_plain : (opened : Option RootKey) (tab : Option TabKey) (what : What) → has_names what ≡ true → has_plain_texts what ≡ true → IsPlain (keys_words opened tab ++ what_words what)
words_plain opened tab what names texts = plain_append (keys_words opened tab) (what_words what) (keys_plain opened tab) (what_plain what names texts)
