-- The forms of a post: whom each names, whose password it gives, and which execution it answers.
use Rattle.std.specs.Prelude.{ℕ, Bool, false, ◌&&◌, ◌||◌, List, [], ◌∷◌, Option, None}
use Rattle.std.specs.Option.{option_or}
use Rattle.std.specs.Str.{bytes_eq}
use Rattle.conditions.specs.Secrets.{secret_of}
use Rattle.login_base.specs.declared.id.UserId.{UserId}
use Rattle.flow_tree.specs.declared.exec.Kind.{Kind}
use Rattle.flow_tree.specs.declared.exec.Kind.TheVariants as kinds
use Rattle.flow_tree.specs.Places.{same_kind}
use Rattle.asks.specs.declared.ask.Form.{Form}
use Rattle.asks.specs.declared.ask.Form.TheVariants as forms
use Rattle.facts.specs.declared.fact.Fact.{Fact}
use Rattle.facts.specs.declared.fact.Fact.TheVariants as events
use Rattle.asks.specs.declared.reply.Need.{Need}
use Rattle.facts.specs.Accounts.{account_named}
use Rattle.tab_asks.specs.declared.check.Spent.{Spent}
use Rattle.tab_asks.specs.declared.check.Spent.TheVariants as spends
use Rattle.tab_asks.specs.declared.passing.Passing.{Passing}

-- the user whom it names
abbrev pub named_by : List Fact → Form → Option UserId
named_by facts (forms.Username execution name) = account_named name facts
named_by facts (forms.NamePassword execution name password) = account_named name facts
named_by facts (forms.Password execution password) = None
named_by facts (forms.Value execution value) = None
named_by facts forms.Terms = None
named_by facts (forms.UpdatePassword password) = None
named_by facts (forms.ConfigureOtp value) = None
named_by facts forms.RecoveryCodes = None
named_by facts forms.VerifyEmail = None

-- the user whose password it is checked against: the one whom it names, else the one whose login it is
abbrev pub target_of : Option UserId → Option UserId → Form → Option UserId
target_of named who (forms.NamePassword execution name password) = named
target_of named who (forms.Password execution password) = who
target_of named who (forms.Username execution name) = None
target_of named who (forms.Value execution value) = None
target_of named who forms.Terms = None
target_of named who (forms.UpdatePassword password) = None
target_of named who (forms.ConfigureOtp value) = None
target_of named who forms.RecoveryCodes = None
target_of named who forms.VerifyEmail = None

-- the user concerned: the one whom it names, else the one whose login it is
abbrev pub concerned : Option UserId → Option UserId → Option UserId
concerned named who = option_or named who

abbrev pub is_need : Need → List ℕ → Kind → Bool
is_need need execution kind = bytes_eq need.id execution && same_kind need.kind kind

-- it is a form of this execution: a value is one of a one-time code and of a recovery code; an action isn't one
abbrev pub is_of : Need → Form → Bool
is_of need (forms.Username execution name) = is_need need execution kinds.Username
is_of need (forms.Password execution password) = is_need need execution kinds.Password
is_of need (forms.NamePassword execution name password) = is_need need execution kinds.Form
is_of need (forms.Value execution value) = is_need need execution kinds.Otp || is_need need execution kinds.Recovery
is_of need forms.Terms = false
is_of need (forms.UpdatePassword password) = false
is_of need (forms.ConfigureOtp value) = false
is_of need forms.RecoveryCodes = false
is_of need forms.VerifyEmail = false

abbrev pub name_fact : Passing → Fact
name_fact passing = events.Named passing.tab passing.user

abbrev pub evidence_fact : Passing → List ℕ → Kind → Fact
evidence_fact passing execution kind = events.Passed passing.tab execution passing.user (secret_of kind) passing.credential.serial passing.moment

-- a code is evidence of its kind, and is used up
abbrev pub code_evidence : Passing → List ℕ → Spent → List Fact
code_evidence passing execution spends.Nothing = []
code_evidence passing execution (spends.Step step) =
    evidence_fact passing execution kinds.Otp ∷ events.SpentStep passing.credential.serial step ∷ []
code_evidence passing execution (spends.Number number) =
    evidence_fact passing execution kinds.Recovery ∷ events.SpentRecovery passing.credential.serial number ∷ []

-- the evidence of an accepted post: whom it names, and the execution that it passes
abbrev pub evidence_of : Passing → Form → List Fact
evidence_of passing (forms.Username execution name) = name_fact passing ∷ evidence_fact passing execution kinds.Username ∷ []
evidence_of passing (forms.NamePassword execution name password) = name_fact passing ∷ evidence_fact passing execution kinds.Form ∷ []
evidence_of passing (forms.Password execution password) = evidence_fact passing execution kinds.Password ∷ []
evidence_of passing (forms.Value execution value) = code_evidence passing execution passing.credential.spent
evidence_of passing forms.Terms = []
evidence_of passing (forms.UpdatePassword password) = []
evidence_of passing (forms.ConfigureOtp value) = []
evidence_of passing forms.RecoveryCodes = []
evidence_of passing forms.VerifyEmail = []
