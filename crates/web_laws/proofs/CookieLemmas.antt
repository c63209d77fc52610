-- How the words of a reply begin.
use Rattle.std.proofs.Common.{◌≡◌, ◌++◌, false, refl}
use Rattle.std.specs.Prelude.{Option, Some, None, nat_eq, codes}
use Rattle.std.specs.List.{starts_with}
use Rattle.login_base.specs.declared.id.RootKey.{RootKey}
use Rattle.login_base.specs.declared.id.TabKey.{TabKey}
use Rattle.asks.specs.declared.reply.What.{What}
use Rattle.asks.specs.declared.reply.What.TheVariants as whats
use Rattle.reply_words.specs.Words.{keys_words, what_words}
use Rattle.web_pages.specs.Pages.{root_line}
use Rattle.web_laws.specs.Cookies.{has_keys, gives_root}

not_root : (what : What) → starts_with nat_eq (what_words what) (codes "root=") ≡ false
not_root (whats.BadForm at) = refl
not_root (whats.AdminRefused rule) = refl
not_root whats.UnknownClient = refl
not_root whats.LevelUnknown = refl
not_root (whats.TooManyRoots count) = refl
not_root (whats.TooManyTabs count) = refl
not_root whats.UnknownTab = refl
not_root whats.TabExpired = refl
not_root (whats.Stale current) = refl
not_root (whats.OtherUser tab session) = refl
not_root whats.Finished = refl
not_root whats.NotAsked = refl
not_root (whats.Locked until) = refl
not_root whats.Disabled = refl
not_root (whats.CredentialMoved had now) = refl
not_root (whats.BadCredentials next) = refl
not_root (whats.BadCode next) = refl
not_root (whats.CodeSpent step next) = refl
not_root whats.TokenUnknown = refl
not_root whats.TokenSpent = refl
not_root (whats.TokenExpired expiry) = refl
not_root (whats.Denied execution) = refl
not_root (whats.NotConfigured execution) = refl
not_root whats.DeadEnd = refl
not_root (whats.LevelMissed level) = refl
not_root (whats.Done session user level) = refl
not_root (whats.Action code kind shown) = refl
not_root (whats.Form code asked) = refl
not_root (whats.ActionDone user kind) = refl
not_root whats.LoggedOut = refl
not_root (whats.Told text) = refl
not_root whats.StoreFault = refl
not_root whats.DiceFault = refl
not_root whats.Memory = refl

pub words_begin : (opened : Option RootKey) (tab : Option TabKey) (what : What) → starts_with nat_eq (keys_words opened tab ++ what_words what) (codes "root=") ≡ has_keys opened tab
words_begin (Some root) (Some tab) what = refl
words_begin (Some root) None what = not_root what
words_begin None tab what = not_root what

pub line_given : (opened : Option RootKey) (tab : Option TabKey) → gives_root (root_line opened tab) ≡ has_keys opened tab
line_given (Some root) (Some tab) = refl
line_given (Some root) None = refl
line_given None tab = refl
