-- What the pairs of a browser's verb ask.
use Rattle.std.specs.Prelude.{ℕ, List, Option, Some, None, ok_or, Result, Ok, Err, codes, if◌then◌else◌}
use Rattle.std.specs.Str.{bytes_eq}
use Rattle.login_base.specs.declared.id.RootKey.{RootKey}
use Rattle.asks.specs.declared.ask.Ask.{Ask}
use Rattle.asks.specs.declared.ask.Ask.TheVariants as asks
use Rattle.ask_pairs.specs.declared.browser_verb.BrowserVerb.{BrowserVerb}
use Rattle.ask_pairs.specs.declared.browser_verb.BrowserVerb.TheVariants as verbs
use Rattle.ask_pairs.specs.declared.pairs.Pair.{Pair}
use Rattle.ask_pairs.specs.declared.place.Place.{Place}
use Rattle.ask_pairs.specs.declared.place.Place.TheVariants as places
use Rattle.ask_pairs.specs.Credentials.{exact_name, password_text}
use Rattle.ask_pairs.specs.Keys.{id_given}
use Rattle.ask_pairs.specs.Pairs.{value_of}
use Rattle.ask_pairs.specs.Places.{◌>>=◌, ask_or_bad, optional}
use Rattle.ask_pairs.specs.Posts.{post}

-- a tab for a client, perhaps for the level of a name, and perhaps in a root
unfoldable pub new_tab : Option (List ℕ) → Result (Option (List ℕ)) Place → Result (Option RootKey) Place → Result Ask Place
new_tab client acr root = do
  client ← ok_or client places.Client
  acr ← acr
  root ← root
  Ok (asks.NewTab (record { root = root; client = client; acr = acr }))

abbrev pub new_tab_of : Result (Option RootKey) Place → List Pair → Result Ask Place
new_tab_of root pairs = new_tab (exact_name (value_of (codes "client") pairs)) (optional places.Acr pairs (exact_name (value_of (codes "acr") pairs))) root

-- the page of a tab
unfoldable pub page : Result (Option RootKey) Place → List Pair → Result Ask Place
page root pairs = do
  root ← root
  tab ← id_given places.Tab pairs
  Ok (asks.Page root (record { 0 = tab }))

-- the token of a key is followed
unfoldable pub verify : List Pair → Result Ask Place
verify pairs = do
  key ← id_given places.Key pairs
  Ok (asks.Verify (record { 0 = key }))

-- the token of a key is followed, with a new password
unfoldable pub reset : Option (List ℕ) → List Pair → Result Ask Place
reset password pairs = do
  key ← id_given places.Key pairs
  password ← ok_or password places.Password
  Ok (asks.Reset (record { 0 = key }) password)

abbrev pub logout : Result (Option RootKey) Place → Result Ask Place
logout root = root >>= λ root. Ok (asks.Logout root)

-- what a verb asks of the pairs, with a root that came with them
unfoldable pub browser_read : BrowserVerb → Result (Option RootKey) Place → List Pair → Result Ask Place
browser_read verbs.NewTab root pairs = new_tab_of root pairs
browser_read verbs.Page root pairs = page root pairs
browser_read verbs.Post root pairs = post root pairs
browser_read verbs.Verify root pairs = verify pairs
browser_read verbs.Reset root pairs = reset (password_text (value_of (codes "password") pairs)) pairs
browser_read verbs.Logout root pairs = logout root

abbrev pub browser_ask : BrowserVerb → Result (Option RootKey) Place → List Pair → Ask
browser_ask verb root pairs = ask_or_bad (browser_read verb root pairs)

-- the verb of a word
abbrev pub browser_verb : List ℕ → Option BrowserVerb
browser_verb word =
    if bytes_eq word (codes "open") then Some verbs.NewTab
    else if bytes_eq word (codes "page") then Some verbs.Page
    else if bytes_eq word (codes "post") then Some verbs.Post
    else if bytes_eq word (codes "verify") then Some verbs.Verify
    else if bytes_eq word (codes "reset") then Some verbs.Reset
    else if bytes_eq word (codes "logout") then Some verbs.Logout
    else None
