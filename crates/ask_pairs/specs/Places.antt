-- Where an ask is malformed.
use Rattle.std.specs.Prelude.{ℕ, List, [], Option, Some, None, Result, Ok, Err, codes, if◌then◌else◌}
use Rattle.asks.specs.declared.ask.Ask.{Ask}
use Rattle.asks.specs.declared.ask.Ask.TheVariants as asks
use Rattle.ask_pairs.specs.declared.pairs.Pair.{Pair}
use Rattle.ask_pairs.specs.declared.place.Place.{Place}
use Rattle.ask_pairs.specs.declared.place.Place.TheVariants as places
use Rattle.ask_pairs.specs.Pairs.{has}

-- the verb, the form of a post, or the name of a pair
abbrev pub place_text : Place → List ℕ
place_text places.Verb = codes "verb"
place_text places.Client = codes "client"
place_text places.Acr = codes "acr"
place_text places.Root = codes "root"
place_text places.Tab = codes "tab"
place_text places.Code = codes "code"
place_text places.Key = codes "key"
place_text places.Form = codes "form"
place_text places.Execution = codes "execution"
place_text places.Name = codes "name"
place_text places.Password = codes "password"
place_text places.Value = codes "value"
place_text places.Action = codes "action"
place_text places.Otp = codes "otp"
place_text places.Secret = codes "secret"
place_text places.Roles = codes "roles"
place_text places.Actions = codes "actions"
place_text places.Life = codes "life"
place_text places.Session = codes "session"
place_text places.Text = codes "text"

-- the first malformed place stands
infixl 10 ◌>>=◌
abbrev pub ◌>>=◌ : {A B : Type 0} → Result A Place → (A → Result B Place) → Result B Place
(Ok x) >>= f = f x
(Err place) >>= f = Err place

-- what was read, or the malformed place
abbrev pub ask_or_bad : Result Ask Place → Ask
ask_or_bad (Ok ask) = ask
ask_or_bad (Err place) = asks.Bad (place_text place)

-- what a pair that is there says, which is none where it is doubled or outside its grammar
abbrev pub if_read : {A : Type 0} → Place → Option A → Result (Option A) Place
if_read place (Some x) = Ok (Some x)
if_read place None = Err place

-- the pair of this name may be there
abbrev pub optional : {A : Type 0} → Place → List Pair → Option A → Result (Option A) Place
optional place pairs read = if has (place_text place) pairs then if_read place read else Ok None

-- the items of an optional list, none where the pair isn't there
abbrev pub items_or_none : {A : Type 0} → Result (Option (List A)) Place → Result (List A) Place
items_or_none (Ok (Some items)) = Ok items
items_or_none (Ok None) = Ok []
items_or_none (Err place) = Err place
