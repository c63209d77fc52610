-- What is known of a tab behind more facts.
use Rattle.std.proofs.Common.{◌≡◌, ℕ, ◌<◌, ◌≤◌, false, List, [], ◌∷◌, ◌++◌, Some, None, refl, ap, sym, ◌∙◌, arith}
use Rattle.std.specs.Prelude.{fold}
use Rattle.std.proofs.lemmas.Bool.{ne_eqb}
use Rattle.login_base.specs.IdText.{same_id}
use Rattle.login_base.specs.declared.id.Id.{Id}
use Rattle.login_base.specs.declared.id.RootKey.{RootKey}
use Rattle.login_base.specs.declared.id.TabKey.{TabKey}
use Rattle.facts.specs.declared.fact.Fact.{Fact}
use Rattle.facts.specs.declared.fact.Fact.TheVariants as facts
use Rattle.facts.specs.declared.tabs.TabState.{TabState}
use Rattle.facts.specs.Serials.{known_serial_after, last_known_serial}
use Rattle.facts.specs.Tabs.{tab_after, tab_state, no_tab}
use Rattle.facts.proofs.PlacesLemmas.{fold_append}

pub tab_state_more : (root : RootKey) (tab : TabKey) (state : TabState) (old more : List Fact) → state ≡ tab_state root tab old → fold (tab_after root tab) state more ≡ tab_state root tab (old ++ more)
unfolding tab_state
tab_state_more root tab state old more h = ap (λ (s : TabState). fold (tab_after root tab) s more) h ∙ sym (fold_append (tab_after root tab) no_tab old more)

-- ---- a tab that is newer than all that some facts name

-- an id with a lower serial is another one
pub lower : (a b : Id) → a.serial < b.serial → same_id a b ≡ false
lower a b h = rw (ne_eqb a.serial b.serial (λ e. omega (arith, h, e))) refl

pub rises : (n : ℕ) (fact : Fact) → n ≤ known_serial_after n fact
rises n (facts.SecretSet user kind serial secret (Some tab)) = omega arith
rises n (facts.SecretSet user kind serial secret None) = omega arith
rises n (facts.Session session root user moment idle life) = omega arith
rises n (facts.Completed tab user session moment) = omega arith
rises n (facts.Opened root tab version level life moment) = omega arith
rises n (facts.Rendered tab code action offer) = omega arith
rises n (facts.Named tab user) = omega arith
rises n (facts.Passed tab execution user kind credential moment) = omega arith
rises n fact = omega arith

pub all_rise : (n : ℕ) (fs : List Fact) → n ≤ fold known_serial_after n fs
all_rise n [] = omega arith
all_rise n (fact ∷ fs) = let first = rises n fact in let rest = all_rise (known_serial_after n fact) fs in omega (arith, first, rest)

-- a fact that names lower ones alone says nothing of this tab
says_nothing : (root : RootKey) (tab : TabKey) (n : ℕ) (fact : Fact) → known_serial_after n fact < root.0.serial → known_serial_after n fact < tab.0.serial → tab_after root tab no_tab fact ≡ no_tab
says_nothing root tab n (facts.Session session (Some of) user moment idle life) r t = rw (lower of.0 root.0 (omega (arith, r))) refl
says_nothing root tab n (facts.Session session None user moment idle life) r t = refl
says_nothing root tab n (facts.Completed of user session moment) r t = rw (lower of.0 tab.0 (omega (arith, t))) refl
says_nothing root tab n (facts.Opened of opened version level life moment) r t = rw (lower opened.0 tab.0 (omega (arith, t))) refl
says_nothing root tab n (facts.Rendered of code action offer) r t = rw (lower of.0 tab.0 (omega (arith, t))) refl
says_nothing root tab n (facts.Named of user) r t = rw (lower of.0 tab.0 (omega (arith, t))) refl
says_nothing root tab n fact r t = refl

say_nothing : (root : RootKey) (tab : TabKey) (n : ℕ) (fs : List Fact) → fold known_serial_after n fs < root.0.serial → fold known_serial_after n fs < tab.0.serial → fold (tab_after root tab) no_tab fs ≡ no_tab
say_nothing root tab n [] r t = refl
say_nothing root tab n (fact ∷ fs) r t =
    let rest = all_rise (known_serial_after n fact) fs in
    ap (λ (s : TabState). fold (tab_after root tab) s fs) (says_nothing root tab n fact (omega (arith, r, rest)) (omega (arith, t, rest)))
    ∙ say_nothing root tab (known_serial_after n fact) fs r t

-- facts that name lower ones alone say nothing of this tab
pub nothing_before : (root : RootKey) (tab : TabKey) (facts : List Fact) → last_known_serial facts < root.0.serial → last_known_serial facts < tab.0.serial → fold (tab_after root tab) no_tab facts ≡ no_tab
unfolding last_known_serial
nothing_before root tab facts r t = say_nothing root tab 0 facts r t
