-- The serials of the codes that were shown.
use Rattle.std.proofs.Common.{◌≡◌, ℕ, ◌<◌, ◌≤◌, Bool, true, false, ◌&&◌, List, [], ◌∷◌, ◌++◌, Some, None, sym, subst, arith}
use Rattle.std.specs.Prelude.{Option, option_map, fold, ◌==◌, if◌then◌else◌}
use Rattle.std.specs.List.{All, list_any}
use Rattle.std.proofs.lemmas.Bool.{and_left, and_parts, or_parts, eqb-true, ne_eqb}
use Rattle.std.proofs.lemmas.List.Elements.{All-nil, All-cons, All-head, All-tail, All-weaker, All-append}
use Rattle.login_base.specs.IdText.{same_id}
use Rattle.login_base.specs.declared.id.Code.{Code}
use Rattle.login_base.specs.declared.id.RootKey.{RootKey}
use Rattle.login_base.specs.declared.id.TabKey.{TabKey}
use Rattle.facts.specs.declared.fact.Fact.{Fact}
use Rattle.facts.specs.declared.fact.Fact.TheVariants as events
use Rattle.facts.specs.declared.tabs.Page.{Page}
use Rattle.facts.specs.declared.tabs.TabState.{TabState}
use Rattle.facts.specs.Serials.{tab_serial_after, last_tab_serial}
use Rattle.facts.specs.Tabs.{tab_state, tab_after, no_tab, shown_code}
use Rattle.facts.proofs.SerialLemmas.{last_tab_serial_more}
use Rattle.tab_asks.specs.Post.{is_code}
use Rattle.login_hall.specs.Start.{is_mark}
use Rattle.hall_laws.specs.Repeats.{code_serial, HasCodesCounted}

-- ---- the code that a tab showed last

abbrev pub IsBelow : ℕ → Option Code → Type 0
IsBelow n None = Unit {0}
IsBelow n (Some code) = code.0.serial ≤ n

abbrev code_on : Option Page → Option Code
code_on page = option_map (λ (p : Page). p.code) page

shown_below : (n : ℕ) (here : Bool) (page : Page) (own : Option Page) → page.code.0.serial ≤ n → IsBelow n (code_on own) → IsBelow n (code_on (if here then Some page else own))
shown_below n true page own shown below = shown
shown_below n false page own shown below = below

below_after : (root : RootKey) (tab : TabKey) (n : ℕ) (state : TabState) (fact : Fact) → code_serial fact ≤ n → IsBelow n (shown_code state) → IsBelow n (shown_code (tab_after root tab state fact))
below_after root tab n state (events.Rendered of code action offer) shown below =
    shown_below n (same_id of.0 tab.0) (record { code = code; action = action; offer = offer }) state.page shown below
below_after root tab n state fact shown below = below

all_below : (root : RootKey) (tab : TabKey) (n : ℕ) (state : TabState) (facts : List Fact) → All (λ fact. code_serial fact ≤ n) facts → IsBelow n (shown_code state)
    → IsBelow n (shown_code (fold (tab_after root tab) state facts))
all_below root tab n state [] all below = below
all_below root tab n state (fact ∷ facts) all below =
    let head : code_serial fact ≤ n = All-head (λ (f : Fact). code_serial f ≤ n) fact facts all in
    let tail = All-tail (λ (f : Fact). code_serial f ≤ n) fact facts all in
    all_below root tab n (tab_after root tab state fact) facts tail (below_after root tab n state fact head below)

-- it has at most the last serial
pub last_below : (root : RootKey) (tab : TabKey) (facts : List Fact) → HasCodesCounted facts → IsBelow (last_tab_serial facts) (shown_code (tab_state root tab facts))
unfolding tab_state
last_below root tab facts counted = all_below root tab (last_tab_serial facts) no_tab facts counted tt

pub shown_at_most : (code : Code) (own : Option Code) (n : ℕ) → is_code code own ≡ true → IsBelow n own → code.0.serial ≤ n
shown_at_most code None n h below = absurd cc
shown_at_most code (Some shown) n h below =
    let front = and_parts (shown.0.serial == code.0.serial && shown.0.high == code.0.high) (shown.0.low == code.0.low) h in
    let serial = and_parts (shown.0.serial == code.0.serial) (shown.0.high == code.0.high) front.0 in
    let e = eqb-true shown.0.serial code.0.serial serial.0 in
    omega (arith, e, below)

pub other_code : (code next : Code) → code.0.serial < next.0.serial → is_code code (Some next) ≡ false
other_code code next less =
    and_left (next.0.serial == code.0.serial && next.0.high == code.0.high) (next.0.low == code.0.low)
    (and_left (next.0.serial == code.0.serial) (next.0.high == code.0.high) (ne_eqb next.0.serial code.0.serial (λ e. omega (arith, e, less))))

-- ---- facts with no mark among them keep the codes counted

abbrev pub IsUnmarked : Fact → Type 0
IsUnmarked fact = is_mark fact ≡ false

rises : (n : ℕ) (fact : Fact) → IsUnmarked fact → n ≤ tab_serial_after n fact
rises n (events.Opened root tab version level life moment) h = omega arith
rises n (events.Rendered tab code action offer) h = omega arith
rises n (events.Mark tabs stored used kept) h = absurd cc
rises n fact h = omega arith

all_rise : (n : ℕ) (facts : List Fact) → All IsUnmarked facts → n ≤ fold tab_serial_after n facts
all_rise n [] all = omega arith
all_rise n (fact ∷ facts) all =
    let first = rises n fact (All-head IsUnmarked fact facts all) in
    let rest = all_rise (tab_serial_after n fact) facts (All-tail IsUnmarked fact facts all) in
    omega (arith, first, rest)

code_counted : (n : ℕ) (fact : Fact) → code_serial fact ≤ tab_serial_after n fact
code_counted n (events.Rendered tab code action offer) = omega arith
code_counted n fact = omega arith

more_counted : (n : ℕ) (facts : List Fact) → All IsUnmarked facts → All (λ fact. code_serial fact ≤ fold tab_serial_after n facts) facts
more_counted n [] all = All-nil (λ (fact : Fact). code_serial fact ≤ n)
more_counted n (fact ∷ facts) all =
    let rest = All-tail IsUnmarked fact facts all in
    let next = tab_serial_after n fact in
    let here = code_counted n fact in
    let top = all_rise next facts rest in
    All-cons (λ (f : Fact). code_serial f ≤ fold tab_serial_after next facts) fact facts (omega (arith, here, top)) (more_counted next facts rest)

pub codes_kept : (old more : List Fact) → All IsUnmarked more → HasCodesCounted old → HasCodesCounted (old ++ more)
codes_kept old more unmarked counted =
    let n = last_tab_serial old in
    let m = fold tab_serial_after n more in
    let top = all_rise n more unmarked in
    let front = All-weaker (λ (f : Fact). code_serial f ≤ n) (λ (f : Fact). code_serial f ≤ m) (λ f h. omega (arith, h, top)) old counted in
    let whole = All-append (λ (f : Fact). code_serial f ≤ m) old more front (more_counted n more unmarked) in
    subst (λ (k : ℕ). All (λ (f : Fact). code_serial f ≤ k) (old ++ more)) (sym (last_tab_serial_more old more)) whole

pub all_unmarked : (facts : List Fact) → list_any is_mark facts ≡ false → All IsUnmarked facts
all_unmarked [] h = All-nil IsUnmarked
all_unmarked (fact ∷ facts) h =
    let parts = or_parts (is_mark fact) (list_any is_mark facts) h in
    All-cons IsUnmarked fact facts parts.0 (all_unmarked facts parts.1)

pub mark_counted : (mark : Fact) → is_mark mark ≡ true → HasCodesCounted (mark ∷ [])
mark_counted (events.Mark tabs stored used kept) h =
    let mark = events.Mark tabs stored used kept in
    let P : Fact → Type 0 = λ fact. code_serial fact ≤ last_tab_serial (mark ∷ []) in
    let least : 0 ≤ last_tab_serial (mark ∷ []) = omega arith in
    All-cons P mark [] least (All-nil P)
mark_counted fact h = absurd cc
