-- How facts raise the counters.
use Rattle.std.proofs.Common.{◌≡◌, List, ◌++◌}
use Rattle.std.specs.Prelude.{fold}
use Rattle.std.proofs.lemmas.Grind.{fold-append}
use Rattle.facts.specs.declared.fact.Fact.{Fact}
use Rattle.facts.specs.Serials.{last_tab_serial, tab_serial_after, last_stored_serial, stored_serial_after, last_known_serial, known_serial_after}

pub last_tab_serial_more : (old more : List Fact) → last_tab_serial (old ++ more) ≡ fold tab_serial_after (last_tab_serial old) more
unfolding last_tab_serial
last_tab_serial_more old more = fold-append tab_serial_after 0 old more

pub last_stored_serial_more : (old more : List Fact) → last_stored_serial (old ++ more) ≡ fold stored_serial_after (last_stored_serial old) more
unfolding last_stored_serial
last_stored_serial_more old more = fold-append stored_serial_after 0 old more

pub last_known_serial_more : (old more : List Fact) → last_known_serial (old ++ more) ≡ fold known_serial_after (last_known_serial old) more
unfolding last_known_serial
last_known_serial_more old more = fold-append known_serial_after 0 old more
