-- Where a line is malformed, besides its pairs.
use Rattle.std.specs.Prelude.{ℕ, List, codes}
use Rattle.script_lines.specs.declared.line_place.LinePlace.{LinePlace}
use Rattle.script_lines.specs.declared.line_place.LinePlace.TheVariants as places

abbrev pub line_place_text : LinePlace → List ℕ
line_place_text places.Head = codes "head"
line_place_text places.Verb = codes "verb"
line_place_text places.Handle = codes "h"
