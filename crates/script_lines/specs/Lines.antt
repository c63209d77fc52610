-- The lines of a script, and what a line says.
use Rattle.std.specs.Prelude.{◌≢◌, ℕ, ◌+◌, ◌-◌, ◌^◌, ◌%◌, Bool, true, ◌==◌, nat_lt, List, [], ◌∷◌, ◌++◌, length, Option, Some, None, codes, if◌then◌else◌}
use Rattle.std.specs.List.{flat_map, AllByRecursion}
use Rattle.form_urlencoded.specs.Form.{split_once}
use Rattle.login_base.specs.declared.draws.Draws.{Draws}
use Rattle.asks.specs.declared.ask.Ask.TheVariants as asks
use Rattle.script_lines.specs.declared.lines.ScriptLine.{ScriptLine}
use Rattle.script_lines.specs.declared.step.Step.TheVariants as steps
use Rattle.ask_pairs.specs.Pairs.{pairs_of}
use Rattle.decimal_text.specs.Numbers.{number}
use Rattle.script_lines.specs.Steps.{verb_step}

-- ---- bytes and lines

-- the byte joins the first line
abbrev pub onto_first : ℕ → List (List ℕ) → List (List ℕ)
onto_first b [] = (b ∷ []) ∷ []
onto_first b (line ∷ lines) = (b ∷ line) ∷ lines

-- each line ends at a newline; a last line without one counts where it isn't empty
unfoldable pub lines : List ℕ → List (List ℕ)
lines [] = []
lines (b ∷ bytes) = if b == 10 then [] ∷ lines bytes else onto_first b (lines bytes)

-- the byte joins the first line, where there is one
abbrev pub onto_whole : ℕ → List (List ℕ) → List (List ℕ)
onto_whole b [] = []
onto_whole b (line ∷ lines) = (b ∷ line) ∷ lines

-- the lines that a newline ends
unfoldable pub whole_lines : List ℕ → List (List ℕ)
whole_lines [] = []
whole_lines (b ∷ bytes) = if b == 10 then [] ∷ whole_lines bytes else onto_whole b (whole_lines bytes)

-- the bytes have no newline
abbrev pub IsLine : List ℕ → Type 0
IsLine line = AllByRecursion (λ b. b ≢ 10) line

-- a line and its newline
abbrev pub with_newline : List ℕ → List ℕ
with_newline line = line ++ 10 ∷ []

-- lines, each with its newline
abbrev pub unlines : List (List ℕ) → List ℕ
unlines lines = flat_map with_newline lines

-- ---- what a line says

-- an empty line or a comment, which asks nothing
abbrev pub is_skipped : List ℕ → Bool
is_skipped [] = true
is_skipped (b ∷ bytes) = b == 35

-- the ten draws of a draw number
abbrev pub draws_from : ℕ → Draws
draws_from s = record { 0 = s ∷ (s + 1) % 2 ^ 64 ∷ (s + 2) % 2 ^ 64 ∷ (s + 3) % 2 ^ 64 ∷ (s + 4) % 2 ^ 64 ∷ (s + 5) % 2 ^ 64 ∷ (s + 6) % 2 ^ 64 ∷ (s + 7) % 2 ^ 64 ∷ (s + 8) % 2 ^ 64 ∷ (s + 9) % 2 ^ 64 ∷ [] }

-- a line without a readable head: with the moment 0 its entry has the last used moment
abbrev pub bad_head : ScriptLine
bad_head = record { moment = 0; draws = draws_from 0; step = steps.Ask (asks.Bad (codes "head")) }

-- a moment and a draw number, where both are readable, and what comes after them
abbrev pub with_head : Option ℕ → Option ℕ → List ℕ × List ℕ → ScriptLine
with_head None draw rest = bad_head
with_head (Some moment) None rest = bad_head
with_head (Some moment) (Some draw) rest = record { moment = moment; draws = draws_from draw; step = verb_step rest.0 (pairs_of rest.1) }

-- `<moment> <draw> <verb> <pairs>` with single spaces: the moment is below 2^53, and the draw number below 2^64
unfoldable pub parts_line : List ℕ → ScriptLine
parts_line line =
    let moment = split_once 32 line in
    let draw = split_once 32 moment.1 in
    with_head (number (2 ^ 53 - 1) moment.0) (number (2 ^ 64 - 1) draw.0) (split_once 32 draw.1)

-- the most bytes of a line, without its newline
abbrev pub line_limit : ℕ
line_limit = 131072

-- what a line says; one over the limit has no readable head
unfoldable pub script_line : List ℕ → ScriptLine
script_line line = if nat_lt line_limit (length line) then bad_head else parts_line line
