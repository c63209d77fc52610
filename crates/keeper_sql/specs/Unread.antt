-- What a load answers where a row can't be told.
use Rattle.std.specs.Prelude.{◌≡◌, ℕ, Bool, true, false, Option, Some, None, Result, Ok, Err, nat_lt, ◌||◌, ◌&&◌, ◌==◌, if◌then◌else◌}
use Rattle.keeper_rows.specs.declared.tables.Tables.{Tables}
use Rattle.keeper_core.specs.declared.keeper.LoadFault.{LoadFault}
use Rattle.keeper_core.specs.declared.keeper.LoadFault.TheVariants as loads
use Rattle.keeper_core.specs.Keeping.{IsAnswer}

-- every row is told
abbrev pub is_whole : Option ℕ → Option ℕ → Bool
is_whole None None = true
is_whole untold unkeyed = false

-- this realm row tells no realm, which breaks the second rule; what is asked before it is answered first
abbrev pub untold_as : ℕ → Result Tables LoadFault → LoadFault
untold_as row (Err (loads.Foreign version)) = loads.Foreign version
untold_as row (Err loads.Memory) = loads.Memory
untold_as row (Err (loads.Misfit rule first)) =
    if nat_lt rule 2 || ((rule == 2) && nat_lt first row) then loads.Misfit rule first else loads.Misfit 2 row
untold_as row (Err loads.Failed) = loads.Misfit 2 row
untold_as row (Ok tables) = loads.Misfit 2 row

-- this mark row has another key than 1, which is a number outside its range, and the last one that is asked
abbrev pub unkeyed_as : ℕ → Result Tables LoadFault → LoadFault
unkeyed_as row (Err fault) = fault
unkeyed_as row (Ok tables) = loads.Misfit 7 row

abbrev pub answer_of : Option ℕ → Option ℕ → Result Tables LoadFault → Result Tables LoadFault
answer_of (Some row) unkeyed others = Err (untold_as row others)
answer_of None (Some row) others = Err (unkeyed_as row others)
answer_of None None others = others

-- the rules are asked of all rows as if each were told, and then of those that aren't
abbrev pub IsAnswerOf : Option ℕ → Option ℕ → Tables → Result Tables LoadFault → Type 0
IsAnswerOf untold unkeyed t answer = (others : Result Tables LoadFault) × IsAnswer t others × (answer ≡ answer_of untold unkeyed others)
