-- What the arguments of the program ask for.
use Rattle.std.specs.Prelude.{ℕ, ◌==◌, Bool, true, false, List, [], ◌∷◌, Option, Some, None, is_some, codes, option_map, if◌then◌else◌}
use Rattle.std.specs.List.{list_any, before_first, after_first}
use Rattle.std.specs.Option.{option_copied}
use Rattle.std.specs.Str.{bytes_eq}
use Rattle.login_desk.specs.declared.command.Command.{Command}
use Rattle.login_desk.specs.declared.command.Command.TheVariants as commands
use Rattle.login_desk.specs.declared.command.FileOption.{FileOption}
use Rattle.login_desk.specs.declared.command.FileOption.TheVariants as options
use Rattle.login_desk.specs.declared.command.Files.{Files}
use Rattle.login_desk.specs.declared.command.Request.{Request}
use Rattle.login_desk.specs.declared.command.Reading.{Reading}

-- ---- words

abbrev pub command_named : List ℕ → Option Command
command_named word =
    if bytes_eq word (codes "replay") then Some commands.Replay
    else if bytes_eq word (codes "check") then Some commands.Check else None

abbrev pub option_named : List ℕ → Option FileOption
option_named word =
    if bytes_eq word (codes "--realm") then Some options.Realm
    else if bytes_eq word (codes "--script") then Some options.Script else None

-- a replay has both options, and a check has the realm alone
abbrev pub has_option : Command → FileOption → Bool
has_option commands.Replay option = true
has_option commands.Check options.Realm = true
has_option commands.Check options.Script = false

-- it begins with `-`
abbrev pub is_dashed : List ℕ → Bool
is_dashed [] = false
is_dashed (b ∷ word) = b == 45

abbrev pub is_equals : ℕ → Bool
is_equals b = b == 61

-- what stands before the first `=` of a word, and what stands after it, where there is one
abbrev pub name_and_value : List ℕ → List ℕ × Option (List ℕ)
name_and_value word = (before_first is_equals word, if list_any is_equals word then Some (after_first is_equals word) else None)

-- ---- files

-- the files that are named
pub record FileNames : Type 0 where
  pub realm : Option (List ℕ)
  pub script : Option (List ℕ)

abbrev pub no_files : FileNames
no_files = record { realm = None; script = None }

abbrev pub file_of : FileOption → FileNames → Option (List ℕ)
file_of options.Realm files = files.realm
file_of options.Script files = files.script

abbrev pub with_file : FileOption → List ℕ → FileNames → FileNames
with_file options.Realm value files = record files { realm = Some value }
with_file options.Script value files = record files { script = Some value }

-- ---- the words after the command

-- the files that the words so far name, and the option whose value the next word is, if any
pub record WordsRead : Type 0 where
  pub files : FileNames
  pub waiting : Option FileOption

abbrev pub no_words : WordsRead
no_words = record { files = no_files; waiting = None }

-- an option is given at most once
abbrev pub set_once : FileOption → List ℕ → FileNames → Option WordsRead
set_once option value files =
    if is_some (file_of option files) then None else Some (record { files = with_file option value files; waiting = None })

abbrev pub take_option : FileNames → FileOption → Option (List ℕ) → Option WordsRead
take_option files option None = Some (record { files = files; waiting = Some option })
take_option files option (Some value) = set_once option value files

abbrev pub known_option : Command → FileNames → Option FileOption → Option (List ℕ) → Option WordsRead
known_option command files None value = None
known_option command files (Some option) value = if has_option command option then take_option files option value else None

-- the word is the value that was waited for, which doesn't begin with `-`; else it is `--x=v`, or `--x` and its value is
-- the next word
abbrev pub word_after : Command → FileNames → Option FileOption → List ℕ → Option WordsRead
word_after command files (Some option) word = if is_dashed word then None else set_once option word files
word_after command files None word = let named = name_and_value word in known_option command files (option_named named.0) named.1

abbrev pub with_word : Command → List ℕ → WordsRead → Option WordsRead
with_word command word read = word_after command read.files read.waiting word

-- the files, where no value is waited for
abbrev pub files_read : WordsRead → Option FileNames
files_read read = if is_some read.waiting then None else Some read.files

-- the files that the words so far and these name
unfoldable pub files_after : Command → Option WordsRead → List (List ℕ) → Option FileNames
files_after command None words = None
files_after command (Some read) [] = files_read read
files_after command (Some read) (word ∷ words) = files_after command (with_word command word read) words

-- ---- all of them

pub record Asked : Type 0 where
  pub command : Command
  pub files : FileNames

abbrev pub asked_by : List (List ℕ) → Option Command → Option Asked
asked_by words None = None
asked_by words (Some command) = option_map (λ files. record { command = command; files = files }) (files_after command (Some no_words) words)

-- what the arguments ask for, where they are in the grammar: the command comes first, and then its options
abbrev pub asked_for : List (List ℕ) → Option Asked
asked_for [] = None
asked_for (word ∷ words) = asked_by words (command_named word)

-- the command of the arguments, none exactly outside the grammar
abbrev pub command_of : List (List ℕ) → Option Command
command_of arguments = option_map (λ (a : Asked). a.command) (asked_for arguments)

-- the files of the arguments, none exactly outside the grammar
abbrev pub files_of : List (List ℕ) → Option FileNames
files_of arguments = option_map (λ (a : Asked). a.files) (asked_for arguments)

-- ---- what the program's own types stand for

abbrev pub names_of : Files → FileNames
names_of files = record { realm = option_copied files.realm; script = option_copied files.script }

abbrev pub words_read : Reading → WordsRead
words_read reading = record { files = names_of reading.files; waiting = reading.waiting }

abbrev pub request_of : Request → Asked
request_of request = record { command = request.command; files = names_of request.files }
