-- The lines of a script, the commands of a line, and what they ask for.
use Rattle.std.specs.Prelude.{ℕ, List, [], ◌∷◌, Bool, filter, bytes_eq, codes, not}
use Rattle.std.specs.List.{slice_split}
use Rattle.gix_ref_hash.specs.Bytes.{is_empty, is_space}
use Rattle.gix_ref_log.specs.LogCuts.{log_lines}
use Rattle.gix_ref_program.specs.Words.{Asked, IsCommand, IsWrite}

-- cut at LF, a CR before one dropped; lines that are empty are none
abbrev pub script_lines : List ℕ → List (List ℕ)
script_lines text = filter (λ line. not (is_empty line)) (log_lines text)

-- the words of a line, parted by one space each
abbrev pub line_words : List ℕ → List (List ℕ)
line_words line = slice_split is_space line

-- the word that parts commands
abbrev pub parts_commands : List ℕ → Bool
parts_commands word = bytes_eq word (codes ";")

-- the words of its commands
abbrev pub line_commands : List ℕ → List (List (List ℕ))
line_commands line = slice_split parts_commands (line_words line)

-- all of these write
abbrev pub AllWrite : List Asked → Type 0
AllWrite [] = Unit {0}
AllWrite (asked ∷ more) = IsWrite asked × AllWrite more

-- these words, command by command, are commands that write, and ask for this
abbrev pub AreCommands : List (List (List ℕ)) → List Asked → Type 0
AreCommands [] [] = Unit {0}
AreCommands [] (asked ∷ more) = ⊥
AreCommands (words ∷ rest) [] = ⊥
AreCommands (words ∷ rest) (asked ∷ more) = IsCommand words asked × IsWrite asked
    × AreCommands rest more

-- a line asks for this
abbrev pub AsksFor : (line : List ℕ) → List Asked → Type 0
AsksFor line asked = AreCommands (line_commands line) asked
