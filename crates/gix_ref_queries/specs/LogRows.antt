-- What `git reflog show` prints of a reference.
use Rattle.std.specs.Prelude.{◌≡◌, ◌≢◌, ◌⊎◌, ◌+◌, ℕ, List, [], ◌∷◌, ◌++◌, Option, Some, None, Vec, Result, map, reverse, take, codes, true, false, is_none, decimal}
use Rattle.std.specs.declared.alloc.Global.{Global}
use Rattle.gix_ref_files.specs.Files.{Meaning, FaultCounts}
use Rattle.gix_ref_files.specs.Tree.{Content, is_file, bytes_of}
use Rattle.gix_ref_files.specs.declared.files.ReadAt.{Ghosts}
use Rattle.std.specs.List.{filter_map}
use Rattle.std.specs.Result.{result_ok}
use Rattle.gix_ref_log.specs.declared.log.iter.decode.Error as decode
use Rattle.gix_ref_log.specs.LogCuts.{log_lines}
use Rattle.gix_ref_log.specs.LogLines.{LogLine, IsLine, NoLine, line_ref_parts}
use Rattle.gix_ref_log.specs.declared.log.line.LineRef.{LineRef}
use Rattle.gix_ref_lookup.specs.Reflogs.{count_by}
use Rattle.gix_ref_lookup.specs.declared.reflog.error.Error.{Error as LogError}
use Rattle.gix_ref_lookup.specs.declared.reflog.error.Error.TheVariants.{Memory}
use Rattle.gix_ref_name.specs.NameGrammar.{full_error}
use Rattle.gix_ref_store.specs.Reflogs.{reflog_at, IsNoReflog}
use Rattle.gix_ref_store.specs.Store.{files_of}
use Rattle.gix_ref_store.specs.declared.file.store.Store.{Store}
use Rattle.gix_ref_queries.specs.Answers.{Says, Fails}
use Rattle.gix_ref_queries.specs.Resolving.{NameEnd, FollowsTo, IsUnread}
use Rattle.gix_ref_queries.specs.Resolving.NameEnd.{Reached}
use Rattle.gix_ref_queries.specs.declared.answer.Answer.{Answer}

-- these are the entries among lines: each line that can be read
abbrev pub AreEntries : (lines : List (List ℕ)) → (entries : List LogLine) → Type 0
AreEntries [] entries = entries ≡ []
AreEntries (line ∷ lines) entries = (NoLine line × AreEntries lines entries)
    ⊎ ((entry : LogLine) × (rest : List LogLine) × (entries ≡ entry ∷ rest)
    × IsLine line entry × AreEntries lines rest)

-- the entries of a log, oldest first; none where there is no log
abbrev pub AreLogEntries : Option Content → (entries : List LogLine) → Type 0
AreLogEntries content entries = ((is_file content ≡ false) × (entries ≡ []))
    ⊎ ((is_file content ≡ true) × AreEntries (log_lines (bytes_of content)) entries)

-- the parts of lines
abbrev pub entry_parts : List LineRef → List LogLine
entry_parts lines = map line_ref_parts lines

-- newest first, so many or all
abbrev pub newest : (count : Option ℕ) → List LogLine → List LogLine
newest None entries = reverse entries
newest (Some count) entries = take count (reverse entries)

-- the new id, the name with the place of the entry, and the message
abbrev pub entry_line : (name : List ℕ) → (place : ℕ) → LogLine → List ℕ
entry_line name place entry = entry.new ++ (codes " " ++ (name ++ (codes "@{" ++ (decimal place
    ++ (codes "}: " ++ (entry.message ++ codes "\n"))))))

-- a line for each entry, the first of which has this place
abbrev pub entry_lines : (name : List ℕ) → (place : ℕ) → List LogLine → List ℕ
entry_lines name place [] = []
entry_lines name place (entry ∷ entries) =
    entry_line name place entry ++ entry_lines name (place + 1) entries

-- what is shown of the lines of a log under a name; nothing where none can be read
abbrev pub IsShownOfRun : List (Result LineRef decode.Error) → (name : List ℕ) →
    (count : Option ℕ) → Option (Vec ℕ Global) → Type 0
IsShownOfRun items name count None = filter_map result_ok items ≡ []
IsShownOfRun items name count (Some text) = (filter_map result_ok items ≢ [])
    × (text.items ≡ entry_lines name 0 (newest count (entry_parts (filter_map result_ok items))))

-- what is shown of a log under a name; nothing where it has no entry
abbrev pub IsShownOf : Option Content → (name : List ℕ) → (count : Option ℕ) →
    Option (Vec ℕ Global) → Type 0
IsShownOf content name count None = AreLogEntries content []
IsShownOf content name count (Some text) = (entries : List LogLine)
    × AreLogEntries content entries × (entries ≢ [])
    × (text.items ≡ entry_lines name 0 (newest count entries))

-- the error for a log that is not read; want of memory has none
abbrev pub IsUnreadLog : (name : List ℕ) → LogError → Answer → Type 0
IsUnreadLog name Memory answer = ⊥
IsUnreadLog name error answer =
    Fails (codes "cannot read the reflog of '" ++ (name ++ codes "'")) answer

module _ {F : Type 0} (honest : Type 0) (means : F → Meaning) (faults : F → FaultCounts) where
  -- the entries that are shown of a name that leads to this one: its own, or, where it has none, those of the last name
  abbrev pub AreShown : (old : Store F) → (name last : List ℕ) → List LogLine → Type 0
  AreShown old name last entries =
      (AreLogEntries (reflog_at means old name) entries × (entries ≢ []))
      ⊎ (AreLogEntries (reflog_at means old name) []
      × AreLogEntries (reflog_at means old last) entries)

  -- the log of this name is asked for: its own; or that of the last name, where its own has no entry
  abbrev pub IsAsked : (old : Store F) → (name last at : List ℕ) → Type 0
  IsAsked old name last at = (at ≡ name)
      ⊎ ((at ≡ last) × (honest → AreLogEntries (reflog_at means old name) []))

  -- a log that is asked for is not read: its path is prohibited, or by a fault that was counted; or its entries are shown, newest first
  abbrev pub ShowsLog : (old new : Store F) → (name last : List ℕ) → (count : Option ℕ) →
      Answer → Type 0
  ShowsLog old new name last count answer =
      ((at : List ℕ) × (error : LogError) × IsAsked old name last at
      × IsNoReflog old at error
      × (faults (files_of new) ≡ count_by error (faults (files_of old)))
      × IsUnreadLog at error answer)
      ⊎ ((text : List ℕ) × Says text 0 answer × (honest → (entries : List LogLine)
      × AreShown old name last entries × (text ≡ entry_lines name 0 (newest count entries))))

  -- what is answered where the following of the name ends so
  abbrev pub ShowsByEnd : (old new : Store F) → NameEnd → (name : List ℕ) → (count : Option ℕ) →
      Answer → Type 0
  ShowsByEnd old new (Reached last id) name count answer = ShowsLog old new name last count answer
  ShowsByEnd old new end name count answer = Fails (codes "ambiguous argument '" ++ (name
      ++ codes "': unknown revision or path not in the working tree.")) answer

  -- `reflog show`: the name is no full one; or it cannot be followed; or what is answered by where it leads
  abbrev pub ShowAnswer : {R : Type 0} (G : Ghosts R) → (old new : Store F) →
      (name : List ℕ) → (count : Option ℕ) → Answer → Type 0
  ShowAnswer G old new name count answer = ((is_none (full_error name) ≡ false)
      × Fails (codes "invalid ref format: " ++ name) answer)
      ⊎ ((is_none (full_error name) ≡ true)
      × ((IsUnread G honest means faults old name
      × Fails (codes "cannot follow '" ++ (name ++ codes "'")) answer)
      ⊎ ((end : NameEnd) × FollowsTo honest means old name end
      × ShowsByEnd old new end name count answer)))
