-- The plan of a commit: its writes, in their order.
use Rattle.std.specs.Prelude.{ℕ, List, [], ◌∷◌, ◌++◌, Option, Some, None, if◌then◌else◌}
use Rattle.std.specs.List.{flat_map}
use Rattle.gix_ref_files.specs.Tree.{Path}
use Rattle.gix_ref_theory.specs.Views.{View, Write}
use Rattle.gix_ref_theory.specs.Views.Write.{Append, Put, Remove}
use Rattle.gix_ref_target.specs.PackedRecords.{Record}
use Rattle.gix_ref_theory.specs.Readings.{Store, records_of_file}
use Rattle.gix_ref_theory.specs.Edits.{Change, Edit, Mode, Effect, effect, alters_packed, file_of_records}
use Rattle.gix_ref_theory.specs.Edits.Change.{Update, Delete}
use Rattle.gix_ref_theory.specs.Edits.Effect.{Writes, Removes, Keeps}

-- 1. For each update in order: its log line, then its rename. The line comes first, so that no reference is changed
-- without its line.
abbrev pub line_writes : Path → Change → Option (List ℕ) → List Write
line_writes log Delete line = []
line_writes log (Update target) None = []
line_writes log (Update target) (Some line) = Append log line ∷ []

-- its rename, where the effect is to write
abbrev pub place_writes : Path → Effect → List Write
place_writes place (Writes bytes) = Put place bytes ∷ []
place_writes place Removes = []
place_writes place Keeps = []

-- both, for each edit
abbrev pub writes_of_updates : Store → Mode → View → List Edit → List Write
writes_of_updates s mode view [] = []
writes_of_updates s mode view (e ∷ edits) =
    line_writes (s.log e.name) e.change e.line ++ (place_writes (s.place e.name)
    (effect s mode view e) ++ writes_of_updates s mode view edits)

-- 2. Removal of the logs of deletions, so that no reference that is gone leaves its log to a later one of its name.
abbrev pub log_removal : Path → Change → List Write
log_removal log Delete = Remove log ∷ []
log_removal log (Update target) = []

-- for each edit
abbrev pub log_removals : Store → List Edit → List Write
log_removals s edits = flat_map (λ (e : Edit). log_removal (s.log e.name) e.change) edits

-- 3. The new `packed-refs`, after all updates: it is the first place where a deletion shows.
abbrev pub file_writes : Path → Option (List ℕ) → List Write
file_writes path None = Remove path ∷ []
file_writes path (Some bytes) = Put path bytes ∷ []

-- only where some edit alters it
abbrev pub packed_writes : Store → Mode → View → List Edit → List Record → List Write
packed_writes s mode view edits merged =
    if alters_packed s mode (records_of_file s (view s.packed_path)) edits
    then file_writes s.packed_path (file_of_records s merged) else []

-- 4. Removal of loose files. Behind each there is no record any more, or the new one: an old one never shows.
abbrev pub place_removal : Path → Effect → List Write
place_removal place Removes = Remove place ∷ []
place_removal place (Writes bytes) = []
place_removal place Keeps = []

-- for each edit
abbrev pub loose_removals : Store → Mode → View → List Edit → List Write
loose_removals s mode view edits =
    flat_map (λ (e : Edit). place_removal (s.place e.name) (effect s mode view e)) edits

-- all of them, where `merged` are the records of the new `packed-refs`
abbrev pub plan : Store → Mode → View → List Edit → List Record → List Write
plan s mode view edits merged =
    writes_of_updates s mode view edits ++ (log_removals s edits
    ++ (packed_writes s mode view edits merged ++ loose_removals s mode view edits))
