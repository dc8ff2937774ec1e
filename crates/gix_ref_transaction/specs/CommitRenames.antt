-- Which locks a commit renames, and which are left to be released; and the log of an edit.
use Rattle.std.specs.Prelude.{◌≡◌, ◌<◌, ℕ, List, [], Bool, true, false, not, ◌&&◌, Option, Some, None, nat_lt, get_or, length, map}
use Rattle.gix_ref_files.specs.Tree.{Path, Tree, node_at}
use Rattle.gix_ref_files.specs.declared.files.Node.{Node}
use Rattle.gix_ref_files.specs.declared.files.Node.TheVariants.{File as a_file, Folder as a_folder, Nothing as nothing, Blocked as blocked}
use Rattle.gix_ref_transaction.specs.PrepareSteps.{lock_paths, place_paths}
use Rattle.gix_ref_transaction.specs.declared.edit.Edit.{Edit}
use Rattle.gix_ref_transaction.specs.declared.edit.LogEffect.{LogEffect}
use Rattle.gix_ref_transaction.specs.declared.edit.LogEffect.TheVariants.{Keep, Append, Remove}
use Rattle.gix_ref_transaction.specs.Effects.{is_write}

-- whether the lock of each of these is renamed to its place
abbrev pub written_flags : List Edit → List Bool
written_flags edits = map (λ (e : Edit). is_write e.effect) edits

-- the reference at this place of the list is written
abbrev pub is_written_at : List Edit → ℕ → Bool
is_written_at edits k = get_or (written_flags edits) k false

-- the lock at this place of the list was not renamed, where the edits before `done` are done
abbrev pub stays_at : List Edit → (done k : ℕ) → Bool
stays_at edits done k = not (nat_lt k done && is_written_at edits k)

-- the lock and the place at this place of the list
abbrev pub lock_at : List Edit → ℕ → Path
lock_at edits k = get_or (lock_paths edits) k []

abbrev pub place_at : List Edit → ℕ → Path
place_at edits k = get_or (place_paths edits) k []

-- the path of a log that gains a line, or is removed
abbrev pub path_in : LogEffect → Path
path_in Keep = []
path_in (Append log line) = log.items
path_in (Remove log) = log.items

-- whether a loose file was seen at that place, as the edit was compared with what was found
abbrev pub file_seen_at : List Edit → ℕ → Bool
file_seen_at edits k = get_or (map (λ (e : Edit). e.has_file) edits) k false

-- and what was seen at the path of its log, as what becomes of that was decided
abbrev pub log_seen_at : List Edit → ℕ → Option Node
log_seen_at edits k = get_or (map (λ (e : Edit). e.log_seen) edits) k None

-- it was a file
abbrev pub is_file_seen : Option Node → Bool
is_file_seen (Some a_file) = true
is_file_seen (Some a_folder) = false
is_file_seen (Some nothing) = false
is_file_seen (Some blocked) = false
is_file_seen None = false

-- it was no folder
abbrev pub is_no_folder_seen : Option Node → Bool
is_no_folder_seen (Some a_file) = true
is_no_folder_seen (Some a_folder) = false
is_no_folder_seen (Some nothing) = true
is_no_folder_seen (Some blocked) = true
is_no_folder_seen None = false

-- what was seen at the log of an edit is there in this tree
abbrev pub SeesItsLog : Tree → Edit → Type 0
SeesItsLog T e = (node : Node) → e.log_seen ≡ Some node → node ≡ node_at T (path_in e.log)

-- and so for each of these edits
abbrev pub SeeLogs : Tree → List Edit → Type 0
SeeLogs T edits = (k : ℕ) (d : Edit) → k < length edits → SeesItsLog T (get_or edits k d)

-- and what becomes of the log there
abbrev pub log_at : List Edit → ℕ → LogEffect
log_at edits k = get_or (map (λ (e : Edit). e.log) edits) k Keep
