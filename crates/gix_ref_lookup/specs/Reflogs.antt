-- The reflogs of a store: where they are, and what a call reports of them (`git reflog`).
use Rattle.std.specs.Prelude.{◌≡◌, ◌≢◌, ℕ, List, Bool, true, false, Option, Result, Ok, Err}
use Rattle.gix_ref_files.specs.Files.{count_with, FaultCounts}
use Rattle.gix_ref_files.specs.Tree.{Tree, Content, is_file, bytes_of}
use Rattle.gix_ref_files.specs.declared.files.FileError.{FileError}
use Rattle.gix_ref_files.specs.declared.files.FileError.TheVariants as faulty
use Rattle.gix_ref_lookup.specs.Lookups.{meaning_in}
use Rattle.gix_ref_lookup.specs.declared.settings.Settings.{Settings}
use Rattle.gix_ref_lookup.specs.declared.reflog.error.Error.{Error}
use Rattle.gix_ref_lookup.specs.declared.reflog.error.Error.TheVariants.{Io, DeviceName, Memory}

-- the path of the log of a name
abbrev pub log_path : Settings → List ℕ → List ℕ
log_path settings name = (meaning_in settings).log name

-- it has the name of a device, and the store prohibits these
abbrev pub is_prohibited : Settings → List ℕ → Bool
is_prohibited settings name = (meaning_in settings).is_prohibited (log_path settings name)

-- what is there; the name has a log where that is a file
abbrev pub log_content : Settings → Tree → List ℕ → Option Content
log_content settings T name = T (log_path settings name)

-- the error for one of files
abbrev pub of_files : FileError → Error
of_files (faulty.Device kind) = Io (faulty.Device kind)
of_files faulty.NotUtf8 = Io faulty.NotUtf8
of_files faulty.Memory = Memory

-- why there is no path: it is prohibited, or there was no memory for it
abbrev pub IsNoPath : Settings → List ℕ → Error → Type 0
IsNoPath settings name DeviceName = is_prohibited settings name ≡ true
IsNoPath settings name Memory = Unit {0}
IsNoPath settings name other = ⊥

-- why a log is not read: so, or by a fault of files
abbrev pub IsNoLog : Settings → List ℕ → Error → Type 0
IsNoLog settings name DeviceName = is_prohibited settings name ≡ true
IsNoLog settings name (Io error) = error ≢ faulty.Memory
IsNoLog settings name Memory = Unit {0}
IsNoLog settings name other = ⊥

-- the faults that are counted after a call
abbrev pub count_by : Error → FaultCounts → FaultCounts
count_by (Io error) n = count_with error n
count_by other n = n

abbrev pub count_log : {T : Type 0} → Result T Error → FaultCounts → FaultCounts
count_log (Ok value) n = n
count_log (Err error) n = count_by error n

-- there is a log, and these are its bytes; or there is none
abbrev pub HoldsLog : Option Content → List ℕ → Bool → Type 0
HoldsLog content bytes true = (is_file content ≡ true) × (bytes ≡ bytes_of content)
HoldsLog content bytes false = is_file content ≡ false
