-- What becomes of a run: a session in the store of its words, or there is none.
use Rattle.std.specs.Prelude.{◌≡◌, ◌⊎◌, ℕ, List, true, false, Option, Some, Result, Err}
use Rattle.std.specs.Option.{option_map}
use Rattle.gix_ref_name.specs.NameGrammar.{partial_error}
use Rattle.gix_ref_files.specs.declared.files.ReadAt.{Ghosts}
use Rattle.gix_ref_files.specs.Files.{Meaning, FaultCounts}
use Rattle.gix_ref_log.specs.Signatures.{signature_ref_who}
use Rattle.gix_ref_lookup.specs.CleanPaths.{is_clean}
use Rattle.gix_ref_store.specs.Store.{files_of}
use Rattle.gix_ref_store.specs.declared.file.store.Store.{Store}
use Rattle.gix_ref_program.specs.Runs.{IsStoreOf}
use Rattle.gix_ref_program.specs.declared.refusal.Refusal.{Refusal}
use Rattle.gix_ref_program.specs.declared.refusal.Refusal.TheVariants as refusals
use Rattle.gix_ref_session.specs.Sessions.{Serves, way, way_on}
use Rattle.gix_ref_session.specs.declared.fatal.Fatal.{Fatal}
use Rattle.gix_ref_session.specs.declared.fatal.Fatal.TheVariants as fatals
use Rattle.gix_ref_session.specs.declared.words.Line.{Line}

-- a refusal, as the end of a session
abbrev pub IsRefusedFor : Refusal → Fatal → Type 0
IsRefusedFor refusals.PathNotClean fatal = fatal ≡ fatals.Folder
IsRefusedFor (refusals.Name error) fatal = fatal ≡ fatals.Name error
IsRefusedFor refusal fatal = fatal ≡ fatals.Memory

-- the NAME of a namespace, if there is one
abbrev pub namespace_in : Line → Option (List ℕ)
namespace_in line = option_map (λ name. name.now) line.namespace

-- why there is no store: the folder is no clean path; or the name of the namespace breaks a rule, in a folder that is; or there was
-- no memory
abbrev pub IsUnopened : Line → Fatal → Type 0
IsUnopened line fatals.Folder = is_clean line.dir.now ≡ false
IsUnopened line (fatals.Name error) = (is_clean line.dir.now ≡ true)
    × ((name : List ℕ) × (namespace_in line ≡ Some name) × (partial_error name ≡ Some error))
IsUnopened line fatals.Memory = Unit {0}
IsUnopened line fatal = ⊥

-- the store of a line
abbrev pub IsOpened : {F : Type 0} → F → Line → Store F → Type 0
IsOpened files line store = IsStoreOf files line.dir.now line.session.object_hash
    (namespace_in line) (option_map signature_ref_who line.session.committer) store

module _ {F R : Type 0} (G : Ghosts R) (honest : Type 0) (means : F → Meaning)
    (faults : F → FaultCounts) where
  -- a session in the store of the line
  pub record RunsIn {E : Type 0} (line : Line) (files after : F)
      (input rest out now : Option (List ℕ)) (result : Result E Fatal) : Type 0 where
    pub old : Store F
    pub new : Store F
    pub opened : IsOpened files line old
    pub after_is : files_of new ≡ after
    pub serves : Serves G honest means faults line.session
        (way input out old) (way_on true rest now new) result

  -- there is none, and nothing is read, written or changed
  pub record NotRun {E : Type 0} (line : Line) (files after : F)
      (input rest out now : Option (List ℕ)) (result : Result E Fatal) : Type 0 where
    pub fatal : Fatal
    pub is : result ≡ Err fatal
    pub why : IsUnopened line fatal
    pub same : after ≡ files
    pub unread : rest ≡ input
    pub unsaid : now ≡ out

  abbrev pub Runs : {E : Type 0} → Line → (files after : F) →
      (input rest out now : Option (List ℕ)) → Result E Fatal → Type 0
  Runs line files after input rest out now result =
      RunsIn line files after input rest out now result
      ⊎ NotRun line files after input rest out now result
