-- What the loose file of a reference is decoded to.
use Rattle.std.specs.Prelude.{◌≡◌, ℕ, List, true, Option, Some, None}
use Rattle.gix_ref_files.specs.Tree.{Content, is_folder}
use Rattle.gix_ref_target.specs.Targets.{target_value}
use Rattle.gix_ref_hash.specs.declared.hash.Kind.{Kind}
use Rattle.gix_ref_lookup.specs.LooseText.{HoldsTarget, CannotDecode}
use Rattle.gix_ref_lookup.specs.declared.find.loose.Loose.{Loose}
use Rattle.gix_ref_lookup.specs.declared.find.loose.Loose.TheVariants.{Nothing, Folder, Holds, Undecodable}
use Rattle.gix_ref_lookup.specs.declared.loose.error.Error.{Error as Undecoded}
use Rattle.gix_ref_lookup.specs.declared.loose.error.Error.TheVariants.{Memory as NoMemory}

-- the bytes of a file hold no target, for this reason
abbrev pub IsUndecodable : Kind → Option (List ℕ) → Undecoded → Type 0
IsUndecodable kind file error = (bytes : List ℕ) × (file ≡ Some bytes)
    × CannotDecode kind bytes error × (error ≡ NoMemory → ⊥)

-- what the loose file at a place is decoded to
abbrev pub IsDecoded : Kind → Option (List ℕ) → Loose → Type 0
IsDecoded kind file Nothing = file ≡ None
IsDecoded kind file Folder = file ≡ None
IsDecoded kind file (Holds target) = (bytes : List ℕ) × (file ≡ Some bytes)
    × HoldsTarget kind bytes (target_value target)
IsDecoded kind file (Undecodable error) = IsUndecodable kind file error

-- what is said to be nothing is nothing, and what is said to be a folder is one
abbrev pub IsThere : Option Content → Loose → Type 0
IsThere content Nothing = content ≡ None
IsThere content Folder = is_folder content ≡ true
IsThere content other = Unit {0}
