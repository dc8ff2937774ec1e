-- Which loose references are packed (`git pack-refs`).
use Rattle.std.specs.Prelude.{◌≡◌, ◌++◌, ◌&&◌, ◌||◌, ℕ, List, Bool, Option, Some, None, Result, Ok, Err, codes, is_some, nat_eq, if◌then◌else◌}
use Rattle.std.specs.List.{filter_map, list_any, starts_with}
use Rattle.gix_ref_hash.specs.declared.hash.ObjectId.{ObjectId}
use Rattle.gix_ref_name.specs.NameGrammar.{IsFullName}
use Rattle.gix_ref_name.specs.Names.{full_bytes}
use Rattle.gix_ref_name.specs.declared.name.FullName.{FullName}
use Rattle.gix_ref_name.specs.declared.namespace.Namespace.{Namespace}
use Rattle.gix_ref_target.specs.Locations.{key_outside}
use Rattle.gix_ref_target.specs.PackedRecords.{Record, record_named}
use Rattle.gix_ref_target.specs.declared.target.Target.{Target}
use Rattle.gix_ref_target.specs.declared.target.Target.TheVariants.{Object, Symbolic}
use Rattle.gix_ref_packed_text.specs.declared.raw.Reference.{Reference}
use Rattle.gix_ref_listing.specs.declared.error.Error.{Error}
use Rattle.gix_ref_lookup.specs.StoreLayout.{namespace_text}
use Rattle.gix_ref_pack.specs.KnownObjects.{End, is_id, known}
use Rattle.gix_ref_pack.specs.declared.pack.Loose.{Loose}

abbrev begins : FullName → List ℕ → Bool
begins name front = starts_with nat_eq (full_bytes name) front

-- it is below `refs/`, and all worktrees share it: `packed-refs` may have it
abbrev pub is_shared : FullName → Bool
is_shared name = begins name (codes "refs/") && is_some (key_outside (full_bytes name))

-- it is a tag
abbrev pub is_tag : FullName → Bool
is_tag name = begins name (codes "refs/tags/")

-- it is a branch, or one of a remote, and so points to a commit
abbrev pub is_branch : FullName → Bool
is_branch name = begins name (codes "refs/heads/") || begins name (codes "refs/remotes/")

-- a reference to an object
abbrev pub loose_to : FullName → ObjectId → Loose
loose_to name id = record { name = name; id = id }

-- the loose reference that may be packed: to an object, and shared
abbrev pub packable_to : FullName → Target → Option Loose
packable_to name (Object id) = if is_shared name then Some (loose_to name id) else None
packable_to name (Symbolic target) = None

abbrev pub packable : Reference → Option Loose
packable r = packable_to r.name r.target

-- an item of a listing as such a reference, or as a fault
abbrev pub loose_in : Result Reference Error → Option Loose
loose_in (Ok r) = packable r
loose_in (Err error) = None

abbrev pub fault_in : Result Reference Error → Option Error
fault_in (Ok r) = None
fault_in (Err error) = Some error

-- those that may be packed among the items of a listing, and the faults among these
abbrev pub loose_among : List (Result Reference Error) → List Loose
loose_among items = filter_map loose_in items

abbrev pub faults_among : List (Result Reference Error) → List Error
faults_among items = filter_map fault_in items

-- the name that `packed-refs` is asked for
abbrev pub key_for : Option Namespace → FullName → List ℕ
key_for namespace name = namespace_text namespace ++ full_bytes name

-- this key as a name; `None` where it is no full name
abbrev pub IsKeyName : (key : List ℕ) → Option FullName → Type 0
IsKeyName key None = IsFullName key → ⊥
IsKeyName key (Some name) = full_bytes name ≡ key

-- without `--all` it is packed: a tag, or one that has a record already
abbrev pub is_chosen : Option Namespace → List Record → Loose → Bool
is_chosen namespace records l =
    is_tag l.name || is_some (record_named (key_for namespace l.name) records)

-- a branch among these points to the object
abbrev pub has_branch : List Loose → ObjectId → Bool
has_branch chosen id = list_any (λ (l : Loose). is_branch l.name && is_id l.id id) chosen

-- what there is of an object once those of the branches among these were added: one that was not known is no tag
abbrev pub end_with_branches : List Loose → (before : End) → ObjectId → End
end_with_branches chosen before id = if has_branch chosen id then known before else before
