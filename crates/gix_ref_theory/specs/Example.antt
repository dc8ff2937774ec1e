-- A worked example: two updates of loose references and a deletion of a packed one, beside a packed one that no edit
-- names. What each stop shows, and what is wrong with other orders.
use Rattle.std.specs.Prelude.{◌≡◌, ℕ, List, [], ◌∷◌, Option, Some, None, true, false, map, take, length, replicate, codes, bytes_eq, if◌then◌else◌, ◌⊎◌}
use Rattle.gix_ref_hash.specs.declared.hash.ObjectId.{ObjectId}
use Rattle.gix_ref_hash.specs.declared.hash.ObjectId.TheVariants.{Sha1}
use Rattle.gix_ref_target.specs.Targets.{TargetValue}
use Rattle.gix_ref_target.specs.Targets.TargetValue.{object_id}
use Rattle.gix_ref_target.specs.Layout.{Layout, ref_paths}
use Rattle.gix_ref_target.specs.Locations.{paths_at}
use Rattle.gix_ref_files.specs.Tree.{Path}
use Rattle.gix_ref_files.specs.Steps.{Step}
use Rattle.gix_ref_files.specs.Steps.Step.{Append as AppendStep, Rename, RemoveFile, RemoveFolder}
use Rattle.gix_ref_theory.specs.OnRealTrees.{CarryOut}
use Rattle.gix_ref_theory.specs.Views.{View, after, changed_at}
use Rattle.gix_ref_theory.specs.Views.Write.{Put, Remove}
use Rattle.gix_ref_target.specs.PackedRecords.{Record, written_text, written_id}
use Rattle.gix_ref_theory.specs.Readings.{Store, Reading, reading}
use Rattle.gix_ref_theory.specs.Readings.Reading.{Is, Absent}
use Rattle.gix_ref_theory.specs.ConcreteStore.{store_of, loose_text}
use Rattle.gix_ref_theory.specs.Edits.{Edit, Mode}
use Rattle.gix_ref_theory.specs.Edits.Change.{Update, Delete}
use Rattle.gix_ref_theory.specs.Edits.Mode.{DeletionsOnly, PackingAndRemoving}
use Rattle.gix_ref_theory.specs.Plan.{plan}
use Rattle.gix_ref_theory.specs.Between.{IsPrepared, ReadsAsBefore, ReadsAsEdited, NoDeletionFirst, InOrder}

-- the id of forty digits 1
abbrev pub ones : ObjectId
ones = Sha1 (replicate 20 17)

-- the same of forty digits 2
abbrev pub twos : ObjectId
twos = Sha1 (replicate 20 34)

-- a record without a peeled id
abbrev pub a_record : List ℕ → ObjectId → Record
a_record name id = record { name = name; target = written_id id; object = None }

-- the records before
abbrev pub old_records : List Record
old_records = a_record (codes "refs/tags/t") ones ∷ a_record (codes "refs/tags/u") twos ∷ []

-- the ones that the deletion leaves
abbrev pub kept_records : List Record
kept_records = a_record (codes "refs/tags/u") twos ∷ []

-- these with both updates packed
abbrev pub packed_records : List Record
packed_records = a_record (codes "refs/heads/a") twos ∷ a_record (codes "refs/heads/b") twos
    ∷ kept_records

-- a decoder of the loose texts that occur here
abbrev pub example_target : List ℕ → Option TargetValue
example_target text =
    if bytes_eq text (loose_text (object_id ones)) then Some (object_id ones)
    else if bytes_eq text (loose_text (object_id twos)) then Some (object_id twos)
    else None

-- and of the packed ones
abbrev pub example_records : List ℕ → List Record
example_records text =
    if bytes_eq text (written_text old_records) then old_records
    else if bytes_eq text (written_text kept_records) then kept_records
    else if bytes_eq text (written_text packed_records) then packed_records
    else []

-- a store in the folder `/r`, without linked worktrees and namespace, with no name prohibited
abbrev pub store : Store
store =
    store_of (record { git = codes "/r"; common = codes "/r"; namespace = [] })
    (record { target_of = example_target; records_of = example_records; is_device = λ name. false })

-- a and b are loose at ones; t is packed at ones and u at twos
abbrev pub files : View
files path =
    if bytes_eq path (codes "/r/refs/heads/a") then Some (loose_text (object_id ones))
    else if bytes_eq path (codes "/r/refs/heads/b") then Some (loose_text (object_id ones))
    else if bytes_eq path (codes "/r/packed-refs") then Some (written_text old_records)
    else None

-- an update to twos
abbrev pub update : List ℕ → Edit
update name = record {
  name = name;
  change = Update (object_id twos);
  and_reference = true;
  line = None;
  peeled = None;
}

-- a deletion
abbrev pub deletion : List ℕ → Edit
deletion name =
    record { name = name; change = Delete; and_reference = true; line = None; peeled = None }

-- updates of a and b, and a deletion of t
abbrev pub edits : List Edit
edits = update (codes "refs/heads/a") ∷ update (codes "refs/heads/b")
    ∷ deletion (codes "refs/tags/t") ∷ []

-- what a, b, t and u read
abbrev pub shown_readings : View → List Reading
shown_readings view = map (λ name. reading store view name)
    (codes "refs/heads/a" ∷ codes "refs/heads/b" ∷ codes "refs/tags/t" ∷ codes "refs/tags/u" ∷ [])

-- the files after so many writes of the plan
abbrev pub files_after : Mode → List Record → ℕ → View
files_after mode merged n = after (take n (plan store mode files edits merged)) files

-- the transaction is prepared: what the theorem asks for can be met
abbrev pub ExampleIsPrepared : Type 0
ExampleIsPrepared = IsPrepared store DeletionsOnly files edits kept_records

-- the plan has five writes, none of which can be written in part
abbrev pub PlanIsFiveWrites : Type 0
PlanIsFiveWrites =
    plan store DeletionsOnly files edits kept_records
    ≡ Put (codes "/r/refs/heads/a") (loose_text (object_id twos)) ∷ Put (codes "/r/refs/heads/b")
    (loose_text (object_id twos))
    ∷ Remove (codes "/r/logs/refs/tags/t") ∷ Put (codes "/r/packed-refs")
    (written_text kept_records) ∷ Remove (codes "/r/refs/tags/t") ∷ []

-- after so many writes, a and b read these ids and t reads this; u is always as before
abbrev pub Shows : ℕ → ObjectId → ObjectId → Reading → Type 0
Shows n a b t = shown_readings (files_after DeletionsOnly kept_records n)
    ≡ Is (object_id a) ∷ Is (object_id b) ∷ t ∷ Is (object_id twos) ∷ []

-- the four rows, in this order and no others
abbrev pub FourRows : Type 0
FourRows =
    Shows 0 ones ones (Is (object_id ones))
    × Shows 1 twos ones (Is (object_id ones))
    × Shows 2 twos twos (Is (object_id ones)) × Shows 3 twos twos (Is (object_id ones))
    × Shows 4 twos twos Absent × Shows 5 twos twos Absent

-- `packed-refs` goes from 152 bytes to 99
abbrev pub PackedTextsAreThese : Type 0
PackedTextsAreThese = (length (written_text old_records) ≡ 152)
    × (length (written_text kept_records) ≡ 99)

-- with `packed-refs` replaced before the updates, the deletion shows first
abbrev pub PackedFirstIsWrong : Type 0
PackedFirstIsWrong = NoDeletionFirst store edits files
    (after (Put (codes "/r/packed-refs") (written_text kept_records) ∷ []) files) → ⊥

-- with the updates in reverse, the second shows first
abbrev pub ReverseIsWrong : Type 0
ReverseIsWrong = InOrder store edits files
    (after (Put (codes "/r/refs/heads/b") (loose_text (object_id twos)) ∷ []) files) → ⊥

-- t is loose too, at twos: with this file removed before `packed-refs` is replaced, its older record shows
abbrev pub RemovedFirstIsWrong : Type 0
RemovedFirstIsWrong =
    let loose = changed_at (codes "/r/refs/tags/t") (Some (loose_text (object_id twos))) files in
    let left = after (Remove (codes "/r/refs/tags/t") ∷ []) loose in
    ReadsAsBefore store loose left (codes "refs/tags/t")
    ⊎ ReadsAsEdited store edits loose left (codes "refs/tags/t") → ⊥

-- in the removing mode the plan itself shows the deletion first: t is gone while a's loose file still exists
abbrev pub RemovingModeShowsDeletionFirst : Type 0
RemovingModeShowsDeletionFirst = NoDeletionFirst store edits files
    (files_after PackingAndRemoving packed_records 2) → ⊥

-- and, where b has no loose file but a record, its update before that of a
abbrev pub RemovingModeShowsOutOfOrder : Type 0
RemovingModeShowsOutOfOrder =
    let bare = changed_at (codes "/r/refs/heads/b") None files in
    InOrder store edits bare
    (after (take 2 (plan store PackingAndRemoving bare edits packed_records)) bare) → ⊥

-- the paths whose locks the transaction holds
abbrev pub locked : List Path
locked = codes "/r/refs/heads/a" ∷ codes "/r/refs/heads/b" ∷ codes "/r/refs/tags/t"
    ∷ codes "/r/packed-refs" ∷ []

-- the files as `commit` begins: the locks of updates hold their texts, the others nothing yet
abbrev pub files_with_locks : View
files_with_locks =
    changed_at (codes "/r/refs/heads/a.lock") (Some (loose_text (object_id twos)))
    (changed_at (codes "/r/refs/heads/b.lock") (Some (loose_text (object_id twos)))
    (changed_at (codes "/r/refs/tags/t.lock") (Some [])
    (changed_at (codes "/r/packed-refs.lock") (Some []) files)))

-- its steps: the plan's writes, the text of the lock of `packed-refs`, and what is cleaned up
abbrev pub steps : List Step
steps =
    Rename (codes "/r/refs/heads/a.lock") (codes "/r/refs/heads/a")
    ∷ Rename (codes "/r/refs/heads/b.lock") (codes "/r/refs/heads/b")
    ∷ RemoveFile (codes "/r/logs/refs/tags/t")
    ∷ AppendStep (codes "/r/packed-refs.lock") (written_text kept_records)
    ∷ Rename (codes "/r/packed-refs.lock") (codes "/r/packed-refs")
    ∷ RemoveFile (codes "/r/refs/tags/t")
    ∷ RemoveFile (codes "/r/refs/tags/t.lock")
    ∷ RemoveFolder (codes "/r/logs/refs/tags") ∷ []

-- these steps carry out the plan
abbrev pub StepsCarryOutThePlan : Type 0
StepsCarryOutThePlan = CarryOut locked files_with_locks steps
    (plan store DeletionsOnly files_with_locks edits kept_records)

-- the folders of the linked worktree w, outside of a namespace or in the namespace `foo`
abbrev pub linked : List ℕ → Layout
linked namespace =
    record { git = codes "/r/worktrees/w"; common = codes "/r"; namespace = namespace }

-- its place, log and key there
abbrev pub HasPlaces : List ℕ → List ℕ → List ℕ → List ℕ → Option (List ℕ) → Type 0
HasPlaces namespace name place log key = paths_at (linked namespace) name ≡ ref_paths place log key

-- where that worktree keeps some names
abbrev pub PlacesInLinked : Type 0
PlacesInLinked =
    let foo = codes "refs/namespaces/foo/" in
    HasPlaces [] (codes "HEAD") (codes "/r/worktrees/w/HEAD")
    (codes "/r/worktrees/w/logs/HEAD") None
    × HasPlaces [] (codes "main-worktree/HEAD") (codes "/r/HEAD") (codes "/r/logs/HEAD") None
    × HasPlaces [] (codes "refs/bisect/x") (codes "/r/worktrees/w/refs/bisect/x")
    (codes "/r/worktrees/w/logs/refs/bisect/x") None
    × HasPlaces [] (codes "worktrees/w/refs/bisect/x") (codes "/r/worktrees/w/refs/bisect/x")
    (codes "/r/worktrees/w/logs/refs/bisect/x") None
    × HasPlaces foo (codes "refs/heads/x") (codes "/r/refs/namespaces/foo/refs/heads/x")
    (codes "/r/logs/refs/namespaces/foo/refs/heads/x")
    (Some (codes "refs/namespaces/foo/refs/heads/x"))
    × HasPlaces foo (codes "worktrees/w/HEAD") (codes "/r/refs/namespaces/foo/worktrees/w/HEAD")
    (codes "/r/worktrees/w/logs/refs/namespaces/foo/HEAD") None
