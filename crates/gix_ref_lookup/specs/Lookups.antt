-- What the calls of this crate return: candidates, the records that they ask, and lookups (`gitrevisions`).
use Rattle.std.specs.Prelude.{◌≡◌, ◌≢◌, ◌⊎◌, ℕ, List, [], ◌∷◌, ◌++◌, Bool, true, Option, Some, None, MatchOption, MatchResult, Result, Ok, Err, if◌then◌else◌, nat_eq, option_to_list}
use Rattle.std.specs.List.{AllByRecursion}
use Rattle.std.specs.Option.{option_map}
use Rattle.std.specs.Cmp.Lexicographic.{pointwise}
use Rattle.gix_ref_hash.specs.declared.hash.Kind.{Kind}
use Rattle.gix_ref_name.specs.Names.{full_bytes, partial_bytes}
use Rattle.gix_ref_name.specs.declared.name.PartialName.{PartialName}
use Rattle.gix_ref_name.specs.NameGrammar.{IsFullName}
use Rattle.gix_ref_name.specs.Namespaces.{stripped}
use Rattle.gix_ref_name.specs.Candidates.{candidates, remote_head}
use Rattle.gix_ref_name.specs.ComposedNames.{composed, decomposed}
use Rattle.gix_ref_target.specs.Targets.{target_value}
use Rattle.gix_ref_target.specs.Targets.TargetValue.{object_id}
use Rattle.gix_ref_target.specs.declared.target.Target.{Target}
use Rattle.gix_ref_target.specs.PackedRecords.{Record, record_named}
use Rattle.gix_ref_files.specs.Files.{FaultCounts, IsMet, Meaning}
use Rattle.gix_ref_files.specs.declared.files.FileError.{FileError}
use Rattle.gix_ref_files.specs.Tree.{Path, Tree, is_folder}
use Rattle.gix_ref_files.specs.declared.files.FileError.TheVariants.{Device, Memory as no_memory}
use Rattle.std.specs.declared.io.ErrorKind.TheVariants.{InvalidData}
use Rattle.gix_ref_files.specs.declared.files.ReadAt.{Ghosts}
use Rattle.gix_ref_theory.specs.Views.{View}
use Rattle.gix_ref_theory.specs.OnRealTrees.{view_of}
use Rattle.gix_ref_theory.specs.Readings.{Store, reading_among, reading_by, reading_of_loose, reading_of_record}
use Rattle.gix_ref_theory.specs.Readings.Reading.{Is, Absent}
use Rattle.gix_ref_theory.specs.Lookups.{Hit, hit_name, hit_peeled, peeled_of, lookup}
use Rattle.gix_ref_theory.specs.ConcreteStore.{store_of}
use Rattle.gix_ref_packed_text.specs.declared.packed.decode.options.Header.{Header}
use Rattle.gix_ref_packed_text.specs.declared.packed.window.Found.{Found}
use Rattle.gix_ref_packed.specs.declared.packed.buffer.open.Error.{Error as OpenError}
use Rattle.gix_ref_packed.specs.declared.packed.buffer.open.Error.TheVariants.{Iter, HeaderParsing, Io, Memory as open_memory}
use Rattle.gix_ref_packed.specs.declared.packed.sorted_file.FindError.{FindError}
use Rattle.gix_ref_packed.specs.declared.packed.sorted_file.FindError.TheVariants as finding
use Rattle.gix_ref_packed.specs.declared.packed.sorted_file.ReadError.TheVariants as reading
use Rattle.gix_ref_packed.specs.declared.packed.find.Error.TheVariants.{Parse}
use Rattle.gix_ref_packed_text.specs.declared.raw.Reference.{Reference}
use Rattle.gix_ref_packed_text.specs.OpenedText.{IsWellFormed, OpensTo}
use Rattle.gix_ref_packed.specs.OpenFiles.{HasReadFault, packed_file_text, packed_file_kind}
use Rattle.gix_ref_packed.specs.Buffers.{buffer_text, buffer_kind, HoldsRecords, IsRefusedFile}
use Rattle.gix_ref_packed_text.specs.Windows.{HitsRecord}
use Rattle.gix_ref_packed_text.specs.Positions.{CannotRead, IsNotMalformed}
use Rattle.gix_ref_lookup.specs.StoreLayout.{folders_of, git_options, namespace_text}
use Rattle.gix_ref_lookup.specs.LooseFiles.{IsUndecodable}
use Rattle.gix_ref_lookup.specs.declared.settings.Settings.{Settings}
use Rattle.gix_ref_lookup.specs.declared.find.candidate.Look.{Look}
use Rattle.gix_ref_lookup.specs.declared.find.candidate.Look.TheVariants as looks
use Rattle.gix_ref_lookup.specs.declared.find.records.Records.{Records}
use Rattle.gix_ref_lookup.specs.declared.find.records.Records.TheVariants as sources
use Rattle.gix_ref_lookup.specs.declared.find.error.Error.{Error}
use Rattle.gix_ref_lookup.specs.declared.find.error.ReadError.TheVariants.{File, DeviceName}
use Rattle.gix_ref_lookup.specs.declared.find.error.Error.TheVariants.{ReadFileContents, ReferenceCreation, PackedRef, PackedOpen, Memory}

-- where a store with these settings keeps names, and what it reads
abbrev pub meaning_in : Settings → Store
meaning_in s = store_of (folders_of s.dirs.now s.namespace.now)
    (git_options s.kind s.prohibit_windows_device_names)

-- the bytes of `packed-refs`, if there is such a file
abbrev pub packed_refs_in : Settings → Meaning → Option (List ℕ)
packed_refs_in s files = view_of files.tree (meaning_in s).packed_path

-- these are the records of `packed-refs`, which is well formed; where there is no such file, there are none
abbrev pub ArePackedRecords : Kind → Option (List ℕ) → List Record → Type 0
ArePackedRecords kind None records = records ≡ []
ArePackedRecords kind (Some text) records = (header : Option Header)
    × IsWellFormed kind text header records

-- the records that a lookup asks are these, where `packed-refs` is this file
abbrev pub AreAsked : {R : Type 0} {G : Ghosts R} → Kind → Option (List ℕ) → Records R G →
    List Record → Type 0
AreAsked kind file sources.None records = records ≡ []
AreAsked kind file (sources.Held buffer) records =
    HoldsRecords (buffer_kind buffer.now) records (buffer_text buffer.now)
AreAsked kind file sources.Unopened records = ArePackedRecords kind file records
AreAsked {R} {G} kind file (sources.Open packed) records =
    G.honest × (packed_file_kind packed ≡ kind)
    × HoldsRecords kind records (packed_file_text packed)

-- `packed-refs` is open, if it is asked
abbrev pub IsReady : {R : Type 0} {G : Ghosts R} → Records R G → Type 0
IsReady sources.Unopened = ⊥
IsReady other = Unit {0}

-- the text of records that is kept of this file, and the kind of its ids
abbrev pub IsOpenedText : Kind → Option (List ℕ) → Kind → List ℕ → Type 0
IsOpenedText kind file of_kind text = (of_kind ≡ kind) × (bytes : List ℕ) × (line : ℕ)
    × (file ≡ Some bytes) × OpensTo kind bytes text line

-- `packed-refs` can be opened: there is no such file, or some text of records is kept of it
abbrev pub IsOpenable : Kind → Option (List ℕ) → Type 0
IsOpenable kind None = Unit {0}
IsOpenable kind (Some bytes) = (text : List ℕ) × (line : ℕ) × OpensTo kind bytes text line

-- the text that is searched for a record, and the kind of its ids
abbrev pub IsSearched : {R : Type 0} {G : Ghosts R} → Kind → Option (List ℕ) → Records R G → Kind →
    List ℕ → Type 0
IsSearched kind file sources.None of_kind text = ⊥
IsSearched kind file (sources.Held buffer) of_kind text = (of_kind ≡ buffer_kind buffer.now)
    × (text ≡ buffer_text buffer.now)
IsSearched kind file sources.Unopened of_kind text = IsOpenedText kind file of_kind text
IsSearched kind file (sources.Open packed) of_kind text = (of_kind ≡ packed_file_kind packed)
    × (text ≡ packed_file_text packed)

-- no text is searched: no records are asked, or those of `packed-refs`, which is not open yet and is no file
abbrev pub SearchesNone : {R : Type 0} {G : Ghosts R} → Option (List ℕ) → Records R G → Type 0
SearchesNone file sources.None = Unit {0}
SearchesNone file (sources.Held buffer) = ⊥
SearchesNone file sources.Unopened = file ≡ None
SearchesNone file (sources.Open packed) = ⊥

-- an open `packed-refs` is read by an honest reader
abbrev pub AreHonest : {R : Type 0} {G : Ghosts R} → Records R G → Type 0
AreHonest {R} {G} (sources.Open packed) = G.honest
AreHonest other = Unit {0}

-- they are those of `packed-refs`, which is open, or is opened when the first name is asked for
abbrev pub AreOfFile : {R : Type 0} {G : Ghosts R} → Records R G → Type 0
AreOfFile sources.None = ⊥
AreOfFile (sources.Held buffer) = ⊥
AreOfFile sources.Unopened = Unit {0}
AreOfFile (sources.Open packed) = Unit {0}

-- What a lookup leaves of the records that it asked: the same ones, in the same text, read by an honest reader if they were before.
pub record AreStillAsked {R : Type 0} {G : Ghosts R} (kind : Kind) (file : Option (List ℕ))
    (old new : Records R G) : Type 0 where
  pub asked : (records : List Record) → AreAsked kind file old records →
      AreAsked kind file new records
  pub readers : AreHonest old → AreHonest new
  pub searched : (of_kind : Kind) (text : List ℕ) → IsSearched kind file new of_kind text →
      IsSearched kind file old of_kind text
  pub none : SearchesNone file new → SearchesNone file old
  pub of_file : AreOfFile new → AreOfFile old

-- what a search leaves of records that are ready
abbrev pub LeavesReady : {R : Type 0} {G : Ghosts R} → (old new : Records R G) → Type 0
LeavesReady old new = IsReady new × ((kind : Kind) → AreStillAsked kind None old new)

-- some text that is searched has this
pub record OfSearched {R : Type 0} {G : Ghosts R} (kind : Kind) (file : Option (List ℕ))
    (records : Records R G) (P : Kind → List ℕ → Type 0) : Type 0 where
  pub of_kind : Kind
  pub text : List ℕ
  pub searched : IsSearched kind file records of_kind text
  pub has : P of_kind text

-- On any text of `packed-refs`: no record is found, since no text is searched, or one that does not consist of malformed lines alone.
abbrev pub FindsNone : {R : Type 0} {G : Ghosts R} → Kind → Option (List ℕ) → Records R G → Type 0
FindsNone kind file records =
    SearchesNone file records ⊎ OfSearched kind file records IsNotMalformed

-- The same of the `packed-refs` that these files have for a store with these settings.
module _ (settings : Settings) (files : Meaning) where
  abbrev pub ArePackedRecordsWith : List Record → Type 0
  ArePackedRecordsWith records =
      ArePackedRecords settings.kind (packed_refs_in settings files) records

  abbrev pub IsOpenableWith : Type 0
  IsOpenableWith = IsOpenable settings.kind (packed_refs_in settings files)

  abbrev pub AreAskedWith : {R : Type 0} {G : Ghosts R} → Records R G → List Record → Type 0
  AreAskedWith asked records = AreAsked settings.kind (packed_refs_in settings files) asked records

  -- this holds of the records that are asked, where `packed-refs` is well formed or missing
  abbrev pub OfAsked : {R : Type 0} {G : Ghosts R} → (honest : Type 0) → Records R G →
      (List Record → Type 0) → Type 0
  OfAsked honest asked P = honest → (records : List Record) → AreAskedWith asked records → P records

  abbrev pub AreStillAskedWith : {R : Type 0} {G : Ghosts R} → (old new : Records R G) → Type 0
  AreStillAskedWith old new =
      AreStillAsked settings.kind (packed_refs_in settings files) old new

  abbrev pub IsSearchedWith : {R : Type 0} {G : Ghosts R} → Records R G → Kind → List ℕ → Type 0
  IsSearchedWith asked of_kind text =
      IsSearched settings.kind (packed_refs_in settings files) asked of_kind text

  -- What opening leaves of the records that are asked: open ones, which search no other text of `packed-refs`.
  pub record OpensAsked {R : Type 0} {G : Ghosts R} (old new : Records R G) : Type 0 where
    pub readers : AreHonest old → AreHonest new
    pub searched : (kind : Kind) (text : List ℕ) → IsSearched settings.kind None new kind text →
        IsSearchedWith old kind text
    pub none : SearchesNone None new → SearchesNone (packed_refs_in settings files) old
    pub of_file : AreOfFile new → AreOfFile old

-- the error of a lookup where opening has this one
abbrev pub of_opening : OpenError → Error
of_opening open_memory = Memory
of_opening HeaderParsing = PackedOpen HeaderParsing
of_opening (Iter line) = PackedOpen (Iter line)
of_opening (Io error) = PackedOpen (Io error)

-- and where a search has this one; a file that changes while it is read is a fault of the device
abbrev pub of_search : FindError → Error
of_search (finding.Read (reading.Io error)) = PackedOpen (Io error)
of_search (finding.Read reading.Memory) = Memory
of_search (finding.Read reading.Changed) = PackedOpen (Io (Device InvalidData))
of_search finding.Parse = PackedRef Parse

-- what a search found, with the error of a lookup
abbrev pub as_found : Result (Option Found) FindError → Result (Option Found) Error
as_found (Ok found) = Ok found
as_found (Err error) = Err (of_search error)

-- a fault of files, or no memory
abbrev pub IsFaultOrMemory : Error → Type 0
IsFaultOrMemory (PackedOpen (Io error)) = Unit {0}
IsFaultOrMemory Memory = Unit {0}
IsFaultOrMemory other = ⊥

-- this fault was counted by files, or by some reader of theirs
abbrev pub IsFaultOf : {R : Type 0} → (R → FaultCounts) → (before now : FaultCounts) → FileError →
    Type 0
IsFaultOf faults before now error = IsMet error before now ⊎ HasReadFault faults error

-- a read of the `packed-refs` that is asked failed with this fault
abbrev pub IsReadFault : {R : Type 0} {G : Ghosts R} → Records R G → FileError → Type 0
IsReadFault {R} {G} records error = AreOfFile records × HasReadFault G.faults error

-- Why no record is found: a fault, only where it came; a text that is refused; a text that cannot be read; no memory.
abbrev pub IsNotPacked : (honest : Type 0) → (fault : FileError → Type 0) → (unreadable : Type 0) →
    (refused : OpenError → Type 0) → Error → Type 0
IsNotPacked honest fault unreadable refused (PackedOpen (Io error)) = honest →
    (error ≢ no_memory) × fault error
IsNotPacked honest fault unreadable refused (PackedOpen HeaderParsing) = honest →
    refused HeaderParsing
IsNotPacked honest fault unreadable refused (PackedOpen (Iter line)) = honest → refused (Iter line)
IsNotPacked honest fault unreadable refused (PackedRef Parse) = honest → unreadable
IsNotPacked honest fault unreadable refused Memory = Unit {0}
IsNotPacked honest fault unreadable refused other = ⊥

-- the target of the file at a place, less the namespace, if there is such a file
abbrev pub IsLooseTarget : Store → Option (List ℕ) → Option Target → Type 0
IsLooseTarget s file None = file ≡ None
IsLooseTarget s file (Some target) = (bytes : List ℕ) × (file ≡ Some bytes)
    × (reading_of_loose s (s.target_of bytes) ≡ Is (target_value target))

-- the target that was seen
abbrev pub target_seen : Look → Option Target
target_seen (looks.Nothing path) = None
target_seen looks.Folder = None
target_seen (looks.Holds target) = Some target

-- what is said to be nothing is this path, and nothing is there; and what is said to be a folder is one
abbrev pub Shows : Tree → Path → Look → Type 0
Shows T path (looks.Nothing at) = (at.items ≡ path) × (T path ≡ None)
Shows T path looks.Folder = is_folder (T path) ≡ true
Shows T path other = Unit {0}

-- nothing is at the path that is kept, if one is
abbrev pub HasNothing : Tree → (kept : Path) → Type 0
HasNothing T kept = (kept ≢ []) → T kept ≡ None

-- Why the file at a path gives no target for a name: it could not be read, by a fault that was counted; the path has
-- the name of a device, and the store prohibits these; the file holds none, with the reason; no memory.
abbrev pub IsNotReadAt : (honest : Type 0) → Kind → Store → View → (before now : FaultCounts) →
    (name path : List ℕ) → Error → Type 0
IsNotReadAt honest kind s view before now name at (ReadFileContents (File source) path) =
    IsMet source before now × (source ≢ no_memory) × (path.items ≡ at)
IsNotReadAt honest kind s view before now name at (ReadFileContents DeviceName path) =
    (s.is_prohibited at ≡ true) × (path.items ≡ at)
IsNotReadAt honest kind s view before now name at (ReferenceCreation source path) =
    (path.items ≡ name) × (honest → IsUndecodable kind (view at) source)
IsNotReadAt honest kind s view before now name at Memory = Unit {0}
IsNotReadAt honest kind s view before now name at other = ⊥

-- why the loose file of a candidate gives none
abbrev pub IsNotRead : (honest : Type 0) → Kind → Store → View → (before now : FaultCounts) →
    List ℕ → Error → Type 0
IsNotRead honest kind s view before now name error =
    IsNotReadAt honest kind s view before now name (s.place name) error

-- the reference of a key among these records as a result, in this namespace
abbrev pub IsOfKey : (namespace : List ℕ) → List Record → (key : List ℕ) → Option Reference → Type 0
IsOfKey namespace records key None = record_named key records ≡ None
IsOfKey namespace records key (Some r) =
    (full_bytes r.name ≡ stripped namespace key)
    × (reading_of_record (record_named key records) ≡ Is (target_value r.target))
    × (r.peeled ≡ peeled_of (record_named key records))

-- on any text: the reference has the ids of a record of the key that begins a line
pub record IsRecordIn (kind : Kind) (text key : List ℕ) (r : Reference) : Type 0 where
  pub found : Found
  pub hits : HitsRecord kind text key found
  pub target : target_value r.target ≡ object_id found.target
  pub peeled : r.peeled ≡ found.object

-- and it has the name less the namespace
pub record IsHitOfKey {R : Type 0} {G : Ghosts R} (kind : Kind) (file : Option (List ℕ))
    (records : Records R G) (namespace key : List ℕ) (r : Reference) : Type 0 where
  pub name : full_bytes r.name ≡ stripped namespace key
  pub searched : OfSearched kind file records (λ k text. IsRecordIn k text key r)

-- on any text: the reference of a key as a result, among records that are ready
abbrev pub SeesKey : {R : Type 0} {G : Ghosts R} → Kind → Records R G → (namespace key : List ℕ) →
    Option Reference → Type 0
SeesKey kind records namespace key found = MatchOption found (FindsNone kind None records)
    (IsHitOfKey kind None records namespace key)

-- why none is found: a fault of their reader; a text that cannot be read where the record is sought; no memory
abbrev pub SearchFails : {R : Type 0} {G : Ghosts R} → Kind → Records R G → (key : List ℕ) →
    Error → Type 0
SearchFails {R} {G} kind records key =
    IsNotPacked (AreHonest records) (IsReadFault records)
    (OfSearched kind None records (λ of_kind text. CannotRead of_kind text key)) (λ error. ⊥)

-- a candidate without a loose file as a result, by its record
abbrev pub IsByRecord : Store → List Record → List ℕ → Option Reference → Type 0
IsByRecord s records name None = reading_by s (s.key name) None records ≡ Absent
IsByRecord s records name (Some r) =
    (full_bytes r.name ≡ hit_name s name (s.key name) None)
    × (reading_by s (s.key name) None records ≡ Is (target_value r.target))
    × (r.peeled ≡ hit_peeled (s.key name) None records)

-- the name has this key
abbrev pub HasKey : Store → List ℕ → (key : List ℕ) → Type 0
HasKey s name key = s.key name ≡ Some key

-- this holds of each name that has this key
abbrev pub OfNames : Settings → (key : List ℕ) → (List ℕ → Type 0) → Type 0
OfNames settings key P = (name : List ℕ) → HasKey (meaning_in settings) name key → P name

-- the name has no key that is a full name
abbrev pub HasNoKey : Store → List ℕ → Type 0
HasNoKey s name = (key : List ℕ) → s.key name ≡ Some key → IsFullName key → ⊥

-- the name has this key, and it has this
abbrev pub OfKey : Store → List ℕ → (List ℕ → Type 0) → Type 0
OfKey s name P = (key : List ℕ) × (s.key name ≡ Some key) × P key

-- on any text of `packed-refs`: a name has no key, or no record is found
abbrev pub HasNoRecord : {R : Type 0} {G : Ghosts R} → Settings → View → Records R G → List ℕ →
    Type 0
HasNoRecord settings view records name =
    let s = meaning_in settings in
    HasNoKey s name ⊎ FindsNone settings.kind (view s.packed_path) records

-- and the reference is that of a record of its key
abbrev pub IsRecordHit : {R : Type 0} {G : Ghosts R} → Settings → View → Records R G → List ℕ →
    Reference → Type 0
IsRecordHit settings view records name r =
    let s = meaning_in settings in
    OfKey s name (λ key. IsHitOfKey settings.kind (view s.packed_path) records
    (namespace_text settings.namespace.now) key r)

-- why no record of a name is found: a fault, or a text that is refused, of the `packed-refs` that is asked; a text that cannot be
-- read where the record is sought; no memory
abbrev pub RecordFails : {R : Type 0} {G : Ghosts R} → (honest : Type 0) → Settings → Tree →
    Records R G → (before now : FaultCounts) → List ℕ → Error → Type 0
RecordFails {R} {G} honest settings T records before now name =
    let s = meaning_in settings in
    IsNotPacked (honest × AreHonest records)
    (λ error. AreOfFile records × IsFaultOf G.faults before now error)
    (OfKey s name (λ key. OfSearched settings.kind (view_of T s.packed_path) records
    (λ k text. CannotRead k text key)))
    (λ error. AreOfFile records × IsRefusedFile settings.kind (T s.packed_path) error)

-- why `packed-refs` is not opened: a fault; a text that is refused; no memory
abbrev pub IsNotOpened : (honest : Type 0) → (Fault : FileError → Type 0) → Settings → Tree →
    Error → Type 0
IsNotOpened honest Fault settings T =
    IsNotPacked honest Fault ⊥ (IsRefusedFile settings.kind (T (meaning_in settings).packed_path))

-- a candidate as a result: nothing where it reads nothing, else its name, its target and its peeled id
abbrev pub IsCandidate : Store → View → List Record → List ℕ → Option Reference → Type 0
IsCandidate s view records name None = reading_among s view records name ≡ Absent
IsCandidate s view records name (Some r) =
    (full_bytes r.name ≡ hit_name s name (s.key name) (view (s.place name)))
    × (reading_among s view records name ≡ Is (target_value r.target))
    × (r.peeled ≡ hit_peeled (s.key name) (view (s.place name)) records)

-- On any text of `packed-refs`: a candidate is nothing. It has no loose file; and it has no key, or no record is found.
pub record IsMissing {R : Type 0} {G : Ghosts R} (settings : Settings) (view : View)
    (records : Records R G) (name : List ℕ) : Type 0 where
  pub loose : view ((meaning_in settings).place name) ≡ None
  pub packed : HasNoRecord settings view records name

-- and so is each candidate of a partial name; and the head of a remote has no loose file
pub record AreMissing {R : Type 0} {G : Ghosts R} (settings : Settings) (view : View)
    (records : Records R G) (p : List ℕ) : Type 0 where
  pub candidates : AllByRecursion (IsMissing settings view records) (candidates p)
  pub head : AllByRecursion (λ n. view ((meaning_in settings).place n) ≡ None)
      (option_to_list (remote_head p))

-- what a lookup finds, as a result
abbrev pub ReturnsHit : Option Hit → Option Reference → Type 0
ReturnsHit None None = Unit {0}
ReturnsHit (Some hit) (Some r) = (full_bytes r.name ≡ hit.name)
    × (hit.reading ≡ Is (target_value r.target)) × (r.peeled ≡ hit.peeled)
ReturnsHit found answer = ⊥

-- a reference by the loose file of a name: it has this name, the target of the file, and no peeled id
abbrev pub IsLooseHit : Store → View → List ℕ → Reference → Type 0
IsLooseHit s view name r =
    (full_bytes r.name ≡ name) × IsLooseTarget s (view (s.place name)) (Some r.target)
    × (r.peeled ≡ None)

-- on any text of `packed-refs`: a candidate has a loose file with this target; or it has none, and a record of its key
-- that begins a line
abbrev pub IsHit : {R : Type 0} {G : Ghosts R} → Settings → View → Records R G → List ℕ →
    Reference → Type 0
IsHit settings view records name r =
    let s = meaning_in settings in
    IsLooseHit s view name r
    ⊎ ((view (s.place name) ≡ None) × IsRecordHit settings view records name r)

-- on any text of `packed-refs`: a candidate as a result
abbrev pub IsSeen : {R : Type 0} {G : Ghosts R} → Settings → View → Records R G → List ℕ →
    Option Reference → Type 0
IsSeen settings view records name found = MatchOption found
    (IsMissing settings view records name) (IsHit settings view records name)

-- Why a candidate fails: its loose file gives no target; or it has none, and no record is found for a reason.
abbrev pub CandidateFails : {R : Type 0} {G : Ghosts R} → (honest : Type 0) → Settings → Tree →
    Records R G → (before now : FaultCounts) → List ℕ → Error → Type 0
CandidateFails honest settings T records before now name error =
    let s = meaning_in settings in
    IsNotRead honest settings.kind s (view_of T) before now name error
    ⊎ ((honest → view_of T (s.place name) ≡ None)
    × RecordFails honest settings T records before now name error)

-- what is said where the records are well formed: no text is refused, and none is found unreadable
abbrev pub IsSound : Error → Type 0
IsSound (PackedOpen (Io error)) = Unit {0}
IsSound (ReadFileContents source path) = Unit {0}
IsSound (ReferenceCreation source path) = Unit {0}
IsSound Memory = Unit {0}
IsSound other = ⊥

-- a lookup returns this hit, or an error that says nothing of the records
abbrev pub Finds : Option Hit → Result (Option Reference) Error → Type 0
Finds hit result = MatchResult result (ReturnsHit hit) IsSound

-- the names before one are passed, and that one fails
abbrev pub FailsAt : (Passed Fails : List ℕ → Type 0) → List (List ℕ) → Type 0
FailsAt Passed Fails [] = ⊥
FailsAt Passed Fails (name ∷ names) = Fails name ⊎ (Passed name × FailsAt Passed Fails names)

-- one of these has it
abbrev pub Among : {A : Type 0} → (A → Type 0) → List A → Type 0
Among P [] = ⊥
Among P (x ∷ xs) = P x ⊎ Among P xs

-- a candidate that a lookup passes reads nothing, where the records are well formed
abbrev pub IsPassed : {R : Type 0} {G : Ghosts R} → (honest : Type 0) → Settings → Tree →
    Records R G → List ℕ → Type 0
IsPassed honest settings T asked name =
    let s = meaning_in settings in
    honest → (records : List Record) → AreAsked settings.kind
    (view_of T s.packed_path) asked records → reading_among s (view_of T) records name ≡ Absent

-- a lookup fails at the first candidate that fails
abbrev pub FailsAmong : {R : Type 0} {G : Ghosts R} → (honest : Type 0) → Settings → Tree →
    Records R G → (before now : FaultCounts) → List (List ℕ) → Error → Type 0
FailsAmong honest settings T asked before now names error =
    FailsAt (IsPassed honest settings T asked)
    (λ name. CandidateFails honest settings T asked before now name error) names

-- a reference is a hit of one of these names
abbrev pub IsHitAmong : {R : Type 0} {G : Ghosts R} → Settings → View → Records R G →
    List (List ℕ) → Reference → Type 0
IsHitAmong settings view records names r = Among (λ n. IsHit settings view records n r) names

-- on any text of `packed-refs`: what is found is a hit of one of these names, or each of them is nothing
abbrev pub AreSeen : {R : Type 0} {G : Ghosts R} → Settings → View → Records R G →
    List (List ℕ) → Option Reference → Type 0
AreSeen settings view records names found = MatchOption found
    (AllByRecursion (IsMissing settings view records) names)
    (IsHitAmong settings view records names)

-- there was no memory, or this
abbrev pub MemoryOr : (Error → Type 0) → Error → Type 0
MemoryOr P error = (error ≡ Memory) ⊎ P error

-- the fault of a lookup among these names
abbrev pub IsFaultAmong : {R : Type 0} {G : Ghosts R} → (honest : Type 0) → Settings → Tree →
    Records R G → (before now : FaultCounts) → List (List ℕ) → Error → Type 0
IsFaultAmong honest settings T asked before now names =
    MemoryOr (FailsAmong honest settings T asked before now names)

-- the name of the head of the remote that a partial name may be, if there is one
abbrev pub head_names : List ℕ → List (List ℕ)
head_names p = option_to_list (remote_head p)

-- the names that a lookup of a partial name asks for: its candidates, and the head of a remote
abbrev pub asked_names : List ℕ → List (List ℕ)
asked_names p = candidates p ++ head_names p

-- the name that is asked for a partial name: its composed form, where names are composed
abbrev pub name_asked : (composes : Bool) → List ℕ → List ℕ
name_asked composes p = if composes then composed p else p

-- the composed name that is asked, where it is another one than the caller's
abbrev pub IsComposedName : (composes : Bool) → List ℕ → Option PartialName → Type 0
IsComposedName composes p found = MatchOption found (name_asked composes p ≡ p)
    (λ n. (partial_bytes n ≡ name_asked composes p) × (name_asked composes p ≢ p))

-- the name that is given of a hit: the decomposed form, where another name was asked than the caller's
abbrev pub name_given : (asked p : List ℕ) → (name : List ℕ) → List ℕ
name_given asked p name = if pointwise nat_eq asked p then name else decomposed name

abbrev pub hit_given : (asked p : List ℕ) → Hit → Hit
hit_given asked p found = record found { name = name_given asked p found.name }

-- the lookup of a partial name as it is: its candidates, and else the head of a remote
abbrev pub lookup_as : Store → View → List Record → List ℕ → Option Hit
lookup_as s view records p = lookup s view records (candidates p) (remote_head p)

-- What a lookup of a partial name finds in these files, among these records, where names are composed or not
-- (`core.precomposeUnicode` of `git config`).
abbrev pub lookup_of : (composes : Bool) → Store → View → List Record → List ℕ → Option Hit
lookup_of composes s view records p =
    let asked = name_asked composes p in
    option_map (hit_given asked p) (lookup_as s view records asked)

-- the same reference under another form of its name
pub record IsNamed (form : List ℕ → List ℕ) (found given : Reference) : Type 0 where
  pub name : full_bytes given.name ≡ form (full_bytes found.name)
  pub target : given.target ≡ found.target
  pub peeled : given.peeled ≡ found.peeled

-- what is given of what a lookup of a composed name found: the same under its decomposed name; or there was no memory for it
abbrev pub IsGivenOf : Result (Option Reference) Error → Result (Option Reference) Error → Type 0
IsGivenOf (Ok (Some found)) (Ok (Some given)) = IsNamed decomposed found given
IsGivenOf (Ok (Some found)) (Err error) = error ≡ Memory
IsGivenOf (Ok (Some found)) (Ok None) = ⊥
IsGivenOf (Ok None) given = given ≡ Ok None
IsGivenOf (Err error) given = given ≡ Err error

-- on any text of `packed-refs`: what is given was found, under the name that was asked, as a loose file or as a record that
-- begins a line
abbrev pub IsHitOf : {R : Type 0} {G : Ghosts R} → (composes : Bool) → Settings → View →
    Records R G → List ℕ → Reference → Type 0
IsHitOf composes settings view records p given =
    let asked = name_asked composes p in
    (found : Reference) × IsHitAmong settings view records (asked_names asked) found
    × IsNamed (name_given asked p) found given

-- so is what a lookup found, and where it found nothing each name that was asked is nothing
abbrev pub IsAnswerOf : {R : Type 0} {G : Ghosts R} → (composes : Bool) → Settings → View →
    Records R G → List ℕ → Option Reference → Type 0
IsAnswerOf composes settings view records p found = MatchOption found
    (AreMissing settings view records (name_asked composes p))
    (IsHitOf composes settings view records p)
