-- What files hold, the writes of a commit, and what a stop or a loss of power among the writes leaves. A file is changed in three ways: by
-- an append, which may stop after any beginning of its bytes, and by a rename and a removal, which are whole.
use Rattle.std.specs.Prelude.{◌≡◌, ◌≤◌, ℕ, List, [], ◌∷◌, ◌++◌, length, Option, Some, None, if◌then◌else◌, bytes_eq, ◌⊎◌}
use Rattle.gix_ref_files.specs.Tree.{Path}
use Rattle.gix_ref_files.specs.Lock.{lock_of}

-- the bytes of the file at each path; `None` where there is a folder or nothing
abbrev pub View : Type 0
View = Path → Option (List ℕ)

-- the same files except for one path
abbrev pub changed_at : Path → Option (List ℕ) → View → View
changed_at path file view other = if bytes_eq path other then file else view other

-- the bytes of a file that may be missing
abbrev pub file_bytes : Option (List ℕ) → List ℕ
file_bytes None = []
file_bytes (Some bytes) = bytes

-- One write. `Put` is the rename of the path's lock, which holds these bytes.
pub data Write : Type 0 where
  Append : (path : Path) (bytes : List ℕ) → Write
  Put : (path : Path) (bytes : List ℕ) → Write
  Remove : (path : Path) → Write

-- what a write makes of the files; an append makes a file that is missing
abbrev pub after_write : Write → View → View
after_write (Append path bytes) view = changed_at path (Some (file_bytes (view path) ++ bytes)) view
after_write (Put path bytes) view = changed_at path (Some bytes) view
after_write (Remove path) view = changed_at path None view

-- what all of the writes make of the files
abbrev pub after : List Write → View → View
after [] view = view
after (write ∷ writes) view = after writes (after_write write view)

-- the same file at each path
abbrev pub IsSameView : View → View → Type 0
IsSameView left right = (path : Path) → left path ≡ right path

-- How a run ends before its time: the process stops, or power is lost.
pub data Ending : Type 0 where
  Stop : Ending
  Loss : Ending

-- What an append leaves of its bytes: a stop any beginning of them; a loss of power any bytes, no more than they are.
abbrev pub IsPartOf : Ending → (left bytes : List ℕ) → Type 0
IsPartOf Stop left bytes = (rest : List ℕ) × (left ++ rest ≡ bytes)
IsPartOf Loss left bytes = length left ≤ length bytes

-- an end inside a write leaves all as it was, or of an append a part of its bytes
abbrev pub BeginsWrite : Ending → Write → View → View → Type 0
BeginsWrite ending (Append path bytes) view left =
    IsSameView left view ⊎ ((part : List ℕ) × IsPartOf ending part bytes
    × IsSameView left (after_write (Append path part) view))
BeginsWrite ending (Put path bytes) view left = IsSameView left view
BeginsWrite ending (Remove path) view left = IsSameView left view

-- an end among the writes: some of them are done, and the next one is perhaps begun
abbrev pub IsLeftByWrites : Ending → List Write → View → View → Type 0
IsLeftByWrites ending [] view left = IsSameView left view
IsLeftByWrites ending (write ∷ writes) view left = BeginsWrite ending write view left
    ⊎ IsLeftByWrites ending writes (after_write write view) left

-- the lock of one of these paths
abbrev pub IsOwnLock : List Path → Path → Type 0
IsOwnLock [] path = ⊥
IsOwnLock (locked ∷ others) path = (path ≡ lock_of locked) ⊎ IsOwnLock others path

-- the same files except for these locks
abbrev pub IsSameButLocks : List Path → View → View → Type 0
IsSameButLocks locked left right = (path : Path) → (IsOwnLock locked path → ⊥) →
    left path ≡ right path

-- A stop among the writes leaves these files, whatever it leaves of the locks of these paths.
pub record IsLeft (locked : List Path) (writes : List Write) (view left : View) : Type 0 where
  pub without_locks : View
  pub stopped : IsLeftByWrites Stop writes view without_locks
  pub same : IsSameButLocks locked left without_locks

-- A loss of power inside a write may leave this file at a path: the one before; at the write's own path also the new one, or,
-- where it appends, the old bytes and after them any bytes, no more than were appended.
abbrev pub LostIn : Write → View → Path → Option (List ℕ) → Type 0
LostIn (Append path bytes) view q file =
    (file ≡ view q) ⊎ ((path ≡ q)
    × ((any : List ℕ) × (length any ≤ length bytes) × (file ≡ Some (file_bytes (view q) ++ any))))
LostIn (Put path bytes) view q file = (file ≡ view q) ⊎ ((path ≡ q) × (file ≡ Some bytes))
LostIn (Remove path) view q file = (file ≡ view q) ⊎ ((path ≡ q) × (file ≡ None))

-- A loss of power among the writes: some of them are done and settled, and it comes inside the next one. Only paths that count
-- are spoken of.
abbrev pub IsLostBy : (Path → Type 0) → List Write → View → View → Type 0
IsLostBy Counts [] view left = (q : Path) → Counts q → left q ≡ view q
IsLostBy Counts (write ∷ writes) view left =
    ((q : Path) → Counts q → LostIn write view q (left q))
    ⊎ IsLostBy Counts writes (after_write write view) left
