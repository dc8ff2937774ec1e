-- Rows of references.
use Rattle.std.proofs.Common.{◌≡◌, ◌⊎◌, inl, inr, Bool, true, false, ◌<◌, ◌+◌, ℕ, List, [], ◌∷◌, ◌++◌, length, get_or, take, map, reverse, codes, Option, Some, None, Result, Ok, Err, Vec, refl, sym, ◌∙◌, ap, subst, append-nil, append_assoc}
use Rattle.std.specs.Prelude.{IfOk, IfErr, MatchBool}
use Rattle.std.specs.List.{cons_option, filter_map}
use Rattle.std.specs.Option.{option_to_list}
use Rattle.std.specs.declared.alloc.Global.{Global}
use Rattle.std.proofs.lemmas.List.{take_more, map-append, reverse-append}
use Rattle.std.proofs.lemmas.List.Elements.{filter_map-append}
use Rattle.gix_ref_files.specs.Files.{Meaning, FaultCounts}
use Rattle.gix_ref_files.specs.declared.files.ReadAt.{Ghosts}
use Rattle.gix_ref_hash.specs.declared.hash.ObjectId.{ObjectId}
use Rattle.gix_ref_name.specs.Names.{full_bytes}
use Rattle.gix_ref_name.specs.declared.name.FullName.{FullName}
use Rattle.gix_ref_target.specs.Targets.{TargetValue, target_value}
use Rattle.gix_ref_target.specs.Targets.TargetValue.{object_id, symbolic_name}
use Rattle.gix_ref_target.specs.declared.target.Target.{Target}
use Rattle.gix_ref_target.specs.declared.target.Target.TheVariants.{Object, Symbolic}
use Rattle.gix_ref_packed_text.specs.declared.raw.Reference.{Reference}
use Rattle.gix_ref_target.specs.PackedRecords.{Record}
use Rattle.gix_ref_store.specs.Lookup.{AreRecordsIn, LooksUp}
use Rattle.gix_ref_store.specs.declared.file.store.Store.{Store}
use Rattle.gix_ref_queries.specs.Answers.{path_lines}
use Rattle.gix_ref_queries.specs.Formats.{row_text, shows_short}
use Rattle.gix_ref_queries.specs.Resolving.{TargetsByName, EndsBy, IsUnfollowedBy, IsUnread, SeesEnd, SeesEnds, targets_in, resolved}
use Rattle.gix_ref_queries.specs.Resolving.NameEnd.{Reached, Missing, TooDeep}
use Rattle.gix_ref_queries.specs.Shortening.{SeesShort}
use Rattle.gix_ref_queries.specs.Rows.{IsRowError, IsUnfollowed, IsUnreadRow, IsUnreadShort, SeesFollowedRow, SeesRow, SeesRows, SeesShown, SeesTargetRow, followed_row, row_lines, row_of, row_texts, rows_of, shown_short, target_row}
use Rattle.gix_ref_queries.specs.declared.format.Part.{Part}
use Rattle.gix_ref_queries.specs.declared.resolve.End.{End}
use Rattle.gix_ref_queries.specs.declared.resolve.End.TheVariants as ends
use Rattle.gix_ref_queries.specs.declared.rows.RowError.{RowError}
use Rattle.gix_ref_queries.specs.declared.rows.RowError.TheVariants as row_error
use Rattle.gix_ref_queries.proofs.Names.{end_before, unfollowed_before, same_finds, same_records}
use Rattle.gix_ref_queries.proofs.ShortLemmas.{short_before, unshort_before}

pub map_reverse : {X Y : Type 0} (f : X → Y) (xs : List X) → map f (reverse xs) ≡ reverse (map f xs)
map_reverse f [] = refl
map_reverse f (x ∷ xs) =
    ap (map f) (reverse-append (x ∷ []) xs)
    ∙ (map-append f (reverse xs) (x ∷ [])
    ∙ (ap (λ ys. ys ++ f x ∷ []) (map_reverse f xs) ∙ sym (reverse-append (f x ∷ []) (map f xs))))

-- lines of rows are those of their bytes
pub lines_of_rows : (rows : List (Vec ℕ Global)) → path_lines rows ≡ row_lines (row_texts rows)
lines_of_rows [] = refl
lines_of_rows (row ∷ rows) = ap (λ more. (row.items ++ codes "\n") ++ more) (lines_of_rows rows)

pub if_err : {T E : Type 0} (r : Result T E) (P Q : E → Type 0) → ((e : E) → P e → Q e) → IfErr r P → IfErr r Q
if_err (Ok x) P Q so p = _
if_err (Err e) P Q so p = so e p

pub if_ok : {T E : Type 0} (r : Result T E) (P Q : T → Type 0) → ((x : T) → P x → Q x) → IfOk r P → IfOk r Q
if_ok (Ok x) P Q so p = so x p
if_ok (Err e) P Q so p = _

module _ (find : TargetsByName) (parts : List Part) (name short owned last : List ℕ) (same : owned ≡ name) where
  -- a following that ends at an object
  pub row_reached : (shown_name shown_last : List ℕ) (id : ObjectId) (end : End) (text : List ℕ) → EndsBy find owned last end → end ≡ ends.Object id → shown_name ≡ name → shown_last ≡ last →
      text ≡ row_text parts (record { name = shown_name; short = short; id = id; symref = shown_last }) → Some text ≡ followed_row parts name short (resolved find 5 name)
  row_reached shown_name shown_last id end text by is named ended shows =
      let reached : resolved find 5 owned ≡ Reached last id = subst (λ (e : End). EndsBy find owned last e) is by in
      ap (λ (t : List ℕ). let o : Option (List ℕ) = Some t in o) (shows ∙ (ap (λ (n : List ℕ). row_text parts (record { name = n; short = short; id = id; symref = shown_last })) named ∙ ap (λ (l : List ℕ). row_text parts (record { name = name; short = short; id = id; symref = l })) ended))
      ∙ sym (ap (followed_row parts name short) (sym (ap (resolved find 5) same) ∙ reached))

  -- one that ends at no reference, or does not end
  pub row_missing : (end : End) → EndsBy find owned last end → (end ≡ ends.Absent) ⊎ (end ≡ ends.TooDeep) → let none : Option (List ℕ) = None in none ≡ followed_row parts name short (resolved find 5 name)
  row_missing end by (inl is) =
      let missing : resolved find 5 owned ≡ Missing last = subst (λ (e : End). EndsBy find owned last e) is by in
      sym (ap (followed_row parts name short) (sym (ap (resolved find 5) same) ∙ missing))
  row_missing end by (inr is) =
      let missing : resolved find 5 owned ≡ TooDeep = subst (λ (e : End). EndsBy find owned last e) is by in
      sym (ap (followed_row parts name short) (sym (ap (resolved find 5) same) ∙ missing))

-- the row of a symbolic reference
pub row_symbolic : (find : TargetsByName) (parts : List Part) (reference : Reference) (target : FullName) → reference.target ≡ Symbolic target → row_of find parts reference ≡ followed_row parts (full_bytes reference.name) (shown_short find parts (full_bytes reference.name)) (resolved find 5 (full_bytes reference.name))
row_symbolic find parts reference target is = ap (λ t. target_row find parts (full_bytes reference.name) (shown_short find parts (full_bytes reference.name)) (target_value t)) is

-- and that of another
pub row_object : (find : TargetsByName) (parts : List Part) (reference : Reference) (id : ObjectId) → reference.target ≡ Object id →
    row_of find parts reference ≡ Some (row_text parts (record { name = full_bytes reference.name; short = shown_short find parts (full_bytes reference.name); id = id; symref = [] }))
row_object find parts reference id is = ap (λ t. target_row find parts (full_bytes reference.name) (shown_short find parts (full_bytes reference.name)) (target_value t)) is

-- the row of a symbolic reference, by its short name
pub row_led : (find mid : TargetsByName) (parts : List Part) (reference : Reference) (target : FullName) (asked shown short : List ℕ) (row : Option (List ℕ)) → reference.target ≡ Symbolic target → mid ≡ find →
    asked ≡ full_bytes reference.name → shown ≡ full_bytes reference.name → short ≡ shown_short find parts asked → row ≡ followed_row parts shown short (resolved mid 5 shown) → row ≡ row_of find parts reference
row_led find mid parts reference target asked shown short row is same named shows shortens made =
    let n = full_bytes reference.name in
    made
    ∙ (ap (λ (f : TargetsByName). followed_row parts shown short (resolved f 5 shown)) same
    ∙ (ap (λ (m : List ℕ). followed_row parts m short (resolved find 5 m)) shows
    ∙ (ap (λ (s : List ℕ). followed_row parts n s (resolved find 5 n)) (shortens ∙ ap (shown_short find parts) named)
    ∙ sym (row_symbolic find parts reference target is))))

-- and that of another
pub row_direct : (find : TargetsByName) (parts : List Part) (reference : Reference) (id : ObjectId) (asked shown short : List ℕ) (text : List ℕ) → reference.target ≡ Object id →
    asked ≡ full_bytes reference.name → shown ≡ full_bytes reference.name → short ≡ shown_short find parts asked → text ≡ row_text parts (record { name = shown; short = short; id = id; symref = [] }) → Some text ≡ row_of find parts reference
row_direct find parts reference id asked shown short text is named shows shortens made =
    let n = full_bytes reference.name in
    ap (λ (t : List ℕ). let o : Option (List ℕ) = Some t in o)
    (made
    ∙ (ap (λ (m : List ℕ). row_text parts (record { name = m; short = short; id = id; symref = [] })) shows
    ∙ ap (λ (s : List ℕ). row_text parts (record { name = n; short = s; id = id; symref = [] })) (shortens ∙ ap (shown_short find parts) named)))
    ∙ sym (row_object find parts reference id is)

-- one reference more
rows_then : (find : TargetsByName) (parts : List Part) (references : List Reference) (i : ℕ) (reference : Reference) → i < length references → reference ≡ get_or references i reference → rows_of find parts (take (i + 1) references) ≡ rows_of find parts (take i references) ++ filter_map (row_of find parts) (reference ∷ [])
rows_then find parts references i reference lt is =
    ap (rows_of find parts) (take_more references i reference lt ∙ ap (λ (r : Reference). take i references ++ r ∷ []) (sym is))
    ∙ filter_map-append (row_of find parts) (take i references) (reference ∷ [])

pub rows_more : (find find' : TargetsByName) (parts : List Part) (references : List Reference) (i : ℕ) (reference : Reference) (rows : List (List ℕ)) (row : Option (List ℕ)) → i < length references → reference ≡ get_or references i reference →
    rows ≡ rows_of find parts (take i references) → find' ≡ find → row ≡ row_of find' parts reference → rows ++ option_to_list row ≡ rows_of find parts (take (i + 1) references)
rows_more find find' parts references i reference rows row lt is so_far same made =
    let one : option_to_list row ≡ filter_map (row_of find parts) (reference ∷ []) = ap option_to_list (made ∙ ap (λ (f : TargetsByName). row_of f parts reference) same) ∙ alone (row_of find parts reference) in
    ap (λ (r : List (List ℕ)). r ++ option_to_list row) so_far ∙ (ap (λ (t : List (List ℕ)). rows_of find parts (take i references) ++ t) one ∙ sym (rows_then find parts references i reference lt is))
  where
    alone : (o : Option (List ℕ)) → option_to_list o ≡ cons_option o []
    alone None = refl
    alone (Some row) = refl

module _ {F R : Type 0} (G : Ghosts R) (honest : Type 0) (means : F → Meaning) (faults : F → FaultCounts) where
  -- a lookup that failed for a row, once the store was looked at
  unread_row_before : (old mid : Store F) (parts : List Part) (reference : Reference) → LooksUp honest means old mid → IsUnreadRow honest means faults G mid parts reference → IsUnreadRow honest means faults G old parts reference
  unread_row_before old mid parts reference looked (inl (points, (error, u))) = inl (points, (error, unfollowed_before G honest means faults old mid (full_bytes reference.name) error looked u))
  unread_row_before old mid parts reference looked (inr (shows, u)) = inr (shows, unshort_before G honest means faults true old mid (full_bytes reference.name) looked u)

  -- and one for a symbolic reference, or for a short name
  pub unread_symbolic : (old mid : Store F) (parts : List Part) (reference : Reference) (target : FullName) (name : List ℕ) (error : RowError) → LooksUp honest means old mid → reference.target ≡ Symbolic target → name ≡ full_bytes reference.name →
      IsRowError (IsUnread G honest means faults mid name) name error → IsRowError (IsUnreadRow honest means faults G old parts reference) (full_bytes reference.name) error
  unread_symbolic old mid parts reference target name (row_error.Unread unread) looked is same ((error, u), of) =
      (inl ((full_bytes target, ap target_value is), (error, unfollowed_before G honest means faults old mid (full_bytes reference.name) error looked (subst (λ (n : List ℕ). IsUnfollowedBy G honest means faults mid n error) same u))), of ∙ same)
  unread_symbolic old mid parts reference target name row_error.Memory looked is same unread = _

  pub unread_short : (old : Store F) (parts : List Part) (reference : Reference) (name : List ℕ) (error : RowError) → name ≡ full_bytes reference.name →
      IsRowError (IsUnreadShort honest means faults G old parts name) name error → IsRowError (IsUnreadRow honest means faults G old parts reference) (full_bytes reference.name) error
  unread_short old parts reference name (row_error.Unread unread) same (u, of) = (inr (subst (λ (n : List ℕ). IsUnreadShort honest means faults G old parts n) same u), of ∙ same)
  unread_short old parts reference name row_error.Memory same unread = _

  -- the reference that cannot be followed is one of these
  pub unfollowed_at : (old mid : Store F) (parts : List Part) (references : List Reference) (i : ℕ) (reference : Reference) (error : RowError) → LooksUp honest means old mid → i < length references → reference ≡ get_or references i reference →
      IsRowError (IsUnreadRow honest means faults G mid parts reference) (full_bytes reference.name) error → IsUnfollowed honest means faults G old parts references error
  unfollowed_at old mid parts references i reference (row_error.Unread name) looked lt is (u, same) = (i, reference, lt, sym is, (sym same, unread_row_before old mid parts reference looked u))
  unfollowed_at old mid parts references i reference row_error.Memory looked lt is unread = _

  -- and so as the store was before the listing
  pub rows_failed_before : (old mid : Store F) (parts : List Part) (references : List Reference) (error : RowError) → LooksUp honest means old mid → IsUnfollowed honest means faults G mid parts references error → IsUnfollowed honest means faults G old parts references error
  rows_failed_before old mid parts references (row_error.Unread name) looked (i, reference, lt, is, (same, u)) = (i, reference, lt, is, (same, unread_row_before old mid parts reference looked u))
  rows_failed_before old mid parts references row_error.Memory looked unread = _

  pub rows_before : (old mid : Store F) (parts : List Part) (references : List Reference) (rows : List (List ℕ)) → LooksUp honest means old mid →
      (honest → (records : List Record) → AreRecordsIn means mid records → rows ≡ rows_of (targets_in means mid records) parts references) →
      honest → (records : List Record) → AreRecordsIn means old records → rows ≡ rows_of (targets_in means old records) parts references
  rows_before old mid parts references rows looked made h records are =
      made h records (same_records honest means old mid records looked h are) ∙ ap (λ (f : TargetsByName). rows_of f parts references) (same_finds honest means old mid records looked h)

-- ---- on any text of `packed-refs`

module _ {F : Type 0} (means : F → Meaning) (store : Store F) (parts : List Part) (name short owned last : List ℕ) (same : owned ≡ name) where
  -- a following that ends at an object
  pub sees_reached : (shown_name shown_last : List ℕ) (id : ObjectId) (end : End) (text : List ℕ) → SeesEnds means store owned last end → end ≡ ends.Object id → shown_name ≡ name → shown_last ≡ last →
      text ≡ row_text parts (record { name = shown_name; short = short; id = id; symref = shown_last }) → SeesFollowedRow means store parts name short (Some text)
  sees_reached shown_name shown_last id end text saw is named ended shows =
      let reached : SeesEnd means store 5 owned (Reached last id) = subst (λ (e : End). SeesEnds means store owned last e) is saw in (
        Reached last id,
        subst (λ (n : List ℕ). SeesEnd means store 5 n (Reached last id)) same reached,
        ap (λ (t : List ℕ). let o : Option (List ℕ) = Some t in o) (shows ∙ (ap (λ (n : List ℕ). row_text parts (record { name = n; short = short; id = id; symref = shown_last })) named ∙ ap (λ (l : List ℕ). row_text parts (record { name = name; short = short; id = id; symref = l })) ended)),
      )

  -- one that ends at no reference, or does not end
  pub sees_missing : (end : End) → SeesEnds means store owned last end → (end ≡ ends.Absent) ⊎ (end ≡ ends.TooDeep) → SeesFollowedRow means store parts name short None
  sees_missing end saw (inl is) =
      let missing : SeesEnd means store 5 owned (Missing last) = subst (λ (e : End). SeesEnds means store owned last e) is saw in
      (Missing last, subst (λ (n : List ℕ). SeesEnd means store 5 n (Missing last)) same missing, refl)
  sees_missing end saw (inr is) =
      let missing : SeesEnd means store 5 owned TooDeep = subst (λ (e : End). SeesEnds means store owned last e) is saw in
      (TooDeep, subst (λ (n : List ℕ). SeesEnd means store 5 n TooDeep) same missing, refl)

-- the row of a reference that is not symbolic
pub sees_direct : {F : Type 0} (means : F → Meaning) (store : Store F) (parts : List Part) (reference : Reference) (id : ObjectId) (asked shown short text : List ℕ) → reference.target ≡ Object id → asked ≡ full_bytes reference.name → shown ≡ full_bytes reference.name → SeesShown means store parts asked short →
    text ≡ row_text parts (record { name = shown; short = short; id = id; symref = [] }) → SeesRow means store parts reference (Some text)
sees_direct means store parts reference id asked shown short text is named shows shortens made =
    let n = full_bytes reference.name in
    let row : Option (List ℕ) = Some text in
    let there : row ≡ Some (row_text parts (record { name = n; short = short; id = id; symref = [] })) =
    ap (λ (t : List ℕ). let o : Option (List ℕ) = Some t in o) (made ∙ ap (λ (m : List ℕ). row_text parts (record { name = m; short = short; id = id; symref = [] })) shows) in (
      short,
      subst (λ (m : List ℕ). SeesShown means store parts m short) named shortens,
      subst (λ (t : Target). SeesTargetRow means store parts n short (target_value t) row) (sym is) there,
    )

module _ {F : Type 0} (honest : Type 0) (means : F → Meaning) (old mid : Store F) (looked : LooksUp honest means old mid) (h : honest) (parts : List Part) where
  followed_before : (name short : List ℕ) (row : Option (List ℕ)) → SeesFollowedRow means mid parts name short row → SeesFollowedRow means old parts name short row
  followed_before name short row (end, saw, is) = (end, end_before honest means old mid looked h 5 name end saw, is)

  -- that of a symbolic reference, once the store was looked at
  pub sees_led : (reference : Reference) (target : FullName) (asked shown short : List ℕ) (row : Option (List ℕ)) → reference.target ≡ Symbolic target → asked ≡ full_bytes reference.name → shown ≡ full_bytes reference.name → SeesShown means old parts asked short →
      SeesFollowedRow means mid parts shown short row → SeesRow means old parts reference row
  sees_led reference target asked shown short row is named shows shortens saw =
      let n = full_bytes reference.name in (
        short,
        subst (λ (m : List ℕ). SeesShown means old parts m short) named shortens,
        subst (λ (t : Target). SeesTargetRow means old parts n short (target_value t) row) (sym is) (followed_before n short row (subst (λ (m : List ℕ). SeesFollowedRow means mid parts m short row) shows saw)),
      )

  shown_before : (name short : List ℕ) → SeesShown means mid parts name short → SeesShown means old parts name short
  shown_before name short = by (shows_short parts)
    where
      by : (b : Bool) → MatchBool b (SeesShort means mid true name short) (short ≡ []) → MatchBool b (SeesShort means old true name short) (short ≡ [])
      by true saw = short_before honest means old mid looked h true name short saw
      by false is = is

  pub row_before : (reference : Reference) (row : Option (List ℕ)) → SeesRow means mid parts reference row → SeesRow means old parts reference row
  row_before reference row (short, shown, saw) = (short, shown_before (full_bytes reference.name) short shown, by (target_value reference.target) saw)
    where
      by : (t : TargetValue) → SeesTargetRow means mid parts (full_bytes reference.name) short t row → SeesTargetRow means old parts (full_bytes reference.name) short t row
      by (object_id id) is = is
      by (symbolic_name next) saw = followed_before (full_bytes reference.name) short row saw

  pub seen_before : (references : List Reference) (rows : List (List ℕ)) → SeesRows means mid parts references rows → SeesRows means old parts references rows
  seen_before [] rows is = is
  seen_before (reference ∷ references) rows (row, more, saw, later, is) = (row, more, row_before reference row saw, seen_before references more later, is)

module _ {F : Type 0} (means : F → Meaning) (store : Store F) (parts : List Part) where
  seen_then : (references : List Reference) (rows : List (List ℕ)) (reference : Reference) (row : Option (List ℕ)) → SeesRows means store parts references rows → SeesRow means store parts reference row → SeesRows means store parts (references ++ reference ∷ []) (rows ++ option_to_list row)
  seen_then [] rows reference row is saw = (row, [], saw, refl, ap (λ (r : List (List ℕ)). r ++ option_to_list row) is ∙ sym (append-nil (option_to_list row)))
  seen_then (first ∷ references) rows reference row (one, more, has, later, is) saw = (
    one,
    more ++ option_to_list row,
    has,
    seen_then references more reference row later saw,
    ap (λ (r : List (List ℕ)). r ++ option_to_list row) is ∙ append_assoc (option_to_list one) more (option_to_list row),
  )

  -- one reference more
  pub seen_more : (references : List Reference) (i : ℕ) (reference : Reference) (rows : List (List ℕ)) (row : Option (List ℕ)) → i < length references → reference ≡ get_or references i reference →
      SeesRows means store parts (take i references) rows → SeesRow means store parts reference row → SeesRows means store parts (take (i + 1) references) (rows ++ option_to_list row)
  seen_more references i reference rows row lt is so_far saw =
      subst (λ (rs : List Reference). SeesRows means store parts rs (rows ++ option_to_list row)) (sym (take_more references i reference lt ∙ ap (λ (r : Reference). take i references ++ r ∷ []) (sym is)))
      (seen_then (take i references) rows reference row so_far saw)
