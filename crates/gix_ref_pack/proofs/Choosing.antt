-- What is chosen, one loose reference after the other.
use Rattle.std.proofs.Common.{◌≡◌, inl, inr, take, drop, length, IfErr, Ok, Err, ℕ, Bool, true, false, List, [], ◌∷◌, ◌++◌, refl, sym, ◌∙◌, ap, subst, Option, Some, None, Result, cond, append-nil, append_assoc}
use Rattle.std.specs.Prelude.{IsErrAnd, bytes_eq}
use Rattle.std.specs.Cmp.Lexicographic.{bytes_decides}
use Rattle.std.specs.Option.{option_copied}
use denote.Ref.{Bor}
use Rattle.std.specs.List.{cons_option, filter, filter_map}
use Rattle.std.proofs.lemmas.List.{take-append-drop}
use Rattle.std.proofs.lemmas.List.Elements.{filter-append, filter_map-append}
use Rattle.gix_ref_files.specs.Tree.{Content, bytes_of, is_file}
use Rattle.gix_ref_files.specs.Tree.Content.{File, Folder}
use Rattle.gix_ref_hash.specs.declared.hash.Kind.{Kind}
use Rattle.gix_ref_name.specs.NameGrammar.{IsFullName}
use Rattle.gix_ref_target.specs.PackedRecords.{Record, record_named}
use Rattle.gix_ref_packed_text.specs.RecordGrammar.{Records as AreRecords}
use Rattle.gix_ref_packed.specs.Buffers.{HoldsRecords, Opened, buffer_kind, buffer_text}
use Rattle.gix_ref_packed.specs.declared.packed.buffer.Buffer.{Buffer}
use Rattle.gix_ref_packed.proofs.WellFormedLemmas.{opened_holds}
use Rattle.gix_ref_theory.specs.OnRealTrees.{file_of}
use Rattle.gix_ref_edits.specs.declared.transaction.RefEdit.{RefEdit}
use Rattle.gix_ref_lookup.specs.Lookups.{ArePackedRecords}
use Rattle.gix_ref_packed_text.specs.declared.raw.Reference.{Reference}
use Rattle.gix_ref_listing.specs.declared.error.Error.{Error}
use Rattle.gix_ref_store.specs.Lookup.{AreHeld}
use Rattle.gix_ref_pack.specs.KeptObjects.{AreKeptFor, KeepsObject}
use Rattle.gix_ref_pack.specs.LooseObjects.{fault_in, faults_among}
use Rattle.gix_ref_pack.specs.Packings.{ArePicked, IsAskError}
use Rattle.gix_ref_pack.specs.declared.pack.Loose.{Loose}
use Rattle.gix_ref_pack.specs.declared.pack.PackError.{PackError}
use Rattle.gix_ref_pack.specs.declared.pack.PackError.TheVariants.{Memory, Open, Find, Prepare, Commit}

-- one more that a filter keeps
pub filter_more : {A : Type 0} (test : A → Bool) (xs kept : List A) (x : A) → kept ≡ filter test xs → test x ≡ true → kept ++ x ∷ [] ≡ filter test (xs ++ x ∷ [])
filter_more {A = A} test xs kept x so_far is =
    ap (λ (ks : List A). ks ++ x ∷ []) so_far
    ∙ (ap (λ b. filter test xs ++ cond b (x ∷ []) []) (sym is) ∙ sym (filter-append test xs (x ∷ [])))

-- and one more that it does not
pub filter_less : {A : Type 0} (test : A → Bool) (xs kept : List A) (x : A) → kept ≡ filter test xs → test x ≡ false → kept ≡ filter test (xs ++ x ∷ [])
filter_less {A = A} test xs kept x so_far is =
    so_far
    ∙ (sym (append-nil (filter test xs))
    ∙ (ap (λ b. filter test xs ++ cond b (x ∷ []) []) (sym is) ∙ sym (filter-append test xs (x ∷ []))))

-- one more of which something is given, or nothing
pub map_more : {A B : Type 0} (h : A → Option B) (xs : List A) (given after : List B) (x : A) (y : B) → after ≡ given ++ y ∷ [] → given ≡ filter_map h xs → h x ≡ Some y → after ≡ filter_map h (xs ++ x ∷ [])
map_more {B = B} h xs given after x y added so_far is =
    added
    ∙ (ap (λ (ys : List B). ys ++ y ∷ []) so_far
    ∙ (ap (λ o. filter_map h xs ++ cons_option o []) (sym is) ∙ sym (filter_map-append h xs (x ∷ []))))

pub map_none : {A B : Type 0} (h : A → Option B) (xs : List A) (given : List B) (x : A) → given ≡ filter_map h xs → h x ≡ None → given ≡ filter_map h (xs ++ x ∷ [])
map_none h xs given x so_far is =
    so_far ∙ (sym (append-nil (filter_map h xs)) ∙ (ap (λ o. filter_map h xs ++ cons_option o []) (sym is) ∙ sym (filter_map-append h xs (x ∷ []))))

-- the faults among the items of a listing, after those before it
pub faults_stay : (before broken : List Error) (items : List (Result Reference Error)) (item : Result Reference Error) → broken ≡ before ++ faults_among items → fault_in item ≡ None → broken ≡ before ++ faults_among (items ++ item ∷ [])
faults_stay before broken items item so_far none = so_far ∙ ap (λ (fs : List Error). before ++ fs) (map_none fault_in items (faults_among items) item refl none)

pub fault_more : (before broken after : List Error) (items : List (Result Reference Error)) (item : Result Reference Error) (error : Error) → after ≡ broken ++ error ∷ [] → broken ≡ before ++ faults_among items → fault_in item ≡ Some error → after ≡ before ++ faults_among (items ++ item ∷ [])
fault_more before broken after items item error added so_far one =
    added
    ∙ (ap (λ (fs : List Error). fs ++ error ∷ []) so_far
    ∙ (append_assoc before (faults_among items) (error ∷ []) ∙ ap (λ (fs : List Error). before ++ fs) (map_more fault_in items (faults_among items) (faults_among items ++ error ∷ []) item error refl refl one)))

-- one more edit
pub kept_more : (loose : List Loose) (edits : List RefEdit) (l : Loose) (edit : RefEdit) → AreKeptFor loose edits → KeepsObject l edit → AreKeptFor (loose ++ l ∷ []) (edits ++ edit ∷ [])
kept_more [] [] l edit are keeps = (keeps, tt)
kept_more [] (e ∷ edits) l edit are keeps = absurd are
kept_more (m ∷ loose) [] l edit are keeps = absurd are
kept_more (m ∷ loose) (e ∷ edits) l edit (first, are) keeps = (first, kept_more loose edits l edit are keeps)

pub kept_filter_more : (test : Loose → Bool) (all : List Loose) (edits : List RefEdit) (l : Loose) (edit : RefEdit) → AreKeptFor (filter test all) edits → test l ≡ true → KeepsObject l edit → AreKeptFor (filter test (all ++ l ∷ [])) (edits ++ edit ∷ [])
kept_filter_more test all edits l edit are is keeps =
    subst (λ (ls : List Loose). AreKeptFor ls (edits ++ edit ∷ [])) (filter_more test all (filter test all) l refl is) (kept_more (filter test all) edits l edit are keeps)

-- a key that is no full name has no record
valid_named : (kind : Kind) (text : List ℕ) (rs : List Record) (key : List ℕ) → AreRecords kind text rs → (IsFullName key → ⊥) → record_named key rs ≡ None
valid_named kind text [] key are bad = refl
valid_named kind text (r ∷ rs) key are bad = by (bytes_eq r.name key) refl (valid_named kind are.0 rs key are.2 bad)
  where
    by : (b : Bool) → bytes_eq r.name key ≡ b → record_named key rs ≡ None → cond b (Some r) (record_named key rs) ≡ None
    by true same later = absurd (bad (subst IsFullName ((bytes_decides r.name key).0 same) are.1.valid))
    by false other later = later

pub no_record : (kind : Kind) (rs : List Record) (text key : List ℕ) → HoldsRecords kind rs text → (IsFullName key → ⊥) → record_named key rs ≡ None
no_record kind rs text key holds bad = sym (holds.named key) ∙ valid_named kind text holds.held key holds.records bad

-- this is the buffer of an opened file, or there is no file
abbrev pub IsOpened : Kind → Option Content → Option Buffer → Type 0
IsOpened kind content None = is_file content ≡ false
IsOpened kind content (Some b) = (is_file content ≡ true) × Opened kind (bytes_of content) b

-- and these are its records
pub held_now : (kind : Kind) (content : Option Content) (records : List Record) (opened : Option Buffer) (lent : Option (Bor Buffer)) → ArePackedRecords kind (file_of content) records →
    IsOpened kind content opened → option_copied lent ≡ opened → AreHeld lent records
held_now kind content records None None are opens value = none content are opens
  where
    none : (content : Option Content) → ArePackedRecords kind (file_of content) records → is_file content ≡ false → records ≡ []
    none (Some (File bytes)) are no_file = cc
    none (Some Folder) are no_file = are
    none None are no_file = are
held_now kind content records (Some b) (Some lent) are opens value = subst (λ (x : Buffer). HoldsRecords (buffer_kind x) records (buffer_text x)) (inner b lent.now (sym value)) (holds content are opens.0 opens.1)
  where
    inner : (x y : Buffer) → ◌≡◌ {A = Option Buffer} (Some x) (Some y) → x ≡ y
    inner x y same = cc

    holds : (content : Option Content) → ArePackedRecords kind (file_of content) records → is_file content ≡ true → Opened kind (bytes_of content) b → HoldsRecords (buffer_kind b) records (buffer_text b)
    holds (Some (File bytes)) are a_file opened = subst (λ (k : Kind). HoldsRecords k records (buffer_text b)) (sym opened.kind_is) (opened_holds kind bytes are.0 records b are.1 opened)
    holds (Some Folder) are a_file opened = absurd (cc)
    holds None are a_file opened = absurd (cc)
held_now kind content records None (Some lent) are opens value = absurd (cc)
held_now kind content records (Some b) None are opens value = absurd (cc)

-- one more that is picked, and one that is not
pub picked_more : (P N : Loose → Type 0) (found picked : List Loose) (l : Loose) → ArePicked P N found picked → P l → ArePicked P N (found ++ l ∷ []) (picked ++ l ∷ [])
picked_more P N [] picked l are is = inr ([], ap (λ (ls : List Loose). ls ++ l ∷ []) are, is, refl)
picked_more P N (m ∷ found) picked l (inl (not, are)) is = inl (not, picked_more P N found picked l are is)
picked_more P N (m ∷ found) picked l (inr (more, same, first, are)) is = inr (more ++ l ∷ [], ap (λ (ls : List Loose). ls ++ l ∷ []) same, first, picked_more P N found more l are is)

pub picked_but : (P N : Loose → Type 0) (found picked : List Loose) (l : Loose) → ArePicked P N found picked → N l → ArePicked P N (found ++ l ∷ []) picked
picked_but P N [] picked l are not = inl (not, are)
picked_but P N (m ∷ found) picked l (inl (first, are)) not = inl (first, picked_but P N found picked l are not)
picked_but P N (m ∷ found) picked l (inr (more, same, first, are)) not = inr (more, same, first, picked_but P N found more l are not)

-- the error is handed on, for a wider reason
pub told_ask : {T : Type 0} (r : Result T PackError) (error : PackError) (P Q : Type 0) → IsErrAnd r (λ e. e ≡ error) → (P → Q) → IsAskError P error → IfErr r (IsAskError Q)
told_ask (Ok v) error P Q fails so why = absurd fails
told_ask (Err e) error P Q fails so why = subst (IsAskError Q) (sym fails) (wider error why)
  where
    wider : (error : PackError) → IsAskError P error → IsAskError Q error
    wider Memory why = tt
    wider (Find e) why = so why
    wider (Open e) why = absurd why
    wider (Prepare e) why = absurd why
    wider (Commit e) why = absurd why

-- the faults among the first items are the first among all
pub first_faults : (before broken : List Error) (seen items : List (Result Reference Error)) → broken ≡ before ++ faults_among seen → seen ≡ take (length seen) items → broken ++ faults_among (drop (length seen) items) ≡ before ++ faults_among items
first_faults before broken seen items is first =
    ap (λ (bs : List Error). bs ++ faults_among (drop (length seen) items)) is
    ∙ (append_assoc before (faults_among seen) (faults_among (drop (length seen) items))
    ∙ ap (λ (fs : List Error). before ++ fs)
    (ap (λ (xs : List (Result Reference Error)). faults_among xs ++ faults_among (drop (length seen) items)) first
    ∙ (sym (filter_map-append fault_in (take (length seen) items) (drop (length seen) items)) ∙ ap faults_among (take-append-drop (length seen) items))))

pub every_error : {T E : Type 0} (r : Result T E) (P : Type 0) → P → IfErr r (λ e. P)
every_error (Ok v) P is = tt
every_error (Err e) P is = is
