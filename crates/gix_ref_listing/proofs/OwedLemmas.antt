-- What a listing owes over any text of `packed-refs`, one step after the other.
use Rattle.std.proofs.Common.{◌≡◌, ◌⊎◌, inl, inr, ⊎_elim, ℕ, zero, suc, List, [], ◌∷◌, length, refl, sym, ◌∙◌, ap, subst, arith, Option, Some, None, Result, Ok, Err, slice_index_or, Vec, Global}
use Rattle.std.specs.List.{All, Contains}
use Rattle.std.specs.declared.cmp.Ordering.TheVariants.{Less, Equal, Greater}
use Rattle.gix_ref_name.specs.Names.{full_bytes, full_ref_bytes}
use Rattle.gix_ref_packed_text.specs.Views.{record_of}
use Rattle.gix_ref_packed_text.specs.declared.packed.reference.Reference.{Reference as PackedReference}
use Rattle.gix_ref_packed.specs.YetToGive.{IsItemOf, Owes}
use Rattle.gix_ref_packed.specs.Items.{ItemStep}
use Rattle.gix_ref_packed.specs.declared.packed.iter.Iter.{Iter}
use Rattle.gix_ref_packed.specs.declared.packed.iter.error.Error.{Error as LineError}
use Rattle.gix_ref_packed.proofs.OwedRecords.{next_pays}
use Rattle.gix_ref_packed.proofs.TextItems.{next_is_of}
use Rattle.gix_ref_lookup.specs.declared.settings.Settings.{Settings}
use Rattle.gix_ref_listing.specs.OwnRecords.{own_name, own_of}
use Rattle.gix_ref_files.specs.Files.{FaultCounts}
use Rattle.gix_ref_name.specs.declared.name.FullName.{FullName}
use Rattle.gix_ref_theory.specs.Views.{View}
use Rattle.gix_ref_packed_text.specs.declared.raw.Reference.{Reference}
use Rattle.gix_ref_listing.specs.GoneFiles.{IsFoundOrGone, IsTakenItem}
use Rattle.gix_ref_listing.specs.Listings.{order_of, TakesFirst, TakesFound}
use Rattle.gix_ref_listing.specs.OwedNames.{AreAllGiven, Given, OwesKeys, OwesOthers, OwesAfter, OwesOwn, PaysOwn, IsUnderItsName, OwesNames, PaysTaken, PaysItem, with_name}
use Rattle.gix_ref_listing.specs.PackedTexts.{Text, Ascends, IsLineOf, IsRecordOf, IsRest}
use Rattle.gix_ref_listing.specs.LooseListings.{IsFoundIn}
use Rattle.gix_ref_listing.specs.Walks.{FoundEntry, Holds}
use Rattle.gix_ref_listing.specs.declared.error.Error.{Error}
use Rattle.gix_ref_listing.specs.declared.found.Found.TheVariants.{File, Unlisted}
use Rattle.gix_ref_listing.specs.declared.merge.Merge.{Merge}
use Rattle.gix_ref_listing.specs.declared.merge.Taken.{Taken}
use Rattle.gix_ref_listing.specs.declared.merge.Taken.TheVariants as taking
use Rattle.gix_ref_listing.specs.declared.own_records.OwnRecord.{OwnRecord}
use Rattle.gix_ref_listing.specs.declared.own_records.OwnRecords.{OwnRecords}
use Rattle.std.proofs.lemmas.Map.Lookups.{exact_bytes}

-- one of a list is its first, or is after it
pub first_or_behind : {A : Type 0} (x r : A) (xs : List A) → Contains (x ∷ xs) r → (r ≡ x) ⊎ Contains xs r
first_or_behind x r xs (zero, lt, at) = inl (sym at)
first_or_behind x r xs (suc k, lt, at) = inr (k, omega (arith, lt), at)

pub is_first : {A : Type 0} (x : A) (xs : List A) → Contains (x ∷ xs) x
is_first x xs = (0, omega arith, refl)

pub is_behind : {A : Type 0} (x r : A) (xs : List A) → Contains xs r → Contains (x ∷ xs) r
is_behind x r xs has = (suc has.0, omega (arith, has.1), has.2)

-- the item of what was found has its name
file_named : (honest : Type 0) (settings : Settings) (view : View) (before now : FaultCounts) (n : FullName) (path : Vec ℕ Global) (r : Reference) → IsFoundOrGone honest settings view before now (File n path) (Ok r) → r.name ≡ n
file_named honest settings view before now n path r (inl found) = found.0
file_named honest settings view before now n path r (inr (gone, inl again)) = again.0
file_named honest settings view before now n path r (inr (gone, inr packed)) = packed.2.0

-- so it has the name under which it was found
pub held_named : (honest : Type 0) (settings : Settings) (view : View) (before now : FaultCounts) (e : FoundEntry) (name : List ℕ) (r : Reference) → IsUnderItsName e → Holds name e → IsFoundOrGone honest settings view before now e.1 (Ok r) → full_bytes r.name ≡ name
held_named honest settings view before now (key, File n path) name r under holds is = ap full_bytes (file_named honest settings view before now n path r is) ∙ under ∙ holds
held_named honest settings view before now (key, Unlisted path error) name r under holds (inl found) = absurd found
held_named honest settings view before now (key, Unlisted path error) name r under holds (inr gone) = absurd gone

-- with more names given, or after a fault, no more is owed
abbrev Wider : Given → Given → Type 0
Wider given None = Unit {0}
Wider None (Some more) = ⊥
Wider (Some names) (Some more) = (name : List ℕ) → Contains names name → Contains more name

wider_with : (name : List ℕ) (given : Given) → Wider given (with_name name given)
wider_with name None = tt
wider_with name (Some names) = λ other has. is_behind name other names has

both_wider : (name : List ℕ) (given more : Given) → Wider given more → Wider (with_name name given) (with_name name more)
both_wider name given None wider = tt
both_wider name None (Some more) wider = absurd wider
both_wider name (Some names) (Some more) wider = λ other has. ⊎_elim
    (λ (same : other ≡ name). subst (Contains (name ∷ more)) (sym same) (is_first name more))
    (λ (later : Contains names other). is_behind name other more (wider other later))
    (first_or_behind name other names has)

-- a list is not its own rest
not_its_rest : {A : Type 0} (x : A) (xs : List A) → xs ≡ x ∷ xs → ⊥
not_its_rest x xs same = let len : length xs ≡ length (x ∷ xs) = ap length same in omega arith

module _ (settings : Settings) (text : Text) where
  -- ---- records of the text

  -- one item of an iterator over its rest
  of_text : (it t : Iter) (item : Result PackedReference LineError) → ItemStep it (Some item) t → IsRest text it → IsItemOf text.kind text.bytes text.line (Some text.key) item × IsRest text t
  of_text it t item step rest = next_is_of text.kind text.bytes text.line (Some text.key) it t item rest step

  -- the text ended: all was given
  pub ended : (given : Given) (it t : Iter) → ItemStep it None t → OwesOthers settings text given (Some it) → AreAllGiven settings text given
  ended None it t step owes = tt
  ended (Some names) it t step (rest, owes) = λ up name due.
      let of = owes up in of.1 due.of (next_pays text.kind text.bytes text.key of.0 it t None of.2 step due.of due.asked) name due.own

  -- the next is a fault
  pub met : (given : Given) (it t : Iter) (e : LineError) → ItemStep it (Some (Err e)) t → OwesOthers settings text given (Some it) → IsLineOf text e × OwesOthers settings text None (Some t)
  met given it t e step (rest, owes) = let of = of_text it t (Err e) step rest in (of.0, (of.1, tt))

  passed_keys : (given : Given) (it t : Iter) (x : PackedReference) → ItemStep it (Some (Ok x)) t → own_name settings (record_of x).name ≡ None → OwesKeys settings text given it → OwesKeys settings text given t
  passed_keys None it t x step none owes = tt
  passed_keys (Some names) it t x step none owes = λ up.
      let of = owes up in (
        (record_of x).name ∷ of.0,
        λ key has name own. ⊎_elim
            (λ (same : key ≡ (record_of x).name). let bad : Some name ≡ None = sym own ∙ (ap (own_name settings) same ∙ none) in absurd (cc))
            (λ (later : Contains of.0 key). of.1 key later name own)
            (first_or_behind (record_of x).name key of.0 has),
        next_pays text.kind text.bytes text.key of.0 it t (Some (Ok x)) of.2 step,
      )

  -- a record without a name of its own was passed over
  pub passed : (given : Given) (it t : Iter) (x : PackedReference) → ItemStep it (Some (Ok x)) t → own_name settings (record_of x).name ≡ None → OwesOthers settings text given (Some it) → OwesOthers settings text given (Some t)
  passed given it t x step none (rest, owes) = ((of_text it t (Ok x) step rest).1, passed_keys given it t x step none owes)

  taken_keys : (given : Given) (it t : Iter) (x : PackedReference) (n : List ℕ) → ItemStep it (Some (Ok x)) t → own_name settings (record_of x).name ≡ Some n → OwesKeys settings text given it → OwesKeys settings text (with_name n given) t
  taken_keys None it t x n step is owes = tt
  taken_keys (Some names) it t x n step is owes = λ up.
      let of = owes up in (
        (record_of x).name ∷ of.0,
        λ key has name own. ⊎_elim
            (λ (same : key ≡ (record_of x).name).
            let both : Some name ≡ Some n = sym own ∙ (ap (own_name settings) same ∙ is) in
            let it : n ≡ name = sym (the_same name n both) in subst (λ (m : List ℕ). Contains (n ∷ names) m) it (is_first n names))
            (λ (later : Contains of.0 key). is_behind n name names (of.1 key later name own))
            (first_or_behind (record_of x).name key of.0 has),
        next_pays text.kind text.bytes text.key of.0 it t (Some (Ok x)) of.2 step,
      )
    where
      the_same : (a b : List ℕ) → Some a ≡ Some b → a ≡ b
      the_same a b same = cc

  -- a record was taken
  pub taken : (given : Given) (it t : Iter) (x : PackedReference) (n : List ℕ) → ItemStep it (Some (Ok x)) t → own_name settings (record_of x).name ≡ Some n → OwesOthers settings text given (Some it) →
      IsRecordOf settings text (record { name = n; of = record_of x }) × OwesOthers settings text (with_name n given) (Some t)
  taken given it t x n step is (rest, owes) =
      let of = of_text it t (Ok x) step rest in
      (record { begins = of.0.0; asked = of.0.1; named = is }, (of.1, taken_keys given it t x n step is owes))

  -- with more names given it owes no more
  given_wider : (given more : Given) → Wider given more → AreAllGiven settings text given → AreAllGiven settings text more
  given_wider given None wider all = tt
  given_wider None (Some more) wider all = absurd wider
  given_wider (Some names) (Some more) wider all = λ up name due. wider name (all up name due)

  keys_wider : (given more : Given) → Wider given more → (it : Iter) → OwesKeys settings text given it → OwesKeys settings text more it
  keys_wider given None wider it owes = tt
  keys_wider None (Some more) wider it owes = absurd wider
  keys_wider (Some names) (Some more) wider it owes = λ up. let of = owes up in (of.0, λ key has name own. wider name (of.1 key has name own), of.2)

  others_wider : (given more : Given) → Wider given more → (records : Option Iter) → OwesOthers settings text given records → OwesOthers settings text more records
  others_wider given more wider None owes = given_wider given more wider owes
  others_wider given more wider (Some it) (rest, owes) = (rest, keys_wider given more wider it owes)

  after_wider : (given more : Given) → Wider given more → (first : Option (Result OwnRecord LineError)) (records : Option Iter) → OwesAfter settings text given first records → OwesAfter settings text more first records
  after_wider given more wider None records owes = given_wider given more wider owes
  after_wider given more wider (Some (Ok own)) records (of, owes) =
      (of, others_wider (with_name (full_ref_bytes own.name) given) (with_name (full_ref_bytes own.name) more) (both_wider (full_ref_bytes own.name) given more wider) records owes)
  after_wider given more wider (Some (Err e)) records owes = owes

  -- ---- with what a walk found

  -- the rest of what was found
  found_behind : (es left : List FoundEntry) (e : FoundEntry) → es ≡ e ∷ left → All IsUnderItsName es → IsUnderItsName e × All IsUnderItsName left
  found_behind es left e is all =
      let whole : All IsUnderItsName (e ∷ left) = subst (All IsUnderItsName) is all in
      (whole 0 e (omega arith), λ k d below. whole (suc k) d (omega (arith, below)))

  own_wider : (given more : Given) → Wider given more → (o : OwnRecords) → OwesOwn settings text given o → OwesOwn settings text more o
  own_wider given more wider o owes = after_wider given more wider o.first o.records owes

  names_wider : (given more : Given) → Wider given more → (m : Merge) → OwesNames settings text given m → OwesNames settings text more m
  names_wider given more wider m owes = record { found = owes.found; packed = own_wider given more wider m.packed owes.packed }

  -- it comes before the next record
  pub less_pays : (given : Given) (old new : Merge) (taken_now : Option Taken) → order_of old.found.entries old.packed.first ≡ Less → TakesFirst old.found.entries taken_now new.found.entries → new.packed ≡ old.packed →
      OwesNames settings text given old → PaysTaken settings text given taken_now new
  less_pays given old new None order (none, left) same owes = let bad : Greater ≡ Less = sym (ap (λ x. order_of x old.packed.first) none) ∙ order in absurd (cc)
  less_pays given old new (Some (taking.Packed item)) order takes same owes = absurd takes
  less_pays given old new (Some (taking.Walked (Unlisted path error))) order (e, is_one, is) same owes = record {
    found = (found_behind old.found.entries new.found.entries e is owes.found).1;
    packed = subst (OwesOwn settings text None) (sym same) (own_wider given None tt old.packed owes.packed);
  }
  less_pays given old new (Some (taking.Walked (File n path))) order (e, is_one, is) same owes = record {
    found = (found_behind old.found.entries new.found.entries e is owes.found).1;
    packed = subst (OwesOwn settings text (with_name (full_bytes n) given)) (sym same) (own_wider given (with_name (full_bytes n) given) (wider_with (full_bytes n) given) old.packed owes.packed);
  }

  -- it has the name of the next record
  same_name : (e : FoundEntry) (left : List FoundEntry) (first : Option (Result OwnRecord LineError)) → order_of (e ∷ left) first ≡ Equal → (own : OwnRecord) × (first ≡ Some (Ok own)) × (e.0.items ≡ full_ref_bytes own.name)
  same_name e left None order = absurd (cc)
  same_name e left (Some (Err error)) order = absurd (cc)
  same_name e left (Some (Ok own)) order = (own, refl, exact_bytes e.0.items (full_ref_bytes own.name) order)

  under_name : (e : FoundEntry) (n : FullName) (path : Vec ℕ Global) → e.1 ≡ File n path → IsUnderItsName e → full_bytes n ≡ e.0.items
  under_name (key, File m p) n path is under = let same : m ≡ n = the_name m n p path is in ap full_bytes (sym same) ∙ under
    where
      the_name : (a b : FullName) (p q : Vec ℕ Global) → File a p ≡ File b q → a ≡ b
      the_name a b p q same = cc
  under_name (key, Unlisted p error) n path is under = absurd (cc)

  -- so the record was passed over
  passes_same : (given : Given) (old new : Merge) (mid : OwnRecords) (item : Option (Result OwnRecord LineError)) (e : FoundEntry) → old.found.entries ≡ e ∷ new.found.entries → order_of old.found.entries old.packed.first ≡ Equal → item ≡ old.packed.first →
      PaysOwn settings text given item mid → (own : OwnRecord) × (e.0.items ≡ full_ref_bytes own.name) × OwesOwn settings text (with_name (full_ref_bytes own.name) given) mid
  passes_same given old new mid item e is order first pays =
      let named = same_name e new.found.entries old.packed.first (subst (λ (x : List FoundEntry). order_of x old.packed.first ≡ Equal) is order) in
      (named.0, named.2, (subst (λ (i : Option (Result OwnRecord LineError)). PaysOwn settings text given i mid) (first ∙ named.1) pays).1)

  pub equal_pays : (given : Given) (old new : Merge) (mid : OwnRecords) (item : Option (Result OwnRecord LineError)) (taken_now : Option Taken) → order_of old.found.entries old.packed.first ≡ Equal → item ≡ old.packed.first →
      PaysOwn settings text given item mid → TakesFirst old.found.entries taken_now new.found.entries → new.packed ≡ mid → OwesNames settings text given old → PaysTaken settings text given taken_now new
  equal_pays given old new mid item None order first pays (none, left) same owes = let bad : Greater ≡ Equal = sym (ap (λ x. order_of x old.packed.first) none) ∙ order in absurd (cc)
  equal_pays given old new mid item (Some (taking.Packed other)) order first pays takes same owes = absurd takes
  equal_pays given old new mid item (Some (taking.Walked (Unlisted path error))) order first pays (e, is_one, is) same owes =
      let behind = found_behind old.found.entries new.found.entries e is owes.found in
      let next = passes_same given old new mid item e is order first pays in record {
        found = behind.1;
        packed = subst (OwesOwn settings text None) (sym same) (own_wider (with_name (full_ref_bytes next.0.name) given) None tt mid next.2);
      }
  equal_pays given old new mid item (Some (taking.Walked (File n path))) order first pays (e, is_one, is) same owes =
      let behind = found_behind old.found.entries new.found.entries e is owes.found in
      let next = passes_same given old new mid item e is order first pays in
      let name : full_ref_bytes next.0.name ≡ full_bytes n = sym (under_name e n path is_one behind.0 ∙ next.1) in record {
        found = behind.1;
        packed = subst (OwesOwn settings text (with_name (full_bytes n) given)) (sym same) (subst (λ (m : List ℕ). OwesOwn settings text (with_name m given) mid) name next.2);
      }

  -- the next record comes before it
  pub greater_pays : (given : Given) (old : Merge) (mid : OwnRecords) (item : Result OwnRecord LineError) → PaysOwn settings text given (Some item) mid → OwesNames settings text given old →
      PaysTaken settings text given (Some (taking.Packed item)) (record { found = old.found; packed = mid })
  greater_pays given old mid (Ok own) (of, pays) owes = (of, record { found = owes.found; packed = pays })
  greater_pays given old mid (Err error) (of, pays) owes = (of, record { found = owes.found; packed = pays })

  -- ---- as items

  pub item_pays : (honest : Type 0) (view : View) (before now : FaultCounts) (given : Given) (found : List FoundEntry) (taken_now : Taken) (item : Result Reference Error) (t : Merge) → IsTakenItem honest settings view before now taken_now item →
      TakesFound found (Some taken_now) t.found.entries → PaysTaken settings text given (Some taken_now) t → PaysItem settings text given found (Some item) t
  item_pays honest view before now given found (taking.Walked (Unlisted path error)) (Ok r) t (inl bad) takes pays = absurd bad
  item_pays honest view before now given found (taking.Walked (Unlisted path error)) (Ok r) t (inr gone) takes pays = absurd gone
  item_pays honest view before now given found (taking.Walked (Unlisted path source)) (Err error) t is (e, is_one, whole) pays = (pays, λ same. absurd (not_its_rest e t.found.entries (same ∙ whole)))
  item_pays honest view before now given found (taking.Walked (File n path)) (Ok r) t is (e, is_one, whole) pays = (
    subst (λ (m : List ℕ). OwesNames settings text (with_name m given) t) (ap full_bytes (sym (file_named honest settings view before now n path r is))) pays,
    λ same. absurd (not_its_rest e t.found.entries (same ∙ whole)),
  )
  item_pays honest view before now given found (taking.Walked (File n path)) (Err error) t is (e, is_one, whole) pays =
      (names_wider (with_name (full_bytes n) given) None tt t pays, λ same. absurd (not_its_rest e t.found.entries (same ∙ whole)))
  item_pays honest view before now given found (taking.Packed (Ok own)) (Ok r) t is takes (of, pays) = (subst (λ (m : List ℕ). OwesNames settings text (with_name m given) t) (sym is.0.0) pays, λ same. (own_of own, of, is))
  item_pays honest view before now given found (taking.Packed (Ok own)) (Err error) t is takes (of, pays) = (names_wider (with_name (full_ref_bytes own.name) given) None tt t pays, λ same. inl (own_of own, of, is))
  item_pays honest view before now given found (taking.Packed (Err line)) (Ok r) t is takes pays = absurd is
  item_pays honest view before now given found (taking.Packed (Err line)) (Err error) t is takes (of, pays) = (pays, λ same. inr (line, of, is))

-- an iterator of a key owes the records of the key, where none was given
pub owes_all : (settings : Settings) (text : Text) (it : Iter) → IsRest text it → (Ascends text → Owes text.kind text.bytes text.key [] it) → OwesOthers settings text (Some []) (Some it)
owes_all settings text it rest owes = (rest, λ up. ([], λ key has name own. absurd (omega (arith, has.1)), owes up))

-- what a walk found is under its name
pub under_names : (settings : Settings) (view : View) (prefix : List ℕ) (es : List FoundEntry) → All (IsFoundIn settings view prefix) es → All IsUnderItsName es
under_names settings view prefix es all = λ k d below. by (slice_index_or es k d) (all k d below)
  where
    by : (e : FoundEntry) → IsFoundIn settings view prefix e → IsUnderItsName e
    by (key, File name path) found = found.0
    by (key, Unlisted path error) found = tt
