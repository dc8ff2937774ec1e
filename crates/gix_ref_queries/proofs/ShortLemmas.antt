-- Short names.
use Rattle.std.proofs.Common.{◌≡◌, ◌<◌, ◌+◌, ℕ, Bool, true, false, List, ◌∷◌, ◌++◌, [], Bor, Vec, inl, inr, ◌≢◌, length, take, drop, get_or, Option, Some, None, if◌then◌else◌, refl, sym, ◌∙◌, ap, subst}
use Rattle.std.specs.Prelude.{◌&&◌, bytes_eq, is_none}
use Rattle.std.specs.declared.alloc.Global.{Global}
use Rattle.std.specs.List.{Any}
use Rattle.std.proofs.lemmas.List.{at_drop_more, get_or-map, length-map, take-append-drop}
use Rattle.gix_ref_theory.proofs.Writes.{same_true, same as same_text}
use Rattle.gix_ref_name.specs.NameGrammar.{full_error}
use Rattle.gix_ref_queries.specs.Resolving.{TargetsByName, EndsBy, SeesEnd, SeesEnds, resolved, targets_in}
use Rattle.gix_ref_queries.specs.Resolving.NameEnd.{Reached, Missing, TooDeep}
use Rattle.gix_ref_files.specs.Files.{Meaning, FaultCounts}
use Rattle.gix_ref_lookup.specs.declared.find.error.Error.{Error}
use Rattle.gix_ref_files.specs.declared.files.ReadAt.{Ghosts}
use Rattle.gix_ref_target.specs.PackedRecords.{Record}
use Rattle.gix_ref_store.specs.Lookup.{AreRecordsIn, LooksUp}
use Rattle.gix_ref_store.specs.declared.file.store.Store.{Store}
use Rattle.gix_ref_queries.specs.Patterns.{texts}
use Rattle.gix_ref_queries.specs.Rows.{row_texts}
use Rattle.gix_ref_queries.specs.Shortening.{IsAskedAmong, IsAskedBy, IsAskedFor, IsAskedInVain, IsNoShort, IsUnshort, SeesClear, SeesDecided, SeesLeads, SeesShort, SeesShortAfter, SeesShortBy, decided, decided_or, full_names, is_clear_among, is_reached, leads_to_object, short_after, short_by, short_or, short_prefixes}
use Rattle.gix_ref_queries.specs.declared.short.ShortError.{ShortError}
use Rattle.gix_ref_queries.specs.declared.short.ShortError.TheVariants as shorts
use Rattle.gix_ref_queries.proofs.Names.{end_before, same_finds, same_records, unfollowed_before}
use Rattle.gix_ref_queries.specs.declared.resolve.End.{End}
use Rattle.gix_ref_queries.specs.declared.resolve.End.TheVariants as ends

-- whether a following that ends so is at an object
abbrev pub IsAtObject : End → Bool → Type 0
IsAtObject (ends.Object id) at = at ≡ true
IsAtObject ends.Absent at = at ≡ false
IsAtObject ends.TooDeep at = at ≡ false
IsAtObject (ends.Unread error) at = ⊥
IsAtObject ends.Memory at = ⊥

reached_by : (find : TargetsByName) (first last : List ℕ) (of : End) (at : Bool) → EndsBy find first last of → IsAtObject of at → at ≡ is_reached (resolved find 5 first)
reached_by find first last (ends.Object id) at is says = says ∙ sym (ap is_reached is)
reached_by find first last ends.Absent at is says = says ∙ sym (ap is_reached is)
reached_by find first last ends.TooDeep at is says = says ∙ sym (ap is_reached is)
reached_by find first last (ends.Unread error) at is says = absurd says
reached_by find first last ends.Memory at is says = absurd says

-- whether a full name leads to an object
pub leads_by : (find : TargetsByName) (name owned last : List ℕ) (of : End) (at : Bool) → is_none (full_error name) ≡ true → owned ≡ name → EndsBy find owned last of → IsAtObject of at → at ≡ leads_to_object find name
leads_by find name owned last of at full same is says =
    subst (λ (n : List ℕ). at ≡ is_reached (resolved find 5 n)) same (reached_by find owned last of at is says)
    ∙ sym (ap (λ (b : Bool). b && is_reached (resolved find 5 name)) full)

-- a name that decides it, and one that does not
pub decides : (find mid : TargetsByName) (strict clear : Bool) (name full : List ℕ) (more : List (List ℕ)) → mid ≡ find → Some clear ≡ decided mid strict name full → clear ≡ is_clear_among find strict name (full ∷ more)
decides find mid strict clear name full more same is =
    ap (λ (d : Option Bool). decided_or d (is_clear_among find strict name more)) (is ∙ ap (λ (f : TargetsByName). decided f strict name full) same)

pub goes_on : (find mid : TargetsByName) (strict : Bool) (name full : List ℕ) (more : List (List ℕ)) → mid ≡ find → None ≡ decided mid strict name full → is_clear_among find strict name (full ∷ more) ≡ is_clear_among find strict name more
goes_on find mid strict name full more same is =
    sym (ap (λ (d : Option Bool). decided_or d (is_clear_among find strict name more)) (is ∙ ap (λ (f : TargetsByName). decided f strict name full) same))

-- the short name by one prefix, or by those after it
pub shortens : (find mid : TargetsByName) (strict : Bool) (name prefix : List ℕ) (short : List ℕ) (more : List (List ℕ)) → mid ≡ find → Some short ≡ short_after mid strict name prefix → short ≡ short_by find strict name (prefix ∷ more)
shortens find mid strict name prefix short more same is =
    ap (λ (s : Option (List ℕ)). short_or s (short_by find strict name more)) (is ∙ ap (λ (f : TargetsByName). short_after f strict name prefix) same)

pub shortens_not : (find mid : TargetsByName) (strict : Bool) (name prefix : List ℕ) (more : List (List ℕ)) → mid ≡ find → None ≡ short_after mid strict name prefix → short_by find strict name (prefix ∷ more) ≡ short_by find strict name more
shortens_not find mid strict name prefix more same is =
    sym (ap (λ (s : Option (List ℕ)). short_or s (short_by find strict name more)) (is ∙ ap (λ (f : TargetsByName). short_after f strict name prefix) same))

module _ {F R : Type 0} (G : Ghosts R) (honest : Type 0) (means : F → Meaning) (faults : F → FaultCounts) where
  -- a name that is asked for in vain, once the store was looked at, is asked for by others too
  pub vain_from : (A B : TargetsByName → (asked : List ℕ) → Type 0) (old mid : Store F) (error : Error) → LooksUp honest means old mid →
      (honest → (records : List Record) → AreRecordsIn means old records → (asked : List ℕ) → A (targets_in means old records) asked → B (targets_in means old records) asked) →
      IsAskedInVain G honest means faults A mid error → IsAskedInVain G honest means faults B old error
  vain_from A B old mid error looked so v = record {
    full = v.full;
    unfollowed = unfollowed_before G honest means faults old mid v.full error looked v.unfollowed;
    asked = λ h records are.
        so h records are v.full (subst (λ (find : TargetsByName). A find v.full) (same_finds honest means old mid records looked h) (v.asked h records (same_records honest means old mid records looked h are)));
  }

  -- and so why there is no short name
  pub no_short_from : (A B : TargetsByName → (asked : List ℕ) → Type 0) (old mid : Store F) (error : ShortError) → LooksUp honest means old mid →
      (honest → (records : List Record) → AreRecordsIn means old records → (asked : List ℕ) → A (targets_in means old records) asked → B (targets_in means old records) asked) →
      IsNoShort G honest means faults A mid error → IsNoShort G honest means faults B old error
  no_short_from A B old mid (shorts.Unread error) looked so v = vain_from A B old mid error looked so v
  no_short_from A B old mid shorts.Memory looked so v = _

  pub unshort_before : (strict : Bool) (old mid : Store F) (name : List ℕ) → LooksUp honest means old mid → IsUnshort G honest means faults strict mid name → IsUnshort G honest means faults strict old name
  unshort_before strict old mid name looked (error, v) = (error, vain_from (IsAskedFor strict name) (IsAskedFor strict name) old mid error looked (λ h records are asked is. is) v)

-- texts that are not the same
pub apart : (a b : List ℕ) (test : Bool) → test ≡ bytes_eq a b → test ≡ false → a ≢ b
apart a b test is not same = let t : true ≡ false = sym (same_true a b same) ∙ (sym is ∙ not) in cc

-- what comes after a prefix
pub rest_is : (name prefix short : List ℕ) → bytes_eq (take (length prefix) name) prefix ≡ true → short ≡ drop (length prefix) name → name ≡ prefix ++ short
rest_is name prefix short begins rest =
    sym (take-append-drop (length prefix) name)
    ∙ (ap (λ (t : List ℕ). t ++ drop (length prefix) name) (same_text (take (length prefix) name) prefix begins) ∙ ap (λ (r : List ℕ). prefix ++ r) (sym rest))

-- a name that is asked for first
pub asked_first : (strict : Bool) (name full : List ℕ) (more : List (List ℕ)) (find : TargetsByName) (asked : List ℕ) → IsAskedAmong strict name (full ∷ []) find asked → IsAskedAmong strict name (full ∷ more) find asked
asked_first strict name full more find asked (inl is) = inl is
asked_first strict name full more find asked (inr is) = absurd is.1

-- one after a name that does not decide it
pub asked_later : (find mid : TargetsByName) (strict : Bool) (name full : List ℕ) (more : List (List ℕ)) (asked : List ℕ) → mid ≡ find → None ≡ decided mid strict name full → IsAskedAmong strict name more find asked → IsAskedAmong strict name (full ∷ more) find asked
asked_later find mid strict name full more asked same is later = inr (sym (is ∙ ap (λ (f : TargetsByName). decided f strict name full) same), later)

-- and one by a later prefix
pub asked_by_later : (find mid : TargetsByName) (strict : Bool) (name prefix : List ℕ) (more : List (List ℕ)) (asked : List ℕ) → mid ≡ find → None ≡ short_after mid strict name prefix → IsAskedBy strict name more find asked → IsAskedBy strict name (prefix ∷ more) find asked
asked_by_later find mid strict name prefix more asked same is later = inr (sym (is ∙ ap (λ (f : TargetsByName). short_after f strict name prefix) same), later)

pub names_step : (names : List (Vec ℕ Global)) (i : ℕ) (full : Vec ℕ Global) → i < length names → full ≡ get_or names i full → row_texts (drop i names) ≡ full.items ∷ row_texts (drop (i + 1) names)
names_step names i full lt is =
    at_drop_more (λ (ns : List (Vec ℕ Global)). row_texts ns) names i full lt ∙ ap (λ (v : Vec ℕ Global). row_texts (v ∷ drop (i + 1) names)) (sym is)

pub prefixes_step : (prefixes : List (Bor (List ℕ))) (i : ℕ) (none : Bor (List ℕ)) → i < length prefixes → texts (drop i prefixes) ≡ (get_or prefixes i none).now ∷ texts (drop (i + 1) prefixes)
prefixes_step prefixes i none lt = at_drop_more (λ (fs : List (Bor (List ℕ))). texts fs) prefixes i none lt

-- one name more
pub clear_step : (find : TargetsByName) (strict : Bool) (name : List ℕ) (names : List (Vec ℕ Global)) (i : ℕ) (full : Vec ℕ Global) → i < length names → full ≡ get_or names i full →
    is_clear_among find strict name (row_texts (drop i names)) ≡ is_clear_among find strict name (full.items ∷ row_texts (drop (i + 1) names))
clear_step find strict name names i full lt is =
    at_drop_more (λ (ns : List (Vec ℕ Global)). is_clear_among find strict name (row_texts ns)) names i full lt
    ∙ ap (λ (v : Vec ℕ Global). is_clear_among find strict name (row_texts (v ∷ drop (i + 1) names))) (sym is)

-- one prefix more
pub short_step : (find : TargetsByName) (strict : Bool) (name : List ℕ) (prefixes : List (Bor (List ℕ))) (i : ℕ) (none : Bor (List ℕ)) → i < length prefixes →
    short_by find strict name (texts (drop i prefixes)) ≡ short_by find strict name ((get_or prefixes i none).now ∷ texts (drop (i + 1) prefixes))
short_step find strict name prefixes i none lt = at_drop_more (λ (fs : List (Bor (List ℕ))). short_by find strict name (texts fs)) prefixes i none lt

-- the rest of a name after a prefix, where it is short for it alone, or is not
pub short_is : (find : TargetsByName) (strict clear : Bool) (name prefix short : List ℕ) (names : List (List ℕ)) (result : Option (List ℕ)) → bytes_eq (take (length prefix) name) prefix ≡ true → short ≡ drop (length prefix) name → names ≡ full_names short →
    clear ≡ is_clear_among find strict name names → result ≡ (if clear then Some short else None) → result ≡ short_after find strict name prefix
short_is find strict clear name prefix short names result begins rest are is made =
    made
    ∙ (ap (λ (b : Bool). let o : Option (List ℕ) = if b then Some short else None in o) (is ∙ ap (is_clear_among find strict name) are)
    ∙ (ap (λ (s : List ℕ). let o : Option (List ℕ) = if is_clear_among find strict name (full_names s) then Some s else None in o) rest
    ∙ sym (ap (λ (b : Bool). let o : Option (List ℕ) = if b && is_clear_among find strict name (full_names (drop (length prefix) name)) then Some (drop (length prefix) name) else None in o) begins)))

-- the rest after one of these prefixes
pub short_by_one : (name short : List ℕ) (prefixes : List (Bor (List ℕ))) (i : ℕ) (none : Bor (List ℕ)) → i < length prefixes → name ≡ (get_or prefixes i none).now ++ short → Any (λ (prefix : List ℕ). name ≡ prefix ++ short) (texts prefixes)
short_by_one name short prefixes i none within is =
    let prefix = (get_or prefixes i none).now in
    (i, prefix, subst (λ (n : ℕ). i < n) (sym (length-map prefixes (λ (word : Bor (List ℕ)). word.now))) within, get_or-map (λ (word : Bor (List ℕ)). word.now) prefixes i none prefix within, is)

-- ---- on any text of `packed-refs`

-- whether a name leads to an object, by where its following ends
pub sees_leads : {F : Type 0} (means : F → Meaning) (store : Store F) (name owned last : List ℕ) (of : End) (at : Bool) → is_none (full_error name) ≡ true → owned ≡ name → SeesEnds means store owned last of → IsAtObject of at → SeesLeads means store name at
sees_leads means store name owned last (ends.Object id) at full same saw says = inr (full, Reached last id, subst (λ (n : List ℕ). SeesEnd means store 5 n (Reached last id)) same saw, says)
sees_leads means store name owned last ends.Absent at full same saw says = inr (full, Missing last, subst (λ (n : List ℕ). SeesEnd means store 5 n (Missing last)) same saw, says)
sees_leads means store name owned last ends.TooDeep at full same saw says = inr (full, TooDeep, subst (λ (n : List ℕ). SeesEnd means store 5 n TooDeep) same saw, says)
sees_leads means store name owned last (ends.Unread error) at full same saw says = absurd says
sees_leads means store name owned last ends.Memory at full same saw says = absurd says

-- the rest of a name after a prefix
pub sees_after : {F : Type 0} (means : F → Meaning) (store : Store F) (strict clear : Bool) (name prefix short : List ℕ) (names : List (List ℕ)) (result : Option (List ℕ)) → bytes_eq (take (length prefix) name) prefix ≡ true → short ≡ drop (length prefix) name → names ≡ full_names short →
    SeesClear means store strict name names clear → result ≡ (if clear then Some short else None) → SeesShortAfter means store strict name prefix result
sees_after means store strict clear name prefix short names result begins rest are saw made =
    let left = drop (length prefix) name in
    inr (
      rest_is name prefix left begins refl,
      clear,
      subst (λ (ns : List (List ℕ)). SeesClear means store strict name ns clear) (are ∙ ap full_names rest) saw,
      made ∙ ap (λ (s : List ℕ). let o : Option (List ℕ) = if clear then Some s else None in o) rest,
    )

-- what was seen is seen before
module _ {F : Type 0} (honest : Type 0) (means : F → Meaning) (old mid : Store F) (looked : LooksUp honest means old mid) (h : honest) (strict : Bool) (name : List ℕ) where
  leads_before : (full : List ℕ) (leads : Bool) → SeesLeads means mid full leads → SeesLeads means old full leads
  leads_before full leads (inl bad) = inl bad
  leads_before full leads (inr (valid, end, saw, is)) = inr (valid, end, end_before honest means old mid looked h 5 full end saw, is)

  pub decided_before : (full : List ℕ) (clear : Option Bool) → SeesDecided means mid strict name full clear → SeesDecided means old strict name full clear
  decided_before full clear (inl same) = inl same
  decided_before full clear (inr (other, leads, saw, is)) = inr (other, leads, leads_before full leads saw, is)

  clear_before : (names : List (List ℕ)) (clear : Bool) → SeesClear means mid strict name names clear → SeesClear means old strict name names clear
  clear_before [] clear is = is
  clear_before (full ∷ more) clear (inl one) = inl (decided_before full (Some clear) one)
  clear_before (full ∷ more) clear (inr (none, later)) = inr (decided_before full None none, clear_before more clear later)

  pub after_before : (prefix : List ℕ) (short : Option (List ℕ)) → SeesShortAfter means mid strict name prefix short → SeesShortAfter means old strict name prefix short
  after_before prefix short (inl other) = inl other
  after_before prefix short (inr (begins, clear, saw, is)) = inr (begins, clear, clear_before (full_names (drop (length prefix) name)) clear saw, is)

  by_before : (prefixes : List (List ℕ)) (short : List ℕ) → SeesShortBy means mid strict name prefixes short → SeesShortBy means old strict name prefixes short
  by_before [] short is = is
  by_before (prefix ∷ prefixes) short (inl one) = inl (after_before prefix (Some short) one)
  by_before (prefix ∷ prefixes) short (inr (none, later)) = inr (after_before prefix None none, by_before prefixes short later)

  pub short_before : (short : List ℕ) → SeesShort means mid strict name short → SeesShort means old strict name short
  short_before short saw = by_before short_prefixes short saw
