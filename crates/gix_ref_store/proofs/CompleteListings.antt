-- A listing over any text of `packed-refs`: its items are right by the text, and it lacks no name, or gives a fault.
use Rattle.std.proofs.Common.{◌≡◌, ◌⊎◌, inl, inr, ⊎_elim, ℕ, List, [], ◌∷◌, refl, sym, ◌∙◌, ap, subst, arith, Option, Some, None, Result, Ok, Err}
use Rattle.std.specs.Iterator.{Yields}
use Rattle.std.specs.List.{All, AllByRecursion, Contains}
use Rattle.std.proofs.lemmas.List.Elements.{All-head, All-tail}
use Rattle.gix_ref_files.specs.Files.{Meaning, FaultCounts, NoFewer}
use Rattle.gix_ref_files.proofs.Meeting.{no_fewer_starts, no_fewer_joins}
use Rattle.gix_ref_name.specs.Names.{full_bytes}
use Rattle.gix_ref_packed_text.specs.declared.raw.Reference.{Reference}
use Rattle.gix_ref_lookup.specs.Lookups.{Among, meaning_in, packed_refs_in}
use Rattle.gix_ref_lookup.specs.declared.settings.Settings.{Settings}
use denote.Ref.{Bor}
use Rattle.std.specs.Option.{option_copied}
use Rattle.std.specs.Prelude.{IfOk}
use Rattle.gix_ref_hash.specs.declared.hash.Kind.{Kind}
use Rattle.gix_ref_files.specs.Tree.{Tree}
use Rattle.gix_ref_theory.specs.OnRealTrees.{view_of}
use Rattle.gix_ref_theory.specs.Views.{View}
use Rattle.gix_ref_packed_text.specs.Prefixes.{NamesAscend}
use Rattle.gix_ref_packed.specs.Buffers.{buffer_kind, buffer_line, buffer_text}
use Rattle.gix_ref_packed.specs.FilePrefixes.{HasItemsOf, HoldsAsked, HoldsPrefix}
use Rattle.gix_ref_packed.specs.YetToGive.{IsAsked}
use Rattle.gix_ref_packed.specs.declared.packed.buffer.Buffer.{Buffer}
use Rattle.gix_ref_packed.specs.declared.packed.iter.error.Error.TheVariants.{Header as bad_header, Reference as bad_line}
use Rattle.gix_ref_listing.specs.LooseListings.{IsFoundIn}
use Rattle.gix_ref_listing.specs.OwedNames.{Given, IsDue, IsUnderItsName, OwesNames, PaysItem, given_with}
use Rattle.gix_ref_listing.specs.PackedTexts.{Text, IsTextItem, IsTextOf}
use Rattle.gix_ref_listing.specs.Walks.{FoundEntry, Holds, IsFileOrMet}
use Rattle.gix_ref_listing.specs.GoneFiles.{IsFoundOrGone}
use Rattle.gix_ref_listing.specs.PrefixedRecords.{HoldsAskedOf, first_line}
use Rattle.gix_ref_listing.specs.WholeListings.{HasLoose, key_in}
use Rattle.gix_ref_listing.specs.declared.prefix.Error.{Error as ListError}
use Rattle.gix_ref_store.specs.Store.{files_of, kind_of}
use Rattle.gix_ref_store.specs.declared.file.store.Store.{Store}
use Rattle.gix_ref_listing.specs.declared.error.Error.{Error}
use Rattle.gix_ref_listing.proofs.FolderWalks.{met_on}
use Rattle.gix_ref_listing.proofs.OwedLemmas.{first_or_behind, held_named, under_names}
use Rattle.gix_ref_store.specs.Listings.{NextItem, FollowsText, IsRightSince, LacksNone, LacksNoLoose, OfPackedText, FollowsFile, IsReference, IsNamed, count_in}
use Rattle.gix_ref_store.specs.Lookup.{LooksUp, settings_of, view_in}
use Rattle.gix_ref_store.specs.declared.file.iter.LooseThenPacked.{LooseThenPacked}
use Rattle.gix_ref_store.specs.declared.file.iter.Remaining.{Remaining}
use Rattle.gix_ref_store.proofs.ListingRuns.{same_settings}

module _ {F : Type 0} (honest : Type 0) (means : F → Meaning) (faults : F → FaultCounts) (h : honest) (store : Store F) (prefix : List ℕ) (text : Text) where
  -- what is yet to come was found in the store, or is what the text has from a line on
  record IsAtPlace (given : Given) (s : LooseThenPacked F Remaining) : Type 0 where
    of_settings : settings_of s.store.now ≡ settings_of store
    of_view : view_in means s.store.now ≡ view_in means store
    counts : NoFewer (faults (files_of store)) (count_in honest means faults s)
    owes : OwesNames (settings_of store) text given s.rest.merge
    there : All (IsFoundIn (settings_of store) (view_in means store) prefix) s.rest.merge.found.entries
    files : All (IsFileOrMet (faults (files_of store)) (count_in honest means faults s)) s.rest.merge.found.entries

  pays : (given : Given) (s : LooseThenPacked F Remaining) (item : Option (Result Reference Error)) (t : LooseThenPacked F Remaining) → IsAtPlace given s → NextItem honest means faults s item t →
      PaysItem (settings_of store) text given s.rest.merge.found.entries item t.rest.merge
  pays given s item t at next =
      subst (λ (x : Settings). PaysItem x text given s.rest.merge.found.entries item t.rest.merge) at.of_settings
      (next.gives.pays text given (subst (λ (x : Settings). OwesNames x text given s.rest.merge) (sym at.of_settings) at.owes))

  -- what was found stays, or its first is the item
  abbrev IsFound : (s t : LooseThenPacked F Remaining) → Result Reference Error → Type 0
  IsFound s t item = (t.rest.merge.found.entries ≡ s.rest.merge.found.entries)
      ⊎ ((e : FoundEntry) × (s.rest.merge.found.entries ≡ e ∷ t.rest.merge.found.entries)
      × IsFoundOrGone honest (settings_of store) (view_in means store) (count_in honest means faults s) (count_in honest means faults t) e.1 item)

  found_item : (given : Given) (s : LooseThenPacked F Remaining) (item : Result Reference Error) (t : LooseThenPacked F Remaining) → IsAtPlace given s → NextItem honest means faults s (Some item) t → IsFound s t item
  found_item given s item t at next = ⊎_elim
      (λ (same : t.rest.merge.found.entries ≡ s.rest.merge.found.entries). inl same)
      (λ (gave : (e : FoundEntry) × (other : Result Reference Error) × (s.rest.merge.found.entries ≡ e ∷ t.rest.merge.found.entries) × (Some item ≡ Some other)
      × IsFoundOrGone honest (settings_of s.store.now) (view_of (means (files_of s.store.now)).tree) (faults (files_of s.store.now)) (faults (files_of t.store.now)) e.1 other).
      let same : gave.1 ≡ item = cc (gave.3) in
      inr (
        gave.0,
        gave.2,
        subst (λ (x : Settings). IsFoundOrGone honest x (view_in means store) (count_in honest means faults s) (count_in honest means faults t) gave.0.1 item) at.of_settings
            (subst (λ (v : View). IsFoundOrGone honest (settings_of s.store.now) v (count_in honest means faults s) (count_in honest means faults t) gave.0.1 item) at.of_view
            (subst (λ (i : Result Reference Error). IsFoundOrGone honest (settings_of s.store.now) (view_in means s.store.now) (count_in honest means faults s) (count_in honest means faults t) gave.0.1 i) same gave.4)),
      ))
      next.gives.found

  -- a fault that was counted stays so
  files_later : (given : Given) (s : LooseThenPacked F Remaining) (item : Result Reference Error) (t : LooseThenPacked F Remaining) → IsAtPlace given s → NextItem honest means faults s (Some item) t →
      All (IsFileOrMet (faults (files_of store)) (count_in honest means faults t)) s.rest.merge.found.entries
  files_later given s item t at next = met_on (faults (files_of store)) (count_in honest means faults s) (count_in honest means faults t) s.rest.merge.found.entries next.gives.rises at.files

  after : (given : Given) (s : LooseThenPacked F Remaining) (item : Result Reference Error) (t : LooseThenPacked F Remaining) → IsAtPlace given s → NextItem honest means faults s (Some item) t → IsAtPlace (given_with item given) t
  after given s item t at next = record {
    of_settings = sym (same_settings s.store.now t.store.now next.same_store) ∙ at.of_settings;
    of_view = ap view_of (next.gives.leaves h).tree ∙ at.of_view;
    counts = no_fewer_joins at.counts next.gives.rises;
    owes = (pays given s (Some item) t at next).0;
    there = ⊎_elim
        (λ (same : t.rest.merge.found.entries ≡ s.rest.merge.found.entries). subst (All (IsFoundIn (settings_of store) (view_in means store) prefix)) (sym same) at.there)
        (λ (gave : (e : FoundEntry) × (s.rest.merge.found.entries ≡ e ∷ t.rest.merge.found.entries)
        × IsFoundOrGone honest (settings_of store) (view_in means store) (count_in honest means faults s) (count_in honest means faults t) e.1 item).
        All-tail (IsFoundIn (settings_of store) (view_in means store) prefix) gave.0 t.rest.merge.found.entries (subst (All (IsFoundIn (settings_of store) (view_in means store) prefix)) gave.1 at.there))
        (found_item given s item t at next);
    files = ⊎_elim
        (λ (same : t.rest.merge.found.entries ≡ s.rest.merge.found.entries). subst (All (IsFileOrMet (faults (files_of store)) (count_in honest means faults t))) (sym same) (files_later given s item t at next))
        (λ (gave : (e : FoundEntry) × (s.rest.merge.found.entries ≡ e ∷ t.rest.merge.found.entries)
        × IsFoundOrGone honest (settings_of store) (view_in means store) (count_in honest means faults s) (count_in honest means faults t) e.1 item).
        All-tail (IsFileOrMet (faults (files_of store)) (count_in honest means faults t)) gave.0 t.rest.merge.found.entries
        (subst (All (IsFileOrMet (faults (files_of store)) (count_in honest means faults t))) gave.1 (files_later given s item t at next)))
        (found_item given s item t at next);
  }

  is_right : (given : Given) (s : LooseThenPacked F Remaining) (item : Result Reference Error) (t : LooseThenPacked F Remaining) → IsAtPlace given s → NextItem honest means faults s (Some item) t → IsRightSince honest means faults store prefix text (count_in honest means faults t) item
  is_right given s item t at next = (
    count_in honest means faults s,
    count_in honest means faults t,
    at.counts,
    no_fewer_starts (count_in honest means faults t),
    ⊎_elim
        (λ (same : t.rest.merge.found.entries ≡ s.rest.merge.found.entries). inr ((pays given s (Some item) t at next).1 same))
        (λ (gave : (e : FoundEntry) × (s.rest.merge.found.entries ≡ e ∷ t.rest.merge.found.entries)
        × IsFoundOrGone honest (settings_of store) (view_in means store) (count_in honest means faults s) (count_in honest means faults t) e.1 item).
        inl (
          gave.0,
          All-head (IsFoundIn (settings_of store) (view_in means store) prefix) gave.0 t.rest.merge.found.entries (subst (All (IsFoundIn (settings_of store) (view_in means store) prefix)) gave.1 at.there),
          All-head (IsFileOrMet (faults (files_of store)) (count_in honest means faults t)) gave.0 t.rest.merge.found.entries
              (subst (All (IsFileOrMet (faults (files_of store)) (count_in honest means faults t))) gave.1 (files_later given s item t at next)),
          gave.2,
        ))
        (found_item given s item t at next),
  )

  gives_right : (items : List (Result Reference Error)) (given : Given) (it : LooseThenPacked F Remaining) → IsAtPlace given it → (s t : LooseThenPacked F Remaining) (item : Result Reference Error) →
      Yields (NextItem honest means faults) it items s → NextItem honest means faults s (Some item) t → IsRightSince honest means faults store prefix text (count_in honest means faults t) item
  gives_right [] given it at s t item gave next = is_right given s item t (subst (IsAtPlace given) gave at) next
  gives_right (first ∷ items) given it at s t item (mid, step, gave) next = gives_right items (given_with first given) mid (after given it first mid at step) s t item gave next

  -- after some references it owes the names that these do not have
  record OwesStill (names : List (List ℕ)) (items : List (Result Reference Error)) (t : LooseThenPacked F Remaining) : Type 0 where
    all : List (List ℕ)
    at : IsAtPlace (Some all) t
    given : (name : List ℕ) → Contains all name → Contains names name ⊎ Among (IsNamed name) items

  owed_after : (items : List (Result Reference Error)) (names : List (List ℕ)) (s t : LooseThenPacked F Remaining) → IsAtPlace (Some names) s → AllByRecursion IsReference items → Yields (NextItem honest means faults) s items t → OwesStill names items t
  owed_after [] names s t at plain gave = subst (OwesStill names []) gave (record { all = names; at = at; given = λ name has. inl has })
  owed_after (Err e ∷ items) names s t at plain gave = absurd plain.0
  owed_after (Ok r ∷ items) names s t at plain (mid, next, gave) =
      let later = owed_after items (full_bytes r.name ∷ names) mid t (after (Some names) s (Ok r) mid at next) plain.1 gave in
      record {
        all = later.all;
        at = later.at;
        given = λ name has. ⊎_elim
            (λ (in_names : Contains (full_bytes r.name ∷ names) name). ⊎_elim (λ (same : name ≡ full_bytes r.name). inr (inl (sym same))) (λ (before : Contains names name). inl before)
            (first_or_behind (full_bytes r.name) name names in_names))
            (λ among. inr (inr among)) (later.given name has);
      }

  -- so none is lacking at its end
  lacks_none : (it : LooseThenPacked F Remaining) → IsAtPlace (Some []) it → LacksNone honest means faults (settings_of store) text it
  lacks_none it at up items t u gave last plain name due =
      let still = owed_after items [] it t at plain gave in
      let there = pays (Some still.all) t None u still.at last up name due in
      ⊎_elim (λ (none : Contains [] name). absurd (omega (arith, none.1))) (λ (among : Among (IsNamed name) items). among) (still.given name there)

  pub follows_text : (it : LooseThenPacked F Remaining) → settings_of it.store.now ≡ settings_of store → view_in means it.store.now ≡ view_in means store → NoFewer (faults (files_of store)) (count_in honest means faults it) →
      HasLoose (settings_of store) (view_in means store) prefix (faults (files_of store)) (count_in honest means faults it) it.rest.merge → OwesNames (settings_of store) text (Some []) it.rest.merge → FollowsText honest means faults store prefix text it
  follows_text it of_settings of_view counts has owes =
      let at : IsAtPlace (Some []) it = record { of_settings = of_settings; of_view = of_view; counts = counts; owes = owes; there = has.there; files = has.files } in
      record { gives_right = λ items s t item gave next. gives_right items (Some []) it at s t item gave next; lacks_none = lacks_none it at }

-- what is due by a text is due by the part that was read of it for the key
due_part : (settings : Settings) (kind of_part : Kind) (text key part : List ℕ) (line of_line : ℕ) → of_part ≡ kind → HoldsAsked kind text key part → (name : List ℕ) → IsDue settings (record { kind = kind; bytes = text; line = line; key = key }) name →
    IsDue settings (record { kind = of_part; bytes = part; line = of_line; key = key }) name
due_part settings kind of_part text key part line of_line same holds name due = record { of = due.of; asked = subst (λ (k : Kind). IsAsked k part key due.of) (sym same) (holds.1 due.of due.asked); own = due.own }

-- an item of the part is one of the text
text_item_of : (settings : Settings) (kind : Kind) (text key : List ℕ) (line : ℕ) (b : Buffer) → HasItemsOf kind text line b → (item : Result Reference Error) → IsTextItem settings (record { kind = buffer_kind b; bytes = buffer_text b; line = buffer_line b; key = key }) item →
    IsTextItem settings (record { kind = kind; bytes = text; line = line; key = key }) item
text_item_of settings kind text key line b has (Ok r) (own, of, is) = (own, record { begins = has.records own.of of.begins; asked = of.asked; named = of.named }, is)
text_item_of settings kind text key line b has (Err error) (inl (own, of, is)) = inl (own, record { begins = has.records own.of of.begins; asked = of.asked; named = of.named }, is)
text_item_of settings kind text key line b has (Err error) (inr (bad_line bytes number, of, is)) = inr (bad_line bytes number, has.bad_lines bytes.now number of, is)
text_item_of settings kind text key line b has (Err error) (inr (bad_header bytes, of, is)) = absurd of

module _ {F : Type 0} (means : F → Meaning) where
  -- what holds of the text of `packed-refs`, where more is known of it
  pub text_more : (store : Store F) (prefix : List ℕ) (P Q : Text → Type 0) → ((text : Text) → P text → Q text) → OfPackedText means store prefix P → OfPackedText means store prefix Q
  text_more store prefix P Q more (inl none) = inl none
  text_more store prefix P Q more (inr (bytes, opened, of)) =
      inr (bytes, opened, more (record { kind = kind_of store; bytes = bytes; line = first_line opened; key = key_in (settings_of store) prefix }) of)

-- ---- loose references

module _ {F : Type 0} (honest : Type 0) (means : F → Meaning) (faults : F → FaultCounts) where
  -- what was found is yet to come
  record IsHeld (name : List ℕ) (s : LooseThenPacked F Remaining) : Type 0 where
    named : All IsUnderItsName s.rest.merge.found.entries
    among : Among (Holds name) s.rest.merge.found.entries

  -- after one reference it still is, or that has its name
  held_after_one : (name : List ℕ) (s t : LooseThenPacked F Remaining) (r : Reference) → IsHeld name s → NextItem honest means faults s (Some (Ok r)) t → IsHeld name t ⊎ IsNamed name (Ok r)
  held_after_one name s t r held next = ⊎_elim
      (λ (same : t.rest.merge.found.entries ≡ s.rest.merge.found.entries).
      inl (record { named = subst (All IsUnderItsName) (sym same) held.named; among = subst (Among (Holds name)) (sym same) held.among }))
      (λ (gave : (e : FoundEntry) × (item : Result Reference Error) × (s.rest.merge.found.entries ≡ e ∷ t.rest.merge.found.entries) × (Some (Ok r) ≡ Some item)
      × IsFoundOrGone honest (settings_of s.store.now) (view_of (means (files_of s.store.now)).tree) (faults (files_of s.store.now)) (faults (files_of t.store.now)) e.1 item).
      let named = subst (All IsUnderItsName) gave.2 held.named in
      ⊎_elim
      (λ (holds : Holds name gave.0).
      let same : gave.1 ≡ Ok r = cc (gave.3) in
      let is = subst (λ (i : Result Reference Error). IsFoundOrGone honest (settings_of s.store.now) (view_of (means (files_of s.store.now)).tree) (faults (files_of s.store.now)) (faults (files_of t.store.now)) gave.0.1 i) same gave.4 in
      inr (held_named honest (settings_of s.store.now) (view_of (means (files_of s.store.now)).tree) (faults (files_of s.store.now)) (faults (files_of t.store.now)) gave.0 name r
      (All-head IsUnderItsName gave.0 t.rest.merge.found.entries named) holds is))
      (λ (later : Among (Holds name) t.rest.merge.found.entries). inl (record { named = All-tail IsUnderItsName gave.0 t.rest.merge.found.entries named; among = later }))
      (subst (Among (Holds name)) gave.2 held.among))
      next.gives.found

  held_after : (name : List ℕ) (items : List (Result Reference Error)) (s t : LooseThenPacked F Remaining) → IsHeld name s → AllByRecursion IsReference items → Yields (NextItem honest means faults) s items t
      → IsHeld name t ⊎ Among (IsNamed name) items
  held_after name [] s t held plain gave = inl (subst (IsHeld name) gave held)
  held_after name (Err e ∷ items) s t held plain gave = absurd plain.0
  held_after name (Ok r ∷ items) s t held plain (mid, next, gave) = ⊎_elim
      (λ (still : IsHeld name mid). ⊎_elim (λ (at_end : IsHeld name t). inl at_end) (λ (among : Among (IsNamed name) items). inr (inr among)) (held_after name items mid t still plain.1 gave))
      (λ (named : IsNamed name (Ok r)). inr (inl named))
      (held_after_one name s mid r held next)

  -- at its end none is
  none_held : (name : List ℕ) (t u : LooseThenPacked F Remaining) → NextItem honest means faults t None u → IsHeld name t → ⊥
  none_held name t u last held = ⊎_elim
      (λ (same : u.rest.merge.found.entries ≡ t.rest.merge.found.entries). subst (Among (Holds name)) (sym same ∙ (last.gives.ends refl).0) held.among)
      (λ gave. let bad = gave.3 in cc)
      last.gives.found

  pub no_loose_lacks : (store : Store F) (prefix : List ℕ) (before now : FaultCounts) (it : LooseThenPacked F Remaining) → HasLoose (settings_of store) (view_in means store) prefix before now it.rest.merge → LacksNoLoose honest means faults store prefix it
  no_loose_lacks store prefix before now it has items t u gave last plain name loose =
      ⊎_elim (λ (held : IsHeld name t). absurd (none_held name t u last held)) (λ (among : Among (IsNamed name) items). among)
      (held_after name items it t (record { named = under_names (settings_of store) (view_in means store) prefix it.rest.merge.found.entries has.there; among = has.finds name loose }) plain gave)

module _ {F : Type 0} (honest : Type 0) (means : F → Meaning) (faults : F → FaultCounts) where
  -- a listing among the records that were read of a file for a prefix follows the text of the file
  follows_part : (store : Store F) (prefix : List ℕ) (bytes : List ℕ) (line : ℕ) (b : Buffer) (it : LooseThenPacked F Remaining) → HoldsPrefix (kind_of store) bytes line (key_in (settings_of store) prefix) b →
      (NamesAscend (kind_of store) bytes → HoldsAsked (kind_of store) bytes (key_in (settings_of store) prefix) (buffer_text b)) →
      FollowsText honest means faults store prefix (record { kind = buffer_kind b; bytes = buffer_text b; line = buffer_line b; key = key_in (settings_of store) prefix }) it →
      FollowsText honest means faults store prefix (record { kind = kind_of store; bytes = bytes; line = line; key = key_in (settings_of store) prefix }) it
  follows_part store prefix bytes line b it part asked of_part =
      let key = key_in (settings_of store) prefix in
      record {
        gives_right = λ items s t item gave next.
            let right = of_part.gives_right items s t item gave next in (
              right.0,
              right.1,
              right.2,
              right.3,
              ⊎_elim
                  (λ (found : (e : FoundEntry) × IsFoundIn (settings_of store) (view_in means store) prefix e × IsFileOrMet (faults (files_of store)) right.1 e × IsFoundOrGone honest (settings_of store) (view_in means store) right.0 right.1 e.1 item).
                  inl found)
                  (λ (of : IsTextItem (settings_of store) (record { kind = buffer_kind b; bytes = buffer_text b; line = buffer_line b; key = key }) item).
                  inr (text_item_of (settings_of store) (kind_of store) bytes key line b part.items item of))
                  right.4,
            );
        lacks_none = λ up items t u gave last plain name due.
            let holds = asked up in
            of_part.lacks_none (subst (λ (k : Kind). NamesAscend k (buffer_text b)) (sym part.kind_is) holds.0) items t u gave last plain name
            (due_part (settings_of store) (kind_of store) (buffer_kind b) bytes key (buffer_text b) line (buffer_line b) part.kind_is holds name due);
      }

  -- and so of the `packed-refs` of a store
  pub follows_file : honest → (start mid : Store F) (prefix : List ℕ) (found : Option Buffer) (packed : Option (Bor Buffer)) → LooksUp honest means start mid → option_copied packed ≡ found →
      HoldsAskedOf (kind_of mid) (packed_refs_in (settings_of mid) (means (files_of mid))) (key_in (settings_of mid) prefix) found → (r : Result (LooseThenPacked F Remaining) ListError) →
      IfOk r (LacksNoLoose honest means faults start prefix) → ((text : Text) → IsTextOf (key_in (settings_of start) prefix) packed text → IfOk r (FollowsText honest means faults start prefix text))
      → IfOk r (FollowsFile honest means faults start prefix)
  follows_file h start mid prefix found packed looked same asked (Err e) loose follows = tt
  follows_file h start mid prefix found packed looked same asked (Ok it) loose follows =
      let T = (means (files_of start)).tree in
      let early : settings_of start ≡ settings_of mid = same_settings start mid looked.same in
      let there = subst (λ (U : Tree). HoldsAskedOf (kind_of mid) (view_of U (meaning_in (settings_of mid)).packed_path) (key_in (settings_of mid) prefix) found) (looked.leaves h).tree asked in (
        loose,
        by packed (subst (HoldsAskedOf (kind_of start) (packed_refs_in (settings_of start) (means (files_of start))) (key_in (settings_of start) prefix)) (sym same)
            (subst (λ (s : Settings). HoldsAskedOf s.kind (view_of T (meaning_in s).packed_path) (key_in s prefix) found) (sym early) there)) follows,
      )
    where
      by : (lent : Option (Bor Buffer)) → HoldsAskedOf (kind_of start) (packed_refs_in (settings_of start) (means (files_of start))) (key_in (settings_of start) prefix) (option_copied lent) →
          ((text : Text) → IsTextOf (key_in (settings_of start) prefix) lent text → FollowsText honest means faults start prefix text it) → OfPackedText means start prefix (λ text. FollowsText honest means faults start prefix text it)
      by None none follows = inl none
      by (Some lent) of follows =
          let key = key_in (settings_of start) prefix in
          inr (
            of.0,
            of.1,
            follows_part start prefix of.0 (first_line of.1) lent.now it of.2 of.3 (follows (record { kind = buffer_kind lent.now; bytes = buffer_text lent.now; line = buffer_line lent.now; key = key }) refl),
          )
