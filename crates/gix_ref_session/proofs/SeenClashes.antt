-- Names that were seen in one another's way, or clear of one another, on any text of `packed-refs`.
use Rattle.std.proofs.Common.{◌≡◌, ◌+◌, ◌≤◌, ℕ, length, map, List, [], Bool, true, false, Option, Some, None, Result, Ok, Err, inl, inr, arith, sym, subst, refl, ◌∙◌}
use denote.Ref.{Bor}
use Rattle.std.proofs.lemmas.Bool.{cases_lt}
use Rattle.std.specs.Prelude.{is_some, IfOk, IfSome, MatchBool}
use Rattle.std.specs.List.{Contains}
use Rattle.gix_ref_edits.specs.RefEdits.{expected_of, matched, name_of}
use Rattle.gix_ref_edits.specs.declared.transaction.RefEdit.{RefEdit}
use Rattle.gix_ref_files.specs.Files.{Meaning, FaultCounts}
use Rattle.gix_ref_files.specs.Tree.{Tree}
use Rattle.gix_ref_listing.specs.OwedNames.{IsDue}
use Rattle.gix_ref_listing.specs.PackedTexts.{Ascends}
use Rattle.gix_ref_listing.specs.declared.list.LooseNames.{LooseNames}
use Rattle.gix_ref_lookup.specs.declared.settings.Settings.{Settings}
use Rattle.gix_ref_packed.specs.declared.packed.buffer.Buffer.{Buffer}
use Rattle.gix_ref_queries.specs.Resolving.{IsSeenAs, IsUnseen, SeesTarget}
use Rattle.gix_ref_queries.proofs.Names.{end_before, same_settings, sees_before}
use Rattle.gix_ref_store.specs.Listings.{FollowsFile, FollowsText, FollowsWalked, IsRightSince, count_in}
use Rattle.gix_ref_store.specs.Lookup.{LooksUp, settings_of, view_in}
use Rattle.gix_ref_store.specs.Store.{files_of}
use Rattle.gix_ref_store.specs.declared.file.iter.LooseThenPacked.{LooseThenPacked}
use Rattle.gix_ref_store.specs.declared.file.iter.Remaining.{Remaining}
use Rattle.gix_ref_store.specs.declared.file.store.Store.{Store}
use Rattle.gix_ref_store.proofs.CompleteListings.{text_more}
use Rattle.gix_ref_target.specs.Targets.{TargetValue}
use Rattle.gix_ref_theory.specs.OnRealTrees.{view_of}
use Rattle.gix_ref_session.specs.Clashes.{GivesOne, IsFolderAt, SeesBelow, SeesClashes, SeesClearEdit, SeesClearName, SeesFreeBefore, SeesFreeFolders, SeesInTheWay, SeesListed, SeesMade, SeesMissingEnd, SeesNone, SeesTaken, SeesTakenAt, SeesThere, front_below, missing_own}
use Rattle.gix_ref_session.specs.declared.fatal.Fatal.{Fatal}
use Rattle.gix_ref_session.proofs.FolderLemmas.{is_front, is_shorter}
use Rattle.gix_ref_session.proofs.Looking.{looks_on, looks_same}

module _ {F : Type 0} (means : F → Meaning) (store : Store F) where
  -- the name that an edit makes: by its chain, and by its own name
  pub made_by_end : (edit : RefEdit) (made : Option (List ℕ)) → is_some (matched (expected_of edit.change)) ≡ false → edit.deref ≡ true → SeesMissingEnd means store (name_of edit) made → SeesMade means store edit made
  made_by_end edit made not follows saw =
      inr (not, subst (λ (b : Bool). MatchBool b (SeesMissingEnd means store (name_of edit) made) ((target : Option TargetValue) × SeesTarget means store (name_of edit) target × (made ≡ missing_own (name_of edit) target))) (sym follows) saw)

  pub made_by_own : (edit : RefEdit) (made : Option (List ℕ)) (at : List ℕ) (there : Bool) → is_some (matched (expected_of edit.change)) ≡ false → edit.deref ≡ false → at ≡ name_of edit → ((target : Option TargetValue) → there ≡ is_some target → made ≡ missing_own (name_of edit) target) →
      SeesThere means store at there → SeesMade means store edit made
  made_by_own edit made at there not direct is makes (target, saw, same) = inr (
    not,
    subst (λ (b : Bool). MatchBool b (SeesMissingEnd means store (name_of edit) made) ((target : Option TargetValue) × SeesTarget means store (name_of edit) target × (made ≡ missing_own (name_of edit) target))) (sym direct)
        (target, subst (λ (n : List ℕ). SeesTarget means store n target) is saw, makes target same),
  )

  module _ (edits : List RefEdit) (name : List ℕ) where
    -- whether a name is taken of which there is no edit
    pub taken_seen : (r : Result Bool Fatal) → (Contains (map name_of edits) name → ⊥) → IfOk r (SeesThere means store name) → IfOk r (SeesTaken means store edits name)
    taken_seen (Err fatal) not saw = tt
    taken_seen (Ok true) not saw = inl saw
    taken_seen (Ok false) not saw = (saw, not)

    -- whether the folder that ends at a place is taken
    pub folder_seen : (at : ℕ) (folder : List ℕ) (r : Result Bool Fatal) → IsFolderAt at folder name → IfOk r (SeesTaken means store edits folder) → IfOk r (SeesTakenAt means store edits at name)
    folder_seen at folder (Err fatal) is saw = tt
    folder_seen at folder (Ok true) is saw = (folder, is, saw)
    folder_seen at folder (Ok false) is saw = λ other here. subst (λ (f : List ℕ). SeesTaken means store edits f false) (is_front at folder name is ∙ sym (is_front at other name here)) saw

    -- none is that ends here or before
    pub free_here : (at : ℕ) → SeesFreeBefore means store edits at name → SeesTakenAt means store edits at name false → SeesFreeBefore means store edits (at + 1) name
    free_here at before here folder of lt = elim (cases_lt (length folder) at) [
      | inl earlier ↦ before folder of earlier
      | inr later ↦ here folder (of, omega (arith, lt, later))
    ]

    -- and none at all
    pub free_at_all : (at : ℕ) → length name ≤ at → SeesFreeBefore means store edits at name → SeesFreeFolders means store edits name
    free_at_all at past before folder of = before folder of (omega (arith, past, is_shorter folder name of))

-- What is seen in one of two stores of the same files is seen in the other.
module _ {F : Type 0} (means : F → Meaning) (a b : Store F) (same : settings_of b ≡ settings_of a) (alike : (means (files_of b)).tree ≡ (means (files_of a)).tree) where
  target_from : (name : List ℕ) (target : Option TargetValue) → SeesTarget means b name target → SeesTarget means a name target
  target_from name None saw = subst (λ (T : Tree). IsUnseen (settings_of a) (view_of T) name) alike (subst (λ (s : Settings). IsUnseen s (view_in means b) name) same saw)
  target_from name (Some target) saw = subst (λ (T : Tree). IsSeenAs (settings_of a) (view_of T) name target) alike (subst (λ (s : Settings). IsSeenAs s (view_in means b) name target) same saw)

  there_from : (name : List ℕ) (there : Bool) → SeesThere means b name there → SeesThere means a name there
  there_from name there (target, saw, is) = (target, target_from name target saw, is)

  pub taken_from : (edits : List RefEdit) (name : List ℕ) (taken : Bool) → SeesTaken means b edits name taken → SeesTaken means a edits name taken
  taken_from edits name true (inl there) = inl (there_from name true there)
  taken_from edits name true (inr edited) = inr edited
  taken_from edits name false (missing, not) = (there_from name false missing, not)

  pub free_from : (edits : List RefEdit) (name : List ℕ) → SeesFreeFolders means b edits name → SeesFreeFolders means a edits name
  free_from edits name free folder of = taken_from edits folder false (free folder of)

module _ {F : Type 0} (honest : Type 0) (means : F → Meaning) (faults : F → FaultCounts) where
  -- so one is listed, or none
  pub below_seen : (store now : Store F) (prefix : List ℕ) (names : LooseNames) (packed : Option (Bor Buffer)) (r : Result Bool Fatal) → ((it : LooseThenPacked F Remaining) → FollowsWalked honest means faults now names packed (Ok it) → FollowsFile honest means faults store prefix it) →
      IfOk r (GivesOne honest means faults now names packed) → IfOk r (SeesBelow honest means faults store prefix)
  below_seen store now prefix names packed (Err fatal) file gives = tt
  below_seen store now prefix names packed (Ok any) file (it, next, Some item, follows, step, is) =
      subst (SeesBelow honest means faults store prefix) (sym is)
      (record {
        start = store;
        looked = looks_same honest means store;
        item = item;
        last = count_in honest means faults next;
        right = text_more means store prefix (λ text. FollowsText honest means faults store prefix text it) (λ text. IsRightSince honest means faults store prefix text (count_in honest means faults next) item)
            (λ text of. of.gives_right [] it next item refl step) (file it follows).1;
      })
  below_seen store now prefix names packed (Ok any) file (it, next, None, follows, step, is) =
      subst (SeesBelow honest means faults store prefix) (sym is)
      (record {
        start = store;
        looked = looks_same honest means store;
        loose = λ name listed. (file it follows).0 [] it next refl step tt name listed;
        due = text_more means store prefix (λ text. FollowsText honest means faults store prefix text it) (λ text. Ascends text → (name : List ℕ) → IsDue (settings_of store) text name → ⊥)
            (λ text of up name due. of.lacks_none up [] it next refl step tt name due) (file it follows).1;
      })

  module _ (old mid : Store F) (looked : LooksUp honest means old mid) where
    listed_before : (prefix : List ℕ) → SeesListed honest means faults mid prefix → SeesListed honest means faults old prefix
    listed_before prefix l = record { start = l.start; looked = looks_on honest means old mid l.start looked l.looked; item = l.item; last = l.last; right = l.right }

    none_before : (prefix : List ℕ) → SeesNone honest means faults mid prefix → SeesNone honest means faults old prefix
    none_before prefix n = record { start = n.start; looked = looks_on honest means old mid n.start looked n.looked; loose = n.loose; due = n.due }

    -- what was seen is seen before, and after
    pub taken_before : honest → (edits : List RefEdit) (name : List ℕ) (taken : Bool) → SeesTaken means mid edits name taken → SeesTaken means old edits name taken
    taken_before h = taken_from means old mid (same_settings old mid looked.same) (looked.leaves h).tree

    pub free_before : honest → (edits : List RefEdit) (name : List ℕ) → SeesFreeFolders means mid edits name → SeesFreeFolders means old edits name
    free_before h = free_from means old mid (same_settings old mid looked.same) (looked.leaves h).tree

    pub free_after : honest → (edits : List RefEdit) (name : List ℕ) → SeesFreeFolders means old edits name → SeesFreeFolders means mid edits name
    free_after h = free_from means mid old (sym (same_settings old mid looked.same)) (sym (looked.leaves h).tree)

    made_before : honest → (edit : RefEdit) (made : Option (List ℕ)) → SeesMade means mid edit made → SeesMade means old edit made
    made_before h edit made (inl expects) = inl expects
    made_before h edit made (inr (not, saw)) = inr (not, by edit.deref saw)
      where
        by : (b : Bool) → MatchBool b (SeesMissingEnd means mid (name_of edit) made) ((target : Option TargetValue) × SeesTarget means mid (name_of edit) target × (made ≡ missing_own (name_of edit) target)) →
            MatchBool b (SeesMissingEnd means old (name_of edit) made) ((target : Option TargetValue) × SeesTarget means old (name_of edit) target × (made ≡ missing_own (name_of edit) target))
        by true (end, saw, is) = (end, end_before honest means old mid looked h 5 (name_of edit) end saw, is)
        by false (target, saw, is) = (target, sees_before honest means old mid (name_of edit) target looked h saw, is)

    pub way_before : honest → (edits : List RefEdit) (name : List ℕ) → SeesInTheWay honest means faults mid edits name → SeesInTheWay honest means faults old edits name
    way_before h edits name (inl (folder, of, taken)) = inl (folder, of, taken_before h edits folder true taken)
    way_before h edits name (inr listed) = inr (listed_before (front_below name) listed)

    clear_before : honest → (edits : List RefEdit) (name : List ℕ) → SeesClearName honest means faults mid edits name → SeesClearName honest means faults old edits name
    clear_before h edits name (free, none) = (free_before h edits name free, none_before (front_below name) none)

    pub clear_edit_before : honest → (edits : List RefEdit) (edit : RefEdit) → SeesClearEdit honest means faults mid edits edit → SeesClearEdit honest means faults old edits edit
    clear_edit_before h edits edit (made, saw, clear) = (made, made_before h edit made saw, each made clear)
      where
        each : (made : Option (List ℕ)) → IfSome made (SeesClearName honest means faults mid edits) → IfSome made (SeesClearName honest means faults old edits)
        each None is = tt
        each (Some name) is = clear_before h edits name is

    -- an edit that was refused
    pub clash_before : honest → (edits : List RefEdit) (edit : RefEdit) (name : List ℕ) → SeesMade means mid edit (Some name) × SeesInTheWay honest means faults mid edits name → SeesMade means old edit (Some name) × SeesInTheWay honest means faults old edits name
    clash_before h edits edit name (made, way) = (made_before h edit (Some name) made, way_before h edits name way)

    -- what is listed below a name decides, where its folders are free
    pub clashes_by : honest → (edits : List RefEdit) (last name : List ℕ) (r : Result Bool Fatal) → (SeesFreeFolders means old edits last → SeesFreeFolders means old edits name) → IfOk r (SeesBelow honest means faults mid (front_below name)) → IfOk r (SeesClashes honest means faults old edits last name)
    clashes_by h edits last name (Err fatal) free saw = tt
    clashes_by h edits last name (Ok true) free saw = inr (listed_before (front_below name) saw)
    clashes_by h edits last name (Ok false) free saw = λ last_free. (free last_free, none_before (front_below name) saw)

    -- an edit whose name is clear, and one that makes none
    pub cleared : honest → (edits : List RefEdit) (edit : RefEdit) (last name : List ℕ) → SeesMade means old edit (Some name) → SeesClashes honest means faults mid edits last name false → SeesFreeFolders means old edits last →
        SeesClearEdit honest means faults old edits edit × SeesFreeFolders means old edits name
    cleared h edits edit last name made clear free =
        let is = clear_before h edits name (clear (free_after h edits last free)) in ((Some name, made, is), is.0)
