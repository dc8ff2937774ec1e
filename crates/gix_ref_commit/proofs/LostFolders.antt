-- An empty folder that is removed: a loss of power then leaves no file that it could not leave before.
use Rattle.std.proofs.Common.{◌≡◌, ◌≢◌, ◌⊎◌, inl, inr, ⊎_elim, ℕ, ◌<◌, List, [], ◌∷◌, ◌++◌, length, take, get_or, Bool, true, false, Option, Some, None, refl, sym, ◌∙◌, ap, subst, arith, length-append, append_assoc}
use Rattle.std.specs.Prelude.{bytes_eq, if◌then◌else◌, ◌&&◌}
use Rattle.std.specs.List.{list_all}
use Rattle.std.proofs.Math.Seq.{get_or-append_seam, take-append_seam}
use Rattle.std.proofs.lemmas.Bool.{cases_Bool, false≢true, true≢false}
use Rattle.std.proofs.lemmas.Slice.Eq.{bytes_eq-Decides}
use Rattle.gix_ref_files.specs.Disk.{Disk, Lost, MayBe, Remains, nothing, reachable, removed_on}
use Rattle.gix_ref_files.specs.DiskCalls.{RemovingFolderOn}
use Rattle.gix_ref_files.specs.Files.{Meaning, disk_of, Passes}
use Rattle.gix_ref_files.specs.Settled.{IsIn}
use Rattle.gix_ref_files.specs.Tree.{Tree, Path, Content, IsEmptyFolder, file_of, fronts, has_folders, is_folder, put}
use Rattle.gix_ref_files.specs.Tree.Content.{File, Folder}
use Rattle.gix_ref_files.proofs.Entries.{entered_may, now_may_be, nothing_remains}
use Rattle.gix_ref_files.proofs.Moments.{passes_joins, passes_starts, passes_weaken}
use Rattle.gix_ref_files.proofs.Puts.{fronts_kept, put_at, put_other}
use Rattle.gix_ref_files.proofs.Ready.{front_is_folder}
use Rattle.gix_ref_files.proofs.Settling.{front_splits}
use Rattle.gix_ref_theory.specs.Between.{InOrder, NoDeletionFirst}
use Rattle.gix_ref_theory.specs.Edits.{Edit, Mode}
use Rattle.gix_ref_theory.specs.Losses.{IsLostBetween, IsLostWell}
use Rattle.gix_ref_theory.specs.OnRealTrees.{view_of}
use Rattle.gix_ref_theory.specs.Readings.{Store}
use Rattle.gix_ref_theory.specs.Views.{View}
use Rattle.gix_ref_commit.specs.Cleared.{LosesNoMore}

-- folders everywhere but here
abbrev all_but : Path → Tree
all_but f = put (λ p. Some Folder) f None

all_true : (fs : List Path) → list_all (λ g. true) fs ≡ true
all_true [] = refl
all_true (g ∷ fs) = all_true fs

module _ (f : Path) (some : 0 < length f) where
  -- a path below it has it on its way
  none_below : (q rest : Path) → q ≡ f ++ 47 ∷ rest → has_folders (all_but f) q ≡ true → ⊥
  none_below q rest is all = false≢true
      (sym (ap is_folder (put_at (λ p. Some Folder) f None))
      ∙ subst (λ (p : Path). is_folder (all_but f p) ≡ true) cut
      (front_is_folder (all_but f) q (length f) (omega (arith, some)) (omega (arith, ap (λ (l : Path). length l) is, length-append f (47 ∷ rest))) slash all))
    where
      cut : take (length f) q ≡ f
      cut = ap (λ (l : Path). take (length f) l) is ∙ take-append_seam f (47 ∷ rest)

      slash : get_or q (length f) 0 ≡ 47
      slash = ap (λ (l : Path). get_or l (length f) 0) is ∙ get_or-append_seam f 47 rest 0

  -- and a path that has it on its way is below it
  on_way : (fs : List Path) → list_all (λ g. is_folder (all_but f g)) fs ≡ false → IsIn f fs
  on_way [] none = absurd (true≢false none)
  on_way (g ∷ fs) none = by (bytes_eq f g) refl (λ later. on_way fs later)
    where
      by : (b : Bool) → bytes_eq f g ≡ b → (list_all (λ h. is_folder (all_but f h)) fs ≡ false → IsIn f fs) → IsIn f (g ∷ fs)
      by true e go = inl (sym ((bytes_eq-Decides f g).0 e))
      by false e go = inr (go (sym (ap (λ b. b && list_all (λ h. is_folder (all_but f h)) fs) here) ∙ none))
        where
          here : is_folder (all_but f g) ≡ true
          here = ap is_folder (put_other (λ p. Some Folder) f g None (λ same. true≢false (sym ((bytes_eq-Decides f g).1 same) ∙ e)))

  below : (q : Path) → has_folders (all_but f) q ≡ false → (rest : List ℕ) × (q ≡ f ++ 47 ∷ rest)
  below q none = front_splits q f (on_way (fronts q) none)

  -- what is on the way to a path elsewhere is elsewhere
  elsewhere : (q g rest : Path) → q ≡ g ++ 47 ∷ rest → has_folders (all_but f) q ≡ true → (has_folders (all_but f) g ≡ true) × (f ≢ g)
  elsewhere q g rest is all = (
    ⊎_elim
        (λ is_so. is_so)
        (λ none.
        let b = below g none in
        absurd (none_below q (b.0 ++ 47 ∷ rest) (is ∙ (ap (λ (p : Path). p ++ 47 ∷ rest) b.1 ∙ append_assoc f (47 ∷ b.0) (47 ∷ rest))) all))
        (cases_Bool (has_folders (all_but f) g)),
    λ same. none_below q rest (is ∙ ap (λ (p : Path). p ++ 47 ∷ rest) (sym same)) all,
  )

  module _ (D : Disk) (empty : IsEmptyFolder D.tree f) (entries : Tree) (may : (p : Path) → MayBe (removed_on D f) p (entries p)) where
    folder_there : (c : Option Content) → is_folder c ≡ true → c ≡ Some Folder
    folder_there (Some Folder) h = refl
    folder_there (Some (File bytes)) h = absurd (false≢true h)
    folder_there None h = absurd (false≢true h)

    -- the entries of another loss: the folder is there, and nothing in it
    abbrev others : Tree
    others q = if bytes_eq f q then Some Folder else (if has_folders (all_but f) q then entries q else None)

    others_at : others f ≡ Some Folder
    others_at = ap (λ b. if b then Some Folder else (if has_folders (all_but f) f then entries f else None)) ((bytes_eq-Decides f f).1 refl)

    others_apart : (q : Path) (b : Bool) → f ≢ q → has_folders (all_but f) q ≡ b → others q ≡ (if b then entries q else None)
    others_apart q b apart is = by (bytes_eq f q) refl
      where
        by : (same : Bool) → bytes_eq f q ≡ same → (if same then Some Folder else (if has_folders (all_but f) q then entries q else None)) ≡ (if b then entries q else None)
        by true e = absurd (apart ((bytes_eq-Decides f q).0 e))
        by false e = ap (λ (c : Bool). if c then entries q else None) is

    was : (q : Path) → f ≢ q → MayBe D q (entries q)
    was q apart = ⊎_elim (λ old. old) (λ new. absurd (apart new.0)) (entered_may D f q nothing (entries q) (may q))

    others_may : (q : Path) → MayBe D q (others q)
    others_may q = by (bytes_eq f q) refl
      where
        by : (same : Bool) → bytes_eq f q ≡ same → MayBe D q (if same then Some Folder else (if has_folders (all_but f) q then entries q else None))
        by true e = subst (λ (p : Path). MayBe D p (Some Folder)) ((bytes_eq-Decides f q).0 e) (subst (MayBe D f) (folder_there (D.tree f) empty.0) (now_may_be D f))
        by false e = inside (has_folders (all_but f) q) refl
          where
            apart : f ≢ q
            apart same = true≢false (sym ((bytes_eq-Decides f q).1 same) ∙ e)

            inside : (b : Bool) → has_folders (all_but f) q ≡ b → MayBe D q (if b then entries q else None)
            inside true is = was q apart
            inside false is = let b = below q is in subst (MayBe D q) (ap D.tree b.1 ∙ empty.1 b.0) (now_may_be D q)

    other_loss : Lost D (reachable others)
    other_loss = (others, others_may, λ p. refl)

    module _ (gone : entries f ≡ None) where
      -- elsewhere the same can be reached
      same_way : (q : Path) → has_folders (all_but f) q ≡ true → has_folders others q ≡ has_folders entries q
      same_way q all = by (has_folders entries q) refl
        where
          at : (g rest : Path) → q ≡ g ++ 47 ∷ rest → others g ≡ entries g
          at g rest is = let e = elsewhere q g rest is all in others_apart g true e.1 e.0

          by : (b : Bool) → has_folders entries q ≡ b → has_folders others q ≡ b
          by true is = fronts_kept (λ g. is_folder (entries g)) (λ g. is_folder (others g)) q (λ g rest e folder. ap is_folder (at g rest e) ∙ folder) is
          by false is = ⊎_elim
              (λ is_so. absurd (true≢false (sym (fronts_kept (λ g. is_folder (others g)) (λ g. is_folder (entries g)) q (λ g rest e folder. sym (ap is_folder (at g rest e)) ∙ folder) is_so) ∙ is)))
              (λ none. none)
              (cases_Bool (has_folders others q))

      no_file : (b : Bool) (c : Option Content) → file_of c ≡ None → file_of (if b then c else None) ≡ None
      no_file true c none = none
      no_file false c none = refl

      -- nothing in the folder can be reached
      out_of_reach : (q rest : Path) → q ≡ f ++ 47 ∷ rest → has_folders entries q ≡ false
      out_of_reach q rest is = ⊎_elim
          (λ is_so. absurd (none_below q rest is (fronts_kept (λ g. is_folder (entries g)) (λ g. is_folder (all_but f g)) q
          (λ g r e folder. ap is_folder (put_other (λ p. Some Folder) f g None (λ same. false≢true (sym (ap is_folder gone) ∙ (ap (λ (p : Path). is_folder (entries p)) same ∙ folder))))) is_so)))
          (λ none. none)
          (cases_Bool (has_folders entries q))

      same_files : (q : Path) → file_of (reachable entries q) ≡ file_of (reachable others q)
      same_files q = by (bytes_eq f q) refl
        where
          by : (same : Bool) → bytes_eq f q ≡ same → file_of (reachable entries q) ≡ file_of (reachable others q)
          by true e =
              let is : f ≡ q = (bytes_eq-Decides f q).0 e in
              no_file (has_folders entries q) (entries q) (ap file_of (ap entries (sym is) ∙ gone))
              ∙ sym (no_file (has_folders others q) (others q) (ap file_of (ap others (sym is) ∙ others_at)))
          by false e = inside (has_folders (all_but f) q) refl
            where
              apart : f ≢ q
              apart same = true≢false (sym ((bytes_eq-Decides f q).1 same) ∙ e)

              inside : (b : Bool) → has_folders (all_but f) q ≡ b → file_of (reachable entries q) ≡ file_of (reachable others q)
              inside true is = ap (λ (b : Bool). file_of (if b then entries q else None)) (sym (same_way q is)) ∙ ap (λ (c : Option Content). file_of (if has_folders others q then c else None)) (sym (others_apart q true apart is))
              inside false is =
                  let b = below q is in
                  ap (λ (c : Bool). file_of (if c then entries q else None)) (out_of_reach q b.0 b.1)
                  ∙ sym (no_file (has_folders others q) (others q) (ap file_of (others_apart q false apart is)))

pub same_losses : (D : Disk) → LosesNoMore D D
same_losses D T lost = (T, lost, λ q. refl)

-- one loss less, and less again
pub losses_then : (D E F : Disk) → LosesNoMore D E → LosesNoMore E F → LosesNoMore D F
losses_then D E F first second T lost =
    let mid = second T lost in
    let early = first mid.0 mid.1 in
    (early.0, early.1, λ q. mid.2 q ∙ early.2 q)

-- An empty folder goes, or not.
pub removal_loses : (D E : Disk) (f : Path) → 0 < length f → RemovingFolderOn D f E → LosesNoMore D E
removal_loses D E f some (inl same) = subst (LosesNoMore D) (sym same) (same_losses D)
removal_loses D E f some (inr (empty, gone)) = subst (LosesNoMore D) (sym gone) (λ T lost. by T lost (entered_may D f f nothing (lost.0 f) (lost.1 f)))
  where
    by : (T : Tree) (lost : Lost (removed_on D f) T) → MayBe D f (lost.0 f) ⊎ ((f ≡ f) × Remains nothing (lost.0 f)) → (U : Tree) × Lost D U × ((q : Path) → view_of T q ≡ view_of U q)
    by T lost (inl old) =
        (T, (lost.0, (λ q. ⊎_elim (λ was. was) (λ new. subst (λ (p : Path). MayBe D p (lost.0 p)) new.0 old) (entered_may D f q nothing (lost.0 q) (lost.1 q))), lost.2), λ q. refl)
    by T lost (inr new) =
        let entries = lost.0 in (
          reachable (others f some D empty entries lost.1),
          other_loss f some D empty entries lost.1,
          λ q. ap file_of (lost.2 q) ∙ same_files f some D empty entries lost.1 (nothing_remains 0 (entries f) new.1) q,
        )

pub passes_losing : (old mid new : Meaning) → Passes old mid (LosesNoMore (disk_of old)) → Passes mid new (LosesNoMore (disk_of mid)) → Passes old new (LosesNoMore (disk_of old))
passes_losing old mid new first second = passes_joins first (passes_weaken second (λ E less. losses_then (disk_of old) (disk_of mid) E first.disk less))

pub starts_losing : (now : Meaning) → Passes now now (LosesNoMore (disk_of now))
starts_losing now = passes_starts now (LosesNoMore (disk_of now)) (same_losses (disk_of now))

pub folder_losing : (old new : Meaning) (f : Path) → 0 < length f → Passes old new (RemovingFolderOn (disk_of old) f) → Passes old new (LosesNoMore (disk_of old))
folder_losing old new f some passes = passes_weaken passes (λ E begins. removal_loses (disk_of old) E f some begins)

-- What is between stays so where the files are the same.
pub lost_well_alike : (s : Store) (mode : Mode) (locked : List Path) (edits : List Edit) (D : Disk) (before T U : Tree) → ((q : Path) → view_of T q ≡ view_of U q) → IsLostWell s mode locked edits D before U → IsLostWell s mode locked edits D before T
lost_well_alike s mode locked edits D before T U same well = record {
  between = subst (λ (v : View). IsLostBetween s mode locked edits D (view_of before) v) is well.between;
  no_deletion_first = λ keeps. subst (λ (v : View). NoDeletionFirst s edits (view_of before) v) is (well.no_deletion_first keeps);
  in_order = λ keeps. subst (λ (v : View). InOrder s edits (view_of before) v) is (well.in_order keeps);
}
  where
    is : view_of U ≡ view_of T
    is = λ i q. sym (same q) i
