-- The paths of a transaction are such that its planned steps carry out its writes, whatever `packed-refs` holds.
use Rattle.std.proofs.Common.{◌≡◌, inl, inr, ℕ, suc, List, [], ◌∷◌, ◌++◌, Bool, true, false, Option, Some, None, All, refl, sym, ◌∙◌, ap, subst, length, arith, if◌then◌else◌}
use Rattle.std.specs.Prelude.{bytes_eq}
use Rattle.std.proofs.lemmas.List.{map-append}
use Rattle.gix_ref_hash.specs.declared.hash.Kind.{Kind}
use Rattle.gix_ref_name.specs.declared.namespace.Namespace.{Namespace}
use Rattle.gix_ref_files.specs.Tree.{Tree, Path}
use Rattle.gix_ref_files.specs.Disk.{Disk}
use Rattle.gix_ref_files.specs.Lock.{lock_of}
use Rattle.gix_ref_theory.specs.ConcreteStore.{store_of}
use Rattle.gix_ref_theory.specs.OnRealTrees.{view_of}
use Rattle.gix_ref_theory.specs.Edits.{Change, Mode}
use Rattle.gix_ref_theory.specs.Readings.{Store, HasLaws}
use Rattle.gix_ref_theory.specs.Roots.{roots}
use Rattle.gix_ref_theory.specs.Views.{View, file_bytes, IsOwnLock}
use Rattle.gix_ref_theory.proofs.PlaceLaws.{laws_hold}
use Rattle.gix_ref_theory.proofs.Roots.{places_settle, logs_settle, packed_settles}
use Rattle.gix_ref_lookup.specs.StoreLayout.{folders_of, git_options}
use Rattle.gix_ref_lookup.specs.declared.folders.Dirs.{Dirs}
use Rattle.gix_ref_lookup.proofs.Laying.{folders_laid, folders_have_bytes}
use Rattle.gix_ref_packed_text.specs.declared.outcome.Rewrite.{Rewrite}
use Rattle.gix_ref_packed_text.specs.declared.outcome.Rewrite.TheVariants.{Unchanged, Removed, Text}
use Rattle.gix_ref_edits.specs.RefEdits.{name_of}
use Rattle.gix_ref_edits.specs.declared.transaction.RefEdit.{RefEdit}
use Rattle.gix_ref_transaction.specs.Causes.{locks_of, packed_taken}
use Rattle.gix_ref_transaction.specs.CarriedEdits.{change_of}
use Rattle.gix_ref_transaction.specs.OwnLocks.{is_in}
use Rattle.gix_ref_transaction.specs.PrepareSteps.{AreLockable, AreWholeLocks, IsPackedPlace, own_locks, own_places, packed_places, place_paths, places_of}
use Rattle.gix_ref_transaction.specs.declared.edit.Edit.{Edit as Own}
use Rattle.gix_ref_transaction.specs.declared.edit.Effect.{Effect}
use Rattle.gix_ref_transaction.specs.declared.edit.Effect.TheVariants as effects
use Rattle.gix_ref_transaction.specs.declared.edit.LogEffect.{LogEffect}
use Rattle.gix_ref_transaction.specs.declared.edit.LogEffect.TheVariants as log_effects
use Rattle.gix_ref_transaction.proofs.Adds.{clash, any_left, any_right, in_here}
use Rattle.gix_ref_transaction.proofs.CommitLosses.{same_text, texts_on, whole_at}
use Rattle.gix_ref_transaction.proofs.LockRounds.{edit_lock, edit_own, owned_all}
use Rattle.gix_ref_commit.specs.Entries.{planned_entries, steps_in}
use Rattle.gix_ref_commit.specs.LogEffects.{IsLogOf, AreLogsOf}
use Rattle.gix_ref_commit.proofs.Carries.{AreIn, Carries}
use Rattle.gix_ref_commit.proofs.Carrying as carrying
use Rattle.gix_ref_commit.proofs.Carrying.{IsPlain, IsLogPlain, ArePlaced, IsElsewhere, AreApart, IsPackedPlaced}
use Rattle.gix_ref_transaction.proofs.EditsApart.{heads}
use Rattle.gix_ref_commit.proofs.OwnPlan.{own_plan}

-- What is known of the paths of a transaction as its commit begins to write, on the disk D; `before` is the tree from before it.
pub record IsLaid (s : Store) (mode : Mode) (kind : Kind) (before : Tree) (D : Disk) (given : List RefEdit) (ran : List Own) (packed : Option Path) : Type 0 where
  pub references : All (λ (e : RefEdit). s.is_reference (name_of e) ≡ true) given
  pub lockable : AreLockable s kind before [] given
  pub places : place_paths ran ≡ places_of s given
  pub logs : AreLogsOf s given ran
  pub packed_place : IsPackedPlace s packed
  pub packed_due : packed_places packed ≡ packed_taken s mode before given
  pub whole : AreWholeLocks D (own_locks s mode before given)

module _ (dirs : Dirs) (namespace : Option Namespace) (kind : Kind) (prohibits : Bool) where
  abbrev pub s : Store
  s = store_of (folders_of dirs namespace) (git_options kind prohibits)

  abbrev pub staying : List Path
  staying = roots (folders_of dirs namespace)

  pub laws : HasLaws s
  laws = laws_hold (folders_of dirs namespace) (git_options kind prohibits) (folders_laid dirs namespace)

  -- places, logs and `packed-refs` are no locks, and are settled by the syncs of their folders
  plain_place : (n : List ℕ) → s.is_reference n ≡ true → IsPlain staying dirs (s.place n)
  plain_place n is = (
    λ q. laws.place_is_no_lock n q is,
    places_settle (folders_of dirs namespace) (git_options kind prohibits) n (folders_have_bytes dirs).0 (folders_have_bytes dirs).1,
  )

  plain_log : (n : List ℕ) → s.is_reference n ≡ true → IsPlain staying dirs (s.log n)
  plain_log n is = (
    λ q. laws.log_is_no_lock n q is,
    logs_settle (folders_of dirs namespace) (git_options kind prohibits) n (folders_have_bytes dirs).0 (folders_have_bytes dirs).1,
  )

  plain_packed : IsPlain staying dirs s.packed_path
  plain_packed = (
    λ q. laws.packed_is_no_lock q,
    packed_settles (folders_of dirs namespace) (git_options kind prohibits) (folders_have_bytes dirs).0 (folders_have_bytes dirs).1,
  )

  log_plain : (n : List ℕ) (change : Change) (l : LogEffect) → s.is_reference n ≡ true → IsLogOf (s.log n) change l → IsLogPlain staying dirs l
  log_plain n Change.Delete (log_effects.Remove log) is same = subst (IsPlain staying dirs) (sym same) (plain_log n is)
  log_plain n Change.Delete log_effects.Keep is same = tt
  log_plain n Change.Delete (log_effects.Append log line) is same = absurd same
  log_plain n (Change.Update target) log_effects.Keep is same = tt
  log_plain n (Change.Update target) (log_effects.Remove log) is same = absurd same
  log_plain n (Change.Update target) (log_effects.Append log line) is same = subst (IsPlain staying dirs) (sym same) (plain_log n is)

  module _ (before : Tree) where
    placed : (locked : List Path) (some : List RefEdit) (ps : List Own) → All (λ (e : RefEdit). s.is_reference (name_of e) ≡ true) some → place_paths ps ≡ places_of s some → AreLogsOf s some ps →
        ((q : Path) → is_in (locks_of s some) q ≡ true → IsOwnLock locked q) → ArePlaced locked staying dirs ps
    placed locked [] [] are places logs own = tt
    placed locked [] (p ∷ ps) are places logs own = absurd (omega (arith, ap length places))
    placed locked (e ∷ some) [] are places logs own = absurd (omega (arith, ap length places))
    placed locked (e ∷ some) (p ∷ ps) are places logs own = (
      record {
        own = subst (λ (r : Path). IsOwnLock locked (lock_of r)) (sym (heads places).0) (own (lock_of (s.place (name_of e))) (in_here (lock_of (s.place (name_of e))) (lock_of (s.place (name_of e))) (locks_of s some) refl));
        place = subst (IsPlain staying dirs) (sym (heads places).0) (plain_place (name_of e) (are 0 e (omega arith)));
        log = log_plain (name_of e) (change_of e.change) p.log (are 0 e (omega arith)) logs.0;
      },
      placed locked some ps (λ k d lt. are (suc k) d (omega (arith, lt))) (heads places).1 logs.1
          (λ q within. own q (any_right (λ r. bytes_eq r q) (locks_of s (e ∷ [])) (locks_of s some) within)),
    )

    elsewhere_by : (seen some : List RefEdit) (ps : List Own) (q : Path) → AreLockable s kind before seen some → place_paths ps ≡ places_of s some → is_in (locks_of s seen) (lock_of q) ≡ true → IsElsewhere q ps
    elsewhere_by seen [] [] q lockable places within = tt
    elsewhere_by seen [] (p ∷ ps) q lockable places within = absurd (omega (arith, ap length places))
    elsewhere_by seen (e ∷ some) [] q lockable places within = absurd (omega (arith, ap length places))
    elsewhere_by seen (e ∷ some) (p ∷ ps) q lockable places within = (
      λ same. clash (subst (λ (r : Path). is_in (locks_of s seen) (lock_of r) ≡ true) (same ∙ (heads places).0) within) lockable.0.ours,
      elsewhere_by (seen ++ e ∷ []) some ps q lockable.1 (heads places).1
          (subst (λ locks. is_in locks (lock_of q) ≡ true) (sym (map-append (λ (r : RefEdit). lock_of (s.place (name_of r))) seen (e ∷ [])))
          (any_left (λ l. bytes_eq l (lock_of q)) (locks_of s seen) (locks_of s (e ∷ [])) within)),
    )

    apart_by : (seen some : List RefEdit) (ps : List Own) → AreLockable s kind before seen some → place_paths ps ≡ places_of s some → AreApart ps
    apart_by seen [] [] lockable places = tt
    apart_by seen [] (p ∷ ps) lockable places = absurd (omega (arith, ap length places))
    apart_by seen (e ∷ some) [] lockable places = absurd (omega (arith, ap length places))
    apart_by seen (e ∷ some) (p ∷ ps) lockable places = (
      elsewhere_by (seen ++ e ∷ []) some ps p.lock lockable.1 (heads places).1
          (subst (λ locks. is_in locks (lock_of p.lock) ≡ true) (sym (map-append (λ (r : RefEdit). lock_of (s.place (name_of r))) seen (e ∷ [])))
          (any_right (λ l. bytes_eq l (lock_of p.lock)) (locks_of s seen) (locks_of s (e ∷ [])) (in_here (lock_of (s.place (name_of e))) (lock_of p.lock) [] (ap lock_of (sym (heads places).0))))),
      apart_by (seen ++ e ∷ []) some ps lockable.1 (heads places).1,
    )

    not_packed : (some : List RefEdit) (ps : List Own) → All (λ (e : RefEdit). s.is_reference (name_of e) ≡ true) some → place_paths ps ≡ places_of s some → IsElsewhere s.packed_path ps
    not_packed [] [] are places = tt
    not_packed [] (p ∷ ps) are places = absurd (omega (arith, ap length places))
    not_packed (e ∷ some) [] are places = absurd (omega (arith, ap length places))
    not_packed (e ∷ some) (p ∷ ps) are places = (
      λ same. laws.place_is_not_packed (name_of e) (are 0 e (omega arith)) (sym (heads places).0 ∙ sym same),
      not_packed some ps (λ k d lt. are (suc k) d (omega (arith, lt))) (heads places).1,
    )

  -- where its locks are whole
  module _ (mode : Mode) (before : Tree) (D : Disk) (given : List RefEdit) (ran : List Own) (packed : Option Path) (rewrite : Rewrite) (laid : IsLaid s mode kind before D given ran packed) where
    abbrev pub locked : List Path
    locked = own_places s mode before given

    abbrev pub mine : List Path
    mine = own_locks s mode before given

    abbrev pub first : View
    first = view_of D.tree

    -- the texts of its locks
    abbrev pub texts : View
    texts = texts_on D mine

    pub texts_in : AreIn texts first
    texts_in q bytes = by (is_in mine q)
      where
        by : (b : Bool) → (if b then first q else None) ≡ Some bytes → first q ≡ Some bytes
        by true h = h
        by false h = cc

    pub are_placed : ArePlaced locked staying dirs ran
    are_placed = placed before locked given ran laid.references laid.places laid.logs (λ q within. edit_own s mode before given q within)

    pub are_apart : AreApart ran
    are_apart = apart_by before [] given ran laid.lockable laid.places

    pub packed_placed : IsPackedPlaced locked staying dirs packed ran
    packed_placed = by packed laid.packed_place laid.packed_due
      where
        inner : {x y : Path} → Some x ≡ Some y → x ≡ y
        inner h = cc

        by : (held : Option Path) → IsPackedPlace s held → packed_places held ≡ packed_taken s mode before given → IsPackedPlaced locked staying dirs held ran
        by None place due = tt
        by (Some path) (inl none) due = cc
        by (Some path) (inr some) due = (
          subst (λ (taken : List Path). IsOwnLock (taken ++ places_of s given) (lock_of path)) due (inl refl),
          subst (IsPlain staying dirs) (sym (inner some)) plain_packed,
          subst (λ (p : Path). IsElsewhere p ran) (sym (inner some)) (not_packed before given ran laid.references laid.places),
        )

    -- a lock has some text
    text_at : (q : Path) → is_in mine q ≡ true → texts q ≡ Some (file_bytes (first q))
    text_at q within =
        let w = whole_at D mine laid.whole q within in
        same_text D mine q within ∙ (w.1 ∙ ap (λ (f : Option (List ℕ)). Some (file_bytes f)) (sym w.1))

    have_texts : (some : List RefEdit) (ps : List Own) → place_paths ps ≡ places_of s some → ((q : Path) → is_in (locks_of s some) q ≡ true → is_in mine q ≡ true) →
        carrying.HaveTexts locked staying dirs first texts ps
    have_texts [] [] places own = tt
    have_texts [] (p ∷ ps) places own = absurd (omega (arith, ap length places))
    have_texts (e ∷ some) [] places own = absurd (omega (arith, ap length places))
    have_texts (e ∷ some) (p ∷ ps) places own = (
      one p.effect,
      have_texts some ps (heads places).1 (λ q within. own q (any_right (λ r. bytes_eq r q) (locks_of s (e ∷ [])) (locks_of s some) within)),
    )
      where
        here : texts (lock_of p.lock) ≡ Some (file_bytes (first (lock_of p.lock)))
        here = text_at (lock_of p.lock) (own (lock_of p.lock) (in_here (lock_of (s.place (name_of e))) (lock_of p.lock) (locks_of s some) (ap lock_of (sym (heads places).0))))

        one : (f : Effect) → carrying.HasText locked staying dirs first texts p.lock f
        one effects.Write = here
        one effects.Remove = tt
        one effects.Keep = tt

    packed_text : carrying.HasPackedText locked staying dirs first texts packed rewrite
    packed_text = by packed rewrite packed_placed
      where
        by : (held : Option Path) (r : Rewrite) → IsPackedPlaced locked staying dirs held ran → carrying.HasPackedText locked staying dirs first texts held r
        by (Some path) (Text text) place = text_at (lock_of path) (owned_all s mode before given (lock_of path) place.0)
        by (Some path) Unchanged place = tt
        by (Some path) Removed place = tt
        by None r place = tt

    -- its planned steps carry out its writes
    pub carried : Carries locked staying texts (steps_in (planned_entries dirs ran packed rewrite)) (own_plan first ran packed rewrite)
    carried =
        carrying.plan_carried locked staying dirs first ran packed rewrite texts are_placed are_apart packed_placed
        (have_texts given ran laid.places (λ q within. edit_lock s mode before given q within)) packed_text
