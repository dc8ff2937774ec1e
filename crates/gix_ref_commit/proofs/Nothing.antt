-- Where nothing but own locks has changed, each reference reads as before: before the first write of a commit, and after a loss of power
-- there.
use Rattle.std.proofs.Common.{◌≡◌, ◌≢◌, inl, ℕ, List, [], ◌∷◌, true, Option, refl, sym, ◌∙◌, subst}
use Rattle.gix_ref_files.specs.Tree.{Tree, Path}
use Rattle.gix_ref_files.specs.Disk.{Disk, Lost}
use Rattle.gix_ref_files.specs.Lock.{lock_of}
use Rattle.gix_ref_files.specs.Settled.{IsAllSettled, IsSettledAt}
use Rattle.gix_ref_files.proofs.Settling.{stands_settled}
use Rattle.gix_ref_theory.specs.Between.{AreEdits, IsEdit, IsBetween, ReadsAsBefore}
use Rattle.gix_ref_theory.specs.Edits.{Edit, Mode}
use Rattle.gix_ref_theory.specs.Losses.{IsLostWell}
use Rattle.gix_ref_theory.specs.OnDisks.{IsAsBefore, IsSpokenOf}
use Rattle.gix_ref_theory.specs.OnRealTrees.{view_of, IsOldOrNewTree}
use Rattle.gix_ref_theory.specs.Readings.{Store, HasLaws}
use Rattle.gix_ref_theory.specs.Views.{View, IsOwnLock, IsSameButLocks}
use Rattle.gix_ref_theory.proofs.Locks as locks
use Rattle.gix_ref_theory.proofs.OnDisks as disks
use Rattle.gix_ref_theory.proofs.OnDisks.{own_is_lock}
use Rattle.gix_ref_theory.proofs.Plans.{edit_behind, edit_in_front, is_reference_at}
use Rattle.gix_ref_theory.proofs.ReadingLemmas.{reading-same}

module _ (s : Store) (laws : HasLaws s) (mode : Mode) (locked : List Path) (edits : List Edit) (apart : AreEdits s edits) (before : Tree) where
  abbrev view : View
  view = view_of before

  same : IsBetween s mode locked edits view view
  same = record {
    readings = λ name is. inl refl;
    places = λ e within of_reference. inl refl;
    logs = λ e within. inl refl;
    packed = inl refl;
    others = λ path other. refl;
  }

  -- on a tree
  pub nothing_done : (T : Tree) → IsSameButLocks locked (view_of T) view → IsOldOrNewTree s mode locked edits before T
  nothing_done T alike = record {
    between = locks.between s laws mode locked view edits apart view (view_of T) alike same;
    no_deletion_first = λ keeps. locks.no_deletion_first s laws mode locked view edits apart view (view_of T) alike (λ d within of_reference deletes changed. absurd (changed refl));
    in_order = λ keeps. locks.in_order s laws mode locked view edits apart view (view_of T) alike (λ seen u later all updates of_reference changed. absurd (changed refl))
        (λ seen u later all. subst (IsEdit u) all (edit_behind seen u later))
        (λ x u seen later all he. subst (IsEdit x) all (edit_in_front x seen (u ∷ later) he));
  }

  -- after a loss of power
  module _ (D : Disk) (settled : IsAllSettled D) (alike : IsSameButLocks locked view (view_of D.tree)) where
    pub nothing_lost : (staying : List Path) (E : Disk) (T : Tree) → IsAsBefore locked staying D E → Lost E T → IsLostWell s mode locked edits D before T
    nothing_lost staying E T among lost = record {
      between = record {
        readings = λ name is. inl (reads name is);
        places = λ e within of_reference. inl (plain (s.place e.name) (λ q. laws.place_is_no_lock e.name q (is_reference_at s edits apart e within)));
        logs = λ e within. inl (plain (s.log e.name) (λ q. laws.log_is_no_lock e.name q (is_reference_at s edits apart e within)));
        packed = inl (plain s.packed_path (λ q. laws.packed_is_no_lock q));
        others = λ path other at_rest. spoken path (other.no_lock, at_rest) ∙ sym (alike path other.no_lock);
      };
      no_deletion_first = λ keeps d within of_reference deletes changed. absurd (changed (reads d.name (is_reference_at s edits apart d within)));
      in_order = λ keeps seen u later all updates of_reference changed.
          absurd (changed (reads u.name (is_reference_at s edits apart u (subst (IsEdit u) all (edit_behind seen u later)))));
    }
      where
        spoken : (q : Path) → IsSpokenOf locked D q → view_of T q ≡ view_of D.tree q
        spoken = disks.losses locked [] D E T among.0 lost

        plain : (q : Path) → ((p : Path) → q ≢ lock_of p) → view_of T q ≡ view q
        plain q no_lock =
            let own = (λ (mine : IsOwnLock locked q). let l = own_is_lock locked q mine in no_lock l.0 l.1) in
            spoken q (own, settled q no_lock) ∙ sym (alike q own)

        reads : (name : List ℕ) → s.is_reference name ≡ true → ReadsAsBefore s view (view_of T) name
        reads name is = reading-same s view (view_of T) name (plain (s.place name) (λ q. laws.place_is_no_lock name q is)) (plain s.packed_path (λ q. laws.packed_is_no_lock q))

-- What is left well with regard to a disk is so with regard to one that differs in own locks alone.
pub lost_before : (s : Store) (mode : Mode) (locked staying : List Path) (edits : List Edit) (D E : Disk) (before T : Tree) → IsAsBefore locked staying D E →
    IsLostWell s mode locked edits E before T → IsLostWell s mode locked edits D before T
lost_before s mode locked staying edits D E before T among well = record {
  between = record {
    readings = well.between.readings;
    places = well.between.places;
    logs = well.between.logs;
    packed = well.between.packed;
    others = λ path other at_rest.
        let here : IsSettledAt E (view_of D.tree path) path = among.0 path (other.no_lock, at_rest) in
        well.between.others path other (subst (λ (f : Option (List ℕ)). IsSettledAt E f path) (sym (stands_settled E (view_of D.tree path) path here)) here);
  };
  no_deletion_first = well.no_deletion_first;
  in_order = well.in_order;
}
