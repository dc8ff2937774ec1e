-- Losses by a choice, and the wrong orders.
use Rattle.std.proofs.Common.{◌≡◌, inl, inr, ℕ, zero, suc, ◌-◌, ◌≤◌, List, [], ◌∷◌, length, replicate, Bool, true, false, Option, Some, None, refl, ◌∙◌, ap, subst, arith, codes}
use Rattle.std.specs.Prelude.{bytes_eq, if◌then◌else◌, is_some}
use Rattle.std.specs.List.{list_all}
use Rattle.std.proofs.lemmas.Slice.Eq.{bytes_eq-Decides}
use Rattle.std.proofs.lemmas.Bool.{false≢true}
use Rattle.gix_ref_files.specs.Tree.{Tree, Path, Content, put, no_tree, bytes_of, is_folder, file_of, fronts}
use Rattle.gix_ref_files.specs.Tree.Content.{File, Folder}
use Rattle.gix_ref_files.specs.Disk.{DiskItem, Disk, Remains, OneRemains, item_at, MayBe, reachable, Lost, moved_on}
use Rattle.gix_ref_files.specs.Settled.{AllStay}
use Rattle.gix_ref_files.specs.Theorems.{EveryChoiceIsALoss, WhatIsLeftIsSettled}
use Rattle.gix_ref_files.specs.Losing.{last_synced, kept, all_synced, UnsyncedLockIsWrong, SyncAtTheEndIsWrong}
use Rattle.gix_ref_files.proofs.Entries.{now_may_be, remains_whole, synced_remains}
use Rattle.gix_ref_files.proofs.Settling.{both_true}

length_replicate : (n x : ℕ) → length (replicate n x) ≤ n
length_replicate zero x = omega arith
length_replicate (suc n) x = omega (arith, length_replicate n x)

kept_remains : (b : Bool) (h : DiskItem) → Remains h (kept b h)
kept_remains true h = remains_whole h
kept_remains false h = (replicate (length (bytes_of h.content) - h.synced) 63, length_replicate (length (bytes_of h.content) - h.synced) 63, refl)

last_remains : (h : DiskItem) (past : List DiskItem) (c : Option Content) → Remains (last_synced h past) c → OneRemains (h ∷ past) c
last_remains h [] c r = inl r
last_remains h (older ∷ past) c r = inr (last_remains older past c r)

pub choices : EveryChoiceIsALoss
choices entries ends D = (
  λ p. kept (ends p) (if entries p then item_at D p else last_synced (item_at D p) (D.unsynced.past p)),
  λ p. by p (entries p),
  λ p. refl,
)
  where
    by : (p : Path) (b : Bool) → MayBe D p (kept (ends p) (if b then item_at D p else last_synced (item_at D p) (D.unsynced.past p)))
    by p true = inl (kept_remains (ends p) (item_at D p))
    by p false = last_remains (item_at D p) (D.unsynced.past p) (kept (ends p) (last_synced (item_at D p) (D.unsynced.past p))) (kept_remains (ends p) (last_synced (item_at D p) (D.unsynced.past p)))

pub only_now : (T : Tree) (p : Path) (c : Option Content) → MayBe (all_synced T) p c → c ≡ T p
only_now T p c (inl r) = synced_remains (T p) c r
only_now T p c (inr none) = absurd none

folders_stay : (T : Tree) (fs : List Path) → list_all (λ f. is_folder (T f)) fs ≡ true → AllStay (all_synced T) fs
folders_stay T [] h = tt
folders_stay T (f ∷ fs) h =
    let parts = both_true (is_folder (T f)) (list_all (λ g. is_folder (T g)) fs) h in
    (λ c may. only_now T f c may ∙ is_it (T f) parts.0, folders_stay T fs parts.1)
  where
    is_it : (c : Option Content) → is_folder c ≡ true → c ≡ Some Folder
    is_it (Some (File bytes)) h = absurd (false≢true h)
    is_it (Some Folder) h = refl
    is_it None h = absurd (false≢true h)

pub left_settled : WhatIsLeftIsSettled
left_settled T shaped q no_lock = record {
  entry = λ c may. ap file_of (only_now T q c may);
  way = λ bytes is. folders_stay T (fronts q) (shaped q (there (T q) bytes is));
}
  where
    none_some : (bytes : List ℕ) → None ≡ Some bytes → ⊥
    none_some bytes e = cc

    there : (c : Option Content) (bytes : List ℕ) → file_of c ≡ Some bytes → is_some c ≡ true
    there (Some c) bytes is = refl
    there None bytes is = absurd (none_some bytes is)

-- one entry is chosen, and the others are as they are
pub one_lost : (D : Disk) (p : Path) (c : Option Content) → MayBe D p c → Lost D (reachable (put D.tree p c))
one_lost D p c may = (put D.tree p c, λ q. by q (bytes_eq p q) refl, λ q. refl)
  where
    by : (q : Path) (b : Bool) → bytes_eq p q ≡ b → MayBe D q (if b then c else D.tree q)
    by q true e = subst (λ (x : Path). MayBe D x c) ((bytes_eq-Decides p q).0 e) may
    by q false e = now_may_be D q

unsynced_lock : Disk
unsynced_lock = record { tree = put no_tree (codes "a.lock") (Some (File (codes "I"))); unsynced = record { synced = λ p. 0; past = λ p. [] } }

abbrev two_locks : Disk
two_locks = all_synced (put (put no_tree (codes "a.lock") (Some (File (codes "I")))) (codes "b.lock") (Some (File (codes "J"))))

pub unsynced_wrong : UnsyncedLockIsWrong
unfolding unsynced_lock
unsynced_wrong =
    let D = unsynced_lock in
    let E = moved_on unsynced_lock (codes "a.lock") (codes "a") in (
      D,
      E,
      reachable (put E.tree (codes "a") (Some (File (codes "?")))),
      refl,
      refl,
      ((refl, refl, refl), refl),
      one_lost E (codes "a") (Some (File (codes "?"))) (inl (codes "?", omega arith, refl)),
      refl,
    )

pub end_wrong : SyncAtTheEndIsWrong
end_wrong =
    let M = moved_on two_locks (codes "a.lock") (codes "a") in
    let E = moved_on M (codes "b.lock") (codes "b") in (
      two_locks,
      M,
      E,
      reachable (put E.tree (codes "a") None),
      (refl, refl),
      (refl, refl),
      refl,
      ((refl, refl, refl), refl),
      ((refl, refl, refl), refl),
      one_lost E (codes "a") None (inr (inl ([], omega arith, refl))),
      refl,
      refl,
    )
