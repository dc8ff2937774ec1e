-- What each entry may be after a loss of power, as the calls go on.
use Rattle.std.proofs.Common.{◌≡◌, ◌⊎◌, inl, inr, ℕ, ◌-◌, ◌≤◌, List, [], ◌∷◌, ◌++◌, length, drop, Bool, true, false, Option, Some, None, refl, sym, ◌∙◌, ap, subst, arith, take-append-drop, length-drop, append-nil}
use Rattle.std.specs.Prelude.{bytes_eq, if◌then◌else◌}
use Rattle.std.proofs.lemmas.Slice.Eq.{bytes_eq-Decides}
use Rattle.std.proofs.Math.Seq.{take-length}
use Rattle.gix_ref_files.specs.Tree.{Path, Content, bytes_of}
use Rattle.gix_ref_files.specs.Tree.Content.{File, Folder}
use Rattle.gix_ref_files.specs.Disk.{DiskItem, Disk, refilled, Remains, OneRemains, item_at, MayBe, with_item, folder_synced, folder_of}
use Rattle.gix_ref_files.specs.Settled.{Sync, synced, synced_by}
use Rattle.gix_ref_files.specs.Settled.Sync.{OfFile, OfFolder}

pub refilled_same : (c : Option Content) → refilled c (bytes_of c) ≡ c
refilled_same (Some (File bytes)) = refl
refilled_same (Some Folder) = refl
refilled_same None = refl

-- what is there may remain whole
pub remains_whole : (h : DiskItem) → Remains h h.content
remains_whole h = (
  drop h.synced (bytes_of h.content),
  omega (arith, length-drop h.synced (bytes_of h.content)),
  sym (refilled_same h.content) ∙ ap (refilled h.content) (sym (take-append-drop h.synced (bytes_of h.content))),
)

pub now_may_be : (D : Disk) (p : Path) → MayBe D p (D.tree p)
now_may_be D p = inl (remains_whole (item_at D p))

-- an entry becomes another
pub entered_may : (D : Disk) (p q : Path) (h : DiskItem) (c : Option Content) → MayBe (with_item D p h) q c → MayBe D q c ⊎ ((p ≡ q) × Remains h c)
entered_may D p q h c = by (bytes_eq p q) refl
  where
    by : (b : Bool) → bytes_eq p q ≡ b →
        OneRemains (record { content = if b then h.content else D.tree q; synced = if b then h.synced else D.unsynced.synced q } ∷ (if b then item_at D p ∷ D.unsynced.past p else D.unsynced.past q)) c →
        MayBe D q c ⊎ ((p ≡ q) × Remains h c)
    by true e (inl new) = inr ((bytes_eq-Decides p q).0 e, new)
    by true e (inr old) = inl (subst (λ (x : Path). MayBe D x c) ((bytes_eq-Decides p q).0 e) old)
    by false e may = inl may

none_left : (any : List ℕ) (n : ℕ) → length any ≤ n - n → any ≡ []
none_left [] n le = refl
none_left (x ∷ any) n le = absurd (omega (arith, le))

-- of a file that is synced all remains
pub synced_remains : (content c : Option Content) → Remains (record { content = content; synced = length (bytes_of content) }) c → c ≡ content
synced_remains content c r =
    r.2 ∙ (ap (refilled content) (ap (λ x. x ++ r.0) (take-length (bytes_of content)) ∙ (ap (λ x. bytes_of content ++ x) (none_left r.0 (length (bytes_of content)) r.1) ∙ append-nil (bytes_of content))) ∙ refilled_same content)

-- a sync makes nothing less sure
pub synced_may : (s : Sync) (D : Disk) (q : Path) (c : Option Content) → MayBe (synced s D) q c → MayBe D q c
synced_may (OfFile p) D q c = by (bytes_eq p q) refl
  where
    by : (b : Bool) → bytes_eq p q ≡ b →
        OneRemains (record { content = D.tree q; synced = if b then length (bytes_of (D.tree p)) else D.unsynced.synced q } ∷ D.unsynced.past q) c → MayBe D q c
    by true e (inl here) =
        let same : p ≡ q = (bytes_eq-Decides p q).0 e in
        let is : c ≡ D.tree q = synced_remains (D.tree q) c (subst (λ (x : Path). Remains (record { content = D.tree q; synced = length (bytes_of (D.tree x)) }) c) same here) in
        subst (λ (x : Option Content). MayBe D q x) (sym is) (now_may_be D q)
    by true e (inr old) = inr old
    by false e may = may
synced_may (OfFolder p) D q c = by (bytes_eq p (folder_of q))
  where
    by : (b : Bool) → OneRemains (item_at D q ∷ (if b then [] else D.unsynced.past q)) c → MayBe D q c
    by true (inl here) = inl here
    by true (inr old) = absurd old
    by false may = may

pub synced_by_may : (ss : List Sync) (D : Disk) (q : Path) (c : Option Content) → MayBe (synced_by ss D) q c → MayBe D q c
synced_by_may [] D q c may = may
synced_by_may (s ∷ ss) D q c may = synced_may s D q c (synced_by_may ss (synced s D) q c may)

-- and changes nothing that is there
pub synced_tree : (s : Sync) (D : Disk) → (synced s D).tree ≡ D.tree
synced_tree (OfFile p) D = refl
synced_tree (OfFolder p) D = refl

pub synced_by_tree : (ss : List Sync) (D : Disk) → (synced_by ss D).tree ≡ D.tree
synced_by_tree [] D = refl
synced_by_tree (s ∷ ss) D = synced_by_tree ss (synced s D) ∙ synced_tree s D

-- an entry of a folder that was just synced is as it is item_at
pub entry_synced : (D : Disk) (p q : Path) (c : Option Content) → folder_of q ≡ p → MayBe (folder_synced D p) q c → Remains (item_at D q) c
entry_synced D p q c is = by (bytes_eq p (folder_of q)) refl
  where
    by : (b : Bool) → bytes_eq p (folder_of q) ≡ b → OneRemains (item_at D q ∷ (if b then [] else D.unsynced.past q)) c → Remains (item_at D q) c
    by true e (inl here) = here
    by true e (inr old) = absurd old
    by false e may = absurd (false_is_true (sym e ∙ (bytes_eq-Decides p (folder_of q)).1 (sym is)))
      where
        false_is_true : false ≡ true → ⊥
        false_is_true e = cc

-- of a folder a folder remains, and of nothing nothing
pub folder_remains : (n : ℕ) (c : Option Content) → Remains (record { content = Some Folder; synced = n }) c → c ≡ Some Folder
folder_remains n c r = r.2

pub nothing_remains : (n : ℕ) (c : Option Content) → Remains (record { content = None; synced = n }) c → c ≡ None
nothing_remains n c r = r.2
