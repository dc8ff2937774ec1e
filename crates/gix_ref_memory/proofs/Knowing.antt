-- What is known of an entry is so on the disk.
use Rattle.std.proofs.Common.{◌≡◌, ◌⊎◌, inl, inr, ⊎_elim, ℕ, List, [], ◌∷◌, ◌++◌, length, Bool, true, false, Option, Some, None, refl, sym, ◌∙◌, ap, subst}
use Rattle.std.specs.Prelude.{bytes_eq, if◌then◌else◌}
use Rattle.std.proofs.lemmas.Bool.{true≢false}
use Rattle.std.proofs.lemmas.Slice.Eq.{bytes_eq-Decides}
use Rattle.gix_ref_files.specs.Tree.{Tree, Path, Content, put, bytes_of, no_tree, has_folders}
use Rattle.gix_ref_files.specs.Tree.Content.{File}
use Rattle.gix_ref_files.specs.Disk.{DiskItem, Disk, no_disk, item_at, nothing, with_item, folder_of, reachable, Lost}
use Rattle.gix_ref_files.specs.Losing.{last_synced, kept, chosen, lost_by, all_synced}
use Rattle.gix_ref_files.proofs.Losing.{choices}
use Rattle.gix_ref_files.proofs.Puts.{same_tree}
use Rattle.gix_ref_memory.specs.Changes.{after_changes, changed_on, replayed, disk_is, put_item, with_item_as, content_of, IsChangedPath, place_of}
use Rattle.gix_ref_memory.specs.internal.Power.{DiskEntry, no_entry, entered, settled, with_now, entry_after, disk_entry, choice, IsChoice, Names, IsNamedByChange, AreSynced, Fills, IsReachable}
use Rattle.gix_ref_memory.specs.declared.memory.changes.Change.{Change}
use Rattle.gix_ref_memory.specs.declared.memory.changes.Change.TheVariants.{Put, Append, Move, SyncFile, SyncFolder}
use Rattle.gix_ref_memory.proofs.Grows.{disk}
use Rattle.gix_ref_memory.proofs.Placed.{placed}

abbrev some_past : List DiskItem → Bool
some_past [] = false
some_past (item ∷ past) = true

-- the entry at q, as it is now and was since its folder's last sync
record Knows (item : DiskItem) (past : List DiskItem) (e : DiskEntry) : Type 0 where
  pub now : item ≡ e.now
  pub last : last_synced item past ≡ (if e.is_new then e.last else e.now)
  pub new : some_past past ≡ e.is_new

abbrev KnowsAt : Disk → Path → DiskEntry → Type 0
KnowsAt D q e = Knows (item_at D q) (D.unsynced.past q) e

-- it becomes another
becomes : (item old : DiskItem) (past : List DiskItem) (e : DiskEntry) → Knows old past e → Knows item (old ∷ past) (entered item e)
becomes item old past e k = record { now = refl; last = k.last; new = refl }

-- it is the same with another item
still : (item old : DiskItem) (past : List DiskItem) (e : DiskEntry) → Knows old past e → Knows item past (with_now item e)
still item old past e k = by past (e.is_new) k.last k.new
  where
    by : (past : List DiskItem) (b : Bool) → last_synced old past ≡ (if b then e.last else e.now) → some_past past ≡ b → Knows item past (record { now = item; last = e.last; is_new = b })
    by [] true last new = absurd (true≢false (sym new))
    by [] false last new = record { now = refl; last = refl; new = refl }
    by (x ∷ past) true last new = record { now = refl; last = last; new = refl }
    by (x ∷ past) false last new = absurd (true≢false new)

rests : (item : DiskItem) → Knows item [] (settled item)
rests item = record { now = refl; last = refl; new = refl }

-- One change.

stepped : (D : Disk) (p q : Path) (item : DiskItem) (e : DiskEntry) → KnowsAt D q e → KnowsAt (with_item D p item) q (if bytes_eq p q then entered item e else e)
stepped D p q item e k = by (bytes_eq p q) refl
  where
    by : (b : Bool) → bytes_eq p q ≡ b →
        Knows (record { content = if b then item.content else D.tree q; synced = if b then item.synced else D.unsynced.synced q }) (if b then item_at D p ∷ D.unsynced.past p else D.unsynced.past q) (if b then entered item e else e)
    by true eq = becomes item (item_at D p) (D.unsynced.past p) e (subst (λ (x : Path). KnowsAt D x e) (sym ((bytes_eq-Decides p q).0 eq)) k)
    by false ne = k

placed_synced : (D : Disk) (p q : Path) (item : DiskItem) (e : DiskEntry) → KnowsAt D q e → KnowsAt (with_item_as true D p item) q (if bytes_eq p q then settled item else e)
placed_synced D p q item e k = by (bytes_eq p q)
  where
    by : (b : Bool) →
        Knows (record { content = if b then item.content else D.tree q; synced = if b then item.synced else D.unsynced.synced q }) (if b then [] else D.unsynced.past q) (if b then settled item else e)
    by true = rests item
    by false = k

one : (change : Change) (D : Disk) (q : Path) (e : DiskEntry) → KnowsAt D q e → KnowsAt (changed_on change D) q (entry_after change q e)
one (Put path stored true) D q e k = placed_synced D path.items q (put_item stored true) e k
one (Put path stored false) D q e k = stepped D path.items q (put_item stored false) e k
one (Append path whole had) D q e k = by (bytes_eq path.items q)
  where
    by : (b : Bool) → Knows (record { content = if b then Some (File whole.items) else D.tree q; synced = D.unsynced.synced q }) (D.unsynced.past q)
        (if b then with_now (record { content = Some (File whole.items); synced = e.now.synced }) e else e)
    by true = subst (λ (n : ℕ). Knows (record { content = Some (File whole.items); synced = D.unsynced.synced q }) (D.unsynced.past q) (with_now (record { content = Some (File whole.items); synced = n }) e)) (ap (λ (i : DiskItem). i.synced) k.now)
        (still (record { content = Some (File whole.items); synced = D.unsynced.synced q }) (item_at D q) (D.unsynced.past q) e k)
    by false = k
one (Move from to bytes n) D q e k =
    stepped (with_item D from.items nothing) to.items q (record { content = Some (File bytes.items); synced = n }) (if bytes_eq from.items q then entered nothing e else e) (stepped D from.items q nothing e k)
one (SyncFile path) D q e k = by (bytes_eq path.items q) refl
  where
    by : (b : Bool) → bytes_eq path.items q ≡ b → Knows (record { content = D.tree q; synced = if b then length (bytes_of (D.tree path.items)) else D.unsynced.synced q }) (D.unsynced.past q)
        (if b then with_now (record { content = e.now.content; synced = length (bytes_of e.now.content) }) e else e)
    by true eq =
        let same : path.items ≡ q = (bytes_eq-Decides path.items q).0 eq in
        subst (λ (x : Path). Knows (record { content = D.tree q; synced = length (bytes_of (D.tree x)) }) (D.unsynced.past q) (with_now (record { content = e.now.content; synced = length (bytes_of e.now.content) }) e)) (sym same)
        (subst (λ (c : Option Content). Knows (record { content = D.tree q; synced = length (bytes_of (D.tree q)) }) (D.unsynced.past q) (with_now (record { content = c; synced = length (bytes_of c) }) e)) (ap (λ (i : DiskItem). i.content) k.now)
        (still (record { content = D.tree q; synced = length (bytes_of (D.tree q)) }) (item_at D q) (D.unsynced.past q) e k))
    by false ne = k
one (SyncFolder path) D q e k = by (bytes_eq path.items (folder_of q))
  where
    by : (b : Bool) → Knows (item_at D q) (if b then [] else D.unsynced.past q) (if b then settled e.now else e)
    by true = subst (λ (i : DiskItem). Knows (item_at D q) [] (settled i)) k.now (rests (item_at D q))
    by false = k

known : (changes : List Change) (D : Disk) (q : Path) (e : DiskEntry) → KnowsAt D q e → KnowsAt (replayed changes D) q (disk_entry changes q e)
known [] D q e k = k
known (change ∷ changes) D q e k = known changes (changed_on change D) q (entry_after change q e) (one change D q e k)

known_now : (changes : List Change) (q : Path) → KnowsAt (disk changes) q (disk_entry changes q no_entry)
known_now changes q = subst (λ (D : Disk). KnowsAt D q (disk_entry changes q no_entry)) (sym (disk_is changes)) (known changes no_disk q no_entry (rests nothing))

-- so a choice of an entry is one of the disk
choice_is : (changes : List Change) (q : Path) (entry end : Bool) → choice (disk_entry changes q no_entry) entry end ≡ kept end (if entry then item_at (disk changes) q else last_synced (item_at (disk changes) q) ((disk changes).unsynced.past q))
choice_is changes q entry end =
    let k = known_now changes q in
    ap (λ (i : DiskItem). kept end (if entry then i else (if (disk_entry changes q no_entry).is_new then (disk_entry changes q no_entry).last else (disk_entry changes q no_entry).now))) (sym k.now)
    ∙ ap (λ (i : DiskItem). kept end (if entry then item_at (disk changes) q else i)) (sym k.last)

-- The tree that is left.

abbrev AllChosen : List Change → ℕ → Tree → Type 0
AllChosen changes pick T = (q : Path) → IsChoice changes pick q (T q)

chosen_is : (changes : List Change) (pick : ℕ) (T : Tree) (all : AllChosen changes pick T) → T ≡ chosen (λ p. (all p).entry) (λ p. (all p).end) (disk changes)
chosen_is changes pick T all = same_tree (λ q. (all q).is ∙ choice_is changes q (all q).entry (all q).end)

pub is_lost : (changes : List Change) (pick : ℕ) (T left : Tree) → AllChosen changes pick T → left ≡ reachable T → Lost (disk changes) left
is_lost changes pick T left all is =
    subst (Lost (disk changes)) (sym (is ∙ ap reachable (chosen_is changes pick T all))) (choices (λ p. (all p).entry) (λ p. (all p).end) (disk changes))

pub none_kept : (changes : List Change) (pick : ℕ) (T left : Tree) → pick ≡ 0 → AllChosen changes pick T → left ≡ reachable T → left ≡ lost_by (λ p. false) (λ p. false) (disk changes)
none_kept changes pick T left zero all is =
    is ∙ ap reachable (same_tree (λ q.
    (all q).is ∙ (choice_is changes q (all q).entry (all q).end
    ∙ (ap (λ (b : Bool). kept (all q).end (if b then item_at (disk changes) q else last_synced (item_at (disk changes) q) ((disk changes).unsynced.past q))) ((all q).none zero).0
    ∙ ap (λ (b : Bool). kept b (last_synced (item_at (disk changes) q) ((disk changes).unsynced.past q))) ((all q).none zero).1))))

-- Paths that no change names.

abbrev QuietOr : Type 0 → DiskEntry → Type 0
QuietOr Named e = Named ⊎ ((e.now ≡ nothing) × (e.is_new ≡ false))

named_one : (change : Change) (q : Path) (e : DiskEntry) → (e.now ≡ nothing) × (e.is_new ≡ false) → QuietOr (Names change q) (entry_after change q e)
named_one (Put path stored synced) q e calm = by (bytes_eq path.items q) refl
  where
    by : (b : Bool) → bytes_eq path.items q ≡ b → QuietOr (path.items ≡ q) (if b then (if synced then settled (put_item stored synced) else entered (put_item stored synced) e) else e)
    by true eq = inl ((bytes_eq-Decides path.items q).0 eq)
    by false ne = inr calm
named_one (Append path whole had) q e calm = by (bytes_eq path.items q) refl
  where
    by : (b : Bool) → bytes_eq path.items q ≡ b → QuietOr (path.items ≡ q) (if b then with_now (record { content = Some (File whole.items); synced = e.now.synced }) e else e)
    by true eq = inl ((bytes_eq-Decides path.items q).0 eq)
    by false ne = inr calm
named_one (Move from to bytes n) q e calm = by (bytes_eq from.items q) (bytes_eq to.items q) refl refl
  where
    by : (a b : Bool) → bytes_eq from.items q ≡ a → bytes_eq to.items q ≡ b →
        QuietOr ((from.items ≡ q) ⊎ (to.items ≡ q)) (if b then entered (record { content = Some (File bytes.items); synced = n }) (if a then entered nothing e else e) else (if a then entered nothing e else e))
    by true b eq other = inl (inl ((bytes_eq-Decides from.items q).0 eq))
    by false true ne eq = inl (inr ((bytes_eq-Decides to.items q).0 eq))
    by false false ne other = inr calm
named_one (SyncFile path) q e calm = by (bytes_eq path.items q) refl
  where
    by : (b : Bool) → bytes_eq path.items q ≡ b → QuietOr (path.items ≡ q) (if b then with_now (record { content = e.now.content; synced = length (bytes_of e.now.content) }) e else e)
    by true eq = inl ((bytes_eq-Decides path.items q).0 eq)
    by false ne = inr calm
named_one (SyncFolder path) q e calm = by (bytes_eq path.items (folder_of q))
  where
    by : (b : Bool) → QuietOr (path.items ≡ q) (if b then settled e.now else e)
    by true = inr (calm.0, refl)
    by false = inr calm

named : (changes : List Change) (q : Path) (e : DiskEntry) → (e.now ≡ nothing) × (e.is_new ≡ false) → QuietOr (IsNamedByChange changes q) (disk_entry changes q e)
named [] q e calm = inr calm
named (change ∷ changes) q e calm =
    ⊎_elim (λ here. inl (inl here)) (λ still_calm. ⊎_elim (λ later. inl (inr later)) (λ end. inr end) (named changes q (entry_after change q e) still_calm)) (named_one change q e calm)

-- of nothing nothing is left
nothing_left : (e : DiskEntry) → (e.now ≡ nothing) × (e.is_new ≡ false) → None ≡ choice e false false
nothing_left e calm =
    ap (λ (i : DiskItem). kept false i) (sym calm.0) ∙ ap (λ (b : Bool). kept false (if b then e.last else e.now)) (sym calm.1)

-- Filling.

pub fills_more : (Good : Path → Option Content → Type 0) (A B C : Path → Type 0) (old mid new : List Change) → Fills Good A old mid → Fills Good B mid new → ((q : Path) → C q → A q ⊎ B q) → Fills Good C old new
fills_more Good A B C old mid new first second wider = record {
  choice = λ q c. ⊎_elim (λ a. ⊎_elim (λ same. subst (Good q) (sym same) (first.choice q a)) (λ good. good) (second.other q)) (λ b. second.choice q b) (wider q c);
  other = λ q. ⊎_elim (λ same. ⊎_elim (λ before. inl (same ∙ before)) (λ good. inr (subst (Good q) (sym same) good)) (first.other q)) (λ good. inr good) (second.other q);
  synced = λ s. second.synced (first.synced s);
}

-- one change after others
pub named_snoc : (changes : List Change) (change : Change) (q : Path) → IsNamedByChange (changes ++ change ∷ []) q → IsNamedByChange changes q ⊎ Names change q
named_snoc [] change q (inl here) = inr here
named_snoc [] change q (inr none) = absurd none
named_snoc (first ∷ changes) change q (inl here) = inl (inl here)
named_snoc (first ∷ changes) change q (inr later) = ⊎_elim (λ old. inl (inr old)) (λ here. inr here) (named_snoc changes change q later)

pub placed_snoc : (changes : List Change) (change : Change) (q : Path) → IsChangedPath (changes ++ change ∷ []) q → IsChangedPath changes q ⊎ (place_of change ≡ q)
placed_snoc [] change q (inl here) = inr here
placed_snoc [] change q (inr none) = absurd none
placed_snoc (first ∷ changes) change q (inl here) = inl (inl here)
placed_snoc (first ∷ changes) change q (inr later) = ⊎_elim (λ old. inl (inr old)) (λ here. inr here) (placed_snoc changes change q later)

-- once all paths that changes name are filled, all are
pub all_chosen : (changes left : List Change) (pick : ℕ) → Fills (IsChoice changes pick) (IsNamedByChange changes) [] left → AllChosen changes pick (after_changes left no_tree)
all_chosen changes left pick fills q =
    ⊎_elim (λ named_q. fills.choice q named_q)
    (λ calm. ⊎_elim (λ same. record { entry = false; end = false; none = λ zero. (refl, refl); is = same ∙ nothing_left (disk_entry changes q no_entry) calm }) (λ good. good) (fills.other q))
    (named changes q no_entry (refl, refl))

pub all_reached : (entries_ left : List Change) → Fills (IsReachable (after_changes entries_ no_tree)) (IsChangedPath entries_) [] left → after_changes left no_tree ≡ reachable (after_changes entries_ no_tree)
all_reached entries_ left fills = same_tree (λ q. by q (after_changes entries_ no_tree q) refl)
  where
    unreached : (q : Path) → after_changes entries_ no_tree q ≡ None → None ≡ reachable (after_changes entries_ no_tree) q
    unreached q none = sub (has_folders (after_changes entries_ no_tree) q)
      where
        sub : (b : Bool) → None ≡ (if b then after_changes entries_ no_tree q else None)
        sub true = sym none
        sub false = refl

    by : (q : Path) (c : Option Content) → after_changes entries_ no_tree q ≡ c → after_changes left no_tree q ≡ reachable (after_changes entries_ no_tree) q
    by q None none = ⊎_elim (λ same. same ∙ unreached q none) (λ good. good) (fills.other q)
    by q (Some c) some = fills.choice q (placed entries_ q (subst (λ (o : Option Content). Rattle.std.specs.Prelude.IsSome o) (sym some) refl))

-- What is put as synced is all synced.

synced_push : (changes : List Change) (change : Change) → AreSynced changes → AreSynced (change ∷ []) → AreSynced (changes ++ change ∷ [])
synced_push [] change s t = t
synced_push (Put path stored b ∷ changes) change s t = (s.0, synced_push changes change s.1 t)
synced_push (Append path whole had ∷ changes) change s t = absurd s
synced_push (Move from to bytes n ∷ changes) change s t = absurd s
synced_push (SyncFile path ∷ changes) change s t = absurd s
synced_push (SyncFolder path ∷ changes) change s t = absurd s

pub put_pushed : (old now : List Change) (change : Change) → now ≡ old ++ change ∷ [] → AreSynced (change ∷ []) → AreSynced old → AreSynced now
put_pushed old now change is t s = subst AreSynced (sym is) (synced_push old change s t)

abbrev no_items : List DiskItem
no_items = []

-- functions that agree at each path are one
same_sizes : (f g : Path → ℕ) → ((q : Path) → f q ≡ g q) → f ≡ g
same_sizes f g agree = λ i q. agree q i

same_pasts : (f g : Path → List DiskItem) → ((q : Path) → f q ≡ g q) → f ≡ g
same_pasts f g agree = λ i q. agree q i

-- putting as synced on a disk that is all synced
synced_put : (T : Tree) (p : Path) (content : Option Content) → with_item_as true (all_synced T) p (record { content = content; synced = length (bytes_of content) }) ≡ all_synced (put T p content)
synced_put T p content =
    let before : Path → List DiskItem = λ q. if bytes_eq p q then [] else [] in
    let old : Path → ℕ = λ q. if bytes_eq p q then length (bytes_of content) else length (bytes_of (T q)) in
    let new : Path → ℕ = λ q. length (bytes_of (put T p content q)) in
    let sizes : (q : Path) → old q ≡ new q = λ q. lengths q (bytes_eq p q) in
    let pasts : (q : Path) → before q ≡ [] = λ q. none q (bytes_eq p q) in
    ap (λ (f : Path → ℕ). of f before) (same_sizes old new sizes) ∙ ap (λ (f : Path → List DiskItem). of new f) (same_pasts before (λ q. []) pasts)
  where
    lengths : (q : Path) (b : Bool) → (if b then length (bytes_of content) else length (bytes_of (T q))) ≡ length (bytes_of (if b then content else T q))
    lengths q true = refl
    lengths q false = refl

    none : (q : Path) (b : Bool) → (if b then no_items else no_items) ≡ no_items
    none q true = refl
    none q false = refl

    of : (Path → ℕ) → (Path → List DiskItem) → Disk
    of synced past = record { tree = put T p content; unsynced = record { synced = synced; past = past } }

all_puts : (changes : List Change) (T : Tree) → AreSynced changes → replayed changes (all_synced T) ≡ all_synced (after_changes changes T)
all_puts [] T s = refl
all_puts (Put path stored false ∷ changes) T s = absurd (true≢false (sym s.0))
all_puts (Put path stored true ∷ changes) T s = ap (replayed changes) (synced_put T path.items (content_of stored)) ∙ all_puts changes (put T path.items (content_of stored)) s.1
all_puts (Append path whole had ∷ changes) T s = absurd s
all_puts (Move from to bytes n ∷ changes) T s = absurd s
all_puts (SyncFile path ∷ changes) T s = absurd s
all_puts (SyncFolder path ∷ changes) T s = absurd s

pub is_settled : (changes : List Change) → AreSynced changes → disk changes ≡ all_synced (after_changes changes no_tree)
is_settled changes s = disk_is changes ∙ all_puts changes no_tree s
