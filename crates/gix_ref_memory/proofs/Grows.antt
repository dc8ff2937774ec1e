-- One change more.
use Rattle.std.proofs.Common.{◌≡◌, ◌⊎◌, inl, inr, ⊎_elim, ℕ, zero, suc, ◌+◌, ◌≤◌, List, [], ◌∷◌, ◌++◌, length, take, Vec, Option, Some, None, Bool, true, false, refl, sym, ◌∙◌, ap, subst, arith, length-append}
use Rattle.std.specs.Prelude.{is_some, if◌then◌else◌}
use Rattle.std.proofs.Math.Seq.{take-append-add, take-length}
use Rattle.std.specs.declared.alloc.Global.{Global}
use Rattle.gix_ref_files.specs.Tree.{Tree, Path, Content, put, more, is_file, no_tree, bytes_of}
use Rattle.gix_ref_files.specs.Tree.Content.{File}
use Rattle.gix_ref_files.specs.Disk.{Disk, DiskItem, no_disk, nothing, with_tree, with_item, appended_on, moved_on, file_synced, folder_synced}
use Rattle.gix_ref_files.specs.Files.{disk_of, Passes, AddsDisks}
use Rattle.gix_ref_files.specs.DiskCalls.{BeforeOrAfterOn, AppendingOn, SyncingOn}
use Rattle.gix_ref_files.proofs.Moments.{passes_starts, passes_weaken}
use Rattle.gix_ref_memory.specs.Changes.{contents_after, changed, after_changes, changed_on, replayed, disk_is, Begun, Found, meaning_after, content_of, found_content, with_item_as}
use Rattle.gix_ref_memory.specs.Laws.{disk_is_found}
use Rattle.gix_ref_memory.specs.declared.memory.changes.Stored.{Stored}
use Rattle.gix_ref_memory.specs.declared.memory.changes.Present.{Present}
use Rattle.gix_ref_memory.specs.declared.memory.changes.Change.{Change}
use Rattle.gix_ref_memory.specs.declared.memory.changes.Change.TheVariants.{Put, Append, Move, SyncFile, SyncFolder}

-- what is at a path in the end
pub after_is : (changes : List Change) (T : Tree) (q : Path) → after_changes changes T q ≡ contents_after changes q (T q)
after_is [] T q = refl
after_is (change ∷ changes) T q = after_is changes (changed change T) q

pub after_push : (changes : List Change) (change : Change) (T : Tree) → after_changes (changes ++ change ∷ []) T ≡ changed change (after_changes changes T)
after_push [] change T = refl
after_push (first ∷ changes) change T = after_push changes change (changed first T)

-- the disk that changes make
abbrev pub disk : List Change → Disk
disk changes = disk_of (meaning_after changes)

replayed_push : (changes : List Change) (change : Change) (D : Disk) → replayed (changes ++ change ∷ []) D ≡ changed_on change (replayed changes D)
replayed_push [] change D = refl
replayed_push (first ∷ changes) change D = replayed_push changes change (changed_on first D)

pub disk_push : (changes : List Change) (change : Change) → disk (changes ++ change ∷ []) ≡ changed_on change (disk changes)
disk_push changes change = disk_is (changes ++ change ∷ []) ∙ (replayed_push changes change no_disk ∙ ap (changed_on change) (sym (disk_is changes)))

not_begun : (change : Change) (D : Disk) → Begun change D D
not_begun (Put path stored synced) D = refl
not_begun (Append path whole had) D = inl refl
not_begun (Move from to bytes synced) D = refl
not_begun (SyncFile path) D = refl
not_begun (SyncFolder path) D = refl

kept : (changes : List Change) (change : Change) (t : ℕ) (D E : Disk) → t ≤ length changes → Found changes t D E → Found (changes ++ change ∷ []) t D E
kept [] change zero D E le now = inl (subst (λ (X : Disk). Begun change D X) (sym now) (not_begun change D))
kept [] change (suc t) D E le now = absurd (omega arith)
kept (first ∷ changes) change zero D E le (inl begun) = inl begun
kept (first ∷ changes) change zero D E le (inr later) = inr (kept changes change zero (changed_on first D) E (omega arith) later)
kept (first ∷ changes) change (suc t) D E le later = kept changes change t (changed_on first D) E (omega arith) later

-- in the newest change or after it
abbrev Newest : List Change → Change → Disk → Disk → Type 0
Newest changes change D E = Begun change (replayed changes D) E ⊎ (E ≡ changed_on change (replayed changes D))

new : (changes : List Change) (change : Change) (t : ℕ) (D E : Disk) → t ≤ length changes → Found (changes ++ change ∷ []) t D E → Found changes t D E ⊎ Newest changes change D E
new [] change zero D E le now = inr now
new [] change (suc t) D E le now = absurd (omega arith)
new (first ∷ changes) change zero D E le (inl begun) = inl (inl begun)
new (first ∷ changes) change zero D E le (inr later) = ⊎_elim (λ old. inl (inr old)) (λ now. inr now) (new changes change zero (changed_on first D) E (omega arith) later)
new (first ∷ changes) change (suc t) D E le later = new changes change t (changed_on first D) E (omega arith) later

-- a change more
pub pushed : (changes : List Change) (change : Change) (P : Disk → Type 0) → ((E : Disk) → Begun change (disk changes) E → P E) → P (changed_on change (disk changes)) → Passes (meaning_after changes) (meaning_after (changes ++ change ∷ [])) P
pushed changes change P begun whole = record {
  disk = subst P (sym (disk_push changes change)) whole;
  later = omega (arith, length-append changes (change ∷ []));
  since = λ t E le at. ⊎_elim (λ old. inl old) (λ now. inr (⊎_elim (λ b. begun E (subst (λ (X : Disk). Begun change X E) (sym (disk_is changes)) b))
      (λ is. subst P (sym (is ∙ ap (changed_on change) (sym (disk_is changes)))) whole) now)) (new changes change t no_disk E le at);
  keeps = λ t E le old. kept changes change t no_disk E le old;
}

-- What one change more does: what is found in it, the disk after it, and its tree.
pub record Grew (old now : List Change) (P : Disk → Type 0) (after_it : Disk) : Type 0 where
  pub passes : Passes (meaning_after old) (meaning_after now) P
  pub disk_is : disk now ≡ after_it
  pub tree_is : after_changes now no_tree ≡ after_it.tree

pub grew : (old now : List Change) (change : Change) (P : Disk → Type 0) (E : Disk) → now ≡ old ++ change ∷ [] → ((F : Disk) → Begun change (disk old) F → P F) → changed_on change (disk old) ≡ E → P E → Grew old now P E
grew old now change P E is begun whole here =
    let same : disk now ≡ E = ap disk is ∙ (disk_push old change ∙ whole) in
    record {
      passes = subst (λ (l : List Change). Passes (meaning_after old) (meaning_after l) P) (sym is) (pushed old change P begun (subst P (sym whole) here));
      disk_is = same;
      tree_is = ap (λ (D : Disk). D.tree) same;
    }

-- no change
pub same_changes : (old now : List Change) (P : Disk → Type 0) → now ≡ old → P (disk old) → Passes (meaning_after old) (meaning_after now) P
same_changes old now P is here = subst (λ (l : List Change). Passes (meaning_after old) (meaning_after l) P) (sym is) (passes_starts (meaning_after old) P here)

-- the file at a path with these bytes
abbrev refill : Disk → Path → List ℕ → Disk
refill D p bytes = with_tree D (put D.tree p (Some (File bytes)))

-- what is found in an append
part_of : (D : Disk) (path : Vec ℕ Global) (whole : Vec ℕ Global) (had n : ℕ) (p old bytes : List ℕ) → path.items ≡ p → whole.items ≡ old ++ bytes → had ≡ length old → Some (File old) ≡ D.tree p → refill D path.items (take (had + n) whole.items) ≡ appended_on D p (take n bytes)
part_of D path whole had n p old bytes at is size stood =
    let part : take (had + n) whole.items ≡ old ++ take n bytes =
    ap (λ (l : List ℕ). take (had + n) l) is ∙ ap (λ (k : ℕ). take (k + n) (old ++ bytes)) size ∙ take-append-add old bytes n in
    ap (λ (q : Path). refill D q (take (had + n) whole.items)) at
    ∙ (ap (λ (l : List ℕ). refill D p l) part
    ∙ ap (λ (node : Option Content). with_tree D (put D.tree p (more node (take n bytes)))) stood)

whole_append : (D : Disk) (path : Vec ℕ Global) (whole : Vec ℕ Global) (had : ℕ) (p old bytes : List ℕ) → path.items ≡ p → whole.items ≡ old ++ bytes → Some (File old) ≡ D.tree p → changed_on (Append path whole had) D ≡ appended_on D p bytes
whole_append D path whole had p old bytes at is stood =
    ap (λ (q : Path). refill D q whole.items) at
    ∙ (ap (λ (l : List ℕ). refill D p l) is
    ∙ ap (λ (node : Option Content). with_tree D (put D.tree p (more node bytes))) stood)

-- an append more
pub append_more : (old_changes now : List Change) (path whole : Vec ℕ Global) (had : ℕ) (p old bytes : List ℕ) → path.items ≡ p → whole.items ≡ old ++ bytes → had ≡ length old → Some (File old) ≡ after_changes old_changes no_tree p → now ≡ old_changes ++ Append path whole had ∷ [] → Grew old_changes now (AppendingOn (disk old_changes) p bytes) (appended_on (disk old_changes) p bytes)
append_more old_changes now path whole had p old bytes at is size stood grown =
    let D = disk old_changes in
    let file : is_file (D.tree p) ≡ true = ap is_file (sym stood) in
    grew old_changes now (Append path whole had) (AppendingOn D p bytes) (appended_on D p bytes) grown
    (λ F begun. ⊎_elim (λ none. inl none) (λ some. inr (file, (some.0, some.1 ∙ part_of D path whole had some.0 p old bytes at is size stood))) begun)
    (whole_append D path whole had p old bytes at is stood)
    (inr (file, (length bytes, ap (λ (l : List ℕ). appended_on D p l) (sym (take-length bytes)))))

-- one path changed
pub put_more : (old now : List Change) (Allowed : Type 0) (path : Vec ℕ Global) (stored : Option Stored) (synced : Bool) (p : Path) (content : Option Content) → Allowed → path.items ≡ p → content_of stored ≡ content → now ≡ old ++ Put path stored synced ∷ [] → Grew old now (BeforeOrAfterOn (disk old) Allowed (with_item_as synced (disk old) p (record { content = content; synced = if synced then length (bytes_of content) else 0 }))) (with_item_as synced (disk old) p (record { content = content; synced = if synced then length (bytes_of content) else 0 }))
put_more old now Allowed path stored synced p content allowed at is grown =
    let D = disk old in
    let item : Option Content → DiskItem = λ c. record { content = c; synced = if synced then length (bytes_of c) else 0 } in
    grew old now (Put path stored synced) (BeforeOrAfterOn D Allowed (with_item_as synced D p (item content))) (with_item_as synced D p (item content)) grown
    (λ F none. inl none)
    (ap (λ (q : Path). with_item_as synced D q (item (content_of stored))) at ∙ ap (λ (n : Option Content). with_item_as synced D p (item n)) is)
    (inr (allowed, refl))

-- one file moved
pub move_more : (old now : List Change) (Allowed : Type 0) (from to bytes : Vec ℕ Global) (n : ℕ) (p q : Path) (stood : List ℕ) → Allowed → from.items ≡ p → to.items ≡ q → bytes.items ≡ stood → Some (File stood) ≡ after_changes old no_tree p → n ≡ (disk old).unsynced.synced p → now ≡ old ++ Move from to bytes n ∷ [] → Grew old now (BeforeOrAfterOn (disk old) Allowed (moved_on (disk old) p q)) (moved_on (disk old) p q)
move_more old now Allowed from to bytes n p q stood allowed at_from at_to is there count grown =
    let D = disk old in
    let two : Path → Path → DiskItem → Disk = λ x y item. with_item (with_item D x nothing) y item in
    let item : Option Content → ℕ → DiskItem = λ c k. record { content = c; synced = k } in
    grew old now (Move from to bytes n) (BeforeOrAfterOn D Allowed (moved_on D p q)) (moved_on D p q) grown
    (λ F none. inl none)
    (ap (λ (x : Path). two x to.items (item (Some (File bytes.items)) n)) at_from
    ∙ (ap (λ (y : Path). two p y (item (Some (File bytes.items)) n)) at_to
    ∙ (ap (λ (l : List ℕ). two p q (item (Some (File l)) n)) is
    ∙ (ap (λ (c : Option Content). two p q (item c n)) there
    ∙ ap (λ (k : ℕ). two p q (item (D.tree p) k)) count))))
    (inr (allowed, refl))

-- a sync more
pub file_sync_more : (old now : List Change) (path : Vec ℕ Global) (p : Path) → path.items ≡ p → now ≡ old ++ SyncFile path ∷ [] → is_file (after_changes old no_tree p) ≡ true → Grew old now (SyncingOn true (disk old) (file_synced (disk old) p)) (file_synced (disk old) p)
file_sync_more old now path p at grown there =
    grew old now (SyncFile path) (SyncingOn true (disk old) (file_synced (disk old) p)) (file_synced (disk old) p) grown
    (λ F none. inl none) (ap (file_synced (disk old)) at) (inr (refl, refl))

pub folder_sync_more : (old now : List Change) (path : Vec ℕ Global) (p : Path) → path.items ≡ p → now ≡ old ++ SyncFolder path ∷ [] → Grew old now (SyncingOn true (disk old) (folder_synced (disk old) p)) (folder_synced (disk old) p)
folder_sync_more old now path p at grown =
    grew old now (SyncFolder path) (SyncingOn true (disk old) (folder_synced (disk old) p)) (folder_synced (disk old) p) grown
    (λ F none. inl none) (ap (folder_synced (disk old)) at) (inr (refl, refl))

pub nothing_found : (found : Option Present) (what : Option Content) → is_some found ≡ false → found_content found ≡ what → what ≡ None
nothing_found None what none is = sym is
nothing_found (Some present) what some is = cc

-- what is found in the newest change is found since any moment
newest_found : (changes : List Change) (change : Change) (t : ℕ) (D E : Disk) → t ≤ length changes → Begun change (replayed changes D) E → Found (changes ++ change ∷ []) t D E
newest_found [] change zero D E le begun = inl begun
newest_found [] change (suc t) D E le begun = absurd (omega arith)
newest_found (first ∷ changes) change zero D E le begun = inr (newest_found changes change zero (changed_on first D) E (omega arith) begun)
newest_found (first ∷ changes) change (suc t) D E le begun = newest_found changes change t (changed_on first D) E (omega arith) begun

-- an append adds every beginning of its bytes
pub append_adds : (old_changes now : List Change) (path whole : Vec ℕ Global) (had : ℕ) (p old bytes : List ℕ) → path.items ≡ p → whole.items ≡ old ++ bytes → had ≡ length old → Some (File old) ≡ after_changes old_changes no_tree p → now ≡ old_changes ++ Append path whole had ∷ [] → AddsDisks (meaning_after old_changes) (meaning_after now) (AppendingOn (disk old_changes) p bytes)
append_adds old_changes now path whole had p old bytes at is size stood grown t E le some =
    let D = disk old_changes in
    subst (λ (l : List Change). Found l t no_disk E) (sym grown)
    (newest_found old_changes (Append path whole had) t no_disk E le
    (subst (λ (X : Disk). Begun (Append path whole had) X E) (disk_is old_changes)
    (⊎_elim (λ none. inl none) (λ grows. inr (grows.1.0, grows.1.1 ∙ sym (part_of D path whole had grows.1.0 p old bytes at is size stood))) some)))

-- what an append that isn't made adds
pub nothing_adds : (changes now : List Change) (p : Path) (bytes : List ℕ) → is_file (after_changes changes no_tree p) ≡ false → now ≡ changes → AddsDisks (meaning_after changes) (meaning_after now) (AppendingOn (disk changes) p bytes)
nothing_adds changes now p bytes none is t E le some =
    subst (λ (l : List Change). Found l t no_disk E) (sym is)
    (⊎_elim (λ same. subst (Found changes t no_disk) (sym same) (disk_is_found changes t)) (λ grows. absurd (clash (sym none ∙ grows.0))) some)
  where
    clash : false ≡ true → ⊥
    clash e = cc

-- a front of a front is a front
shorter : (n m : ℕ) (xs : List ℕ) → (k : ℕ) × (take n (take m xs) ≡ take k xs)
shorter zero m xs = (0, refl)
shorter (suc n) zero xs = (0, refl)
shorter (suc n) (suc m) [] = (0, refl)
shorter (suc n) (suc m) (x ∷ xs) = let rest = shorter n m xs in (suc rest.0, ap (λ (l : List ℕ). x ∷ l) rest.1)

-- what is found in an append of some of the bytes
pub append_part : (old new : List Change) (D : Disk) (p : Path) (bytes : List ℕ) (m : ℕ) → Passes (meaning_after old) (meaning_after new) (AppendingOn D p (take m bytes)) → Passes (meaning_after old) (meaning_after new) (AppendingOn D p bytes)
append_part old new D p bytes m run =
    passes_weaken run (λ E. ⊎_elim (λ none. inl none) (λ grows. let k = shorter grows.1.0 m bytes in inr (grows.0, (k.0, grows.1.1 ∙ ap (λ (l : List ℕ). appended_on D p l) k.1))))
