-- A folder that is there after the removals of all that was below it: a file was written below it since.
use Rattle.std.proofs.Common.{◌≡◌, ◌⊎◌, inl, inr, ⊎_elim, ℕ, zero, suc, ◌+◌, ◌<◌, ◌≤◌, List, [], ◌∷◌, ◌++◌, length, length-append, true, false, Option, Some, None, IsSome, refl, sym, ◌∙◌, ap, subst, arith, append_assoc, All, AllPairs, Contains, get_or}
use Rattle.std.specs.Prelude.{bytes_eq, codes}
use Rattle.std.proofs.lemmas.List.{append-nil, get_or-append-add, get_or_at}
use Rattle.gix_ref_target.specs.Layout.{LiesIn}
use Rattle.gix_ref_files.specs.Calls.{IsEntryName}
use Rattle.gix_ref_files.specs.Disk.{folder_of}
use Rattle.gix_ref_files.specs.Lock.{lock_of}
use Rattle.gix_ref_files.specs.Settled.{IsIn}
use Rattle.gix_ref_files.specs.Steps.{Step, Does, IsAfter}
use Rattle.gix_ref_files.specs.Steps.Step.{Line, MakeFolders, Rename, RemoveFolder}
use Rattle.gix_ref_files.specs.Tree.{Tree, Path, Content, folders_to, fronts, is_file, is_folder, more, put, with_folders}
use Rattle.gix_ref_files.specs.Tree.Content.{File, Folder}
use Rattle.gix_ref_files.proofs.FolderOf.{fronts_of_folder}
use Rattle.gix_ref_files.proofs.Puts.{put_at, put_other}
use Rattle.gix_ref_files.proofs.Settling.{front_splits}
use Rattle.gix_ref_lookup.specs.declared.folders.Dirs.{Dirs}
use Rattle.gix_ref_packed_text.specs.declared.outcome.Rewrite.{Rewrite}
use Rattle.gix_ref_packed_text.specs.declared.outcome.Rewrite.TheVariants.{Unchanged, Removed, Text}
use Rattle.gix_ref_transaction.specs.declared.edit.Edit.{Edit}
use Rattle.gix_ref_transaction.specs.declared.edit.Effect.{Effect}
use Rattle.gix_ref_transaction.specs.declared.edit.Effect.TheVariants as effects
use Rattle.gix_ref_transaction.specs.declared.edit.LogEffect.{LogEffect}
use Rattle.gix_ref_transaction.specs.declared.edit.LogEffect.TheVariants as logs
use Rattle.gix_ref_transaction.proofs.Adds.{clash, either_way, is_same_path, same_path}
use Rattle.gix_ref_commit.specs.Cleared.{AreAllFolders, HasEntries, HoldsMore, HoldsOnly, IsAtOrBelow, cleared, removals, written_at}
use Rattle.gix_ref_commit.specs.Entries.{Entry, bare, bare_steps, each, folders_for, line_for, log_removal_entry, log_removal_for, packed_entries, planned_entries, removal_entry, removal_for, rename_for, update_entries}
use Rattle.gix_ref_commit.specs.declared.plan.About.{About}
use Rattle.gix_ref_commit.specs.declared.plan.About.TheVariants as about
use Rattle.gix_ref_commit.proofs.Renamed.{AllAbout, IsInFirst, IsInSecond, about_at, about_both, either_list}
use Rattle.gix_ref_commit.proofs.LogFolders.{folders_either}
use Rattle.gix_ref_commit.proofs.Walking.{in_either}
use Rattle.gix_ref_commit.proofs.Whole.{in_right, slashes, slashes-below, slashes-name}

-- whether two paths are the same, and whether one lies in the other
same_or_not : (p q : Path) → (p ≡ q) ⊎ (p ≡ q → ⊥)
same_or_not p q = either_way (bytes_eq p q) (λ same. inl (same_path p q same)) (λ other. inr (λ e. clash (is_same_path p q e) other))

head : {a b : ℕ} {xs ys : List ℕ} → a ∷ xs ≡ b ∷ ys → a ≡ b
head e = cc

tail : {a b : ℕ} {xs ys : List ℕ} → a ∷ xs ≡ b ∷ ys → xs ≡ ys
tail e = cc

no_end : (c : ℕ) (xs : List ℕ) → [] ≡ c ∷ xs → ⊥
no_end c xs e = cc

lies_or_not : (path p : Path) → LiesIn p path ⊎ (LiesIn p path → ⊥)
lies_or_not [] [] = inr (λ lies. no_end 47 lies.0 lies.1)
lies_or_not [] (c ∷ p) = ⊎_elim (λ is. inl (p, ap (λ (x : List ℕ). x ++ p) is)) (λ other. inr (λ lies. other (ap (λ (n : ℕ). n ∷ []) (head lies.1)))) (same_or_not (c ∷ []) (47 ∷ []))
lies_or_not (x ∷ path) [] = inr (λ lies. no_end x (path ++ 47 ∷ lies.0) lies.1)
lies_or_not (x ∷ path) (c ∷ p) = by (lies_or_not path p) (same_or_not (c ∷ []) (x ∷ []))
  where
    by : LiesIn p path ⊎ (LiesIn p path → ⊥) → (c ∷ [] ≡ x ∷ []) ⊎ (c ∷ [] ≡ x ∷ [] → ⊥) → LiesIn (c ∷ p) (x ∷ path) ⊎ (LiesIn (c ∷ p) (x ∷ path) → ⊥)
    by (inl lies) (inl is) = inl (lies.0, ap (λ (l : List ℕ). l ++ p) is ∙ ap (λ (l : List ℕ). x ∷ l) lies.1)
    by (inr not) (inl is) = inr (λ lies. not (lies.0, tail lies.1))
    by rest (inr other) = inr (λ lies. other (ap (λ (n : ℕ). n ∷ []) (head lies.1)))

lies_then : (a b c : Path) → LiesIn a b → LiesIn b c → LiesIn a c
lies_then a b c (rest, is) (more, at) = (more ++ 47 ∷ rest, is ∙ (ap (λ (l : List ℕ). l ++ 47 ∷ rest) at ∙ append_assoc c (47 ∷ more) (47 ∷ rest)))

never_in_itself : (p : Path) → LiesIn p p → ⊥
never_in_itself p (rest, is) = omega (arith, ap length is, length-append p (47 ∷ rest))

-- a lock lies where its place does
lock_lies : (path to : Path) → LiesIn (lock_of to) path → LiesIn to path
lock_lies path to (rest, is) = by path to is
  where
    by : (p t : Path) → t ++ codes ".lock" ≡ p ++ 47 ∷ rest → LiesIn t p
    by [] [] e = absurd (differ (head e))
      where
        differ : ◌≡◌ {A = ℕ} 46 47 → ⊥
        differ h = omega (arith, h)
    by [] (c ∷ t) e = (t, ap (λ (n : ℕ). n ∷ t) (head e))
    by (x ∷ p) [] e = absurd (omega (arith, ap slashes e, slashes-below (x ∷ p) rest))
    by (x ∷ p) (c ∷ t) e = let h = by p t (tail e) in (h.0, ap (λ (n : ℕ). n ∷ t) (head e) ∙ ap (λ (l : List ℕ). x ∷ l) h.1)

-- a log lies in each of the folders that lead to it
log_lies : (log f : Path) → IsIn f (folders_to (folder_of log)) → LiesIn log f
log_lies log f within = by (folder_of log) refl within
  where
    last : (xs : List Path) (p : Path) → IsIn p (xs ++ p ∷ [])
    last [] p = inl refl
    last (x ∷ xs) p = inr (last xs p)

    by : (d : Path) → folder_of log ≡ d → IsIn f (folders_to d) → LiesIn log f
    by [] is none = absurd none
    by (c ∷ r) is some =
        let own = front_splits log (folder_of log) (subst (IsIn (folder_of log)) (sym (fronts_of_folder log (λ e. no_end c r (sym e ∙ is)))) (last (fronts (folder_of log)) (folder_of log))) in
        let led = front_splits ((c ∷ r) ++ 47 ∷ []) f some in
        let whole : log ≡ ((c ∷ r) ++ 47 ∷ []) ++ own.0 = own.1 ∙ (ap (λ (d : Path). d ++ 47 ∷ own.0) is ∙ sym (append_assoc (c ∷ r) (47 ∷ []) own.0)) in
        (led.0 ++ own.0, whole ∙ (ap (λ (l : List ℕ). l ++ own.0) led.1 ∙ append_assoc f (47 ∷ led.0) own.0))

is_no_folder : (c : Option Content) → is_file c ≡ true → is_folder c ≡ false
is_no_folder (Some (File bytes)) file = refl
is_no_folder (Some Folder) file = clash refl (sym file)
is_no_folder None file = refl

file_more : (c : Option Content) (bytes : List ℕ) → is_file c ≡ true → is_file (more c bytes) ≡ true
file_more (Some (File old)) bytes file = refl
file_more (Some Folder) bytes file = file
file_more None bytes file = file

with_other : (S : Tree) (fs : List Path) (q : Path) → (IsIn q fs → ⊥) → with_folders S fs q ≡ S q
with_other S [] q out = refl
with_other S (p ∷ ps) q out = with_other (put S p (Some Folder)) ps q (λ later. out (inr later)) ∙ put_other S p q (Some Folder) (λ same. out (inl same))

-- a line was added to a file
line_done : (p : Path) (bytes : List ℕ) (S T : Tree) → Does (Line p bytes) S T → (is_file (T p) ≡ true) × ((q : Path) → (p ≡ q → ⊥) → T q ≡ S q)
line_done p bytes S T (inl (file, is)) = (
  ap (λ (R : Tree). is_file (R p)) is ∙ (ap is_file (put_at S p (more (S p) bytes)) ∙ file_more (S p) bytes file),
  λ q other. ap (λ (R : Tree). R q) is ∙ put_other S p q (more (S p) bytes) other,
)
line_done p bytes S T (inr (free, is)) =
    let made : Tree = put S p (Some (File [])) in
    let own : is_file (made p) ≡ true = ap is_file (put_at S p (Some (File []))) in (
      ap (λ (R : Tree). is_file (R p)) is ∙ (ap is_file (put_at made p (more (made p) bytes)) ∙ file_more (made p) bytes own),
      λ q other. ap (λ (R : Tree). R q) is ∙ (put_other made p q (more (made p) bytes) other ∙ put_other S p q (Some (File [])) other),
    )

-- What the updates of a plan do, up to a step: a line comes right after the folders that lead to its log, and only locks are renamed.
abbrev pub IsGrowth : Option Path → Step → Option Path → Type 0
IsGrowth pend step next =
    ((p : Path) × (bytes : List ℕ) × (step ≡ Line p bytes) × ((pend ≡ None) ⊎ (pend ≡ Some p)) × (next ≡ None))
    ⊎ (((log : Path) × (step ≡ MakeFolders (folder_of log)) × (pend ≡ None) × (next ≡ Some log))
    ⊎ ((to : Path) × (step ≡ Rename (lock_of to) to) × (pend ≡ None) × (next ≡ None)))

abbrev pub GrowsTo : Option Path → List Entry → Option Path → Type 0
GrowsTo pend [] end = pend ≡ end
GrowsTo pend (e ∷ es) end = (next : Option Path) × IsGrowth pend (bare e.0) next × GrowsTo next es end

grow_both : (xs ys : List Entry) (a b c : Option Path) → GrowsTo a xs b → GrowsTo b ys c → GrowsTo a (xs ++ ys) c
grow_both [] ys a b c is second = subst (λ (x : Option Path). GrowsTo x ys c) (sym is) second
grow_both (x ∷ xs) ys a b c (next, one, rest) second = (next, one, grow_both xs ys next b c rest second)

pub grow_cut : (before : List Entry) (x : Entry) (rest : List Entry) (a c : Option Path) → GrowsTo a (before ++ x ∷ rest) c → (b : Option Path) × GrowsTo a before b × ((next : Option Path) × IsGrowth b (bare x.0) next)
grow_cut [] x rest a c (next, one, later) = (a, refl, (next, one))
grow_cut (e ∷ before) x rest a c (next, one, later) = let it = grow_cut before x rest next c later in (it.0, (next, one, it.1), it.2)

module _ (dirs : Dirs) where
  renames_grow : (at : ℕ) (place : Path) (effect : Effect) → GrowsTo None (rename_for dirs at place effect) None
  renames_grow at place effects.Write = (None, inr (inr (place, refl, refl, refl)), refl)
  renames_grow at place effects.Remove = refl
  renames_grow at place effects.Keep = refl

  lines_grow : (at : ℕ) (l : LogEffect) (more : List Entry) → GrowsTo None more None → GrowsTo None (line_for dirs at l ++ more) None × GrowsTo None (folders_for at l ++ (line_for dirs at l ++ more)) None
  lines_grow at logs.Keep more grows = (grows, grows)
  lines_grow at (logs.Remove log) more grows = (grows, grows)
  lines_grow at (logs.Append log line) more grows = (
    (None, inl (log.items, line.items, refl, inl refl, refl), grows),
    (Some log.items, inr (inl (log.items, refl, refl, refl)), (None, inl (log.items, line.items, refl, inr refl, refl), grows)),
  )

  one_grows : (at : ℕ) (e : Edit) → GrowsTo None (update_entries dirs at e) None
  one_grows at e =
      let more = rename_for dirs at e.lock e.effect in
      let both = lines_grow at e.log more (renames_grow at e.lock e.effect) in
      folders_either (λ (l : List Entry). GrowsTo None (l ++ (line_for dirs at e.log ++ more)) None) at e both.0 both.1

  pub updates_grow : (at : ℕ) (edits : List Edit) → GrowsTo None (each (update_entries dirs) at edits) None
  updates_grow at [] = refl
  updates_grow at (e ∷ edits) = grow_both (update_entries dirs at e) (each (update_entries dirs) (at + 1) edits) None None None (one_grows at e) (updates_grow (at + 1) edits)

-- What is below a path, by what was there at first.
module _ (path : Path) (first : Tree) where
  -- a file is below it
  abbrev pub HasFile : Tree → Type 0
  HasFile T = (rest : List ℕ) × (is_file (T (path ++ 47 ∷ rest)) ≡ true)

  -- nothing is there that was not there at first
  pub record HasNothingNew (T : Tree) : Type 0 where
    pub below : (rest : List ℕ) → (T (path ++ 47 ∷ rest) ≡ None) ⊎ (T (path ++ 47 ∷ rest) ≡ first (path ++ 47 ∷ rest))
    pub own : is_folder (T path) ≡ true → is_folder (first path) ≡ true

  abbrev pub IsOld : Tree → Type 0
  IsOld T = HasFile T ⊎ HasNothingNew T

  -- and so where the folders of a log may have been made
  abbrev pub IsOldBut : Option Path → Tree → Type 0
  IsOldBut None T = IsOld T
  IsOldBut (Some log) T = LiesIn log path ⊎ IsOld T

  beside : (S T : Tree) → ((rest : List ℕ) → T (path ++ 47 ∷ rest) ≡ S (path ++ 47 ∷ rest)) → (T path ≡ S path) ⊎ (is_folder (T path) ≡ false) → IsOld S → IsOld T
  beside S T same own (inl (rest, file)) = inl (rest, ap is_file (same rest) ∙ file)
  beside S T same own (inr old) = inr (record {
    below = λ rest. ⊎_elim (λ none. inl (same rest ∙ none)) (λ was. inr (same rest ∙ was)) (old.below rest);
    own = λ folder. ⊎_elim (λ e. old.own (sym (ap is_folder e) ∙ folder)) (λ none. clash folder none) own;
  })

  none_or_own : (pend : Option Path) (p : Path) (S : Tree) → (pend ≡ None) ⊎ (pend ≡ Some p) → IsOldBut pend S → (LiesIn p path → ⊥) → IsOld S
  none_or_own None p S which old out = old
  none_or_own (Some log) p S (inl e) old out = absurd (differ e)
    where
      differ : Some log ≡ None → ⊥
      differ h = cc
  none_or_own (Some log) p S (inr e) (inl lies) out = absurd (out (subst (λ (l : Path). LiesIn l path) (inner e) lies))
    where
      inner : Some log ≡ Some p → log ≡ p
      inner h = cc
  none_or_own (Some log) p S (inr e) (inr old) out = old

  line_old : (pend : Option Path) (p : Path) (bytes : List ℕ) (S T : Tree) → (pend ≡ None) ⊎ (pend ≡ Some p) → Does (Line p bytes) S T → IsOldBut pend S → IsOld T
  line_old pend p bytes S T which does old =
      let done = line_done p bytes S T does in
      ⊎_elim
      (λ lies. inl (lies.0, subst (λ (q : Path). is_file (T q) ≡ true) lies.1 done.0))
      (λ no. beside S T (λ rest. done.1 (path ++ 47 ∷ rest) (λ same. no (rest, same)))
      (⊎_elim (λ same. inr (is_no_folder (T path) (subst (λ (q : Path). is_file (T q) ≡ true) same done.0))) (λ other. inl (done.1 path other)) (same_or_not p path))
      (none_or_own pend p S which old no))
      (lies_or_not path p)

  rename_old : (to : Path) (S T : Tree) → Does (Rename (lock_of to) to) S T → IsOld S → IsOld T
  rename_old to S T (movable, is) old = ⊎_elim
      (λ lies. inl (lies.0, subst (λ (q : Path). is_file (T q) ≡ true) lies.1 at_to))
      (λ no. beside S T
      (λ rest. other (path ++ 47 ∷ rest) (λ same. no (rest, same)) (λ same. no (lock_lies path to (rest, same))))
      (⊎_elim (λ same. inr (is_no_folder (T path) (subst (λ (q : Path). is_file (T q) ≡ true) same at_to)))
      (λ apart. ⊎_elim (λ same. inr (ap is_folder (gone path apart same))) (λ far. inl (other path apart far)) (same_or_not (lock_of to) path)) (same_or_not to path))
      old)
      (lies_or_not path to)
    where
      left : Tree
      left = put S (lock_of to) None

      at_to : is_file (T to) ≡ true
      at_to = ap (λ (R : Tree). is_file (R to)) is ∙ (ap is_file (put_at left to (S (lock_of to))) ∙ movable.0)

      other : (q : Path) → (to ≡ q → ⊥) → (lock_of to ≡ q → ⊥) → T q ≡ S q
      other q apart far = ap (λ (R : Tree). R q) is ∙ (put_other left to q (S (lock_of to)) apart ∙ put_other S (lock_of to) q None far)

      gone : (q : Path) → (to ≡ q → ⊥) → lock_of to ≡ q → T q ≡ None
      gone q apart same = ap (λ (R : Tree). R q) is ∙ (put_other left to q (S (lock_of to)) apart ∙ subst (λ (r : Path). left r ≡ None) same (put_at S (lock_of to) None))

  folders_old : (log : Path) (S T : Tree) → Does (MakeFolders (folder_of log)) S T → IsOld S → IsOldBut (Some log) T
  folders_old log S T (free, is) old = ⊎_elim
      (λ lies. inl lies)
      (λ no. inr (beside S T
      (λ rest. other (path ++ 47 ∷ rest) (λ within. no (lies_then log (path ++ 47 ∷ rest) path (log_lies log (path ++ 47 ∷ rest) within) (rest, refl))))
      (inl (other path (λ within. no (log_lies log path within)))) old))
      (lies_or_not path log)
    where
      other : (q : Path) → (IsIn q (folders_to (folder_of log)) → ⊥) → T q ≡ S q
      other q out = ap (λ (R : Tree). R q) is ∙ with_other S (folders_to (folder_of log)) q out

  -- the removal of a folder
  file_stays : (f : Path) (S T : Tree) → Does (RemoveFolder f) S T → HasFile S → HasFile T
  file_stays f S T (inr (full, is)) (rest, file) = (rest, ap (λ (R : Tree). is_file (R (path ++ 47 ∷ rest))) is ∙ file)
  file_stays f S T (inl (empty, is)) (rest, file) = (
    rest,
    ap (λ (R : Tree). is_file (R (path ++ 47 ∷ rest))) is
        ∙ (ap is_file (put_other S f (path ++ 47 ∷ rest) None (λ same. clash (subst (λ (q : Path). is_folder (S q) ≡ true) same empty.0) (is_no_folder (S (path ++ 47 ∷ rest)) file))) ∙ file),
  )

  gone_or_same : (f : Path) (S T : Tree) (q : Path) → Does (RemoveFolder f) S T → (T q ≡ None) ⊎ (T q ≡ S q)
  gone_or_same f S T q (inr (full, is)) = inr (ap (λ (R : Tree). R q) is)
  gone_or_same f S T q (inl (empty, is)) = ⊎_elim
      (λ same. inl (ap (λ (R : Tree). R q) is ∙ subst (λ (r : Path). put S f None r ≡ None) same (put_at S f None)))
      (λ other. inr (ap (λ (R : Tree). R q) is ∙ put_other S f q None other))
      (same_or_not f q)

  nothing_stays : (f : Path) (S T : Tree) → Does (RemoveFolder f) S T → HasNothingNew S → HasNothingNew T
  nothing_stays f S T does old = record {
    below = λ rest. ⊎_elim (λ none. inl none) (λ same. ⊎_elim (λ none. inl (same ∙ none)) (λ was. inr (same ∙ was)) (old.below rest)) (gone_or_same f S T (path ++ 47 ∷ rest) does);
    own = λ folder. ⊎_elim (λ none. clash folder (ap is_folder none)) (λ same. old.own (sym (ap is_folder same) ∙ folder)) (gone_or_same f S T path does);
  }

  removal_old : (f : Path) (S T : Tree) → Does (RemoveFolder f) S T → IsOld S → IsOld T
  removal_old f S T does (inl file) = inl (file_stays f S T does file)
  removal_old f S T does (inr old) = inr (nothing_stays f S T does old)

  removal_old_but : (pend : Option Path) (f : Path) (S T : Tree) → Does (RemoveFolder f) S T → IsOldBut pend S → IsOldBut pend T
  removal_old_but None f S T does old = removal_old f S T does old
  removal_old_but (Some log) f S T does (inl lies) = inl lies
  removal_old_but (Some log) f S T does (inr old) = inr (removal_old f S T does old)

  removals_old : (pend : Option Path) (for_step : About) (fs : List Path) (rest : List Entry) (S T : Tree) → IsAfter (bare_steps (removals for_step fs ++ rest)) S T → IsOldBut pend S → (M : Tree) × IsOldBut pend M × IsAfter (bare_steps rest) M T
  removals_old pend for_step [] rest S T after old = (S, old, after)
  removals_old pend for_step (f ∷ fs) rest S T (mid, does, after) old = removals_old pend for_step fs rest mid T after (removal_old_but pend f S mid does old)

  -- a step of the updates
  step_old : (pend next : Option Path) (step : Step) (S T : Tree) → IsGrowth pend step next → Does step S T → IsOldBut pend S → IsOldBut next T
  step_old pend next step S T (inl (p, bytes, is, which, end)) does old =
      subst (λ (n : Option Path). IsOldBut n T) (sym end) (line_old pend p bytes S T which (subst (λ (x : Step). Does x S T) is does) old)
  step_old pend next step S T (inr (inl (log, is, none, end))) does old =
      subst (λ (n : Option Path). IsOldBut n T) (sym end) (folders_old log S T (subst (λ (x : Step). Does x S T) is does) (subst (λ (n : Option Path). IsOldBut n S) none old))
  step_old pend next step S T (inr (inr (to, is, none, end))) does old =
      subst (λ (n : Option Path). IsOldBut n T) (sym end) (rename_old to S T (subst (λ (x : Step). Does x S T) is does) (subst (λ (n : Option Path). IsOldBut n S) none old))

  pub run_old : (folders : List (List Path)) (plan : List Entry) (pend end : Option Path) → GrowsTo pend plan end → (S T : Tree) → IsAfter (bare_steps (cleared folders plan)) S T → IsOldBut pend S → IsOldBut end T
  run_old [] [] pend end is S T after old = subst (λ (n : Option Path). IsOldBut n T) is (subst (IsOldBut pend) (sym after) old)
  run_old (fs ∷ folders) [] pend end is S T after old = subst (λ (n : Option Path). IsOldBut n T) is (subst (IsOldBut pend) (sym after) old)
  run_old [] (e ∷ plan) pend end (next, one, rest) S T (mid, does, after) old = run_old [] plan next end rest mid T after (step_old pend next (bare e.0) S mid one does old)
  run_old (fs ∷ folders) (e ∷ plan) pend end (next, one, rest) S T after old = by (removals_old pend e.1 fs (e ∷ cleared folders plan) S T after old) (λ M U later was. run_old folders plan next end rest M U later was)
    where
      by : (M : Tree) × IsOldBut pend M × IsAfter (bare_steps (e ∷ cleared folders plan)) M T → ((M U : Tree) → IsAfter (bare_steps (cleared folders plan)) M U → IsOldBut next M → IsOldBut end U) → IsOldBut end T
      by (M, was, (mid, does, later)) go = go mid T later (step_old pend next (bare e.0) M mid one does was)

after_split : (xs ys : List Entry) (S T : Tree) → IsAfter (bare_steps (xs ++ ys)) S T → (M : Tree) × IsAfter (bare_steps xs) S M × IsAfter (bare_steps ys) M T
after_split [] ys S T after = (S, refl, after)
after_split (x ∷ xs) ys S T (mid, does, after) = let it = after_split xs ys mid T after in (it.0, (mid, does, it.1), it.2)

-- what lies right in a folder is at the path, or below it, if that lies in it
in_or_at : (path folder rest name : List ℕ) → (Contains name 47 → ⊥) → path ++ 47 ∷ rest ≡ folder ++ 47 ∷ name → IsAtOrBelow path folder
in_or_at [] [] rest name slashless e = inl refl
in_or_at [] (c ∷ folder) rest name slashless e = inr (folder, ap (λ (n : ℕ). n ∷ folder) (sym (head e)))
in_or_at (x ∷ path) [] rest name slashless e = absurd (omega (arith, ap slashes (tail e), slashes-below path rest, slashes-name name slashless))
in_or_at (x ∷ path) (c ∷ folder) rest name slashless e = ⊎_elim
    (λ same. inl (ap (λ (l : List ℕ). c ∷ l) same ∙ ap (λ (n : ℕ). n ∷ path) (sym (head e))))
    (λ below. inr (below.0, ap (λ (n : ℕ). n ∷ folder) (sym (head e)) ∙ ap (λ (l : List ℕ). x ∷ l) below.1))
    (in_or_at path folder rest name slashless (tail e))

some_folder : (c : Option Content) → is_folder c ≡ true → IsSome c
some_folder (Some (File bytes)) folder = refl
some_folder (Some Folder) folder = refl
some_folder None folder = clash folder refl

is_none_or : (c : Option Content) → (c ≡ None) ⊎ IsSome c
is_none_or None = inl refl
is_none_or (Some content) = inr refl

in_list : (P : Path → Type 0) (xs : List Path) (q : Path) → All P xs → IsIn q xs → P q
in_list P [] q all within = absurd within
in_list P (x ∷ xs) q all (inl here) = subst P here (all 0 x (omega arith))
in_list P (x ∷ xs) q all (inr later) = in_list P xs q (λ k d lt. all (suc k) d (omega (arith, lt))) later

in_last : (xs : List Path) (p : Path) → IsIn p (xs ++ p ∷ [])
in_last [] p = inl refl
in_last (x ∷ xs) p = inr (in_last xs p)

-- All that is below a path at first is folders of this list.
module _ (path : Path) (first : Tree) (folders : List Path) (there : is_folder (first path) ≡ true) (are : AreAllFolders first path folders) (entries : HasEntries first path) where
  own_in : IsIn path folders
  own_in = subst (IsIn path) (sym are.last.1) (in_last are.last.0 path)

  holds : (rest : List ℕ) → IsSome (first (path ++ 47 ∷ rest)) → (folder : Path) (name : List ℕ) → path ++ 47 ∷ rest ≡ folder ++ 47 ∷ name → IsEntryName name → is_folder (first folder) ≡ true → IsIn folder folders →
      IsIn (path ++ 47 ∷ rest) folders × (is_folder (first (path ++ 47 ∷ rest)) ≡ true)
  holds rest some folder name is named led within =
      let h = in_list (HoldsOnly first folders) folders folder are.all within led name named (subst (λ (q : Path). IsSome (first q)) is some) in
      (subst (λ (q : Path). IsIn q folders) (sym is) h.1, subst (λ (q : Path). is_folder (first q) ≡ true) (sym is) h.0)

  all_by : (n : ℕ) (rest : List ℕ) → length rest ≤ n → IsSome (first (path ++ 47 ∷ rest)) → IsIn (path ++ 47 ∷ rest) folders × (is_folder (first (path ++ 47 ∷ rest)) ≡ true)
  all_by zero rest le some =
      let it = entries rest some in
      ⊎_elim
      (λ same. holds rest some it.0 it.1 it.2 it.3 it.4 (subst (λ (q : Path). IsIn q folders) (sym same) own_in))
      (λ below. absurd (omega (arith, le, ap length it.2, ap length below.1, length-append path (47 ∷ rest), length-append it.0 (47 ∷ it.1), length-append path (47 ∷ below.0))))
      (in_or_at path it.0 rest it.1 it.3.1 it.2)
  all_by (suc n) rest le some =
      let it = entries rest some in
      ⊎_elim
      (λ same. holds rest some it.0 it.1 it.2 it.3 it.4 (subst (λ (q : Path). IsIn q folders) (sym same) own_in))
      (λ below. holds rest some it.0 it.1 it.2 it.3 it.4
      (subst (λ (q : Path). IsIn q folders) (sym below.1)
      (all_by n below.0
      (omega (arith, le, ap length it.2, ap length below.1, length-append path (47 ∷ rest), length-append it.0 (47 ∷ it.1), length-append path (47 ∷ below.0)))
      (subst (λ (q : Path). IsSome (first q)) below.1 (some_folder (first it.0) it.4))).0))
      (in_or_at path it.0 rest it.1 it.3.1 it.2)

  pub all_in : (rest : List ℕ) → IsSome (first (path ++ 47 ∷ rest)) → IsIn (path ++ 47 ∷ rest) folders × (is_folder (first (path ++ 47 ∷ rest)) ≡ true)
  all_in rest some = all_by (length rest) rest (omega arith) some

  -- whatever is in such a folder, where those in it are gone, is gone
  empties : (inside : All (IsAtOrBelow path) folders) (gone : List Path) (f : Path) (left : List Path) (S : Tree) → folders ≡ gone ++ f ∷ left → ((q : Path) → IsIn q gone → is_folder (S q) ≡ false) → HasNothingNew path first S → (name : List ℕ) → S (f ++ 47 ∷ name) ≡ None
  empties inside gone f left S cut out old name =
      let rest = further path f name (in_list (IsAtOrBelow path) folders f inside (subst (IsIn f) (sym cut) (in_right f gone (f ∷ left) (inl refl)))) in
      subst (λ (q : Path). S q ≡ None) (sym rest.1)
      (⊎_elim (λ none. none)
      (λ was. ⊎_elim
      (λ none. was ∙ none)
      (λ some.
      let h = all_in rest.0 some in
      absurd (by (subst (λ (q : Path). IsIn q folders) (sym rest.1) h.0) (ap is_folder (subst (λ (q : Path). S q ≡ first q) (sym rest.1) was) ∙ subst (λ (q : Path). is_folder (first q) ≡ true) (sym rest.1) h.1)))
      (is_none_or (first (path ++ 47 ∷ rest.0))))
      (old.below rest.0))
    where
      further : (top folder : Path) (n : List ℕ) → IsAtOrBelow top folder → (more : List ℕ) × (folder ++ 47 ∷ n ≡ top ++ 47 ∷ more)
      further top folder n (inl same) = (n, ap (λ (q : Path). q ++ 47 ∷ n) same)
      further top folder n (inr (more, is)) = (more ++ 47 ∷ n, ap (λ (q : Path). q ++ 47 ∷ n) is ∙ append_assoc top (47 ∷ more) (47 ∷ n))

      -- it is none of those that are left, since it lies in this one
      not_left : (xs : List Path) → ((k : ℕ) (d : Path) → k < length xs → LiesIn (get_or xs k d) f → ⊥) → IsIn (f ++ 47 ∷ name) xs → ⊥
      not_left [] apart within = within
      not_left (x ∷ xs) apart (inl here) = apart 0 x (omega arith) (name, here)
      not_left (x ∷ xs) apart (inr later) = not_left xs (λ k d lt. apart (suc k) d (omega (arith, lt))) later

      pairs : AllPairs (λ earlier later. LiesIn later earlier → ⊥) (gone ++ f ∷ left)
      pairs = subst (AllPairs (λ earlier later. LiesIn later earlier → ⊥)) cut are.inner_first

      apart : (k : ℕ) (d : Path) → k < length left → LiesIn (get_or left k d) f → ⊥
      apart k d lt lies =
          pairs (length gone) (length gone + suc k) d (omega arith) (omega (arith, lt, length-append gone (f ∷ left)))
          (subst (λ (q : Path). LiesIn q (get_or (gone ++ f ∷ left) (length gone) d)) (sym (get_or-append-add gone (f ∷ left) (suc k) d))
          (subst (λ (q : Path). LiesIn (get_or left k d) q) (sym (get_or_at gone f left d (length gone) refl)) lies))

      by : IsIn (f ++ 47 ∷ name) folders → is_folder (S (f ++ 47 ∷ name)) ≡ true → ⊥
      by within folder = ⊎_elim
          (λ early. clash folder (out (f ++ 47 ∷ name) early))
          (λ late. ⊎_elim (λ same. never_in_itself f (name, same)) (λ later. not_left left apart later) late)
          (in_either (f ++ 47 ∷ name) gone (f ∷ left) (subst (IsIn (f ++ 47 ∷ name)) cut within))

  -- all of them are removed
  pub emptied : (inside : All (IsAtOrBelow path) folders) (for_step : About) (gone left : List Path) (S T : Tree) → folders ≡ gone ++ left → ((q : Path) → IsIn q gone → is_folder (S q) ≡ false) → HasNothingNew path first S →
      IsAfter (bare_steps (removals for_step left)) S T → (q : Path) → IsIn q folders → is_folder (T q) ≡ false
  emptied inside for_step gone [] S T cut out old after q within =
      subst (λ (R : Tree). is_folder (R q) ≡ false) (sym after) (out q (subst (IsIn q) (cut ∙ append-nil gone) within))
  emptied inside for_step gone (f ∷ left) S T cut out old (mid, does, after) q within =
      emptied inside for_step (gone ++ f ∷ []) left mid T (cut ∙ sym (append_assoc gone (f ∷ []) left)) now (nothing_stays path first f S mid does old) after q within
    where
      removed : (does : Does (RemoveFolder f) S mid) → is_folder (mid f) ≡ false
      removed (inl (empty, is)) = ap (λ (R : Tree). is_folder (R f)) is ∙ ap is_folder (put_at S f None)
      removed (inr (full, is)) = either_way (is_folder (S f))
          (λ folder. absurd (full (folder, empties inside gone f left S cut out old)))
          (λ none. ap (λ (R : Tree). is_folder (R f)) is ∙ none)

      still : (p : Path) → is_folder (S p) ≡ false → is_folder (mid p) ≡ false
      still p none = ⊎_elim (λ gone_now. ap is_folder gone_now) (λ same. ap is_folder same ∙ none) (gone_or_same path first f S mid p does)

      now : (p : Path) → IsIn p (gone ++ f ∷ []) → is_folder (mid p) ≡ false
      now p here = ⊎_elim
          (λ early. still p (out p early))
          (λ late. ⊎_elim (λ same. subst (λ (r : Path). is_folder (mid r) ≡ false) same (removed does)) (λ none. absurd none) late)
          (in_either p gone (f ∷ []) here)

-- it is about a line, or the rename of a lock
abbrev pub IsWrite : About → Type 0
IsWrite (about.Line at) = Unit {0}
IsWrite (about.Rename at) = Unit {0}
IsWrite (about.Folders at) = ⊥
IsWrite (about.LogRemoval at) = ⊥
IsWrite about.Packed = ⊥
IsWrite (about.Removal at) = ⊥

abbrev IsNoWrite : About → Type 0
IsNoWrite a = IsWrite a → ⊥

-- What comes before such a step of a plan.
module _ (dirs : Dirs) (edits : List Edit) (packed : Option Path) (rewrite : Rewrite) where
  log_removals_late : (at : ℕ) (es : List Edit) → AllAbout IsNoWrite (each log_removal_entry at es)
  log_removals_late at [] = tt
  log_removals_late at (e ∷ es) = about_both IsNoWrite (log_removal_entry at e) (each log_removal_entry (at + 1) es) (one e.log) (log_removals_late (at + 1) es)
    where
      one : (l : LogEffect) → AllAbout IsNoWrite (log_removal_for at l)
      one logs.Keep = tt
      one (logs.Append log line) = tt
      one (logs.Remove log) = ((λ none. none), tt)

  removals_late : (at : ℕ) (es : List Edit) → AllAbout IsNoWrite (each removal_entry at es)
  removals_late at [] = tt
  removals_late at (e ∷ es) = about_both IsNoWrite (removal_entry at e) (each removal_entry (at + 1) es) (one e.effect) (removals_late (at + 1) es)
    where
      one : (effect : Effect) → AllAbout IsNoWrite (removal_for at e.lock effect)
      one effects.Keep = tt
      one effects.Write = tt
      one effects.Remove = ((λ none. none), tt)

  packed_late : (held : Option Path) (r : Rewrite) → AllAbout IsNoWrite (packed_entries dirs held r)
  packed_late None r = tt
  packed_late (Some p) Unchanged = tt
  packed_late (Some p) Removed = ((λ none. none), tt)
  packed_late (Some p) (Text text) = ((λ none. none), tt)

  pub plan_grows : (seen : List Entry) (x : Entry) (later : List Entry) → planned_entries dirs edits packed rewrite ≡ seen ++ x ∷ later → IsWrite x.1 → (end : Option Path) × GrowsTo None seen end × ((next : Option Path) × IsGrowth end (bare x.0) next)
  plan_grows seen x later cut write =
      let U = each (update_entries dirs) 0 edits in
      let L = each log_removal_entry 0 edits in
      let P = packed_entries dirs packed rewrite in
      let R = each removal_entry 0 edits in
      let late = about_both IsNoWrite L (P ++ R) (log_removals_late 0 edits) (about_both IsNoWrite P R (packed_late packed rewrite) (removals_late 0 edits)) in
      ⊎_elim
      (λ (early : IsInFirst U (L ++ (P ++ R)) seen x later). grow_cut seen x early.0 None None (subst (λ (l : List Entry). GrowsTo None l None) early.1 (updates_grow dirs 0 edits)))
      (λ (after : IsInSecond U (L ++ (P ++ R)) seen x later). absurd (about_at IsNoWrite after.0 x later (subst (AllAbout IsNoWrite) after.2 late) write))
      (either_list U (L ++ (P ++ R)) seen x later cut)

-- A step that writes at a path, after the removals of what was in its way: a folder is there.
module _ (path : Path) (first mid : Tree) (for_step : About) (fs : List Path) (ways : List (List Path)) (seen : List Entry) (end next : Option Path) (step : Step)
    (grows : GrowsTo None seen end) (one : IsGrowth end step next) (writes : written_at step ≡ Some path) (after : IsAfter (bare_steps (cleared ways seen ++ removals for_step fs)) first mid) (folder : is_folder (mid path) ≡ true) where
  inner : (p : Path) → Some p ≡ Some path → p ≡ path
  inner p e = cc

  not_none : None ≡ Some path → ⊥
  not_none e = cc

  old_then : (M : Tree) → IsGrowth end step next → IsOldBut path first end M → IsOld path first M
  old_then M (inl (p, bytes, is, which, stop)) old =
      none_or_own path first end p M which old (λ lies. never_in_itself path (subst (λ (q : Path). LiesIn q path) (inner p (sym (ap written_at is) ∙ writes)) lies))
  old_then M (inr (inl (log, is, none, stop))) old = absurd (not_none (sym (ap written_at is) ∙ writes))
  old_then M (inr (inr (to, is, none, stop))) old = subst (λ (n : Option Path). IsOldBut path first n M) none old

  parts : (M : Tree) × IsAfter (bare_steps (cleared ways seen)) first M × IsAfter (bare_steps (removals for_step fs)) M mid
  parts = after_split (cleared ways seen) (removals for_step fs) first mid after

  before_removals : IsOld path first parts.0
  before_removals = old_then parts.0 one (run_old path first ways seen None end grows first parts.0 parts.1 (inr (record { below = λ rest. inr refl; own = λ there. there })))

  behind : IsOld path first mid
  behind =
      let it = removals_old path first None for_step fs [] parts.0 mid (subst (λ (l : List Entry). IsAfter (bare_steps l) parts.0 mid) (sym (append-nil (removals for_step fs))) parts.2) before_removals in
      subst (IsOld path first) (sym it.2) it.1

  -- where none was there at first, a file is below it
  pub new_holds : is_folder (first path) ≡ false → HasFile path first mid
  new_holds none = ⊎_elim (λ file. file) (λ old. clash (old.own folder) none) behind

  -- and where one was there, that was removed with all that is below it
  pub old_holds : is_folder (first path) ≡ true → All (IsAtOrBelow path) fs → AreAllFolders first path fs → HasEntries first path → HasFile path first mid
  old_holds there inside all entries = ⊎_elim
      (λ file. still_file fs parts.0 mid parts.2 file)
      (λ old. clash folder (emptied path first fs there all entries inside for_step [] fs parts.0 mid refl (λ q none. absurd none) old parts.2 path (own_in path first fs there all entries)))
      before_removals
    where
      still_file : (l : List Path) (S T : Tree) → IsAfter (bare_steps (removals for_step l)) S T → HasFile path first S → HasFile path first T
      still_file [] S T same file = subst (HasFile path first) (sym same) file
      still_file (f ∷ l) S T (m, does, later) file = still_file l m T later (file_stays path first f S m does file)

-- a file below a path is more than empty folders
pub holds_file : (dirs : Dirs) (path : Path) (first T : Tree) → HasFile path first T → HoldsMore dirs T path
holds_file dirs path first T (rest, file) = (path ++ 47 ∷ rest, inr (rest, refl), inl file)
