-- Which locks were renamed before a step of a plan.
use Rattle.std.proofs.Common.{◌≡◌, ◌⊎◌, inl, inr, ⊎_elim, ℕ, zero, suc, ◌+◌, ◌<◌, List, [], ◌∷◌, ◌++◌, true, false, Option, Some, None, refl, sym, ◌∙◌, ap, subst, arith}
use Rattle.gix_ref_files.specs.Tree.{Path}
use Rattle.gix_ref_files.specs.Lock.{lock_of}
use Rattle.gix_ref_files.specs.Steps.{Step}
use Rattle.gix_ref_files.specs.Steps.Step.{Rename}
use Rattle.gix_ref_lookup.specs.declared.folders.Dirs.{Dirs}
use Rattle.gix_ref_packed_text.specs.declared.outcome.Rewrite.{Rewrite}
use Rattle.gix_ref_packed_text.specs.declared.outcome.Rewrite.TheVariants.{Unchanged, Removed, Text}
use Rattle.gix_ref_transaction.specs.CommitRenames.{is_written_at, lock_at}
use Rattle.gix_ref_transaction.specs.Effects.{is_write}
use Rattle.gix_ref_transaction.specs.declared.edit.Edit.{Edit}
use Rattle.gix_ref_transaction.specs.declared.edit.Effect.{Effect}
use Rattle.gix_ref_transaction.specs.declared.edit.Effect.TheVariants as effects
use Rattle.gix_ref_transaction.specs.declared.edit.LogEffect.{LogEffect}
use Rattle.gix_ref_transaction.specs.declared.edit.LogEffect.TheVariants as logs
use Rattle.gix_ref_transaction.proofs.Adds.{clash}
use Rattle.gix_ref_commit.specs.declared.plan.About.{About}
use Rattle.gix_ref_commit.proofs.LogFolders.{folders_either}
use Rattle.gix_ref_commit.specs.Entries.{Entry, each, folders_for, folders_entry, line_for, rename_for, log_removal_for, line_entry, rename_entry, log_removal_entry, removal_entry, packed_entry, packed_entries, update_entries, planned_entries, bare, done_before, packed_before, renames_packed}

-- the step renames this lock
abbrev pub IsRenameOf : Path → Step → Type 0
IsRenameOf lock (Rename from to) = from ≡ lock
IsRenameOf lock other = ⊥

-- and so does one of these entries
abbrev pub HasRename : Path → List Entry → Type 0
HasRename lock [] = ⊥
HasRename lock (e ∷ es) = IsRenameOf lock (bare e.0) ⊎ HasRename lock es

pub has_left : (lock : Path) (a b : List Entry) → HasRename lock a → HasRename lock (a ++ b)
has_left lock [] b h = absurd h
has_left lock (e ∷ a) b (inl here) = inl here
has_left lock (e ∷ a) b (inr later) = inr (has_left lock a b later)

pub has_right : (lock : Path) (a b : List Entry) → HasRename lock b → HasRename lock (a ++ b)
has_right lock [] b h = h
has_right lock (e ∷ a) b h = inr (has_right lock a b h)

-- an element of two lists is in one of them
abbrev pub IsInFirst : (xs ys before : List Entry) → Entry → List Entry → Type 0
IsInFirst xs ys before x rest = (mid : List Entry) × (xs ≡ before ++ x ∷ mid)

abbrev pub IsInSecond : (xs ys before : List Entry) → Entry → List Entry → Type 0
IsInSecond xs ys before x rest = (mid : List Entry) × (before ≡ xs ++ mid) × (ys ≡ mid ++ x ∷ rest)

pub either_list : (xs ys before : List Entry) (x : Entry) (rest : List Entry) → xs ++ ys ≡ before ++ x ∷ rest → IsInFirst xs ys before x rest ⊎ IsInSecond xs ys before x rest
either_list [] ys before x rest is = inr (before, refl, is)
either_list (y ∷ xs) ys [] x rest is = inl (xs, ap (λ (e : Entry). e ∷ xs) (parts is).0)
  where
    parts : y ∷ (xs ++ ys) ≡ x ∷ rest → (y ≡ x) × (xs ++ ys ≡ rest)
    parts h = (cc, cc)
either_list (y ∷ xs) ys (b ∷ before) x rest is = ⊎_elim
    (λ first. inl (first.0, ap (λ (e : Entry). e ∷ xs) (parts is).0 ∙ ap (λ (l : List Entry). b ∷ l) first.1))
    (λ second. inr (second.0, ap (λ (e : Entry). e ∷ before) (sym (parts is).0) ∙ ap (λ (l : List Entry). y ∷ l) second.1, second.2))
    (either_list xs ys before x rest (parts is).1)
  where
    parts : y ∷ (xs ++ ys) ≡ b ∷ (before ++ x ∷ rest) → (y ≡ b) × (xs ++ ys ≡ before ++ x ∷ rest)
    parts h = (cc, cc)

-- what all of these are about has P
abbrev pub AllAbout : (About → Type 0) → List Entry → Type 0
AllAbout P [] = Unit {0}
AllAbout P (e ∷ es) = P e.1 × AllAbout P es

pub about_at : (P : About → Type 0) (before : List Entry) (x : Entry) (rest : List Entry) → AllAbout P (before ++ x ∷ rest) → P x.1
about_at P [] x rest all = all.0
about_at P (e ∷ before) x rest all = about_at P before x rest all.1

pub about_both : (P : About → Type 0) (a b : List Entry) → AllAbout P a → AllAbout P b → AllAbout P (a ++ b)
about_both P [] b ha hb = hb
about_both P (e ∷ a) b ha hb = (ha.0, about_both P a b ha.1 hb)

module _ (dirs : Dirs) (n : ℕ) where
  abbrev IsAt : ℕ → About → Type 0
  IsAt at about = (done_before n about ≡ at) × (packed_before about ≡ false)

  folders_at : (at : ℕ) (l : LogEffect) → AllAbout (IsAt at) (folders_for at l)
  folders_at at logs.Keep = tt
  folders_at at (logs.Append log line) = ((refl, refl), tt)
  folders_at at (logs.Remove log) = tt

  folders_entry_at : (at : ℕ) (e : Edit) → AllAbout (IsAt at) (folders_entry at e)
  folders_entry_at at e = folders_either (AllAbout (IsAt at)) at e tt (folders_at at e.log)

  line_at : (at : ℕ) (l : LogEffect) → AllAbout (IsAt at) (line_for dirs at l)
  line_at at logs.Keep = tt
  line_at at (logs.Append log line) = ((refl, refl), tt)
  line_at at (logs.Remove log) = tt

  rename_at : (at : ℕ) (place : Path) (f : Effect) → AllAbout (IsAt at) (rename_for dirs at place f)
  rename_at at place effects.Write = ((refl, refl), tt)
  rename_at at place effects.Remove = tt
  rename_at at place effects.Keep = tt

  update_at : (at : ℕ) (e : Edit) → AllAbout (IsAt at) (update_entries dirs at e)
  update_at at e =
      about_both (IsAt at) (folders_entry at e) (line_entry dirs at e ++ rename_entry dirs at e) (folders_entry_at at e)
      (about_both (IsAt at) (line_entry dirs at e) (rename_entry dirs at e) (line_at at e.log) (rename_at at e.lock e.effect))

  -- the rename of an edit that is written is among its entries
  renamed_here : (at : ℕ) (place : Path) (f : Effect) → is_write f ≡ true → HasRename (lock_of place) (rename_for dirs at place f)
  renamed_here at place effects.Write is = inl refl
  renamed_here at place effects.Remove is = clash is refl
  renamed_here at place effects.Keep is = clash is refl

  in_update : (at : ℕ) (e : Edit) → is_write e.effect ≡ true → HasRename (lock_of e.lock) (update_entries dirs at e)
  in_update at e is =
      has_right (lock_of e.lock) (folders_entry at e) (line_entry dirs at e ++ rename_entry dirs at e)
      (has_right (lock_of e.lock) (line_entry dirs at e) (rename_entry dirs at e) (renamed_here at e.lock e.effect is))

  -- and so of each
  pub all_renamed : (at : ℕ) (edits : List Edit) (k : ℕ) → is_written_at edits k ≡ true → HasRename (lock_at edits k) (each (update_entries dirs) at edits)
  all_renamed at [] zero is = clash is refl
  all_renamed at [] (suc k) is = clash is refl
  all_renamed at (e ∷ edits) zero is =
      has_left (lock_of e.lock) (update_entries dirs at e) (each (update_entries dirs) (at + 1) edits)
      (in_update at e is)
  all_renamed at (e ∷ edits) (suc k) is =
      has_right (lock_at edits k) (update_entries dirs at e) (each (update_entries dirs) (at + 1) edits) (all_renamed (at + 1) edits k is)

  -- before a step of an update, those of the earlier edits
  earlier_renamed : (at : ℕ) (edits : List Edit) (before : List Entry) (x : Entry) (rest : List Entry) → each (update_entries dirs) at edits ≡ before ++ x ∷ rest →
      (k : ℕ) → at + k < done_before n x.1 → is_written_at edits k ≡ true → HasRename (lock_at edits k) before
  earlier_renamed at [] before x rest is zero lt written = clash written refl
  earlier_renamed at [] before x rest is (suc k) lt written = clash written refl
  earlier_renamed at (e ∷ edits) before x rest is k lt written = ⊎_elim
      (λ (first : IsInFirst (update_entries dirs at e) (each (update_entries dirs) (at + 1) edits) before x rest).
      absurd (omega (arith, lt, (about_at (IsAt at) before x first.0 (subst (AllAbout (IsAt at)) first.1 (update_at at e))).0)))
      (λ (second : IsInSecond (update_entries dirs at e) (each (update_entries dirs) (at + 1) edits) before x rest).
      subst (HasRename (lock_at (e ∷ edits) k)) (sym second.1)
      (by k written second.0 (λ j is_k. earlier_renamed (at + 1) edits second.0 x rest second.2 j (omega (arith, lt, is_k)))))
      (either_list (update_entries dirs at e) (each (update_entries dirs) (at + 1) edits) before x rest is)
    where
      by : (i : ℕ) → is_written_at (e ∷ edits) i ≡ true → (mid : List Entry) → ((j : ℕ) → i ≡ suc j → is_written_at edits j ≡ true → HasRename (lock_at edits j) mid) →
          HasRename (lock_at (e ∷ edits) i) (update_entries dirs at e ++ mid)
      by zero w mid later =
          has_left (lock_of e.lock) (update_entries dirs at e) mid (in_update at e w)
      by (suc j) w mid later = has_right (lock_at edits j) (update_entries dirs at e) mid (later j refl w)

  -- no step before the removals of loose files comes after `packed-refs`
  no_packed_updates : (at : ℕ) (edits : List Edit) → AllAbout (λ a. packed_before a ≡ false) (each (update_entries dirs) at edits)
  no_packed_updates at [] = tt
  no_packed_updates at (e ∷ edits) =
      about_both (λ a. packed_before a ≡ false) (update_entries dirs at e) (each (update_entries dirs) (at + 1) edits)
      (about_both (λ a. packed_before a ≡ false) (folders_entry at e) (line_entry dirs at e ++ rename_entry dirs at e) (folders_either (AllAbout (λ a. packed_before a ≡ false)) at e tt (folders e.log))
      (about_both (λ a. packed_before a ≡ false) (line_entry dirs at e) (rename_entry dirs at e) (line e.log) (rename e.effect)))
      (no_packed_updates (at + 1) edits)
    where
      folders : (l : LogEffect) → AllAbout (λ a. packed_before a ≡ false) (folders_for at l)
      folders logs.Keep = tt
      folders (logs.Append log text) = (refl, tt)
      folders (logs.Remove log) = tt

      line : (l : LogEffect) → AllAbout (λ a. packed_before a ≡ false) (line_for dirs at l)
      line logs.Keep = tt
      line (logs.Append log text) = (refl, tt)
      line (logs.Remove log) = tt

      rename : (f : Effect) → AllAbout (λ a. packed_before a ≡ false) (rename_for dirs at e.lock f)
      rename effects.Write = (refl, tt)
      rename effects.Remove = tt
      rename effects.Keep = tt

  no_packed_logs : (at : ℕ) (edits : List Edit) → AllAbout (λ a. packed_before a ≡ false) (each log_removal_entry at edits)
  no_packed_logs at [] = tt
  no_packed_logs at (e ∷ edits) =
      about_both (λ a. packed_before a ≡ false) (log_removal_entry at e) (each log_removal_entry (at + 1) edits) (one e.log) (no_packed_logs (at + 1) edits)
    where
      one : (l : LogEffect) → AllAbout (λ a. packed_before a ≡ false) (log_removal_for at l)
      one logs.Keep = tt
      one (logs.Append log line) = tt
      one (logs.Remove log) = (refl, tt)

  no_packed_itself : (packed : Option Path) (rewrite : Rewrite) → AllAbout (λ a. packed_before a ≡ false) (packed_entries dirs packed rewrite)
  no_packed_itself None rewrite = tt
  no_packed_itself (Some path) Unchanged = tt
  no_packed_itself (Some path) Removed = (refl, tt)
  no_packed_itself (Some path) (Text text) = (refl, tt)

  packed_renamed : (path : Path) (rewrite : Rewrite) → renames_packed rewrite ≡ true → HasRename (lock_of path) (packed_entry dirs path rewrite)
  packed_renamed path (Text text) is = inl refl
  packed_renamed path Unchanged is = clash is refl
  packed_renamed path Removed is = clash is refl

  -- Before each step of a plan.
  module _ (edits : List Edit) (packed : Option Path) (rewrite : Rewrite) where
    abbrev U : List Entry
    U = each (update_entries dirs) 0 edits

    abbrev L : List Entry
    L = each log_removal_entry 0 edits

    abbrev P : List Entry
    P = packed_entries dirs packed rewrite

    abbrev R : List Entry
    R = each removal_entry 0 edits

    pub renamed_before : (before : List Entry) (x : Entry) (rest : List Entry) → planned_entries dirs edits packed rewrite ≡ before ++ x ∷ rest →
        (k : ℕ) → k < done_before n x.1 → is_written_at edits k ≡ true → HasRename (lock_at edits k) before
    renamed_before before x rest is k lt written = ⊎_elim
        (λ (first : IsInFirst U (L ++ (P ++ R)) before x rest). earlier_renamed 0 edits before x first.0 first.1 k (omega (arith, lt)) written)
        (λ (second : IsInSecond U (L ++ (P ++ R)) before x rest).
        subst (HasRename (lock_at edits k)) (sym second.1) (has_left (lock_at edits k) U second.0 (all_renamed 0 edits k written)))
        (either_list U (L ++ (P ++ R)) before x rest is)

    pub packed_renamed_before : (path : Path) → packed ≡ Some path → renames_packed rewrite ≡ true → (before : List Entry) (x : Entry) (rest : List Entry) →
        planned_entries dirs edits packed rewrite ≡ before ++ x ∷ rest → packed_before x.1 ≡ true → HasRename (lock_of path) before
    packed_renamed_before path held text before x rest is after = ⊎_elim
        (λ (first : IsInFirst U (L ++ (P ++ R)) before x rest). clash after (about_at (λ a. packed_before a ≡ false) before x first.0 (subst (AllAbout (λ a. packed_before a ≡ false)) first.1 (no_packed_updates 0 edits))))
        (λ (second : IsInSecond U (L ++ (P ++ R)) before x rest). ⊎_elim
        (λ (f : IsInFirst L (P ++ R) second.0 x rest). clash after (about_at (λ a. packed_before a ≡ false) second.0 x f.0 (subst (AllAbout (λ a. packed_before a ≡ false)) f.1 (no_packed_logs 0 edits))))
        (λ (m : IsInSecond L (P ++ R) second.0 x rest). ⊎_elim
        (λ (g : IsInFirst P R m.0 x rest). clash after (about_at (λ a. packed_before a ≡ false) m.0 x g.0 (subst (AllAbout (λ a. packed_before a ≡ false)) g.1 (no_packed_itself packed rewrite))))
        (λ (z : IsInSecond P R m.0 x rest).
        subst (HasRename (lock_of path)) (sym second.1)
        (has_right (lock_of path) U second.0
        (subst (HasRename (lock_of path)) (sym m.1)
        (has_right (lock_of path) L m.0 (subst (HasRename (lock_of path)) (sym z.1) (has_left (lock_of path) P z.0 here))))))
        (either_list P R m.0 x rest m.2))
        (either_list L (P ++ R) second.0 x rest second.2))
        (either_list U (L ++ (P ++ R)) before x rest is)
      where
        here : HasRename (lock_of path) P
        here = subst (λ (p : Option Path). HasRename (lock_of path) (packed_entries dirs p rewrite)) (sym held) (packed_renamed path rewrite text)

    -- and in the whole plan
    pub renamed_in_all : (k : ℕ) → is_written_at edits k ≡ true → HasRename (lock_at edits k) (planned_entries dirs edits packed rewrite)
    renamed_in_all k written = has_left (lock_at edits k) U (L ++ (P ++ R)) (all_renamed 0 edits k written)

    pub packed_renamed_in_all : (path : Path) → packed ≡ Some path → renames_packed rewrite ≡ true → HasRename (lock_of path) (planned_entries dirs edits packed rewrite)
    packed_renamed_in_all path held text =
        has_right (lock_of path) U (L ++ (P ++ R)) (has_right (lock_of path) L (P ++ R) (has_left (lock_of path) P R
        (subst (λ (p : Option Path). HasRename (lock_of path) (packed_entries dirs p rewrite)) (sym held) (packed_renamed path rewrite text))))
