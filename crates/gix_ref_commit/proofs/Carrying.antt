-- The planned steps of a commit carry out its writes.
use Rattle.std.proofs.Common.{◌≡◌, ◌≢◌, ℕ, ◌+◌, List, [], ◌∷◌, ◌++◌, Option, Some, None, codes, refl, sym, ◌∙◌, ap, subst, append_assoc}
use Rattle.std.proofs.lemmas.List.{map-append, append_cancel_right}
use Rattle.gix_ref_files.specs.Tree.{Path}
use Rattle.gix_ref_files.specs.Lock.{lock_of}
use Rattle.gix_ref_files.specs.Disk.{folder_of}
use Rattle.gix_ref_files.specs.Settled.{SettlesPath, SettlesRemoval, sync_of_folder}
use Rattle.gix_ref_files.specs.DiskSteps.{Synced}
use Rattle.gix_ref_files.proofs.Settling.{own_sync_settles}
use Rattle.gix_ref_lookup.specs.declared.folders.Dirs.{Dirs}
use Rattle.gix_ref_theory.specs.Views.{View, Write, changed_at, file_bytes, IsOwnLock}
use Rattle.gix_ref_theory.proofs.LoneUpdates.{elsewhere_same}
use Rattle.gix_ref_theory.proofs.OnDisks.{own_is_lock}
use Rattle.gix_ref_packed_text.specs.declared.outcome.Rewrite.{Rewrite}
use Rattle.gix_ref_packed_text.specs.declared.outcome.Rewrite.TheVariants.{Unchanged, Removed, Text}
use Rattle.gix_ref_transaction.specs.declared.edit.Edit.{Edit}
use Rattle.gix_ref_transaction.specs.declared.edit.Effect.{Effect}
use Rattle.gix_ref_transaction.specs.declared.edit.Effect.TheVariants as effects
use Rattle.gix_ref_transaction.specs.declared.edit.LogEffect.{LogEffect}
use Rattle.gix_ref_transaction.specs.declared.edit.LogEffect.TheVariants as logs
use Rattle.gix_ref_commit.proofs.LogFolders.{folders_either}
use Rattle.gix_ref_commit.specs.Entries.{Entry, each, folders_for, folders_entry, line_for, rename_for, log_removal_for, removal_for, line_entry, rename_entry, log_removal_entry, removal_entry, packed_entries, update_entries, planned_entries, steps_in, syncs_at}
use Rattle.gix_ref_commit.proofs.OwnPlan.{line_written, log_removed, logs_removed, file_put, file_removed, files_removed, packed_written, own_updates, own_plan}
use Rattle.gix_ref_commit.proofs.Carries.{Carries}

steps_apart : (a b : List Entry) (rest : List Synced) → steps_in (a ++ b) ++ rest ≡ steps_in a ++ (steps_in b ++ rest)
steps_apart a b rest = ap (λ (l : List Synced). l ++ rest) (map-append (λ (e : Entry). e.0) a b) ∙ append_assoc (steps_in a) (steps_in b) rest

-- two places have two locks
pub locks_apart : (place other : Path) → place ≢ other → lock_of place ≢ lock_of other
locks_apart place other apart same = apart (append_cancel_right place other (codes ".lock") same)

module _ (staying : List Path) (dirs : Dirs) where
  -- a path that is no lock, and is settled by the syncs of its folders
  abbrev pub IsPlain : Path → Type 0
  IsPlain p = ((q : Path) → p ≢ lock_of q) × SettlesPath staying p (syncs_at dirs p)

  -- and so is a log that changes
  abbrev pub IsLogPlain : LogEffect → Type 0
  IsLogPlain logs.Keep = Unit {0}
  IsLogPlain (logs.Append log line) = IsPlain log.items
  IsLogPlain (logs.Remove log) = IsPlain log.items

-- a path is no place of these
abbrev pub IsElsewhere : Path → List Edit → Type 0
IsElsewhere p [] = Unit {0}
IsElsewhere p (e ∷ edits) = (p ≢ e.lock) × IsElsewhere p edits

-- no two have one place
abbrev pub AreApart : List Edit → Type 0
AreApart [] = Unit {0}
AreApart (e ∷ edits) = IsElsewhere e.lock edits × AreApart edits

module _ (locked staying : List Path) (dirs : Dirs) where
  -- What the plan asks of the paths of an edit.
  pub record IsPlaced (e : Edit) : Type 0 where
    pub own : IsOwnLock locked (lock_of e.lock)
    pub place : IsPlain staying dirs e.lock
    pub log : IsLogPlain staying dirs e.log

  abbrev pub ArePlaced : List Edit → Type 0
  ArePlaced [] = Unit {0}
  ArePlaced (e ∷ edits) = IsPlaced e × ArePlaced edits

  -- what the plan asks of the path of `packed-refs`, whose lock is held or not
  abbrev pub IsPackedPlaced : Option Path → List Edit → Type 0
  IsPackedPlaced None edits = Unit {0}
  IsPackedPlaced (Some path) edits = IsOwnLock locked (lock_of path) × IsPlain staying dirs path × IsElsewhere path edits

  -- `first` are the texts of the locks as the commit begins.
  module _ (first : View) where
    -- the lock of an edit that is written has the text that it had first
    abbrev pub HasText : View → Path → Effect → Type 0
    HasText texts place effects.Write = texts (lock_of place) ≡ Some (file_bytes (first (lock_of place)))
    HasText texts place effects.Remove = Unit {0}
    HasText texts place effects.Keep = Unit {0}

    abbrev pub HaveTexts : View → List Edit → Type 0
    HaveTexts texts [] = Unit {0}
    HaveTexts texts (e ∷ edits) = HasText texts e.lock e.effect × HaveTexts texts edits

    abbrev pub HasPackedText : View → Option Path → Rewrite → Type 0
    HasPackedText texts (Some path) (Text text) = texts (lock_of path) ≡ Some (file_bytes (first (lock_of path)))
    HasPackedText texts packed rewrite = Unit {0}

    -- the texts of what is still to come
    abbrev ToCome : View → List Edit → Option Path → Rewrite → Type 0
    ToCome texts edits packed rewrite = HaveTexts texts edits × HasPackedText texts packed rewrite

    -- A change at a path that is no lock leaves them, and so does one at the lock of another place.
    text_stays : (texts : View) (p place : Path) (f : Effect) → p ≢ lock_of place → HasText texts place f → HasText (changed_at p None texts) place f
    text_stays texts p place effects.Write other h = elsewhere_same p (lock_of place) None texts other ∙ h
    text_stays texts p place effects.Remove other h = h
    text_stays texts p place effects.Keep other h = h

    packed_stays : (texts : View) (p : Path) (packed : Option Path) (rewrite : Rewrite) → ((path : Path) → packed ≡ Some path → p ≢ lock_of path) →
        HasPackedText texts packed rewrite → HasPackedText (changed_at p None texts) packed rewrite
    packed_stays texts p (Some path) (Text text) other h = elsewhere_same p (lock_of path) None texts (other path refl) ∙ h
    packed_stays texts p (Some path) Unchanged other h = h
    packed_stays texts p (Some path) Removed other h = h
    packed_stays texts p None rewrite other h = h

    texts_stay : (texts : View) (p : Path) (edits : List Edit) → ((q : Path) → p ≢ lock_of q) → HaveTexts texts edits → HaveTexts (changed_at p None texts) edits
    texts_stay texts p [] other h = h
    texts_stay texts p (e ∷ edits) other (one, rest) = (text_stays texts p e.lock e.effect (other e.lock) one, texts_stay texts p edits other rest)

    plain_stays : (texts : View) (p : Path) (edits : List Edit) (packed : Option Path) (rewrite : Rewrite) → ((q : Path) → p ≢ lock_of q) →
        ToCome texts edits packed rewrite → ToCome (changed_at p None texts) edits packed rewrite
    plain_stays texts p edits packed rewrite other (texts_are, packed_is) =
        (texts_stay texts p edits other texts_are, packed_stays texts p packed rewrite (λ path is. other path) packed_is)

    others_stay : (texts : View) (place : Path) (edits : List Edit) → IsElsewhere place edits → HaveTexts texts edits → HaveTexts (changed_at (lock_of place) None texts) edits
    others_stay texts place [] elsewhere h = h
    others_stay texts place (e ∷ edits) (other, elsewhere) (one, rest) =
        (text_stays texts (lock_of place) e.lock e.effect (locks_apart place e.lock other) one, others_stay texts place edits elsewhere rest)

    lock_stays : (texts : View) (place : Path) (edits : List Edit) (packed : Option Path) (rewrite : Rewrite) → IsElsewhere place edits → ((path : Path) → packed ≡ Some path → place ≢ path) →
        ToCome texts edits packed rewrite → ToCome (changed_at (lock_of place) None texts) edits packed rewrite
    lock_stays texts place edits packed rewrite elsewhere other (texts_are, packed_is) =
        (others_stay texts place edits elsewhere texts_are, packed_stays texts (lock_of place) packed rewrite (λ path is. locks_apart place path (other path is)) packed_is)

    abbrev Carried : View → List Synced → List Write → Type 0
    Carried texts steps writes = Carries locked staying texts steps writes

    no_own : (p : Path) → ((q : Path) → p ≢ lock_of q) → IsOwnLock locked p → ⊥
    no_own p plain own = let l = own_is_lock locked p own in plain l.0 l.1

    -- the sync of its own folder settles a removal
    settles_removal : (p : Path) → IsPlain staying dirs p → SettlesRemoval p (sync_of_folder (folder_of p))
    settles_removal p plain = own_sync_settles staying p (syncs_at dirs p) plain.1

    -- A line, or none.
    line_carried : (at : ℕ) (l : LogEffect) (texts : View) (rest : List Synced) (ws : List Write) → IsLogPlain staying dirs l → Carried texts rest ws →
        ((p : Path) → ((q : Path) → p ≢ lock_of q) → Carried (changed_at p None texts) rest ws) → Carried texts (steps_in (line_for dirs at l) ++ rest) (line_written l ++ ws)
    line_carried at logs.Keep texts rest ws plain next later = next
    line_carried at (logs.Remove log) texts rest ws plain next later = next
    line_carried at (logs.Append log line) texts rest ws plain next later =
        (ws, no_own log.items plain.0, refl, (refl, plain.1), later log.items plain.0)

    -- The folders that lead to its log, which are no write.
    folders_carried : (at : ℕ) (l : LogEffect) (texts : View) (rest : List Synced) (ws : List Write) → Carried texts rest ws → Carried texts (steps_in (folders_for at l) ++ rest) ws
    folders_carried at logs.Keep texts rest ws next = next
    folders_carried at (logs.Remove log) texts rest ws next = next
    folders_carried at (logs.Append log line) texts rest ws next = next

    folders_entry_carried : (at : ℕ) (e : Edit) (texts : View) (rest : List Synced) (ws : List Write) → Carried texts rest ws → Carried texts (steps_in (folders_entry at e) ++ rest) ws
    folders_entry_carried at e texts rest ws next = folders_either (λ (es : List Entry). Carried texts (steps_in es ++ rest) ws) at e next (folders_carried at e.log texts rest ws next)

    -- A rename, or none.
    rename_carried : (at : ℕ) (e : Edit) (f : Effect) (texts : View) (rest : List Synced) (ws : List Write) → IsPlaced e → HasText texts e.lock f → Carried texts rest ws →
        Carried (changed_at e.lock None (changed_at (lock_of e.lock) None texts)) rest ws → Carried texts (steps_in (rename_for dirs at e.lock f) ++ rest) (file_put first e.lock f ++ ws)
    rename_carried at e effects.Write texts rest ws placed text next later =
        (file_bytes (first (lock_of e.lock)), ws, placed.own, (λ same. placed.place.0 e.lock (sym same)), text, refl, placed.place.1, later)
    rename_carried at e effects.Remove texts rest ws placed text next later = next
    rename_carried at e effects.Keep texts rest ws placed text next later = next

    -- For each edit its line and its rename, and then what comes after all of these.
    updates_carried : (at : ℕ) (edits : List Edit) (packed : Option Path) (rewrite : Rewrite) (texts : View) (rest : List Synced) (ws : List Write) → ArePlaced edits → AreApart edits →
        ((path : Path) → packed ≡ Some path → IsElsewhere path edits) → ToCome texts edits packed rewrite → ((left : View) → HasPackedText left packed rewrite → Carried left rest ws) →
        Carried texts (steps_in (each (update_entries dirs) at edits) ++ rest) (own_updates first edits ++ ws)
    updates_carried at [] packed rewrite texts rest ws placed apart elsewhere come then = then texts come.1
    updates_carried at (e ∷ edits) packed rewrite texts rest ws (one, placed) (alone, apart) elsewhere come then =
        subst (λ (l : List Write). Carried texts (steps_in (each (update_entries dirs) at (e ∷ edits)) ++ rest) l) (sym writes_are)
        (subst (λ (l : List Synced). Carried texts l (line_written e.log ++ (file_put first e.lock e.effect ++ (own_updates first edits ++ ws)))) (sym steps_are)
        (folders_entry_carried at e texts (steps_in (line_entry dirs at e) ++ (steps_in (rename_entry dirs at e) ++ others)) (line_written e.log ++ (file_put first e.lock e.effect ++ (own_updates first edits ++ ws)))
        (line_carried at e.log texts (steps_in (rename_entry dirs at e) ++ others) (file_put first e.lock e.effect ++ (own_updates first edits ++ ws)) one.log
        (renamed (λ left later. updates_carried (at + 1) edits packed rewrite left rest ws placed apart (λ path is. (elsewhere path is).1) later then) texts come)
        (λ p plain. renamed (λ left later. updates_carried (at + 1) edits packed rewrite left rest ws placed apart (λ path is. (elsewhere path is).1) later then) (changed_at p None texts) (plain_stays texts p (e ∷ edits) packed rewrite plain come)))))
      where
        others : List Synced
        others = steps_in (each (update_entries dirs) (at + 1) edits) ++ rest

        writes_are : (line_written e.log ++ (file_put first e.lock e.effect ++ own_updates first edits)) ++ ws ≡ line_written e.log ++ (file_put first e.lock e.effect ++ (own_updates first edits ++ ws))
        writes_are = append_assoc (line_written e.log) (file_put first e.lock e.effect ++ own_updates first edits) ws ∙ ap (λ (l : List Write). line_written e.log ++ l) (append_assoc (file_put first e.lock e.effect) (own_updates first edits) ws)

        steps_are : steps_in ((folders_entry at e ++ (line_entry dirs at e ++ rename_entry dirs at e)) ++ each (update_entries dirs) (at + 1) edits) ++ rest
            ≡ steps_in (folders_entry at e) ++ (steps_in (line_entry dirs at e) ++ (steps_in (rename_entry dirs at e) ++ others))
        steps_are =
            steps_apart (folders_entry at e ++ (line_entry dirs at e ++ rename_entry dirs at e)) (each (update_entries dirs) (at + 1) edits) rest
            ∙ (steps_apart (folders_entry at e) (line_entry dirs at e ++ rename_entry dirs at e) others
            ∙ ap (λ (l : List Synced). steps_in (folders_entry at e) ++ l) (steps_apart (line_entry dirs at e) (rename_entry dirs at e) others))

        renamed : ((left : View) → ToCome left edits packed rewrite → Carried left others (own_updates first edits ++ ws)) → (now : View) → ToCome now (e ∷ edits) packed rewrite →
            Carried now (steps_in (rename_entry dirs at e) ++ others) (file_put first e.lock e.effect ++ (own_updates first edits ++ ws))
        renamed go now ((text, texts_are), packed_is) =
            rename_carried at e e.effect now others (own_updates first edits ++ ws) one text
            (go now (texts_are, packed_is))
            (go (changed_at e.lock None (changed_at (lock_of e.lock) None now))
            (plain_stays (changed_at (lock_of e.lock) None now) e.lock edits packed rewrite one.place.0
            (lock_stays now e.lock edits packed rewrite alone (λ path is same. (elsewhere path is).0 (sym same)) (texts_are, packed_is))))

    -- The removal of a log, or none; and of the logs of all edits.
    log_removal_carried : (at : ℕ) (l : LogEffect) (texts : View) (rest : List Synced) (ws : List Write) → IsLogPlain staying dirs l → Carried texts rest ws →
        ((p : Path) → ((q : Path) → p ≢ lock_of q) → Carried (changed_at p None texts) rest ws) → Carried texts (steps_in (log_removal_for at l) ++ rest) (log_removed l ++ ws)
    log_removal_carried at logs.Keep texts rest ws plain next later = next
    log_removal_carried at (logs.Append log line) texts rest ws plain next later = next
    log_removal_carried at (logs.Remove log) texts rest ws plain next later = (ws, refl, settles_removal log.items plain, later log.items plain.0)

    log_removals_carried : (at : ℕ) (edits : List Edit) (packed : Option Path) (rewrite : Rewrite) (texts : View) (rest : List Synced) (ws : List Write) → ArePlaced edits → HasPackedText texts packed rewrite →
        ((left : View) → HasPackedText left packed rewrite → Carried left rest ws) →
        Carried texts (steps_in (each log_removal_entry at edits) ++ rest) (logs_removed edits ++ ws)
    log_removals_carried at [] packed rewrite texts rest ws placed text then = then texts text
    log_removals_carried at (e ∷ edits) packed rewrite texts rest ws (one, placed) text then =
        subst (λ (l : List Write). Carried texts (steps_in (each log_removal_entry at (e ∷ edits)) ++ rest) l) (sym (append_assoc (log_removed e.log) (logs_removed edits) ws))
        (subst (λ (l : List Synced). Carried texts l (log_removed e.log ++ (logs_removed edits ++ ws))) (sym (steps_apart (log_removal_entry at e) (each log_removal_entry (at + 1) edits) rest))
        (log_removal_carried at e.log texts (steps_in (each log_removal_entry (at + 1) edits) ++ rest) (logs_removed edits ++ ws) one.log
        (log_removals_carried (at + 1) edits packed rewrite texts rest ws placed text then)
        (λ p plain. log_removals_carried (at + 1) edits packed rewrite (changed_at p None texts) rest ws placed (packed_stays texts p packed rewrite (λ path is. plain path) text) then)))

    -- What is done with `packed-refs`.
    packed_carried : (packed : Option Path) (rewrite : Rewrite) (texts : View) (edits : List Edit) (rest : List Synced) (ws : List Write) → IsPackedPlaced packed edits → HasPackedText texts packed rewrite →
        ((left : View) → Carried left rest ws) → Carried texts (steps_in (packed_entries dirs packed rewrite) ++ rest) (packed_written first packed rewrite ++ ws)
    packed_carried None rewrite texts edits rest ws placed text then = then texts
    packed_carried (Some path) Unchanged texts edits rest ws placed text then = then texts
    packed_carried (Some path) Removed texts edits rest ws placed text then = (ws, refl, settles_removal path placed.1, then (changed_at path None texts))
    packed_carried (Some path) (Text new) texts edits rest ws placed text then =
        (file_bytes (first (lock_of path)), ws, placed.0, (λ same. placed.1.0 path (sym same)), text, refl, placed.1.1, then (changed_at path None (changed_at (lock_of path) None texts)))

    -- The removal of a loose file, or none; and of all.
    removal_carried : (at : ℕ) (e : Edit) (f : Effect) (texts : View) (rest : List Synced) (ws : List Write) → IsPlaced e → ((left : View) → Carried left rest ws) →
        Carried texts (steps_in (removal_for at e.lock f) ++ rest) (file_removed e.lock f ++ ws)
    removal_carried at e effects.Write texts rest ws placed then = then texts
    removal_carried at e effects.Keep texts rest ws placed then = then texts
    removal_carried at e effects.Remove texts rest ws placed then = (ws, refl, settles_removal e.lock placed.place, then (changed_at e.lock None texts))

    removals_carried : (at : ℕ) (edits : List Edit) (texts : View) → ArePlaced edits → Carried texts (steps_in (each removal_entry at edits)) (files_removed edits)
    removals_carried at [] texts placed = refl
    removals_carried at (e ∷ edits) texts (one, placed) =
        subst (λ (l : List Synced). Carried texts l (file_removed e.lock e.effect ++ files_removed edits)) (sym (map-append (λ (x : Entry). x.0) (removal_entry at e) (each removal_entry (at + 1) edits)))
        (removal_carried at e e.effect texts (steps_in (each removal_entry (at + 1) edits)) (files_removed edits) one (λ left. removals_carried (at + 1) edits left placed))

    -- All of them.
    pub plan_carried : (edits : List Edit) (packed : Option Path) (rewrite : Rewrite) (texts : View) → ArePlaced edits → AreApart edits → IsPackedPlaced packed edits → HaveTexts texts edits →
        HasPackedText texts packed rewrite → Carries locked staying texts (steps_in (planned_entries dirs edits packed rewrite)) (own_plan first edits packed rewrite)
    plan_carried edits packed rewrite texts placed apart packed_placed texts_are packed_is =
        subst (λ (l : List Synced). Carried texts l (own_plan first edits packed rewrite)) (sym steps_are)
        (updates_carried 0 edits packed rewrite texts
        (steps_in (each log_removal_entry 0 edits) ++ (steps_in (packed_entries dirs packed rewrite) ++ steps_in (each removal_entry 0 edits)))
        (logs_removed edits ++ (packed_written first packed rewrite ++ files_removed edits)) placed apart (elsewhere packed packed_placed) (texts_are, packed_is)
        (λ left text. log_removals_carried 0 edits packed rewrite left (steps_in (packed_entries dirs packed rewrite) ++ steps_in (each removal_entry 0 edits)) (packed_written first packed rewrite ++ files_removed edits) placed text
        (λ now held. packed_carried packed rewrite now edits (steps_in (each removal_entry 0 edits)) (files_removed edits) packed_placed held (λ last. removals_carried 0 edits last placed))))
      where
        elsewhere : (held : Option Path) → IsPackedPlaced held edits → (path : Path) → held ≡ Some path → IsElsewhere path edits
        elsewhere (Some path) is other same = subst (λ (p : Path). IsElsewhere p edits) (inner same) is.2
          where
            inner : {x y : Path} → Some x ≡ Some y → x ≡ y
            inner h = cc
        elsewhere None is other same = cc

        tail : List Entry
        tail = packed_entries dirs packed rewrite ++ each removal_entry 0 edits

        steps_are : steps_in (planned_entries dirs edits packed rewrite) ≡ steps_in (each (update_entries dirs) 0 edits) ++ (steps_in (each log_removal_entry 0 edits) ++ (steps_in (packed_entries dirs packed rewrite) ++ steps_in (each removal_entry 0 edits)))
        steps_are =
            map-append (λ (x : Entry). x.0) (each (update_entries dirs) 0 edits) (each log_removal_entry 0 edits ++ tail)
            ∙ ap (λ l. steps_in (each (update_entries dirs) 0 edits) ++ l)
            (map-append (λ (x : Entry). x.0) (each log_removal_entry 0 edits) tail
            ∙ ap (λ l. steps_in (each log_removal_entry 0 edits) ++ l) (map-append (λ (x : Entry). x.0) (packed_entries dirs packed rewrite) (each removal_entry 0 edits)))
