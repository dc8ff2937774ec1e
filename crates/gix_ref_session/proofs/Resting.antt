-- Stores at rest, with a `packed-refs` that is well formed or missing: what leaves them so.
use Rattle.std.proofs.Common.{◌≡◌, ◌≢◌, inl, inr, ℕ, List, [], Bool, true, false, ◌||◌, Option, None, Result, Ok, Err, refl, sym, ◌∙◌, ap, subst}
use Rattle.gix_ref_files.specs.declared.files.FileError.{FileError}
use Rattle.gix_ref_files.specs.declared.files.ReadAt.{Ghosts}
use Rattle.gix_ref_files.specs.Files.{Meaning, FaultCounts}
use Rattle.gix_ref_files.specs.Lock.{lock_of}
use Rattle.gix_ref_files.specs.Settled.{AllStay, IsSettledAt}
use Rattle.gix_ref_files.specs.Tree.{Path}
use Rattle.gix_ref_files.proofs.Moments.{passes_weaken}
use Rattle.gix_ref_files.proofs.Settling.{stands_settled}
use Rattle.gix_ref_hash.specs.declared.hash.Kind.{Kind}
use Rattle.gix_ref_name.specs.declared.namespace.Namespace.{Namespace}
use Rattle.gix_ref_target.specs.Layout.{Layout}
use Rattle.gix_ref_edits.specs.declared.transaction.RefEdit.{RefEdit}
use Rattle.gix_ref_log.specs.declared.actor.SignatureRef.{SignatureRef}
use Rattle.gix_ref_lookup.specs.StoreLayout.{folders_of, git_options}
use Rattle.gix_ref_lookup.specs.declared.folders.Dirs.{Dirs}
use Rattle.gix_ref_lookup.proofs.Laying.{folders_laid}
use Rattle.gix_ref_packed.specs.OpenFiles.{HasReadFault}
use Rattle.gix_ref_theory.specs.OnDisks.{IsAsBefore, IsSpokenOf}
use Rattle.gix_ref_theory.specs.OnRealTrees.{view_of}
use Rattle.gix_ref_theory.specs.Readings as readings
use Rattle.gix_ref_theory.specs.Roots.{roots}
use Rattle.gix_ref_theory.specs.Sequences.{AreDone}
use Rattle.gix_ref_theory.specs.Views.{IsOwnLock}
use Rattle.gix_ref_theory.proofs.LockDisks.{as_before}
use Rattle.gix_ref_theory.proofs.OnDisks.{own_is_lock}
use Rattle.gix_ref_theory.proofs.PlaceLaws.{laws_hold}
use Rattle.gix_ref_theory.proofs.Sequences.{done_keeps}
use Rattle.gix_ref_transaction.specs.Causes.{IsPackedWell}
use Rattle.gix_ref_transaction.specs.OwnLocks.{is_in}
use Rattle.gix_ref_transaction.specs.Packing.{mode_in}
use Rattle.gix_ref_transaction.specs.PrepareSteps.{held_locks}
use Rattle.gix_ref_transaction.specs.declared.edit.Edit.{Edit}
use Rattle.gix_ref_transaction.proofs.CommitLosses.{rest_kept}
use Rattle.gix_ref_transaction.proofs.LockRounds.{own_all}
use Rattle.gix_ref_store.specs.Lookup.{LooksUp}
use Rattle.gix_ref_store.specs.Prepared.{HasGoodRecords, IsAtRest, KeepsAllBut, disk_in, places_in, tree_of}
use Rattle.gix_ref_store.specs.Store.{folders, kind_of, meaning_of, IsSameStore}
use Rattle.gix_ref_store.specs.declared.file.store.Store.{Store}
use Rattle.gix_ref_store.proofs.Commits.{ran_mine, same_meaning}
use Rattle.gix_ref_session.specs.Sessions.{Closes, MakeEnds, PreparedEnds, Settles, TryEnds, Turn, TurnDone, Way, way}
use Rattle.gix_ref_session.specs.Transactions.{IsCommitted, IsRolledBack, IsTried, Prepares, uses}
use Rattle.gix_ref_session.specs.declared.fatal.Fatal.{Fatal}
use Rattle.gix_ref_session.specs.declared.fatal.Fatal.TheVariants as fatals
use Rattle.gix_ref_session.specs.declared.gather.Closing.{Closing}
use Rattle.gix_ref_session.specs.declared.gather.Closing.TheVariants as closings
use Rattle.gix_ref_session.specs.declared.session.Session.{Session}
use Rattle.gix_ref_program.specs.declared.update.UpdateError.TheVariants as errors

-- all of a store is at rest, and its `packed-refs` is well formed, or there is none
abbrev pub IsReady : {F : Type 0} (means : F → Meaning) → Store F → Type 0
IsReady means store = HasGoodRecords means store × IsAtRest means store

-- Where every disk is as before except for locks, it is so again.

module _ {F : Type 0} (means : F → Meaning) (old new : Store F) (same : IsSameStore old new) where
  -- the folders are the same
  folders_same : folders new ≡ folders old
  folders_same =
      ap (λ (d : Dirs). folders_of d new.namespace) same.dirs
      ∙ ap (λ (n : Option Namespace). folders_of old.dirs n) same.namespace

  module _ (places : List Path) (keeps : KeepsAllBut means old new places) (at_rest : IsAtRest means old) where
    -- nothing is unsynced but locks
    rest_on : IsAtRest means new
    rest_on =
        let kept = rest_kept places (roots (folders old)) (disk_in means old) (disk_in means new) at_rest.0 (keeps (roots (folders old)) at_rest.1).disk in
        (kept.0, subst (λ (f : Layout). AllStay (disk_in means new) (roots f)) (sym folders_same) kept.1)

    -- `packed-refs` is no lock
    no_lock : (p : Path) → (meaning_of old).packed_path ≢ lock_of p
    no_lock = (laws_hold (folders old) (git_options (kind_of old) old.prohibit_windows_device_names) (folders_laid old.dirs old.namespace)).packed_is_no_lock

    -- so it is the same file
    packed_same : view_of (tree_of means new) (meaning_of old).packed_path ≡ view_of (tree_of means old) (meaning_of old).packed_path
    packed_same =
        let path = (meaning_of old).packed_path in
        stands_settled (disk_in means new) (view_of (tree_of means old) path) path
        ((keeps [] tt).disk.0 path (λ own. let l = own_is_lock places path own in no_lock l.0 l.1, at_rest.0 path no_lock))

    -- and as well formed
    good_on : HasGoodRecords means old → HasGoodRecords means new
    good_on good =
        subst (λ (k : Kind). IsPackedWell k (view_of (tree_of means new) (meaning_of new).packed_path)) (sym same.of_kind)
        (subst (λ (s : readings.Store). IsPackedWell (kind_of old) (view_of (tree_of means new) s.packed_path)) (sym (same_meaning old new same))
        (subst (λ (f : Option (List ℕ)). IsPackedWell (kind_of old) f) (sym packed_same) good))

  pub ready_on : (places : List Path) → KeepsAllBut means old new places → IsReady means old → IsReady means new
  ready_on places keeps ready = (good_on places keeps ready.1 ready.0, rest_on places keeps ready.1)

-- Lookups.

module _ {F : Type 0} (honest : Type 0) (means : F → Meaning) (old new : Store F) (looked : LooksUp honest means old new) where
  -- they leave the disk as it is
  looks_keep : honest → KeepsAllBut means old new []
  looks_keep h staying stays =
      passes_weaken (looked.passes h) (λ D is. subst (IsAsBefore [] staying (disk_in means old)) (sym is) (as_before [] staying (disk_in means old) stays))

  pub looked_ready : honest → IsReady means old → IsReady means new
  looked_ready h ready = ready_on means old new looked.same [] (looks_keep h) ready

-- Edits that were prepared.

module _ {F : Type 0} (honest : Type 0) (means : F → Meaning) (faults : F → FaultCounts) (old mid : Store F) (edits : List RefEdit) (packed : Option Path) (held : List Edit) (from : Prepares honest means faults old mid edits packed held) where
  -- the places of their locks
  abbrev pub own_places : List Path
  own_places = places_in means (mode_in uses) old from.split

  -- each lock that is held is one of theirs
  pub held_own : honest → (q : Path) → is_in (held_locks packed held) q ≡ true → IsOwnLock own_places q
  held_own h q within =
      own_all (meaning_of old) (mode_in uses) (tree_of means old) from.split q
      (ran_mine honest means faults (mode_in uses) old mid None from.split packed held from.prepared held refl mid [] h false q within)

  -- a file that was settled is so once they are prepared, and the same
  pub spoken_on : honest → (q : Path) → IsSpokenOf own_places (disk_in means old) q → IsSpokenOf own_places (disk_in means mid) q × (view_of (tree_of means mid) q ≡ view_of (tree_of means old) q)
  spoken_on h q spoken =
      let still = ((from.prepared.lost h).keeps [] tt).disk.0 q spoken in
      let is = stands_settled (disk_in means mid) (view_of (tree_of means old) q) q still in
      ((spoken.0, subst (λ (f : Option (List ℕ)). IsSettledAt (disk_in means mid) f q) (sym is) still), is)

  -- preparing them leaves a store at rest
  pub prepared_ready : honest → IsReady means old → IsReady means mid
  prepared_ready h ready = ready_on means old mid from.prepared.held.same own_places (from.prepared.lost h).keeps ready

-- Transactions that were closed.

module _ {F : Type 0} (honest : Type 0) (means : F → Meaning) (faults : F → FaultCounts) (old new : Store F) (edits : List RefEdit) where
  -- edits that were committed
  committed_ready : (committer : Option SignatureRef) → IsCommitted honest means faults committer old new edits → honest → IsReady means old → IsReady means new
  committed_ready committer committed h ready = (committed.good h ready.0, committed.rests h ready.1)

  -- edits that were prepared and given up
  rolled_ready : IsRolledBack honest means faults old new edits → honest → IsReady means old → IsReady means new
  rolled_ready back h ready =
      let b = back.begun in
      let places = own_places honest means faults old b.mid edits b.packed b.held b.prepared in
      ready_on means b.mid new back.rolled.same places (back.rolled.lost h places (held_own honest means faults old b.mid edits b.packed b.held b.prepared h)).keeps
      (prepared_ready honest means faults old b.mid edits b.packed b.held b.prepared h ready)

module _ {F : Type 0} (honest : Type 0) (means : F → Meaning) (faults : F → FaultCounts) (committer : Option SignatureRef) (read : FileError → Type 0) (edits : List RefEdit) where
  -- a try that another's lock refused, or that was given up since another has switched `HEAD`
  tried_ready : honest → (fatal : Fatal) (old new : Store F) → IsTried honest means faults committer read edits fatal old new → IsReady means old → IsReady means new
  tried_ready h (fatals.Update (errors.Prepare cause)) old new tried ready =
      let led = tried.1 in
      let refuses = led.ends.fails.refuses in
      ready_on means led.at new refuses.same (places_in means (mode_in uses) led.at refuses.tried) (refuses.lost h).keeps
      (looked_ready honest means old led.at led.looked h ready)
  tried_ready h (fatals.Switched name) old new led ready =
      rolled_ready honest means faults led.at new led.led led.ends.back h (looked_ready honest means old led.at led.looked h ready)
  tried_ready h (fatals.Update (errors.Commit error)) old new tried ready = absurd tried
  tried_ready h (fatals.Read error) old new tried ready = absurd tried
  tried_ready h (fatals.Write error) old new tried ready = absurd tried
  tried_ready h fatals.Memory old new tried ready = absurd tried
  tried_ready h fatals.Folder old new tried ready = absurd tried
  tried_ready h (fatals.Malformed text) old new tried ready = absurd tried
  tried_ready h (fatals.Name error) old new tried ready = absurd tried
  tried_ready h fatals.Closed old new tried ready = absurd tried
  tried_ready h fatals.Restarted old new tried ready = absurd tried
  tried_ready h fatals.Prepared old new tried ready = absurd tried
  tried_ready h fatals.Deref old new tried ready = absurd tried
  tried_ready h (fatals.Find error) old new tried ready = absurd tried
  tried_ready h (fatals.List error) old new tried ready = absurd tried
  tried_ready h (fatals.Clash name) old new tried ready = absurd tried

  pub tries_ready : (tries : List Fatal) (first last : Store F) → AreDone (IsTried honest means faults committer read edits) tries first last → honest → IsReady means first → IsReady means last
  tries_ready tries first last were h ready = done_keeps (IsTried honest means faults committer read edits) (IsReady means) (tried_ready h) tries first last were ready

-- nothing that ends well has failed
no_error : {P : Type 0} (value : Bool) (fatal : Fatal) → ◌≡◌ {A = Result Bool Fatal} (Ok value) (Err fatal) → P
no_error value fatal is = cc

module _ {F R : Type 0} (G : Ghosts R) (honest : Type 0) (means : F → Meaning) (faults : F → FaultCounts) (session : Session) where
  -- prepared edits after which the session goes on
  closed_ready : (closing : Closing) (s t : Way F) (edits : List RefEdit) → PreparedEnds G honest means faults session closing s t edits (Ok true) → honest → IsReady means s.store → IsReady means t.store
  closed_ready closings.Commit s t edits ends h ready = committed_ready honest means faults s.store t.store edits session.committer ends.0 h ready
  closed_ready closings.Prepare s t edits (inl committed) h ready = committed_ready honest means faults s.store t.store edits session.committer committed.0 h ready
  closed_ready closings.Prepare s t edits (inr back) h ready = rolled_ready honest means faults s.store t.store edits back.0 h ready
  closed_ready closings.End s t edits ends h ready = absurd ends
  closed_ready closings.Abort s t edits ends h ready = absurd ends

  made_ready : (closing : Closing) (given edits : List RefEdit) (s t : Way F) → MakeEnds G honest means faults session closing given edits s t (Ok true) → honest → IsReady means s.store → IsReady means t.store
  made_ready closing given edits s t (inl not) h ready = no_error true (fatals.Update (errors.Prepare not.error)) not.is
  made_ready closing given edits s t (inr (inl up)) h ready = no_error true up.fatal up.is
  made_ready closing given edits s t (inr (inr (named, ends))) h ready = closed_ready closing s t edits ends h ready

  -- the last try
  ended_ready : (closing : Closing) (edits : List RefEdit) (s t : Way F) → TryEnds G honest means faults session closing edits s t (Ok true) → honest → IsReady means s.store → IsReady means t.store
  ended_ready closing edits s t (inl looked) h ready = no_error true looked.fatal looked.is
  ended_ready closing edits s t (inr led) h ready =
      made_ready closing edits led.led (way s.input s.output led.at) (way t.input t.output t.store) led.ends h (looked_ready honest means s.store led.at led.looked h ready)

  settled_ready : (closing : Closing) (edits : List RefEdit) (s t : Way F) → Settles G honest means faults session closing edits s t (Ok true) → honest → IsReady means s.store → IsReady means t.store
  settled_ready closing edits s t settled h ready =
      ended_ready closing edits (record s { store = settled.mid }) t settled.ends h
      (tries_ready honest means faults session.committer (HasReadFault G.faults) edits settled.tries s.store settled.mid settled.were h ready)

  -- a transaction after which the session goes on
  gone_on_ready : (closing : Closing) (edits : List RefEdit) (gives_up : Bool) (s t : Way F) → Closes G honest means faults session closing edits gives_up s t (Ok true) → honest → IsReady means s.store → IsReady means t.store
  gone_on_ready closings.Abort edits gives_up s t ends h ready = subst (IsReady means) (sym ends.0) ready
  gone_on_ready closings.End edits true s t ends h ready = absurd ends
  gone_on_ready closings.End edits false s t ends h ready = settled_ready closings.End edits s t ends h ready
  gone_on_ready closings.Prepare edits gives_up s t ends h ready = settled_ready closings.Prepare edits s t ends h ready
  gone_on_ready closings.Commit edits gives_up s t ends h ready = settled_ready closings.Commit edits s t ends h ready

  turn_ready : honest → (turn : Turn) (s t : Way F) → TurnDone G honest means faults session turn s t → IsReady means s.store → IsReady means t.store
  turn_ready h turn s t done ready =
      gone_on_ready turn.closing turn.gathered.edits (turn.gathered.started || s.needs_start) (record s { input = turn.rest; output = turn.gathered.output }) t done.ends.ends h ready

  -- and any number of them
  pub turns_ready : (turns : List Turn) (first last : Way F) → AreDone (TurnDone G honest means faults session) turns first last → honest → IsReady means first.store → IsReady means last.store
  turns_ready turns first last were h ready = done_keeps (TurnDone G honest means faults session) (λ (s : Way F). IsReady means s.store) (turn_ready h) turns first last were ready
