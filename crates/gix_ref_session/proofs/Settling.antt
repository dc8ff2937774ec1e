-- Tries that a lock of another's refused, and the one that ends a transaction.
use Rattle.std.proofs.Common.{◌≡◌, inl, inr, ℕ, ◌+◌, List, [], ◌∷◌, ◌++◌, Bool, Option, Result, Ok, Err, refl, sym, subst, arith}
use Rattle.std.specs.Prelude.{is_some}
use Rattle.gix_ref_files.specs.declared.files.ReadAt.{Ghosts}
use Rattle.gix_ref_packed.specs.OpenFiles.{HasReadFault}
use Rattle.gix_ref_files.specs.Files.{Meaning, Leaves, Loses, FaultCounts}
use Rattle.gix_ref_files.proofs.Moments.{joins, loses_joins, loses_weaken, starts, weaken}
use Rattle.gix_ref_edits.specs.declared.transaction.RefEdit.{RefEdit}
use Rattle.gix_ref_theory.specs.Sequences.{AreDone}
use Rattle.gix_ref_theory.proofs.Sequences.{done_more}
use Rattle.gix_ref_transaction.specs.declared.prepare.error.Error.{Error as Cause}
use Rattle.gix_ref_store.specs.Prepared.{HasGoodRecords, IsAtRest}
use Rattle.gix_ref_store.specs.Store.{files_of}
use Rattle.gix_ref_store.specs.declared.file.store.Store.{Store}
use Rattle.gix_ref_program.specs.declared.update.UpdateError.TheVariants as errors
use Rattle.gix_ref_program.proofs.Writing.{keeps_all}
use Rattle.gix_ref_name.specs.declared.name.FullName.{FullName}
use Rattle.gix_ref_transaction.specs.PrepareSteps.{updates}
use Rattle.gix_ref_session.specs.Clashes.{IsLookFailure}
use Rattle.gix_ref_session.specs.Gathering.{IsReportOf, IsStopped, IsUnsaid}
use Rattle.gix_ref_session.specs.Named.{IsSwitchedFor}
use Rattle.gix_ref_session.specs.Sessions.{IsGivenUp, MakeEnds, PreparedEnds, Settles, TryEnds, Way, way}
use Rattle.gix_ref_session.specs.Transactions.{CommitFailed, IsNotNamed, IsRefused, IsTransactionLoss, IsTransactionStop, IsTried, IsTriedAgain, IsTryLoss, IsTryStop}
use Rattle.gix_ref_session.specs.Waiting.{HasWaited, IsLessAfter, NoneIsLeft, meets_lock, meets_packed, meets_switch, most_switches, times_met}
use Rattle.gix_ref_session.specs.declared.fatal.Fatal.{Fatal}
use Rattle.gix_ref_session.specs.declared.fatal.Fatal.TheVariants as fatals
use Rattle.gix_ref_session.specs.declared.gather.Closing.{Closing}
use Rattle.gix_ref_session.specs.declared.gather.Closing.TheVariants as closings
use Rattle.gix_ref_session.specs.declared.session.Patience.{Patience}
use Rattle.gix_ref_session.specs.declared.session.Session.{Session}
use Rattle.gix_ref_session.proofs.Resting.{tries_ready}

met_more : (meets : Fatal → ℕ) (tries : List Fatal) (fatal : Fatal) → times_met meets (tries ++ fatal ∷ []) ≡ times_met meets tries + meets fatal
met_more meets [] fatal = omega arith
met_more meets (t ∷ tries) fatal = omega (arith, met_more meets tries fatal)

err_is : {T E : Type 0} (e f : E) → ◌≡◌ {A = Result T E} (Err e) (Err f) → e ≡ f
err_is e f is = cc

-- an error that comes neither of a command nor of an answer
record IsNoEnd (fatal : Fatal) : Type 0 where
  unsaid : IsUnsaid fatal → ⊥
  stopped : IsStopped fatal → ⊥
  report : (text : List ℕ) → IsReportOf text fatal → ⊥
  prepared : fatal ≡ fatals.Prepared → ⊥

refusal_no_end : (cause : Cause) → IsNoEnd (fatals.Update (errors.Prepare cause))
refusal_no_end cause = record { unsaid = λ h. h; stopped = λ h. h; report = λ text h. h; prepared = λ is. cc }

switch_no_end : (name : FullName) → IsNoEnd (fatals.Switched name)
switch_no_end name = record { unsaid = λ h. h; stopped = λ h. h; report = λ text h. h; prepared = λ is. cc }

module _ {F R : Type 0} (G : Ghosts R) (honest : Type 0) (means : F → Meaning) (faults : F → FaultCounts) (session : Session) where
  no_closing : (fatal : Fatal) (s t : Way F) → IsNoEnd fatal → IsGivenUp G honest means faults session s t fatal → ⊥
  no_closing fatal s t odd (inl (inl unsaid)) = odd.unsaid unsaid.0
  no_closing fatal s t odd (inl (inr (inl (is, hears), said))) = odd.prepared is
  no_closing fatal s t odd (inl (inr (inr (inl stopped), said))) = odd.stopped stopped
  no_closing fatal s t odd (inl (inr (inr (inr hears), said))) = odd.report hears.0 hears.2.0
  no_closing fatal s t odd (inr unsaid) = odd.unsaid unsaid.0

  -- prepared edits do not end so
  not_prepared : (closing : Closing) (s t : Way F) (edits : List RefEdit) (fatal : Fatal) → IsNoEnd fatal → (CommitFailed honest means faults session.committer (HasReadFault G.faults) fatal s.store t.store edits → ⊥) →
      PreparedEnds G honest means faults session closing s t edits (Err fatal) → ⊥
  not_prepared closings.Prepare s t edits fatal odd none (inl failed) = none failed.0
  not_prepared closings.Prepare s t edits fatal odd none (inr (inl given)) = no_closing fatal s t odd given.2
  not_prepared closings.Prepare s t edits fatal odd none (inr (inr unsaid)) = odd.unsaid unsaid.1
  not_prepared closings.Commit s t edits fatal odd none (inl failed) = none failed.0
  not_prepared closings.Commit s t edits fatal odd none (inr (inl given)) = no_closing fatal s t odd given.2
  not_prepared closings.Commit s t edits fatal odd none (inr (inr unsaid)) = odd.unsaid unsaid.1
  not_prepared closings.Abort s t edits fatal odd none (inl failed) = none failed.0
  not_prepared closings.Abort s t edits fatal odd none (inr (inl given)) = no_closing fatal s t odd given.2
  not_prepared closings.Abort s t edits fatal odd none (inr (inr unsaid)) = odd.unsaid unsaid.1
  not_prepared closings.End s t edits fatal odd none (inl failed) = none failed.0
  not_prepared closings.End s t edits fatal odd none (inr (inl given)) = no_closing fatal s t odd given.2
  not_prepared closings.End s t edits fatal odd none (inr (inr unsaid)) = odd.unsaid unsaid.1

  -- a refusal by a cause is one of `prepare`
  refused : (closing : Closing) (given : List RefEdit) (s t : Way F) (edits : List RefEdit) (cause : Cause) → MakeEnds G honest means faults session closing given edits s t (Err (fatals.Update (errors.Prepare cause))) →
      IsRefused honest means faults session.committer (HasReadFault G.faults) (errors.Prepare cause) s.store t.store edits × (t.input ≡ s.input) × (t.output ≡ s.output)
  refused closing given s t edits cause (inl not) =
      let same : not.error ≡ cause = cause_is not.error cause (err_is (fatals.Update (errors.Prepare cause)) (fatals.Update (errors.Prepare not.error)) not.is) in
      (subst (λ (c : Cause). IsRefused honest means faults session.committer (HasReadFault G.faults) (errors.Prepare c) s.store t.store edits) same not.refused, not.input, not.output)
    where
      cause_is : (a b : Cause) → fatals.Update (errors.Prepare b) ≡ fatals.Update (errors.Prepare a) → a ≡ b
      cause_is a b is = cc
  refused closing given s t edits cause (inr (inl up)) =
      absurd (subst (IsSwitchedFor (updates up.why.begun.held) given) (sym (err_is (fatals.Update (errors.Prepare cause)) up.fatal up.is)) up.why.why)
  refused closing given s t edits cause (inr (inr (named, ends))) = absurd (not_prepared closing s t edits (fatals.Update (errors.Prepare cause)) (refusal_no_end cause) (λ h. h) ends)

  -- and where `HEAD` was switched, what was prepared was given up
  switched : (closing : Closing) (given : List RefEdit) (s t : Way F) (edits : List RefEdit) (name : FullName) → MakeEnds G honest means faults session closing given edits s t (Err (fatals.Switched name)) →
      IsNotNamed honest means faults given (fatals.Switched name) s.store t.store edits × (t.input ≡ s.input) × (t.output ≡ s.output)
  switched closing given s t edits name (inl not) = absurd (other (err_is (fatals.Switched name) (fatals.Update (errors.Prepare not.error)) not.is))
    where
      other : {error : Cause} → fatals.Switched name ≡ fatals.Update (errors.Prepare error) → ⊥
      other is = cc
  switched closing given s t edits name (inr (inl up)) =
      (subst (λ (f : Fatal). IsNotNamed honest means faults given f s.store t.store edits) (sym (err_is (fatals.Switched name) up.fatal up.is)) up.why, up.input, up.output)
  switched closing given s t edits name (inr (inr (named, ends))) = absurd (not_prepared closing s t edits (fatals.Switched name) (switch_no_end name) (λ h. h) ends)

  module _ (edits : List RefEdit) where
    -- a try after which there is another one
    tried : (closing : Closing) (s t : Way F) (fatal : Fatal) → IsTriedAgain fatal → TryEnds G honest means faults session closing edits s t (Err fatal) →
        IsTried honest means faults session.committer (HasReadFault G.faults) edits fatal s.store t.store × (t.input ≡ s.input) × (t.output ≡ s.output)
    tried closing s t (fatals.Update (errors.Prepare cause)) locked (inl looked) =
        absurd (subst (IsLookFailure honest means faults G s.store (is_some session.committer) edits) (sym (err_is (fatals.Update (errors.Prepare cause)) looked.fatal looked.is)) looked.why)
    tried closing s t (fatals.Update (errors.Prepare cause)) locked (inr led) =
        let was = refused closing edits (way s.input s.output led.at) (way t.input t.output t.store) led.led cause led.ends in
        ((locked, record { at = led.at; led = led.led; looked = led.looked; clear = led.clear; are_led = led.are_led; ends = was.0 }), was.1, was.2)
    tried closing s t (fatals.Switched name) again (inl looked) =
        absurd (subst (IsLookFailure honest means faults G s.store (is_some session.committer) edits) (sym (err_is (fatals.Switched name) looked.fatal looked.is)) looked.why)
    tried closing s t (fatals.Switched name) again (inr led) =
        let was = switched closing edits (way s.input s.output led.at) (way t.input t.output t.store) led.led name led.ends in
        (record { at = led.at; led = led.led; looked = led.looked; clear = led.clear; are_led = led.are_led; ends = was.0 }, was.1, was.2)
    tried closing s t (fatals.Update (errors.Commit error)) again ends = absurd again
    tried closing s t (fatals.Read error) again ends = absurd again
    tried closing s t (fatals.Write error) again ends = absurd again
    tried closing s t fatals.Memory again ends = absurd again
    tried closing s t fatals.Folder again ends = absurd again
    tried closing s t (fatals.Malformed text) again ends = absurd again
    tried closing s t (fatals.Name error) again ends = absurd again
    tried closing s t fatals.Closed again ends = absurd again
    tried closing s t fatals.Restarted again ends = absurd again
    tried closing s t fatals.Prepared again ends = absurd again
    tried closing s t fatals.Deref again ends = absurd again
    tried closing s t (fatals.Find error) again ends = absurd again
    tried closing s t (fatals.List error) again ends = absurd again
    tried closing s t (fatals.Clash name) again ends = absurd again

    -- tries so far, and how many milliseconds are left
    pub record SoFar (first now : Store F) (left : Patience) : Type 0 where
      pub tries : List Fatal
      pub were : AreDone (IsTried honest means faults session.committer (HasReadFault G.faults) edits) tries first now
      pub lock : left.lock + times_met meets_lock tries ≡ session.lock_timeout
      pub packed : left.packed + times_met meets_packed tries ≡ session.packed_lock_timeout
      pub switches : left.switches + times_met meets_switch tries ≡ most_switches
      pub leaves : honest → Leaves (means (files_of first)) (means (files_of now)) (IsTransactionStop honest means faults session.committer (HasReadFault G.faults) edits first)
      pub loses : honest → HasGoodRecords means first → IsAtRest means first → Loses (means (files_of first)) (means (files_of now)) (IsTransactionLoss honest means faults session.committer (HasReadFault G.faults) edits first)

    pub none_yet : (first : Store F) (left : Patience) → left.lock ≡ session.lock_timeout → left.packed ≡ session.packed_lock_timeout → left.switches ≡ most_switches → SoFar first first left
    none_yet first left lock packed switches = record {
      tries = [];
      were = refl;
      lock = omega (arith, lock);
      packed = omega (arith, packed);
      switches = omega (arith, switches);
      leaves = λ h. starts (means (files_of first)) (IsTransactionStop honest means faults session.committer (HasReadFault G.faults) edits first) ([], first, refl, inl refl);
      loses = λ h good rests. keeps_all means (files_of first) (IsTransactionLoss honest means faults session.committer (HasReadFault G.faults) edits first) (λ T is. ([], first, refl, inl is));
    }

    module _ (first mid new : Store F) (before : Patience) (b : SoFar first mid before) where
      pub leaves_on : (honest → Leaves (means (files_of mid)) (means (files_of new)) (IsTryStop honest means faults session.committer (HasReadFault G.faults) edits mid)) → honest →
          Leaves (means (files_of first)) (means (files_of new)) (IsTransactionStop honest means faults session.committer (HasReadFault G.faults) edits first)
      leaves_on step h = joins (b.leaves h) (weaken (step h) (λ T stop. (b.tries, mid, b.were, stop)))

      pub loses_on : (honest → HasGoodRecords means mid → IsAtRest means mid → Loses (means (files_of mid)) (means (files_of new)) (IsTryLoss honest means faults session.committer (HasReadFault G.faults) edits mid)) →
          honest → HasGoodRecords means first → IsAtRest means first → Loses (means (files_of first)) (means (files_of new)) (IsTransactionLoss honest means faults session.committer (HasReadFault G.faults) edits first)
      loses_on step h good rests =
          let ready = tries_ready honest means faults session.committer (HasReadFault G.faults) edits b.tries first mid b.were h (good, rests) in
          loses_joins (b.loses h good rests) (loses_weaken (step h ready.0 ready.1) (λ T loss. (b.tries, mid, b.were, loss)))

      -- one more that a lock of another's refused
      pub one_more : (closing : Closing) (input output rest now : Option (List ℕ)) (fatal : Fatal) (left : Patience) → IsLessAfter fatal before left → TryEnds G honest means faults session closing edits (way input output mid) (way rest now new) (Err fatal) →
          (honest → Leaves (means (files_of mid)) (means (files_of new)) (IsTryStop honest means faults session.committer (HasReadFault G.faults) edits mid)) →
          (honest → HasGoodRecords means mid → IsAtRest means mid → Loses (means (files_of mid)) (means (files_of new)) (IsTryLoss honest means faults session.committer (HasReadFault G.faults) edits mid)) → SoFar first new left × (rest ≡ input) × (now ≡ output)
      one_more closing input output rest now fatal left less ends step lost =
          let was = tried closing (way input output mid) (way rest now new) fatal less.again ends in (
            record {
              tries = b.tries ++ fatal ∷ [];
              were = done_more (IsTried honest means faults session.committer (HasReadFault G.faults) edits) b.tries fatal first mid new b.were was.0;
              lock = omega (arith, met_more meets_lock b.tries fatal, b.lock, less.lock);
              packed = omega (arith, met_more meets_packed b.tries fatal, b.packed, less.packed);
              switches = omega (arith, met_more meets_switch b.tries fatal, b.switches, less.switches);
              leaves = leaves_on step;
              loses = loses_on lost;
            },
            was.1,
            was.2,
          )

      -- the one that ends it
      ends_with : (closing : Closing) (input output rest now : Option (List ℕ)) (result : Result Bool Fatal) → TryEnds G honest means faults session closing edits (way input output mid) (way rest now new) result → HasWaited session b.tries result →
          Settles G honest means faults session closing edits (way input output first) (way rest now new) result
      ends_with closing input output rest now result ends waited = record { tries = b.tries; mid = mid; were = b.were; ends = ends; waited = waited }

      pub ends_well : (closing : Closing) (input output rest now : Option (List ℕ)) (goes_on : Bool) → TryEnds G honest means faults session closing edits (way input output mid) (way rest now new) (Ok goes_on) →
          Settles G honest means faults session closing edits (way input output first) (way rest now new) (Ok goes_on)
      ends_well closing input output rest now goes_on ends = ends_with closing input output rest now (Ok goes_on) ends (record { no_longer = omega (arith, b.lock); no_longer_packed = omega (arith, b.packed); no_more_switches = omega (arith, b.switches); lock = λ name is. no_error is; packed = λ is. no_error is; switched = λ name is. no_error is })
        where
          no_error : {P : Type 0} {fatal : Fatal} → ◌≡◌ {A = Result Bool Fatal} (Ok goes_on) (Err fatal) → P
          no_error is = cc

      pub gives_up : (closing : Closing) (input output rest now : Option (List ℕ)) (fatal : Fatal) → NoneIsLeft fatal before → TryEnds G honest means faults session closing edits (way input output mid) (way rest now new) (Err fatal) →
          Settles G honest means faults session closing edits (way input output first) (way rest now new) (Err fatal)
      gives_up closing input output rest now fatal none ends = ends_with closing input output rest now (Err fatal) ends (record {
        no_longer = omega (arith, b.lock);
        no_longer_packed = omega (arith, b.packed);
        no_more_switches = omega (arith, b.switches);
        lock = λ name is. omega (arith, b.lock, none.lock name (err_is fatal _ is));
        packed = λ is. omega (arith, b.packed, none.packed (err_is fatal _ is));
        switched = λ name is. omega (arith, b.switches, none.switches name (err_is fatal _ is));
      })

  -- a transaction that began with the same input and output
  pub settles_from : (closing : Closing) (edits : List RefEdit) (input output begun said rest now : Option (List ℕ)) (first last : Store F) (result : Result Bool Fatal) → input ≡ begun → output ≡ said →
      Settles G honest means faults session closing edits (way input output first) (way rest now last) result → Settles G honest means faults session closing edits (way begun said first) (way rest now last) result
  settles_from closing edits input output begun said rest now first last result in_same out_same ends =
      subst (λ (i : Option (List ℕ)). Settles G honest means faults session closing edits (way i said first) (way rest now last) result) in_same
      (subst (λ (o : Option (List ℕ)). Settles G honest means faults session closing edits (way input o first) (way rest now last) result) out_same ends)
