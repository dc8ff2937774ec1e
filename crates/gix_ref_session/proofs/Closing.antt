-- Prepared edits that are closed by what is heard.
use Rattle.std.proofs.Common.{◌≡◌, inl, inr, ℕ, List, [], Bool, true, false, codes, Option, Result, Ok, Err, refl, sym, subst, append-nil}
use Rattle.std.specs.Io.KnownBytes.{Appends}
use Rattle.gix_ref_files.specs.declared.files.ReadAt.{Ghosts}
use Rattle.gix_ref_packed.specs.OpenFiles.{HasReadFault}
use Rattle.gix_ref_files.specs.Files.{Meaning, FaultCounts}
use Rattle.gix_ref_edits.specs.declared.transaction.RefEdit.{RefEdit}
use Rattle.gix_ref_store.specs.declared.file.store.Store.{Store}
use Rattle.gix_ref_session.specs.Sessions.{AnswersAbort, AnswersCommit, ClosedBy, HeardClosing, PreparedEnds, way}
use Rattle.gix_ref_session.specs.Transactions.{CommitEnds, CommitFailed, IsRolledBack}
use Rattle.gix_ref_session.specs.declared.fatal.Fatal.{Fatal}
use Rattle.gix_ref_session.specs.declared.gather.Closing.{Closing}
use Rattle.gix_ref_session.specs.declared.gather.Closing.TheVariants as closings
use Rattle.gix_ref_session.specs.declared.session.Session.{Session}
use Rattle.gix_ref_session.proofs.AnswerLemmas.{append_more, keeps_same}

commit_not_end : closings.Commit ≡ closings.End → ⊥
commit_not_end is = cc

prepare_not_end : closings.Prepare ≡ closings.End → ⊥
prepare_not_end is = cc

module _ {F R : Type 0} (G : Ghosts R) (honest : Type 0) (means : F → Meaning) (faults : F → FaultCounts) (session : Session) (old new : Store F) (edits : List RefEdit) where
  -- a commit, and its answer
  pub answered : (committed : Result (Unit {0}) Fatal) (out now : Option (List ℕ)) (result : Result Bool Fatal) → CommitEnds honest means faults session.committer (HasReadFault G.faults) old new edits committed → AnswersCommit committed out now result →
      ClosedBy G honest means faults session closings.Commit old new edits out now result
  answered (Ok u) out now (Ok true) ends answers = (ends, answers)
  answered (Ok u) out now (Ok false) ends answers = absurd answers
  answered (Ok u) out now (Err fatal) ends answers = inr (answers, ends)
  answered (Err fatal) out now (Ok true) ends answers = absurd answers
  answered (Err fatal) out now (Ok false) ends answers = absurd answers
  answered (Err fatal) out now (Err error) ends answers =
      inl (subst (λ (f : Fatal). CommitFailed honest means faults session.committer (HasReadFault G.faults) f old new edits) (sym answers.0) ends, answers.1)

  -- a commit without `prepare`, and its answer
  pub answered_now : (committed : Result (Unit {0}) Fatal) (input out now : Option (List ℕ)) (result : Result Bool Fatal) → CommitEnds honest means faults session.committer (HasReadFault G.faults) old new edits committed → AnswersCommit committed out now result →
      PreparedEnds G honest means faults session closings.Commit (way input out old) (way input now new) edits result
  answered_now (Ok u) input out now (Ok true) ends answers = (ends, keeps_same input, answers)
  answered_now (Ok u) input out now (Ok false) ends answers = absurd answers
  answered_now (Ok u) input out now (Err fatal) ends answers = inr (inr (commit_not_end, answers, ends, keeps_same input))
  answered_now (Err fatal) input out now (Ok true) ends answers = absurd answers
  answered_now (Err fatal) input out now (Ok false) ends answers = absurd answers
  answered_now (Err fatal) input out now (Err error) ends answers =
      inl (subst (λ (f : Fatal). CommitFailed honest means faults session.committer (HasReadFault G.faults) f old new edits) (sym answers.0) ends, keeps_same input, answers.1)

  -- giving up, and its answer
  pub aborted : (out now : Option (List ℕ)) (result : Result Bool Fatal) → IsRolledBack honest means faults old new edits → AnswersAbort out now result → ClosedBy G honest means faults session closings.Abort old new edits out now result
  aborted out now (Ok true) rolled answers = (rolled, answers)
  aborted out now (Ok false) rolled answers = absurd answers
  aborted out now (Err fatal) rolled answers = (answers, rolled)

  -- what is heard, and what is done
  module _ (input rest out mid now : Option (List ℕ)) where
    prepared_only : Appends out mid (codes "prepare: ok\n") → Appends mid now [] → Appends out now (codes "prepare: ok\n")
    prepared_only one two = subst (λ (w : List ℕ). Appends out now w) (append-nil (codes "prepare: ok\n")) (append_more out mid now (codes "prepare: ok\n") [] one two)

    pub closed : (heard : Closing) (result : Result Bool Fatal) → HeardClosing session input rest out mid (Ok heard) → ClosedBy G honest means faults session heard old new edits mid now result →
        PreparedEnds G honest means faults session closings.Prepare (way input out old) (way rest now new) edits result
    closed closings.Commit (Ok true) heard done = inl (done.0, heard.0, append_more out mid now (codes "prepare: ok\n") (codes "commit: ok\n") heard.1 done.1)
    closed closings.Commit (Ok false) heard done = absurd done
    closed closings.Commit (Err fatal) heard (inl failed) = inl (failed.0, heard.0, prepared_only heard.1 failed.1)
    closed closings.Commit (Err fatal) heard (inr unsaid) = inr (inr (prepare_not_end, unsaid.0, unsaid.1, heard.0))
    closed closings.Abort (Ok true) heard done = inr (done.0, heard.0, append_more out mid now (codes "prepare: ok\n") (codes "abort: ok\n") heard.1 done.1)
    closed closings.Abort (Ok false) heard done = absurd done
    closed closings.Abort (Err fatal) heard done = inr (inl (refl, done.1, inr (done.0, heard.0)))
    closed closings.End (Ok true) heard done = absurd done
    closed closings.End (Ok false) heard done = (done.0, heard.0, prepared_only heard.1 done.1)
    closed closings.End (Err fatal) heard done = absurd done
    closed closings.Prepare result heard done = absurd heard
