-- The run of a script: from its file to its store.
use Rattle.std.proofs.Common.{◌≡◌, ◌⊎◌, inl, inr, ⊎_elim, ℕ, List, Option, Result, Ok, Err, refl, sym, ◌∙◌, subst}
use Rattle.gix_ref_files.specs.Disk.{Disk, Lost}
use Rattle.gix_ref_files.specs.Files.{Meaning, Leaves, Loses, Passes, disk_of, FaultCounts}
use Rattle.gix_ref_files.specs.declared.files.ReadAt.{Ghosts}
use Rattle.gix_ref_files.proofs.Moments.{joins, loses_joins, loses_weaken, losses, starts, weaken}
use Rattle.gix_ref_log.specs.declared.actor.SignatureRef.{SignatureRef}
use Rattle.gix_ref_packed.specs.OpenFiles.{HasReadFault}
use Rattle.gix_ref_store.specs.Store.{files_of}
use Rattle.gix_ref_store.specs.declared.file.store.Store.{Store}
use Rattle.gix_ref_program.specs.Runs.{HasSameDisk, HasStore, HasText, IsCommitterOf, IsLossInScript, IsOpened, IsReadyFor, IsStopInScript, IsTextLoss, IsTextStop, IsUnopened, IsUnread, NoText, Prints, Ran, SaysOne, ScriptRan, TextRan}
use Rattle.gix_ref_program.specs.Runs.Ran.{Listed, Logged, Said, Scripted}
use Rattle.gix_ref_program.specs.ScriptLines.{script_lines}
use Rattle.gix_ref_program.specs.Scripts.{IsScriptLoss, IsScriptStop, ScriptPrints}
use Rattle.gix_ref_object.specs.declared.object.Never.{Never}
use Rattle.gix_ref_transaction.specs.declared.packing.PackedRefs.{PackedRefs}
use Rattle.gix_ref_program.specs.Writes.{terms_of}
use Rattle.gix_ref_program.proofs.Writing.{kept, keeps_all}
use Rattle.gix_ref_program.specs.Words.{LineAsked}
use Rattle.gix_ref_program.specs.declared.outcome.Outcome.TheVariants as outcomes
use Rattle.gix_ref_program.specs.declared.refusal.Refusal.{Refusal}
use Rattle.gix_ref_program.proofs.Printing.{prints_more}

module _ {F : Type 0} (honest : Type 0) (means : F → Meaning) (faults : F → FaultCounts) (uses : PackedRefs Never) where
  -- a store that was opened over these files, and the files that it is ended with
  module _ (start after : F) (line : LineAsked) (text : List ℕ) (old new : Store F) (committer : Option SignatureRef) (is : IsCommitterOf line committer) (opened : IsOpened start line old) (ended : files_of new ≡ after) where
    pub text_prints : {R E : Type 0} (G : Ghosts R) (out now : Option (List ℕ)) (status : Result ℕ E) → ScriptPrints honest (HasReadFault G.faults) means faults (terms_of line committer uses) (script_lines text) old new out now status →
        Prints (TextRan honest means faults uses G start after line text) out now status
    text_prints G out now (Ok s) p = record { ran = Scripted p.end p.said; does = (old, new, committer, is, opened, ended, p.ends); prints = (p.prints.0, p.prints.1, p.prints.2) }
    text_prints G out now (Err e) p = record { ran = Scripted p.end p.said; does = (old, new, committer, is, opened, ended, p.ends); prints = _ }

    pub text_leaves : Leaves (means (files_of old)) (means (files_of new)) (IsScriptStop honest means faults (terms_of line committer uses) (script_lines text) old) → Leaves (means start) (means after) (IsTextStop honest means faults uses start line text)
    text_leaves leaves =
        subst (λ f. Leaves (means f) (means after) (IsTextStop honest means faults uses start line text)) opened.files_are
        (subst (λ a. Leaves (means (files_of old)) (means a) (IsTextStop honest means faults uses start line text)) ended (weaken leaves (λ T stop. inr (old, committer, is, opened, stop))))

    pub text_loses : Loses (means (files_of old)) (means (files_of new)) (IsScriptLoss honest means faults (terms_of line committer uses) (script_lines text) old) → Loses (means start) (means after) (IsTextLoss honest means faults uses start line text)
    text_loses loses =
        subst (λ f. Loses (means f) (means after) (IsTextLoss honest means faults uses start line text)) opened.files_are
        (subst (λ a. Loses (means (files_of old)) (means a) (IsTextLoss honest means faults uses start line text)) ended (loses_weaken loses (λ T loss. inr (old, committer, is, opened, loss))))

  -- files over which there is no store
  pub unopened_leaves : (start : F) (line : LineAsked) (text : List ℕ) → Leaves (means start) (means start) (IsTextStop honest means faults uses start line text)
  unopened_leaves start line text = starts (means start) (IsTextStop honest means faults uses start line text) (inl refl)

  pub unopened_loses : (start : F) (line : LineAsked) (text : List ℕ) → Loses (means start) (means start) (IsTextLoss honest means faults uses start line text)
  unopened_loses start line text = keeps_all means start (IsTextLoss honest means faults uses start line text) (λ T is. inl is)

  -- the file of a script was read
  module _ (files start : F) (line : LineAsked) (path : List ℕ) (read_leaves : Leaves (means files) (means start) (λ T. T ≡ (means files).tree)) (passes : Passes (means files) (means start) (λ D. D ≡ disk_of (means files))) where
    pub same_disk : HasSameDisk honest means faults files start
    same_disk h = passes.disk

    read_loses : Loses (means files) (means start) (IsLossInScript honest means faults uses files line path)
    read_loses = losses (IsLossInScript honest means faults uses files line path) (λ D is T lost. inl (kept means files T (subst (λ (E : Disk). Lost E T) is lost))) passes

    pub script_leaves : (after : F) (text : List ℕ) → HasText honest means faults files path text → Leaves (means start) (means after) (IsTextStop honest means faults uses start line text) → Leaves (means files) (means after) (IsStopInScript honest means faults uses files line path)
    script_leaves after text has leaves = joins (weaken read_leaves (λ T is. inl is)) (weaken leaves (λ T stop. inr (start, text, same_disk, has, stop)))

    pub script_loses : (after : F) (text : List ℕ) → HasText honest means faults files path text → Loses (means start) (means after) (IsTextLoss honest means faults uses start line text) → Loses (means files) (means after) (IsLossInScript honest means faults uses files line path)
    script_loses after text has loses = loses_joins read_loses (loses_weaken loses (λ T loss. inr (start, text, same_disk, has, loss)))

    pub unread_leaves : Leaves (means files) (means start) (IsStopInScript honest means faults uses files line path)
    unread_leaves = weaken read_leaves (λ T is. inl is)

    pub unread_loses : Loses (means files) (means start) (IsLossInScript honest means faults uses files line path)
    unread_loses = read_loses

    -- the files over which the text is run are as ready
    pub ready_now : honest → IsReadyFor honest means faults files line → IsReadyFor honest means faults start line
    ready_now h ready begun store same opened = ready begun store (same ∙ passes.disk) opened

  -- what is printed of a script
  module _ (files start : F) (line : LineAsked) (path : List ℕ) (same : HasSameDisk honest means faults files start) where
    -- what is printed of a script whose text was run
    pub script_prints : {R E : Type 0} (G : Ghosts R) (after : F) (text : List ℕ) (out now : Option (List ℕ)) (status : Result ℕ E) → HasText honest means faults files path text → Prints (TextRan honest means faults uses G start after line text) out now status →
        Prints (ScriptRan honest means faults uses G files after line path) out now status
    script_prints G after text out now status has p =
        prints_more (TextRan honest means faults uses G start after line text) (ScriptRan honest means faults uses G files after line path) out now status (λ ran does. record { start = start; same = same; runs = inl (text, has, does) }) p

    no_text : (unread : Refusal) → IsUnread honest means faults files start path unread → (ran : Ran) → SaysOne (λ refusal. IsUnopened line refusal ⊎ (HasStore start line × (refusal ≡ unread))) ran → NoText honest means faults files start line path ran
    no_text unread is (Said (outcomes.Refused refusal locks)) says = (⊎_elim (λ none. inl none) (λ both. inr (both.0, subst (λ r. IsUnread honest means faults files start path r) (sym both.1) is)) says.0, says.1)
    no_text unread is (Said outcomes.WrongWords) says = absurd says
    no_text unread is (Said (outcomes.Updated locks)) says = absurd says
    no_text unread is (Said (outcomes.Shown reference)) says = absurd says
    no_text unread is (Listed whole items) says = absurd says
    no_text unread is (Logged whole items) says = absurd says
    no_text unread is (Scripted end said) says = absurd says

    -- and of one whose text was not read
    pub unread_prints : {R E : Type 0} (G : Ghosts R) (after : F) (unread : Refusal) (out now : Option (List ℕ)) (status : Result ℕ E) → after ≡ start → IsUnread honest means faults files start path unread →
        Prints (SaysOne (λ refusal. IsUnopened line refusal ⊎ (HasStore start line × (refusal ≡ unread)))) out now status → Prints (ScriptRan honest means faults uses G files after line path) out now status
    unread_prints G after unread out now status ended is p =
        prints_more (SaysOne (λ refusal. IsUnopened line refusal ⊎ (HasStore start line × (refusal ≡ unread)))) (ScriptRan honest means faults uses G files after line path) out now status (λ ran does. record { start = start; same = same; runs = inr (ended, no_text unread is ran does) }) p
