-- What a run prints, put together.
use Rattle.std.proofs.Common.{◌≡◌, ◌≢◌, inl, inr, ℕ, List, [], ◌∷◌, Bool, true, false, Option, Some, None, Result, Ok, Err, refl, sym, subst, append-nil}
use Rattle.std.specs.Prelude.{IfOk, OnOk}
use Rattle.std.specs.Iterator.{Yields}
use Rattle.std.specs.Iterator.Runs.{Run, WholeRun, YieldsRun}
use Rattle.std.specs.List.{AllByRecursion}
use Rattle.std.specs.Io.KnownBytes.{Appends}
use Rattle.std.proofs.lemmas.List.Elements.{All-nil}
use Rattle.gix_ref_name.specs.NameGrammar.{full_error}
use Rattle.gix_ref_files.specs.Files.{Meaning, FaultCounts}
use Rattle.gix_ref_files.specs.Tree.{Content, is_file, bytes_of}
use Rattle.gix_ref_files.specs.declared.files.ReadAt.{Ghosts}
use Rattle.gix_ref_log.specs.LogItems.{IsLentRun, items_from}
use Rattle.gix_ref_log.specs.LogWindows.{NextRefStep}
use Rattle.gix_ref_log.specs.declared.log.iter.backward.Reverse.{Reverse}
use Rattle.gix_ref_log.specs.declared.log.iter.error.ReverseError.{ReverseError}
use Rattle.gix_ref_log.specs.declared.log.iter.error.ReverseError.TheVariants.{Io, Decode, BufferTooSmall, Memory}
use Rattle.gix_ref_log.specs.declared.log.line.LineRef.{LineRef}
use Rattle.gix_ref_lookup.specs.declared.reflog.error.Error.{Error as LogError}
use Rattle.gix_ref_lookup.specs.declared.reflog.error.Error.TheVariants as log_errors
use Rattle.gix_ref_store.specs.Reflogs.{reflog_at, ReadsBackward, EndsAtErrors, IsNoReverse, IsNoReflog}
use Rattle.gix_ref_store.specs.declared.file.store.Store.{Store}
use Rattle.gix_ref_program.specs.LogPrinting.{IsCountedFault, log_text}
use Rattle.gix_ref_program.specs.Printed.{items_status}
use Rattle.gix_ref_program.specs.Outcomes.{printed, status_of}
use Rattle.gix_ref_program.specs.Runs.{Ran, Prints, LogRan}
use Rattle.gix_ref_program.specs.Runs.Ran.{Said, Logged}
use Rattle.gix_ref_program.specs.declared.outcome.Outcome.{Outcome}

-- an outcome is printed as a whole
pub said : {E : Type 0} (Does : Ran → Type 0) (out now : Option (List ℕ)) (status : Result ℕ E) (outcome : Outcome) → Does (Said outcome) →
    IfOk status (λ s. s ≡ status_of outcome) → OnOk status (Appends out now (printed outcome)) → Prints Does out now status
said Does out now (Ok s) outcome does is appends = record { ran = Said outcome; does = does; prints = (_, is, appends) }
said Does out now (Err e) outcome does is appends = record { ran = Said outcome; does = does; prints = _ }

-- what is printed, where more is known of what was done
pub prints_more : {E : Type 0} (Does More : Ran → Type 0) (out now : Option (List ℕ)) (status : Result ℕ E) → ((ran : Ran) → Does ran → More ran) → Prints Does out now status → Prints More out now status
prints_more Does More out now status more p = record { ran = p.ran; does = more p.ran p.does; prints = p.prints }

-- each fault of reading that a log gives was counted by its reader
faults_counted : {R : Type 0} (G : Ghosts R) (s t : Reverse R) (items : List (Result LineRef ReverseError)) → Yields (NextRefStep G.honest G.bytes G.faults) s items t → AllByRecursion (IsCountedFault G.faults) items
faults_counted G s t [] gave = tt
faults_counted G s t (Ok line ∷ items) (mid, step, gave) = (tt, faults_counted G mid t items gave)
faults_counted G s t (Err (Io error) ∷ items) (mid, step, gave) = ((s.reader, mid.reader, step.0.counts), faults_counted G mid t items gave)
faults_counted G s t (Err (Decode error) ∷ items) (mid, step, gave) = (tt, faults_counted G mid t items gave)
faults_counted G s t (Err BufferTooSmall ∷ items) (mid, step, gave) = (tt, faults_counted G mid t items gave)
faults_counted G s t (Err Memory ∷ items) (mid, step, gave) = (tt, faults_counted G mid t items gave)

-- and so in a run
run_counted : {R : Type 0} (G : Ghosts R) (run : Run (NextRefStep G.honest G.bytes G.faults)) → AllByRecursion (IsCountedFault G.faults) run.items
unfolding YieldsRun
run_counted G run = faults_counted G run.from run.gave.0.0 run.items run.gave.0.1

-- the items of a log are printed
pub logged : {F R E : Type 0} (G : Ghosts R) (honest : Type 0) (means : F → Meaning) (faults : F → FaultCounts) (old new : Store F) (name : List ℕ) (lines : Reverse R) (out now : Option (List ℕ)) (status : Result ℕ E) →
    full_error name ≡ None → (honest → ReadsBackward G (reflog_at means old name) 4096 (Some lines)) → EndsAtErrors G (Some lines) →
    IfOk status (λ s. WholeRun (NextRefStep G.honest G.bytes G.faults) lines (λ run. (s ≡ items_status run.items) × Appends out now (log_text run.items))) →
    Prints (LogRan honest means faults G old new name) out now status
logged G honest means faults old new name lines out now (Ok s) full reads ends ran =
    let run = ran.0 in
    record {
      ran = Logged true run.items;
      does = (
        full,
        λ h. inr ((reads h).0, subst (λ (w : Bool). IsLentRun (w ≡ true) (items_from 4096 1 (bytes_of (reflog_at means old name))) run.items) ran.2 ((reads h).2 run run.seen ran.1)),
        ends.1 run run.seen ran.1,
        run_counted G run,
      );
      prints = (refl, ran.3.0, ran.3.1);
    }
logged G honest means faults old new name lines out now (Err e) full reads ends ran =
    let none = All-nil (λ (r : Result LineRef ReverseError). r ≢ Err Memory) in
    record { ran = Logged false []; does = (full, λ h. inr ((reads h).0, ((λ never. absurd (cc)), none)), _, _); prints = _ }

-- nothing is printed where there is no log
pub no_log : {F R E : Type 0} (G : Ghosts R) (honest : Type 0) (means : F → Meaning) (faults : F → FaultCounts) (old new : Store F) (name : List ℕ) (out : Option (List ℕ)) → full_error name ≡ None → (honest → is_file (reflog_at means old name) ≡ false) →
    Prints {E = E} (LogRan honest means faults G old new name) out out (Ok 0)
no_log G honest means faults old new name out full none = record { ran = Logged true []; does = (full, λ h. inl (none h, refl), _, _); prints = (refl, refl, same out) }
  where
    same : (a : Option (List ℕ)) → Appends a a []
    same None = _
    same (Some x) = sym (append-nil x)

-- a buffer with room is no reason
pub has_room : {F : Type 0} (honest : Type 0) (content : Option Content) (room : ℕ) (store : Store F) (name : List ℕ) (error : LogError) → (room ≡ 0 → ⊥) → IsNoReverse honest content room store name error → IsNoReflog store name error
has_room honest content room store name log_errors.EmptyBuffer some none = absurd (some none.0)
has_room honest content room store name log_errors.DeviceName some none = none
has_room honest content room store name (log_errors.Io error) some none = none
has_room honest content room store name log_errors.Memory some none = none
has_room honest content room store name (log_errors.RefnameValidation error) some none = none
