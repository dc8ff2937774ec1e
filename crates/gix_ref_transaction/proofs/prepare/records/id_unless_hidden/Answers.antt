use Rattle.std.proofs.Common.{inr, ⊎_elim, ℕ, List, arith, sym, subst}
use Rattle.std.proofs.lemmas.Result.{err_from_is_err_and}
use Rattle.gix_ref_packed.specs.OpenFiles.{HasReadFault}
use Rattle.gix_ref_lookup.specs.Lookups.{AreHonest, OfKey}
use Rattle.gix_ref_transaction.specs.Causes.{IsCountedWith, OfFind}
use Rattle.gix_ref_transaction.specs.declared.prepare.error.Error.{Error}
use Rattle.gix_ref_edits.specs.RefEdits.{name_of}
use Rattle.gix_ref_transaction.specs.PrepareSteps.{setting_of}
use Rattle.gix_ref_transaction.specs.internal.StuckRecords.{IsNamedId, IsStuckKey}
use Rattle.gix_ref_transaction.proofs.UnreadRecords.{no_find}
use Rattle.gix_ref_transaction.proofs.PackedLemmas.{counted_later}
use Rattle.gix_ref_transaction.proofs.prepare.records.id_unless_hidden.Goals as goal

pub returns-in_err-ignore_if_hidden-in-Err-clause-failed : goal.returns-in_err-ignore_if_hidden-in-Err-clause-failed
returns-in_err-ignore_if_hidden-in-Err-clause-failed g c =
    let told = err_from_is_err_and c.from_residual.result c.from_residual.ensures.1 in
    let s = setting_of c.args.settings.now in
    let failed = c.in-Err.ensures.failed in
    let passed = c.in_err-ignore_if_hidden-in-Err.ensures in
    rw (told.1, told.2) (record {
      sound = λ kind rs asked. passed.sound (failed.sound kind rs asked);
      refused = λ h kind packed. passed.refused kind packed (failed.refused h kind packed);
      unread = λ h kind.
          let stuck = IsStuckKey kind c.args.records.now in
          let P = OfKey s (name_of c.args.edit.now.update) stuck in
          let first : OfFind P c.in-Err.error = subst (λ (n : List ℕ). OfFind (OfKey s n stuck) c.in-Err.error) c.as_ref.ensures (failed.unread h kind) in
          ⊎_elim
          (λ same. subst (OfFind P) (sym same) first)
          (λ own. no_find P (g.F.Files.faults c.args.files.now) (g.F.Files.faults c.ignore_if_hidden.new.files) _ own)
          passed.counted;
    })

pub returns-in_err-ignore_if_hidden-in-Err-clause-counted : goal.returns-in_err-ignore_if_hidden-in-Err-clause-counted
returns-in_err-ignore_if_hidden-in-Err-clause-counted g c =
    let told = err_from_is_err_and c.from_residual.result c.from_residual.ensures.1 in
    let before = g.F.Files.faults c.args.files.now in
    let now = g.F.Files.faults c.ignore_if_hidden.new.files in
    rw (told.1, told.2) (⊎_elim
    (λ same. subst (λ (e : Error). IsCountedWith (AreHonest c.args.records.now) (HasReadFault g.F.Reader.ReadAt.faults) before now e) (sym same) (c.in-Err.ensures.counted before now))
    (λ own. counted_later _ _ before before now _ (omega arith) own)
    c.in_err-ignore_if_hidden-in-Err.ensures.counted)

pub returns-in_ok-ignore_if_hidden-in-Err-clause-found : goal.returns-in_ok-ignore_if_hidden-in-Err-clause-found
returns-in_ok-ignore_if_hidden-in-Err-clause-found g c kind rs asked =
    absurd (c.in_ok-ignore_if_hidden-in-Err.ensures.unsound (c.in-Err.ensures.failed.sound kind rs asked))

pub returns-in-Ok-clause-read : goal.returns-in-Ok-clause-read
returns-in-Ok-clause-read g c h honest kind =
    inr (subst (λ (n : List ℕ). IsNamedId (setting_of c.args.settings.now) kind c.args.records.now n c.in-Ok.id) c.as_ref.ensures (c.in-Ok.ensures.read honest kind))
