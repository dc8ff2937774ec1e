use Rattle.std.proofs.Common.{rules, inr, refl}
use Rattle.gix_ref_hash.specs.declared.hash.Kind.TheVariants.{Sha1}
use Rattle.gix_ref_transaction.proofs.PackedLemmas.{counted_cause, searched_refusal}
use Rattle.gix_ref_transaction.proofs.UnreadRecords.{found_cause}
use Rattle.gix_ref_transaction.proofs.prepare.records.id_at.Goals as goal

pub returns-in-Ok-Some-clause-read : goal.returns-in-Ok-Some-clause-read
returns-in-Ok-Some-clause-read g c h kind =
    let hit = rw c.in-Ok-Some.field-0-is at (c.in-Ok-Some.ensures.seen h kind) in
    record { of_kind = hit.of_kind; text = hit.text; searched = hit.searched; has = (c.in-Ok-Some.found, hit.has, refl) }

pub returns-in-Err-clause-failed : goal.returns-in-Err-clause-failed
returns-in-Err-clause-failed g c =
    record {
      sound = search rules;
      refused = λ h kind packed. rw c.refused.ensures (searched_refusal _ _ _ kind packed c.in-Err.error h (c.in-Err.ensures.failed Sha1));
      unread = λ h kind. rw c.refused.ensures (found_cause _ _ _ (λ e. ⊥) c.in-Err.error h (c.in-Err.ensures.failed kind));
    }

pub returns-in-Err-clause-counted : goal.returns-in-Err-clause-counted
returns-in-Err-clause-counted g c before now =
    rw c.refused.ensures (counted_cause _ _ _ _ (λ e. ⊥) before now c.in-Err.error (λ e came. inr came.1) (c.in-Err.ensures.failed Sha1))
