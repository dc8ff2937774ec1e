use Rattle.gix_ref_lookup.proofs.LooseLemmas.{at_ok, id_reads_back, name_reads_back}
use Rattle.gix_ref_lookup.proofs.loose.text_of.Goals as goal

pub returns-in-Object-clause-back : goal.returns-in-Object-clause-back
returns-in-Object-clause-back c =
    at_ok _ c.object_text.result (rw c.in-Object.is (λ kind writable. id_reads_back kind c.in-Object.id writable c.object_text.ensures.whole))

pub returns-in_ok-push-in-Symbolic-clause-back : goal.returns-in_ok-push-in-Symbolic-clause-back
returns-in_ok-push-in-Symbolic-clause-back c =
    rw c.in-Symbolic.is (λ kind writable. name_reads_back kind c.in-Symbolic.name.bytes.items writable)
