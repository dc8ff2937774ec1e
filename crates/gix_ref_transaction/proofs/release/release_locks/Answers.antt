use Rattle.std.proofs.Common.{◌∙◌, ◌++◌, List, ap, reverse}
use Rattle.std.proofs.lemmas.List.{reverse-reverse}
use Rattle.gix_ref_edits.specs.declared.transaction.RefEdit.{RefEdit}
use Rattle.gix_ref_transaction.specs.PrepareSteps.{updates}
use Rattle.gix_ref_transaction.proofs.release.release_locks.Goals as goal

pub returns-clause-back : goal.returns-clause-back
returns-clause-back g c =
    let all = updates c.args.edits.items in
    let e = c.release_each-remains.ensures in
    record {
      edits = c.reverse.ensures.items ∙ (ap reverse (e.edits ∙ ap (λ (l : List RefEdit). l ++ reverse all) c.requires.room.no_edits) ∙ reverse-reverse all);
      place = e.place;
      log = e.log;
    }
