use Rattle.std.proofs.Common.{◌∙◌, ◌++◌, List, ap, reverse}
use Rattle.std.proofs.lemmas.List.{reverse-reverse}
use Rattle.gix_ref_edits.specs.declared.transaction.RefEdit.{RefEdit}
use Rattle.gix_ref_transaction.specs.PrepareSteps.{updates}
use Rattle.gix_ref_transaction.proofs.release.give_back.Goals as goal

pub returns : goal.returns
returns c =
    let all = updates c.args.edits.items in
    c.reverse.ensures.items ∙ (ap reverse (c.move_updates.ensures.moved ∙ ap (λ (l : List RefEdit). l ++ reverse all) c.requires.none) ∙ reverse-reverse all)
