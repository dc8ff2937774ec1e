use Rattle.std.proofs.Common.{◌∙◌, ap, ◌++◌, ◌∷◌, [], append_assoc}
use Rattle.gix_ref_listing.proofs.StoreWalks.{root_front}
use Rattle.gix_ref_locks.proofs.search.front_of.Goals as goal

pub returns-clause-root : goal.returns-clause-root
returns-clause-root c =
    let namespace = c.text_of-namespace.result.now in
    let folder = c.in_ok-extend_from_slice.ensures.items ∙ ap (λ t. t ++ c.args.folder.now) c.in_ok-front.ensures.items in
    let slash = c.in_ok-push.ensures.items ∙ ap (λ t. t ++ 47 ∷ []) folder in
    root_front c.args.folder.now namespace _ c.requires c.text_of-namespace.ensures.ends
    (c.in_ok-extend_from_slice-2.ensures.items ∙ (ap (λ t. t ++ namespace) slash ∙ append_assoc c.args.folder.now (47 ∷ []) namespace))
