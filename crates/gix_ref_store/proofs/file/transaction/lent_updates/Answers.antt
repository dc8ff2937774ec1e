use Rattle.std.proofs.Common.{◌≡◌, ◌<◌, ◌+◌, ℕ, List, [], ◌∷◌, ◌++◌, length, get_or, take, map, refl, sym, ◌∙◌, ap}
use Rattle.std.proofs.lemmas.List.{take_more, map-append}
use Rattle.gix_ref_store.proofs.file.transaction.lent_updates.Goals as goal

-- one more that is lent
one_lent : {A E U : Type 0} (f : A → U) (g : E → U) (lent now : List A) (x : A) (edits : List E) (i : ℕ) (e : E) → now ≡ lent ++ x ∷ [] → map f lent ≡ map g (take i edits) → f x ≡ g e → i < length edits → e ≡ get_or edits i e → map f now ≡ map g (take (i + 1) edits)
one_lent f g lent now x edits i e is before same lt at =
    ap (map f) is
    ∙ (map-append f lent (x ∷ [])
    ∙ (ap (λ us. us ++ f x ∷ []) before
    ∙ (ap (λ u. map g (take i edits) ++ u ∷ []) (same ∙ ap g at)
    ∙ (sym (map-append g (take i edits) (get_or edits i e ∷ [])) ∙ ap (map g) (sym (take_more edits i e lt))))))

pub loop-edit-preserved : goal.loop-edit-preserved
loop-edit-preserved c = one_lent (λ update. update.now) (λ edit. edit.update) c.loop-edit.lent.items c.push.new.self.items _ c.args.edits.now c.loop-edit.edit-index c.edit-item.result c.in_ok-push.ensures.items c.loop-edit.invariant refl c.loop-edit-test.true c.edit-item.is
