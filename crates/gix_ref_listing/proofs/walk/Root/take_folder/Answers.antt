use Rattle.std.proofs.Common.{◌≡◌, sym, ◌∙◌, ap, subst, [], ◌∷◌, ◌++◌, append_assoc, ℕ, rules}
use Rattle.std.specs.Prelude.{Vec}
use Rattle.std.specs.List.{All}
use Rattle.std.specs.declared.alloc.Global.{Global}
use Rattle.std.proofs.lemmas.List.Elements.{All-append, All-cons, All-nil}
use Rattle.gix_ref_hash.specs.Bytes.{BeginsWith}
use Rattle.gix_ref_name.specs.NameGrammar.{IsPartialName}
use Rattle.gix_ref_listing.specs.Walks.{IsBelow, IsInnerPath}
use Rattle.gix_ref_listing.proofs.WalkLemmas.{leads, fronts_nest, among_before, among_pushed, not_both}
use Rattle.gix_ref_listing.proofs.walk.Root.take_folder.Goals as goal

pub returns-then-not-branch-clause-leads : goal.returns-then-not-branch-clause-leads
returns-then-not-branch-clause-leads c none path name own begins =
    let folder = c.args.folder.now in
    let part = c.args.component.now in
    let rest = begins.0 in
    let valid : IsPartialName (folder ++ (part ++ 47 ∷ rest)) = subst IsPartialName (begins.1 ∙ (append_assoc folder (part ++ 47 ∷ []) rest ∙ ap (λ t. folder ++ t) (append_assoc part (47 ∷ []) rest))) own.0.valid in
    absurd (not_both _ (c.in_ok-may_lead.ensures.1 (leads folder part rest path none valid)) c.if-not-branch.true)

pub returns-in_ok-push-2-clause-adds : goal.returns-in_ok-push-2-clause-adds
returns-in_ok-push-2-clause-adds c =
    let P = λ (f : Vec ℕ Global). IsInnerPath f.items in
    record {
      stays = λ name had. subst (λ fs. IsBelow fs name) (sym c.in_ok-push-2.ensures.items) (among_before (λ f. BeginsWith name f.items) c.args.next.now.items _ had);
      inner = λ all. subst (All P) (sym c.in_ok-push-2.ensures.items) (All-append P c.args.next.now.items (c.push.new.self ∷ []) all (All-cons P c.push.new.self [] (c.in_ok-path.path.items, c.in_ok-push.ensures.items) (All-nil P)));
    }

pub returns-in_err-push-2-clause-adds : goal.returns-in_err-push-2-clause-adds
returns-in_err-push-2-clause-adds c = record {
  stays = λ name had. search rules;
  inner = λ all. subst (All (λ (f : Vec ℕ Global). IsInnerPath f.items)) (sym c.in_err-push-2.ensures.items) all;
}

pub returns-in_ok-push-2-clause-leads : goal.returns-in_ok-push-2-clause-leads
returns-in_ok-push-2-clause-leads c none path name own begins =
    let folder = c.args.folder.now in
    let part = c.args.component.now in
    let pushed : c.push.new.self.items ≡ folder ++ (part ++ 47 ∷ []) = c.in_ok-push.ensures.items ∙ (ap (λ t. t ++ 47 ∷ []) c.in_ok-path.ensures ∙ append_assoc folder part (47 ∷ [])) in
    subst (λ fs. IsBelow fs name) (sym c.in_ok-push-2.ensures.items) (among_pushed (λ f. BeginsWith name f.items) c.args.next.now.items c.push.new.self (begins.0, begins.1 ∙ ap (λ t. t ++ begins.0) (sym pushed)))

pub returns-else-is_front-clause-leads : goal.returns-else-is_front-clause-leads
returns-else-is_front-clause-leads c none path name own begins =
    let folder = c.args.folder.now in
    let part = c.args.component.now in
    let pushed : c.push.new.self.items ≡ folder ++ (part ++ 47 ∷ []) = c.in_ok-push.ensures.items ∙ (ap (λ t. t ++ 47 ∷ []) c.in_ok-path.ensures ∙ append_assoc folder part (47 ∷ [])) in
    let front : c.deref.result.now ++ begins.0 ≡ c.args.self.prefix.now ++ own.0.begins.0 = ap (λ t. t ++ begins.0) (c.deref.ensures.value ∙ pushed) ∙ (sym begins.1 ∙ own.0.begins.1) in
    absurd (not_both _ (c.is_front.ensures.1 (fronts_nest c.deref.result.now c.args.self.prefix.now begins.0 own.0.begins.0 front)) c.if-is_front.false)
