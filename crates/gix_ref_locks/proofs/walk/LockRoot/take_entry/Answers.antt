use Rattle.std.proofs.Common.{◌≡◌, sym, ◌∙◌, ap, subst, [], ◌∷◌, ◌++◌, append_assoc, ℕ, true}
use Rattle.std.specs.Prelude.{Vec}
use Rattle.std.specs.List.{All}
use Rattle.std.specs.declared.alloc.Global.{Global}
use Rattle.std.proofs.lemmas.List.Elements.{All-append, All-cons, All-nil}
use Rattle.gix_ref_files.specs.Tree.{is_file}
use Rattle.gix_ref_hash.specs.Bytes.{BeginsWith}
use Rattle.gix_ref_listing.specs.Walks.{IsBelow, IsInnerPath}
use Rattle.gix_ref_listing.proofs.WalkLemmas.{among_before, among_pushed, not_both}
use Rattle.gix_ref_locks.proofs.walk.LockRoot.take_entry.Goals as goal

pub returns-then-entry-clause-adds : goal.returns-then-entry-clause-adds
returns-then-entry-clause-adds c =
    let P = λ (f : Vec ℕ Global). IsInnerPath f.items in
    record {
      stays = λ name had. subst (λ fs. IsBelow fs name) (sym c.in_ok-push-2.ensures.items) (among_before (λ f. BeginsWith name f.items) c.args.next.now.items _ had);
      inner = λ all. subst (All P) (sym c.in_ok-push-2.ensures.items) (All-append P c.args.next.now.items (c.push.new.self ∷ []) all (All-cons P c.push.new.self [] (c.in_ok-path.path.items, c.in_ok-push.ensures.items) (All-nil P)));
    }

pub returns-then-entry-clause-taken : goal.returns-then-entry-clause-taken
returns-then-entry-clause-taken c =
    let folder = c.args.folder.now in
    let part = c.args.entry.now.name.items in
    let joined = c.in_ok-path.ensures ∙ ap (λ t. folder ++ t) c.deref.ensures.value in
    let pushed : c.push.new.self.items ≡ folder ++ (part ++ 47 ∷ []) = c.in_ok-push.ensures.items ∙ (ap (λ t. t ++ 47 ∷ []) joined ∙ append_assoc folder part (47 ∷ [])) in
    record {
      file = λ not_folder stem is lock. absurd (not_both c.args.entry.now.is_folder c.if-entry.true not_folder);
      leads = λ is_folder name begins. subst (λ fs. IsBelow fs name) (sym c.in_ok-push-2.ensures.items) (among_pushed (λ f. BeginsWith name f.items) c.args.next.now.items c.push.new.self (begins.0, begins.1 ∙ ap (λ t. t ++ begins.0) (sym pushed)));
    }

pub returns-clause-taken : goal.returns-clause-taken
returns-clause-taken c =
    let folder = c.args.folder.now in
    let at = c.deref-2.ensures.value ∙ (c.in_ok-path.ensures ∙ ap (λ t. folder ++ t) c.deref.ensures.value) in
    record {
      file = λ not_folder stem is lock. c.in_ok-take_file.ensures.finds stem (at ∙ is) lock;
      leads = λ is_folder name begins. absurd (not_both c.args.entry.now.is_folder is_folder c.if-entry.false);
    }

pub returns-clause-only : goal.returns-clause-only
returns-clause-only c T file all =
    let folder = c.args.folder.now in
    let at = c.deref-2.ensures.value ∙ (c.in_ok-path.ensures ∙ ap (λ t. folder ++ t) c.deref.ensures.value) in
    c.in_ok-take_file.ensures.only T (subst (λ p. is_file (T (c.args.self.front.now ++ p)) ≡ true) (sym at) (file c.if-entry.false)) all
