use Rattle.std.proofs.Common.{◌≢◌, ◌∙◌, refl, inl, ⊎_elim, subst, sym, ap, length, List, ℕ, [], Vec}
use Rattle.gix_ref_files.proofs.Meeting.{no_fewer_starts}
use Rattle.std.specs.List.{All}
use Rattle.std.specs.declared.alloc.Global.{Global}
use Rattle.gix_ref_target.specs.Layout.{below}
use Rattle.gix_ref_lookup.specs.StoreLayout.{namespace_text}
use Rattle.gix_ref_theory.specs.OnRealTrees.{view_of}
use Rattle.gix_ref_listing.specs.Walks.{Holds, IsFileOrMet, IsInnerPath, IsThereOr}
use Rattle.gix_ref_listing.specs.PseudoListings.{IsPseudoFound}
use Rattle.gix_ref_listing.proofs.CleanFolders.{clean_named}
use Rattle.gix_ref_listing.proofs.StoreWalks.{all_none}
use Rattle.gix_ref_listing.proofs.PseudoLemmas.{not_inner, kept_holds, all_kept, pseudo_of_root, all_pseudo}
use Rattle.gix_ref_listing.proofs.pseudo.walk_pseudo.Goals as goal
use Rattle.gix_ref_lookup.specs.Lookups.{Among}

pub front_of-requires : goal.front_of-requires
front_of-requires g c =
    let dirs = c.args.settings.dirs.now in
    subst (λ (p : List ℕ). p ≢ []) (sym c.deref.ensures.value) (clean_named dirs.git_dir dirs.common_dir dirs.clean).0

pub returns-clause-finds : goal.returns-clause-finds
returns-clause-finds g c h name listed =
    let settings = c.args.settings in
    let view = view_of (g.F.Files.means c.args.files.now).tree in
    let at = c.deref-2.ensures.value ∙ (c.in-Ok.ensures.front ∙ ap (λ (folder : List ℕ). below folder (namespace_text settings.namespace.now)) c.deref.ensures.value) in
    let inner = c.in_ok-walk_folder.ensures.adds.inner (all_none (λ (f : Vec ℕ Global). IsInnerPath f.items) c.new-inner.result.items (ap length c.new-inner.ensures.items)) in
    let held = ⊎_elim (λ is. is) (λ below. absurd (not_inner name listed.0 c.walk_folder.new.next.items inner below))
    (c.in_ok-walk_folder.ensures.reaches h (inl refl) name (pseudo_of_root _ settings view refl at refl name listed) (name, refl)) in
    subst (Among (Holds name)) (sym c.keep_pseudo.ensures) (kept_holds name listed.0 c.walk_folder.new.found.entries held)

pub returns-clause-files : goal.returns-clause-files
returns-clause-files g c =
    let old = g.F.Files.faults c.args.files.now in
    let Met = IsFileOrMet old (g.F.Files.faults c.walk_folder.new.files) in
    subst (All Met) (sym c.keep_pseudo.ensures) (all_kept Met Met (λ e is kept. is) c.walk_folder.new.found.entries
    (c.in_ok-walk_folder.ensures.files old (no_fewer_starts old) (all_none (IsFileOrMet old old) c.new-found.result.entries c.new-found.ensures.len)))

pub returns-clause-there : goal.returns-clause-there
returns-clause-there g c h =
    let settings = c.args.settings in
    let view = view_of (g.F.Files.means c.args.files.now).tree in
    let at = c.deref-2.ensures.value ∙ (c.in-Ok.ensures.front ∙ ap (λ (folder : List ℕ). below folder (namespace_text settings.namespace.now)) c.deref.ensures.value) in
    subst (All (IsPseudoFound settings view)) (sym c.keep_pseudo.ensures)
    (all_pseudo _ settings view refl at refl c.walk_folder.new.found.entries (c.in_ok-walk_folder.ensures.there h (inl refl) [] (all_none (IsThereOr [] _ view) c.new-found.result.entries c.new-found.ensures.len)))
