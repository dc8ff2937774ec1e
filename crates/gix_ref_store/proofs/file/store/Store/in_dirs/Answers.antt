use Rattle.std.proofs.Common.{subst₂, sym, ◌∙◌}
use Rattle.gix_ref_target.specs.Layout.{AreCompatible}
use Rattle.gix_ref_lookup.proofs.FolderLemmas.{laid_test}
use Rattle.gix_ref_store.proofs.file.store.Store.in_dirs.Goals as goal

pub invariant_of-result : goal.invariant_of-result
invariant_of-result g c =
    let laid = c.dirs_are_compatible.ensures.0 c.if-not-dirs_are_compatible.false in
    record {
      laid = laid_test _ _ (subst₂ AreCompatible c.deref.ensures.value c.resolved.ensures laid);
      clean = sym c.are_clean_paths.ensures ∙ c.if-not-are_clean_paths.false;
    }
