use Rattle.std.proofs.Common.{inl, inr, ⊎_elim, ℕ, List, sym, subst, Vec, Global}
use Rattle.gix_ref_files.proofs.Meeting.{no_fewer_joins}
use Rattle.std.specs.List.{All}
use Rattle.gix_ref_files.specs.Tree.{Tree}
use Rattle.gix_ref_theory.specs.OnRealTrees.{view_of}
use Rattle.gix_ref_listing.specs.Walks.{IsThereOr, IsLooseName, IsBelow}
use Rattle.gix_ref_files.proofs.ReadOnly.{reads_more}
use Rattle.gix_ref_listing.proofs.walk.Root.walk.Goals as goal

pub loop-preserved : goal.loop-preserved
loop-preserved g c =
    let F = g.F.Files in
    let root = c.args.self in
    let before = c.loop.invariant in
    let step = c.walk_level.ensures in
    let done = c.in_ok-folders.ensures in
    let first = F.means c.args.files.now in
    let mid = F.means c.loop.files in
    let found = c.walk_level.new.found.entries in
    record {
      stays = λ name had. done.stays name (before.stays name had);
      reaches = λ h name loose.
          let in_mid : IsLooseName root (view_of mid.tree) name = subst (λ (T : Tree). IsLooseName root (view_of T) name) (sym (before.looks.leaves h).tree) loose in
          ⊎_elim (λ is. inl (done.stays name is))
          (λ below. done.reaches h name in_mid (subst (λ (fs : List (Vec ℕ Global)). IsBelow fs name) (sym c.deref.ensures.value) below))
          (before.reaches h name loose);
      paths = λ k d below. inr (done.paths k d below);
      files = λ start le all. done.files start (no_fewer_joins le before.looks.no_fewer) (before.files start le all);
      there = λ h others all. subst (λ (T : Tree). All (IsThereOr others root (view_of T)) found) (before.looks.leaves h).tree (done.there h others (subst (λ (T : Tree). All (IsThereOr others root (view_of T)) c.loop.found.entries) (sym (before.looks.leaves h).tree) (before.there h others all)));
      looks = reads_more _ _ _ _ _ _ before.looks step.looks;
    }
