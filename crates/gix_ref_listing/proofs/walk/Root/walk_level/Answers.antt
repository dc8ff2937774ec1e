use Rattle.std.proofs.Common.{◌⊎◌, ◌≤◌, length, inl, inr, ⊎_elim, ℕ, sym, subst, Vec, Global, drop, ◌+◌, arith}
use Rattle.gix_ref_files.proofs.Meeting.{no_fewer_joins}
use Rattle.std.specs.List.{All}
use Rattle.gix_ref_hash.specs.Bytes.{BeginsWith}
use Rattle.gix_ref_files.specs.Tree.{Tree}
use Rattle.gix_ref_theory.specs.OnRealTrees.{view_of}
use Rattle.gix_ref_listing.specs.Walks.{Holds, IsThereOr, IsLooseName, IsFolderPath, IsBelow}
use Rattle.gix_ref_listing.proofs.FolderWalks.{among_next, among_none}
use Rattle.gix_ref_files.proofs.ReadOnly.{reads_more}
use Rattle.gix_ref_listing.proofs.walk.Root.walk_level.Goals as goal
use Rattle.gix_ref_lookup.specs.Lookups.{Among}

pub loop-folder-preserved : goal.loop-folder-preserved
loop-folder-preserved g c =
    let F = g.F.Files in
    let root = c.args.self in
    let before = c.loop-folder.invariant in
    let step = c.walk_folder.ensures in
    let done = c.in_ok-walk_folder.ensures in
    let first = F.means c.args.files.now in
    let mid = F.means c.loop-folder.files in
    let folders = c.args.folders.now in
    let i = c.loop-folder.folder-index in
    let folder = c.folder-item.result in
    let at : IsFolderPath c.deref.result.now = subst IsFolderPath (sym c.deref.ensures.value) (subst (λ (f : Vec ℕ Global). IsFolderPath f.items) (sym c.folder-item.is) (c.requires.paths i folder c.loop-folder-test.true)) in
    let found = c.walk_folder.new.found.entries in
    let next = c.walk_folder.new.next.items in
    record {
      stays = λ name had. done.stays name (before.stays name had);
      reaches = λ h name loose below.
          let in_mid : IsLooseName root (view_of mid.tree) name = subst (λ (T : Tree). IsLooseName root (view_of T) name) (sym (before.looks.leaves h).tree) loose in
          let here : BeginsWith name folder.items → Among (Holds name) found ⊎ (IsBelow next name ⊎ IsBelow (drop (i + 1) folders) name) =
          λ begins. ⊎_elim (λ is. inl is) (λ later. inr (inl later)) (done.reaches h at name in_mid (subst (BeginsWith name) (sym c.deref.ensures.value) begins)) in
          ⊎_elim (λ is. inl (done.stays name is))
          (λ more. ⊎_elim (λ later. inr (inl (done.adds.stays name later)))
          (λ rest. ⊎_elim here (λ others. inr (inr others)) (among_next (λ (f : Vec ℕ Global). BeginsWith name f.items) folders i folder c.loop-folder-test.true c.folder-item.is rest)) more)
          (before.reaches h name loose below);
      paths = done.adds.inner before.paths;
      files = λ start le all. done.files start (no_fewer_joins le before.looks.no_fewer) (before.files start le all);
      there = λ h others all. subst (λ (T : Tree). All (IsThereOr others root (view_of T)) found) (before.looks.leaves h).tree (done.there h at others (subst (λ (T : Tree). All (IsThereOr others root (view_of T)) c.loop-folder.found.entries) (sym (before.looks.leaves h).tree) (before.there h others all)));
      looks = reads_more _ _ _ _ _ _ before.looks step.looks;
    }

pub returns-clause-reaches : goal.returns-clause-reaches
returns-clause-reaches g c h name loose below =
    let over = c.loop-folder-test.false in
    let past : length c.args.folders.now ≤ c.loop-folder.folder-index = omega arith in
    ⊎_elim (λ is. inl is)
    (λ more. ⊎_elim (λ later. inr later) (λ rest. absurd (among_none (λ (f : Vec ℕ Global). BeginsWith name f.items) c.args.folders.now c.loop-folder.folder-index past rest)) more)
    (c.loop-folder.invariant.reaches h name loose below)
