use Rattle.std.proofs.Common.{◌≡◌, ◌∙◌, ◌+◌, ◌-◌, ◌≤◌, ◌<◌, ℕ, take, length, true, false, sym, ap, arith}
use Rattle.std.specs.Prelude.{◌==◌}
use Rattle.std.proofs.lemmas.Bool.{ne_eqb}
use Rattle.gix_ref_files.specs.Disk.{folder_of}
use Rattle.gix_ref_files.specs.Tree.{fronts}
use Rattle.gix_ref_files.proofs.FolderOf.{folder_next}
use Rattle.gix_ref_files.proofs.PathFronts.{fronts_next}
use Rattle.gix_ref_files.proofs.LockLemmas.{fronts_at_slash, no_folder, no_fronts}
use Rattle.gix_ref_files.proofs.paths.folder_end.Goals as goal

pub returns-then-path-end-eq47-clause-folder : goal.returns-then-path-end-eq47-clause-folder
returns-then-path-end-eq47-clause-folder c =
    let p = c.args.path.now in
    let i = c.loop-end.end - 1 in
    let x = c.loop-end.invariant in
    let back : i + 1 ≡ c.loop-end.end = omega (arith, c.loop-end-test.true) in
    sym (folder_next p i true (omega (arith, c.loop-end-test.true)) (omega (arith, c.loop-end-test.true, x.within)) (ap (λ (b : ℕ). b == 47) c.if-path-end-eq47.true))
    ∙ (ap (λ (n : ℕ). folder_of (take n p)) back ∙ x.folder)

pub returns-then-path-end-eq47-clause-folders : goal.returns-then-path-end-eq47-clause-folders
returns-then-path-end-eq47-clause-folders c =
    let p = c.args.path.now in
    let i = c.loop-end.end - 1 in
    let x = c.loop-end.invariant in
    let back : i + 1 ≡ c.loop-end.end = omega (arith, c.loop-end-test.true) in
    sym x.folders
    ∙ (ap (λ (n : ℕ). fronts (take n p)) (sym back)
    ∙ fronts_at_slash p i (omega (arith, c.loop-end-test.true)) (omega (arith, c.loop-end-test.true, x.within)) (ap (λ (b : ℕ). b == 47) c.if-path-end-eq47.true))

pub loop-end-preserved : goal.loop-end-preserved
loop-end-preserved c =
    let p = c.args.path.now in
    let i = c.loop-end.end - 1 in
    let x = c.loop-end.invariant in
    let back : i + 1 ≡ c.loop-end.end = omega (arith, c.loop-end-test.true) in
    let some : 1 ≤ i = omega (arith, c.loop-end-test.true) in
    let lt : i < length p = omega (arith, c.loop-end-test.true, x.within) in
    record {
      folder = sym (folder_next p i false some lt (ne_eqb _ _ c.if-path-end-eq47.false)) ∙ (ap (λ (n : ℕ). folder_of (take n p)) back ∙ x.folder);
      folders = sym (fronts_next p i false some lt (ne_eqb _ _ c.if-path-end-eq47.false)) ∙ (ap (λ (n : ℕ). fronts (take n p)) back ∙ x.folders);
      within = omega (arith, x.within);
    }

pub returns-clause-folder : goal.returns-clause-folder
returns-clause-folder c = sym (no_folder c.args.path.now c.loop-end.end (omega (arith, c.loop-end-test.false))) ∙ c.loop-end.invariant.folder

pub returns-clause-folders : goal.returns-clause-folders
returns-clause-folders c = sym c.loop-end.invariant.folders ∙ no_fronts c.args.path.now c.loop-end.end (omega (arith, c.loop-end-test.false))
