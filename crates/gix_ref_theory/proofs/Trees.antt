-- The theorems about a plan, brought to real trees.
use Rattle.std.proofs.Common.{refl, inl, inr}
use Rattle.gix_ref_files.proofs.Between.{ended_is_left}
use Rattle.gix_ref_theory.proofs.Headline as headline
use Rattle.gix_ref_theory.proofs.Carrying.{left_alike, after_alike, begun_folders, begun_removal}
use Rattle.gix_ref_theory.specs.OnRealTrees.{EveryEndIsBetween, EveryTreeIsBetween, EveryWholeRunCommits, FoldersHoldNoFile, view_of}
use Rattle.gix_ref_theory.specs.Plan.{plan}
use Rattle.gix_ref_theory.specs.Views.{IsLeft}

pub left_well : EveryTreeIsBetween
left_well s laws mode locked edits before start left steps run stopped =
    let l : IsLeft locked (plan s mode (view_of start) edits run.merged) (view_of start) (view_of left) =
    left_alike locked steps (plan s mode (view_of start) edits run.merged) start left (view_of start) (view_of start) (record { at = λ path. refl }) (λ path n. refl) run.steps_are_planned stopped in
    record {
      between = headline.between s laws mode locked edits run.merged (view_of before) (view_of start) (view_of left) run.prepared run.locks l;
      no_deletion_first = headline.no_deletion_first s laws mode locked edits run.merged (view_of before) (view_of start) (view_of left) run.prepared run.locks l;
      in_order = headline.in_order s laws mode locked edits run.merged (view_of before) (view_of start) (view_of left) run.prepared run.locks l;
    }

pub ended_well : EveryEndIsBetween
ended_well s laws mode locked edits before start left steps at cause run ended =
    left_well s laws mode locked edits before start left steps run (ended_is_left steps at cause start left ended)

pub committed : EveryWholeRunCommits
committed s laws mode locked staying edits before start left steps run done gone =
    headline.committed s laws mode locked staying edits run.merged (view_of before) (view_of start) (view_of left) run.prepared run.locks
    (after_alike locked steps (plan s mode (view_of start) edits run.merged) start left (view_of start) (view_of start) (record { at = λ path. refl }) (λ path n. refl) run.steps_are_planned done)
    gone

pub folders : FoldersHoldNoFile
folders before T path (inl begun) = (begun_folders path before T (view_of before) (record { at = λ q. refl }) begun).at
folders before T path (inr begun) = (begun_removal path before T (view_of before) (record { at = λ q. refl }) begun).at
