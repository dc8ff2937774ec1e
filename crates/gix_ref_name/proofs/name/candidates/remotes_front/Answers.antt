use Rattle.std.proofs.Common.{sym, ◌∙◌}
use Rattle.gix_ref_name.proofs.CandidateNames.{front_rooted, front_root, front_other}
use Rattle.gix_ref_name.proofs.name.candidates.remotes_front.Goals as goal
use Rattle.gix_ref_name.proofs.name.candidates.remotes_front.Goals.{then-is_full_ref_path, else-is_full_ref_path}

pub returns-then-is_root : goal.returns-then-is_root
returns-then-is_root c =
    elim c.if-is_full_ref_path.branch [
      | then-is_full_ref_path w ↦ front_rooted c.args.name.now (sym c.is_full_ref_path.ensures ∙ w.if-is_full_ref_path.true)
      | else-is_full_ref_path w ↦ front_root c.args.name.now (sym w.is_root.ensures ∙ sym w.value-is ∙ c.if-is_root.true)
    ]

pub returns-else-is_root : goal.returns-else-is_root
returns-else-is_root c =
    elim c.if-is_full_ref_path.branch [
      | then-is_full_ref_path w ↦ absurd (cc)
      | else-is_full_ref_path w ↦
          front_other c.args.name.now (sym c.is_full_ref_path.ensures ∙ w.if-is_full_ref_path.false) (sym w.is_root.ensures ∙ sym w.value-is ∙ c.if-is_root.false)
    ]
