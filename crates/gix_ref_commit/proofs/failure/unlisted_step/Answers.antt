use Rattle.std.proofs.Common.{◌∙◌, refl}
use Rattle.gix_ref_commit.proofs.Unlisted.{name_at}
use Rattle.gix_ref_commit.proofs.failure.unlisted_step.Goals as goal

pub returns-in_ok-full_name-in-Rename : goal.returns-in_ok-full_name-in-Rename
returns-in_ok-full_name-in-Rename c =
    rw c.in-Rename.is (refl, name_at c.args.edits.now c.in-Rename.edit _ c.in_ok-full_name-in-Rename.full_name (rw c.in-Rename.is at c.requires) (c.in_ok-full_name-in-Rename.ensures ∙ c.as_ref.ensures))
