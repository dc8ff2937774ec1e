use Rattle.std.proofs.Common.{refl, ◌∙◌, ap, take}
use Rattle.gix_ref_locks.proofs.Removing.{kept_front}
use Rattle.gix_ref_locks.proofs.remove.stopped_at.Goals as goal

pub returns : goal.returns
returns c = (c.truncate.new.self, c.remove-path.result, refl, c.truncate.ensures.items ∙ (ap (take c.args.stopped.at) c.remove-path.ensures.items ∙ kept_front c.args.paths.items c.args.stopped.at c.requires), c.remove-path.ensures.value)
