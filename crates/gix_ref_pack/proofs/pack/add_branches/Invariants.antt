use Rattle.std.proofs.Common.{◌≡◌, take}
use Rattle.gix_ref_hash.specs.declared.hash.ObjectId.{ObjectId}
use Rattle.gix_ref_pack.specs.KnownObjects.{end_in}
use Rattle.gix_ref_pack.specs.LooseObjects.{end_with_branches}
use Rattle.gix_ref_pack.proofs.pack.add_branches.Given as goal

-- the table has what it had, and the objects of the branches so far
abbrev pub invariant-loop-loose : goal.invariant-loop-loose
invariant-loop-loose l = (id : ObjectId) → end_in l.objects id ≡ end_with_branches (take l.loose-index l.chosen) (end_in l.initial.objects id) id
