-- What comes of peeling the object of a reference.
use Rattle.std.proofs.Common.{◌≡◌, Result, Ok, Err}
use Rattle.gix_ref_hash.specs.declared.hash.ObjectId.{ObjectId}
use Rattle.gix_ref_name.specs.Names.{full_bytes}
use Rattle.gix_ref_target.specs.Targets.{target_value}
use Rattle.gix_ref_target.specs.Targets.TargetValue.{object_id}
use Rattle.gix_ref_object.specs.Objects.{Stored}
use Rattle.gix_ref_object.specs.Peeling as tags
use Rattle.gix_ref_packed_text.specs.declared.raw.Reference.{Reference}
use Rattle.gix_ref_follow.specs.Peelings.{PeelsReached, PeelsTags}
use Rattle.gix_ref_follow.specs.declared.peel.to_id.Error.{Error}
use Rattle.gix_ref_follow.specs.declared.peel.to_id.Error.TheVariants.{FollowToObject, Find, NotFound, TagChainTooLong, Memory}

pub peels_reached : (meaning : ObjectId → Stored) (reached : Reference) (first : ObjectId) (result : Result ObjectId Error) → target_value reached.target ≡ object_id first → PeelsTags (full_bytes reached.name) (tags.peel meaning 1000 first) result
    → PeelsReached meaning reached result
peels_reached meaning reached first (Ok id) at peels = (first, at, peels)
peels_reached meaning reached first (Err (FollowToObject error)) at peels = tt
peels_reached meaning reached first (Err Find) at peels = (first, at, peels)
peels_reached meaning reached first (Err (NotFound id name)) at peels = (first, at, peels)
peels_reached meaning reached first (Err TagChainTooLong) at peels = (first, at, peels)
peels_reached meaning reached first (Err Memory) at peels = (first, at, peels)
