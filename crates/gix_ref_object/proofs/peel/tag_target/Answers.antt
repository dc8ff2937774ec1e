use Rattle.std.proofs.Common.{Option, ap, ◌∙◌, sym}
use Rattle.gix_ref_hash.specs.declared.hash.Kind.TheVariants as kinds
use Rattle.gix_ref_hash.specs.declared.hash.ObjectId.{ObjectId}
use Rattle.gix_ref_object.specs.Peeling.{first_of, target_of_kind, tag_target}
use Rattle.gix_ref_object.proofs.peel.tag_target.Goals as goal

pub returns-in-Some : goal.returns-in-Some
unfolding tag_target
returns-in-Some c =
    ap (λ (o : Option ObjectId). first_of o (target_of_kind kinds.Sha256 c.args.bytes.now)) (sym c.in-Some.is ∙ c.target_of_kind.ensures)

pub returns-in-None : goal.returns-in-None
unfolding tag_target
returns-in-None c =
    c.target_of_kind-in-None.ensures
    ∙ ap (λ (o : Option ObjectId). first_of o (target_of_kind kinds.Sha256 c.args.bytes.now)) (sym c.in-None.is ∙ c.target_of_kind.ensures)
