use Rattle.std.proofs.Common.{◌∙◌, sym}
use Rattle.gix_ref_name.specs.Names.{full_ref_bytes}
use Rattle.gix_ref_listing.proofs.OwnLemmas.{own_inside, not_inside}
use Rattle.gix_ref_listing.proofs.own_records.name_of_key.Goals as goal

pub returns-in_default : goal.returns-in_default
returns-in_default c = sym (not_inside c.args.settings (full_ref_bytes c.args.key) c.in_default.ensures)

pub returns-then-has_key : goal.returns-then-has_key
returns-then-has_key c = sym (own_inside c.args.settings (full_ref_bytes c.args.key) (full_ref_bytes c.in-Some.name) _ c.in-Some.ensures c.in-Some.name.valid (rw c.to_path.ensures.bytes at (sym c.has_key.ensures ∙ c.if-has_key.true)))

pub returns-else-has_key : goal.returns-else-has_key
returns-else-has_key c = sym (own_inside c.args.settings (full_ref_bytes c.args.key) (full_ref_bytes c.in-Some.name) _ c.in-Some.ensures c.in-Some.name.valid (rw c.to_path.ensures.bytes at (sym c.has_key.ensures ∙ c.if-has_key.false)))
