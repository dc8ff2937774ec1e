use Rattle.gix_ref_listing.proofs.AllowedNames.{lent_is_allowed}
use Rattle.gix_ref_listing.proofs.merge.Merge.take_record.Goals as goal

pub returns-in-Greater-clause-allowed : goal.returns-in-Greater-clause-allowed
returns-in-Greater-clause-allowed c = lent_is_allowed c.args.settings c.if-settings.false c.take_record.result
