use Rattle.std.proofs.Common.{inr}
use Rattle.gix_ref_listing.proofs.FolderWalks.{cut_front}
use Rattle.gix_ref_listing.proofs.walk.folder_of.Goals as goal

pub returns-in-Some-clause-path : goal.returns-in-Some-clause-path
returns-in-Some-clause-path c = inr (c.in-Some.folder.now, (cut_front c.args.prefix.now c.in-Some.folder.now c.in-Some.field-0-1.now c.in-Some.ensures.whole).0)

pub returns-in-Some-clause-front : goal.returns-in-Some-clause-front
returns-in-Some-clause-front c = (c.in-Some.field-0-1.now, (cut_front c.args.prefix.now c.in-Some.folder.now c.in-Some.field-0-1.now c.in-Some.ensures.whole).1)
