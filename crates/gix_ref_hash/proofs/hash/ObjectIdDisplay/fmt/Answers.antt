use Rattle.std.proofs.Common.{rules}
use Rattle.gix_ref_hash.specs.Ids.{id_bytes}
use Rattle.gix_ref_hash.proofs.IdLemmas.{digits_are_text}
use Rattle.gix_ref_hash.proofs.hash.ObjectIdDisplay.fmt.Goals as goal

pub unwrap-requires-2 : goal.unwrap-requires-2
unwrap-requires-2 g c = digits_are_text _ (id_bytes c.args.self.now) _ c.from_utf8.result (search rules) c.from_utf8.ensures.cases
