use Rattle.gix_ref_packed_text.proofs.WindowLemmas.{reads_option}
use Rattle.gix_ref_packed_text.proofs.packed.window.ids_of.Goals as goal

pub returns : goal.returns
returns c = record { target = c.target.ensures; object = reads_option c.args.reference.object c.peeled.result c.peeled.ensures }
