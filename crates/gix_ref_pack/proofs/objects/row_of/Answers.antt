use Rattle.std.proofs.Common.{◌≡◌, [], rules}
use Rattle.gix_ref_hash.specs.Bytes.{Cuts, NoByte}
use Rattle.gix_ref_pack.proofs.TableLines.{no_row_first, no_row_second, no_row_whole}
use Rattle.gix_ref_pack.proofs.objects.row_of.Goals as goal

pub returns-in-None : goal.returns-in-None
returns-in-None c =
    let none : NoByte 32 c.args.line.now = search rules in
    no_row_whole c.args.line.now none c.in-None.ensures

pub returns-in_default-from_hex : goal.returns-in_default-from_hex
returns-in_default-from_hex c =
    let cuts : Cuts 32 c.args.line.now c.in-Some.id.now c.in-Some.peeled.now = search rules in
    no_row_first c.args.line.now c.in-Some.id.now c.in-Some.peeled.now cuts c.in_default-from_hex.ensures

pub returns-in-None-from_hex : goal.returns-in-None-from_hex
returns-in-None-from_hex c =
    let cuts : Cuts 32 c.args.line.now c.in-Some.id.now c.in-Some.peeled.now = search rules in
    let more : c.in-Some.peeled.now ≡ [] → ⊥ = search rules in
    no_row_second c.args.line.now c.in-Some.id.now c.in-Some.peeled.now cuts more c.in-None-from_hex.ensures
