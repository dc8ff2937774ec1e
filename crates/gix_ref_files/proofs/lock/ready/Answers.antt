use Rattle.std.proofs.Common.{◌≡◌, ◌<◌, length, take, ◌∙◌, arith}
use Rattle.std.proofs.lemmas.List.{length-take-le}
use Rattle.gix_ref_files.specs.Tree.{fronts, folders_to}
use Rattle.gix_ref_files.specs.Files.{disk_of}
use Rattle.gix_ref_files.proofs.Moments.{passes_weaken}
use Rattle.gix_ref_files.proofs.LockLemmas.{readies, readying_on, up_to_slash, if_ok}
use Rattle.gix_ref_files.proofs.lock.ready.Goals as goal

pub returns-clause-answer : goal.returns-clause-answer
returns-clause-answer g c h =
    let p = c.args.path.now in
    let end = c.folder_end-end.result in
    let within = c.folder_end-end.ensures.within in
    let some : 0 < length (take end p) = omega (arith, length-take-le end p within) in
    let is : fronts p ≡ folders_to (take end p) = c.folder_end-end.ensures.folders ∙ up_to_slash p end c.if-end-eq0.false in
    if_ok c.make_folders.result (λ made answer. readies (g.F.Files.means c.args.files.now).tree (g.F.Files.means c.make_folders.new.self).tree (take end p) p made some is answer) (c.make_folders.ensures.answer h)

pub returns-clause-passes : goal.returns-clause-passes
returns-clause-passes g c h =
    let p = c.args.path.now in
    let end = c.folder_end-end.result in
    let within = c.folder_end-end.ensures.within in
    let some : 0 < length (take end p) = omega (arith, length-take-le end p within) in
    let is : fronts p ≡ folders_to (take end p) = c.folder_end-end.ensures.folders ∙ up_to_slash p end c.if-end-eq0.false in
    passes_weaken (c.make_folders.ensures.passes h) (readying_on (disk_of (g.F.Files.means c.args.files.now)) (take end p) p some is)
