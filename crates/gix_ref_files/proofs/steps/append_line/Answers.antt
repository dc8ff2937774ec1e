use Rattle.std.proofs.Common.{◌≡◌, sym, ◌∙◌, subst, rules}
use Rattle.std.proofs.lemmas.Bool.{true≢false}
use Rattle.gix_ref_files.specs.Calls.{Creates}
use Rattle.gix_ref_files.specs.declared.files.Create.TheVariants.{Made}
use Rattle.gix_ref_files.proofs.LockLemmas.{if_ok}
use Rattle.gix_ref_files.proofs.Ready.{made_appends}
use Rattle.gix_ref_files.proofs.steps.append_line.Goals as goal

pub returns-clause-refused : goal.returns-clause-refused
returns-clause-refused g c h =
    let is : c.in_ok-create_new.field-0 ≡ Made = search rules in
    let p = c.args.path.now in
    let start = (g.F.Files.means c.append.new.self).tree in
    let mid = (g.F.Files.means c.create_new.new.self).tree in
    let end = (g.F.Files.means c.append-2.new.self).tree in
    let made : Creates start p mid Made = subst (λ create. Creates start p mid create) is (c.in_ok-create_new.ensures.answer h) in
    if_ok c.append-2.result (λ done answer none. absurd (true≢false (sym (made_appends start mid end p c.args.bytes.now done made answer) ∙ none))) (c.append-2.ensures.answer h)
