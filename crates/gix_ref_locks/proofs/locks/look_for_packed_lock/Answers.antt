use Rattle.std.proofs.Common.{◌≡◌, true, sym, ◌∙◌, subst, inl}
use Rattle.gix_ref_files.specs.Tree.{is_file, is_blocked}
use Rattle.gix_ref_lookup.specs.Lookups.{meaning_in}
use Rattle.gix_ref_locks.proofs.FoundLocks.{file_node}
use Rattle.gix_ref_locks.proofs.locks.look_for_packed_lock.Goals as goal

pub returns-in_ok-keep-in-Ok-File-clause-only : goal.returns-in_ok-keep-in-Ok-File-clause-only
returns-in_ok-keep-in-Ok-File-clause-only g c h all =
    let T = (g.F.Files.means c.args.files.now).tree in
    let at = c.deref.result.now in
    let there : is_file (T at) ≡ true = file_node (T at) (is_blocked T at) (sym (c.in-Ok-File.ensures.answer h) ∙ c.in-Ok-File.field-0-is) in
    c.in_ok-keep-in-Ok-File.ensures.only (meaning_in c.args.settings) T (inl c.in-Ok.ensures, subst (λ p. is_file (T p) ≡ true) c.deref.ensures.value there) all
