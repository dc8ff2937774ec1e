use Rattle.std.proofs.Common.{◌≡◌, ◌++◌, rules, length, replicate, false, ◌∷◌, [], ◌∙◌, sym, ap, subst, true, Bool, List}
use Rattle.gix_ref_queries.specs.Patterns.{IsRow, is_glob_of}
use Rattle.gix_ref_queries.proofs.Globs.{first_row}
use Rattle.gix_ref_queries.proofs.pattern.is_glob_of.Goals as goal

pub put_all-requires : goal.put_all-requires
put_all-requires c =
    let name = c.args.name.now in
    let bare : c.in_ok-row.row.items ≡ replicate (length name) false = search rules in
    subst (λ (row : List Bool). IsRow (is_glob_of []) name row) (sym (c.deref_mut.ensures.value ∙ c.in_ok-push.ensures.items ∙ ap (λ (r : List Bool). r ++ true ∷ []) bare)) (first_row name)
