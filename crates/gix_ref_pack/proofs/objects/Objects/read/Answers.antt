use Rattle.std.proofs.Common.{◌≡◌, ◌+◌, ◌∷◌, ◌++◌, ◌∙◌, [], None, ap, arith, false, length, rules, sym}
use Rattle.std.proofs.lemmas.List.{length-append}
use Rattle.gix_ref_pack.specs.KnownObjects.{end_after}
use Rattle.gix_ref_pack.proofs.TableLines.{ends_more, rows_length, rows_more, some_left}
use Rattle.gix_ref_pack.proofs.objects.Objects.read.Goals as goal

pub overflow_add-number : goal.overflow_add-number
overflow_add-number c =
    let so_far = c.loop-rest.invariant in
    omega (arith, so_far.2, rows_length c.args.table.now so_far.0 c.loop-rest.rest.now so_far.1)

pub loop-rest-preserved : goal.loop-rest-preserved
loop-rest-preserved c =
    let so_far = c.loop-rest.invariant in
    let rest = c.loop-rest.rest.now in
    let row = c.in-Some.row in
    let filled : c.is_empty.result ≡ false = search rules in
    let more = some_left rest c.is_empty.result c.is_empty.ensures filled in
    let longer : length (so_far.0 ++ row ∷ []) ≡ length so_far.0 + 1 = length-append so_far.0 (row ∷ []) in (
      so_far.0 ++ row ∷ [],
      rows_more c.args.table.now so_far.0 rest c.first_line.result.0.now c.first_line.result.1.now row so_far.1 more (c.first_line.ensures more) c.in-Some.ensures,
      omega (arith, so_far.2, longer),
      λ id. c.in_ok-add.ensures id ∙ (ap (λ e. end_after row e id) (so_far.3 id) ∙ sym (ends_more so_far.0 row None id)),
    )
