use Rattle.std.proofs.Common.{◌∙◌, ap}
use Rattle.gix_ref_packed.proofs.FileSearchLemmas.{found_finds, bad_finds, none_finds, malformed_finds}
use Rattle.gix_ref_packed.proofs.packed.sorted_file.SortedFile.try_find_full.Goals as goal

pub returns-in-Ok-None-clause-same : goal.returns-in-Ok-None-clause-same
returns-in-Ok-None-clause-same g c =
    let was = c.search.ensures.kept.1 in
    (ap (λ f. f.0) was, ap (λ f. f.1) was, ap (λ f. f.2) was)

pub returns-in-Err-Read-clause-same : goal.returns-in-Err-Read-clause-same
returns-in-Err-Read-clause-same g c =
    let was = c.search.ensures.kept.1 in
    (ap (λ f. f.0) was, ap (λ f. f.1) was, ap (λ f. f.2) was)

pub returns-in-Err-Parse-clause-same : goal.returns-in-Err-Parse-clause-same
returns-in-Err-Parse-clause-same g c =
    let was = c.search.ensures.kept.1 in
    (ap (λ f. f.0) was, ap (λ f. f.1) was, ap (λ f. f.2) was)

pub returns-in-Ok-Some-record_at-clause-same : goal.returns-in-Ok-Some-record_at-clause-same
returns-in-Ok-Some-record_at-clause-same g c =
    let was = c.search.ensures.kept.1 in
    let now = c.record_at.ensures.same in
    (now.0 ∙ ap (λ f. f.0) was, now.1 ∙ ap (λ f. f.1) was, now.2 ∙ ap (λ f. f.2) was)

pub returns-in-Ok-None-record_at-clause-same : goal.returns-in-Ok-None-record_at-clause-same
returns-in-Ok-None-record_at-clause-same g c =
    let was = c.search.ensures.kept.1 in
    let now = c.record_at.ensures.same in
    (now.0 ∙ ap (λ f. f.0) was, now.1 ∙ ap (λ f. f.1) was, now.2 ∙ ap (λ f. f.2) was)

pub returns-in-Err-clause-same : goal.returns-in-Err-clause-same
returns-in-Err-clause-same g c =
    let was = c.search.ensures.kept.1 in
    let now = c.record_at.ensures.same in
    (now.0 ∙ ap (λ f. f.0) was, now.1 ∙ ap (λ f. f.1) was, now.2 ∙ ap (λ f. f.2) was)

pub returns-in-Ok-None-clause-finds : goal.returns-in-Ok-None-clause-finds
returns-in-Ok-None-clause-finds g c = λ honest.
    none_finds c.args.kind _ _ _ c.to_path.ensures.bytes (rw c.in-Ok-None.field-0-is at c.in-Ok-None.ensures.none honest) (rw c.in-Ok-None.field-0-is at c.in-Ok-None.ensures.finds honest)

pub returns-in-Err-Parse-clause-finds : goal.returns-in-Err-Parse-clause-finds
returns-in-Err-Parse-clause-finds g c = λ honest. malformed_finds c.args.kind _ _ (rw c.in-Err-Parse.field-0-is at c.in-Err-Parse.ensures.fails honest)

pub returns-in-Ok-Some-record_at-clause-finds : goal.returns-in-Ok-Some-record_at-clause-finds
returns-in-Ok-Some-record_at-clause-finds g c = λ honest.
    found_finds c.args.kind _ _ _ _ c.in-Ok-Some.start c.search.ensures.kept.0 c.to_path.ensures.bytes c.in-Ok-Some-record_at.found
    (rw c.in-Ok-Some.field-0-is at c.in-Ok-Some.ensures.hit honest) (rw c.in-Ok-Some.field-0-is at c.in-Ok-Some.ensures.finds honest) (rw c.in-Ok-Some-record_at.field-0-is at c.in-Ok-Some-record_at.ensures.front honest)

pub returns-in-Ok-None-record_at-clause-finds : goal.returns-in-Ok-None-record_at-clause-finds
returns-in-Ok-None-record_at-clause-finds g c = λ honest.
    bad_finds c.args.kind _ _ _ _ c.in-Ok-Some.start c.search.ensures.kept.0 c.to_path.ensures.bytes
    (rw c.in-Ok-Some.field-0-is at c.in-Ok-Some.ensures.hit honest) (rw c.in-Ok-Some.field-0-is at c.in-Ok-Some.ensures.finds honest) (rw c.in-Ok-None-record_at.field-0-is at c.in-Ok-None-record_at.ensures.front honest)
