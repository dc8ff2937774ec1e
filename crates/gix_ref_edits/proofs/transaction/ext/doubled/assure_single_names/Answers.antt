use Rattle.std.proofs.Common.{bytes_eq, arith}
use Rattle.std.proofs.lemmas.List.{length-map}
use Rattle.std.proofs.lemmas.List.Sums.{count_by-le-length}
use Rattle.gix_ref_edits.specs.DoubledNames.{entry_names}
use Rattle.gix_ref_edits.specs.RefEdits.{name_of}
use Rattle.gix_ref_name.specs.Names.{full_ref_bytes}
use Rattle.gix_ref_edits.proofs.Doubled.{none_of_sorted, least_of_sorted}
use Rattle.gix_ref_edits.proofs.transaction.ext.doubled.assure_single_names.Goals as goal

pub returns-in-None-clause-single : goal.returns-in-None-clause-single
returns-in-None-clause-single g c =
    none_of_sorted full_ref_bytes _ _ _ _ c.in_ok-names.ensures c.sort_unstable.ensures.permutation c.deref.ensures.value c.in-None.ensures

pub returns-clause-doubled : goal.returns-clause-doubled
returns-clause-doubled g c =
    let least = least_of_sorted full_ref_bytes _ _ _ _ c.in_ok-names.ensures c.sort_unstable.ensures.permutation c.deref.ensures.value _ c.in-Some.ensures in
    rw c.in_ok-to_owned-in-Some.ensures least

pub returns-then-entries-lt2-clause-single : goal.returns-then-entries-lt2-clause-single
returns-then-entries-lt2-clause-single g c name two =
    let names = entry_names g.T.EditEntry.edit_of c.args.entries.now in
    absurd (omega (arith, two, count_by-le-length (bytes_eq name) names, length-map c.args.entries.now (λ entry. name_of (g.T.EditEntry.edit_of entry)), c.if-entries-lt2.true))
