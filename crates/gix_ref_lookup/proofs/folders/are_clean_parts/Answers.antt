use Rattle.std.proofs.Common.{sym, ◌∙◌}
use Rattle.gix_ref_lookup.specs.CleanPaths.{is_clean_component}
use Rattle.gix_ref_lookup.proofs.FolderLemmas.{all_more, all_last}
use Rattle.gix_ref_lookup.proofs.folders.are_clean_parts.Goals as goal

pub loop-part-preserved : goal.loop-part-preserved
loop-part-preserved c =
    let cut = c.in-Some.ensures in
    all_more is_clean_component c.loop-part.rest.now c.in-Some.part.now c.in-Some.after.now _ cut.none cut.whole (sym c.is_clean_part.ensures ∙ c.if-not-is_clean_part.false) c.loop-part.invariant

pub returns : goal.returns
returns c = c.is_clean_part-2.ensures ∙ all_last is_clean_component c.loop-part.rest.now _ c.in_default.ensures c.loop-part.invariant
