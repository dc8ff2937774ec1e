use Rattle.std.proofs.Common.{rules, tests, ◌≡◌, ℕ, List, map, IfOk, Bor, ◌∙◌, ap}
use Rattle.std.specs.Prelude.{vec_items}
use Rattle.std.specs.List.{slice_split}
use Rattle.std.proofs.lemmas.Iterator.Consumers.{map_from_collect}
use Rattle.std.proofs.lemmas.Iterator.Splits.{YieldsList-from_slice_split}
use Rattle.gix_ref_program.specs.Words.{texts}
use Rattle.gix_ref_program.specs.ScriptLines.{parts_commands}
use Rattle.gix_ref_program.proofs.ScriptWords.{split_map, map_map, if_ok}
use Rattle.gix_ref_program.proofs.script_lines.commands_in.Goals as goal

pub returns : goal.returns
returns c =
    let collected : IfOk c.collect.result (λ parts. map (λ part. part.now) (vec_items parts) ≡ slice_split (λ (word : Bor (List ℕ)). parts_commands word.now) c.args.words.now) =
    map_from_collect _ c.collect.ensures.ran (YieldsList-from_slice_split _ (λ (word : Bor (List ℕ)). parts_commands word.now) c.args.words.now c.split.ensures.rest c.split.ensures.done c.split.ensures.closure (λ x r q k. search (rules, tests))) in
    if_ok c.collect.result (λ parts is. map_map texts (λ (part : Bor (List (Bor (List ℕ)))). part.now) (vec_items parts) ∙ (ap (map texts) is ∙ split_map (λ (word : Bor (List ℕ)). word.now) parts_commands c.args.words.now)) collected
