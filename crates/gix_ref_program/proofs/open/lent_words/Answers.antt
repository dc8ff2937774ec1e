use Rattle.std.proofs.Common.{◌∙◌, ap, sym, List, ℕ, take, ◌++◌, ◌∷◌, []}
use Rattle.std.specs.String.{string_bytes}
use Rattle.gix_ref_program.specs.Words.{string_texts, texts}
use Rattle.gix_ref_program.proofs.ScriptWords.{next_part, one_mapped}
use Rattle.gix_ref_program.proofs.open.lent_words.Goals as goal

pub loop-word-preserved : goal.loop-word-preserved
loop-word-preserved c =
    ap texts c.in_ok-push.ensures.items
    ∙ (one_mapped (λ word. word.now) c.loop-word.lent.items c.as_bytes.result
    ∙ (ap (λ (ws : List (List ℕ)). ws ++ c.as_bytes.result.now ∷ []) c.loop-word.invariant
    ∙ (ap (λ (w : List ℕ). string_texts (take c.loop-word.word-index c.args.words.now) ++ w ∷ []) (c.as_bytes.ensures.value ∙ ap string_bytes c.word-item.is)
    ∙ sym (next_part string_bytes c.args.words.now c.loop-word.word-index c.word-item.result c.loop-word-test.true))))
