use Rattle.std.proofs.Common.{◌≡◌, ◌==◌, [], ◌∷◌, ap, sym, ◌∙◌, refl}
use Rattle.std.proofs.lemmas.List.Splits.{slice_split_at, slice_split_none}
use Rattle.gix_ref_hash.proofs.ByteLemmas.{apart}
use Rattle.gix_ref_packed_text.specs.HeaderGrammar.{said, words}
use Rattle.gix_ref_packed_text.proofs.packed.decode.header_line.header_of.Goals as goal

pub loop-word-preserved : goal.loop-word-preserved
loop-word-preserved c =
    let word = c.in-Some.word.now in
    let after = c.in-Some.after.now in
    let cut = c.in-Some.ensures in
    let split : words c.loop-word.rest.now ≡ word ∷ words after = ap words cut.whole ∙ slice_split_at (λ b. b == 32) word 32 after (apart 32 word cut.none) refl in
    ap (λ h. said h (words after)) c.with_word-header.ensures ∙ sym (ap (said c.loop-word.header) split) ∙ c.loop-word.invariant

pub returns : goal.returns
returns c =
    let split : words c.loop-word.rest.now ≡ c.loop-word.rest.now ∷ [] = slice_split_none (λ b. b == 32) c.loop-word.rest.now (apart 32 c.loop-word.rest.now c.in_default.ensures) in
    c.with_word.ensures ∙ sym (ap (said c.loop-word.header) split) ∙ c.loop-word.invariant
