use Rattle.std.proofs.Common.{◌≡◌, ◌∙◌, inl, inr, ap, refl, subst, sym, codes}
use Rattle.std.specs.Io.KnownBytes.{Appends}
use Rattle.gix_ref_program.specs.Words.{AreWordsOf, string_texts, texts}
use Rattle.gix_ref_program.proofs.ScriptWords.{ok_both}
use Rattle.gix_ref_program.proofs.run.run.Goals as goal

pub returns-in_default-parse-clause-ran : goal.returns-in_default-parse-clause-ran
returns-in_default-parse-clause-ran g c =
    let printed = c.print-status-in_default-parse in
    let same : texts c.deref.result.now ≡ string_texts c.args.words.now = ap texts c.deref.ensures.value ∙ c.in-Ok.ensures in
    inr (inl (record {
      no_line = λ line are. c.in_default-parse.ensures line (subst (λ ws. AreWordsOf ws line) (sym same) are);
      same = refl;
      printed = ok_both (λ s. s ≡ 2) (Appends (g.W.Write.contents c.args.out.now) (g.W.Write.contents printed.new.out) (codes "wrong words\n")) printed.result printed.ensures.status printed.ensures.printed;
    }))
