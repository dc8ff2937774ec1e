use Rattle.std.proofs.Common.{◌+◌, [], List, ℕ, Bor, drop, get_or, ◌∙◌, ap, subst, sym}
use Rattle.std.proofs.lemmas.Bool.Decides.{Decides-eqb}
use Rattle.std.proofs.lemmas.List.{at_drop_more}
use Rattle.std.proofs.lemmas.Slice.Eq.{slice_eq-Decides}
use Rattle.gix_ref_pack.specs.PackWords.{AsksToPack, IsPackFlag, pack_asked, texts}
use Rattle.gix_ref_pack.specs.declared.words.Asked.{Asked}
use Rattle.gix_ref_pack.proofs.PackWordLemmas.{IsStep, left, step_flag, step_path, step_peeled}
use Rattle.gix_ref_pack.proofs.words.parse.Goals as goal
use Rattle.gix_ref_pack.proofs.words.parse.Goals.{then-wants_path, else-wants_path+then-eq, else-wants_path+else-eq+else-not-take_flag}

pub loop-word-preserved : goal.loop-word-preserved
loop-word-preserved c =
    let words = c.args.words.now in
    let i = c.loop-word.word-index in
    let none : Bor (List ℕ) = record { ref_ptr = (0, 0); now = [] } in
    let word = (get_or words i none).now in
    let rest = texts (drop (i + 1) words) in
    let wants = c.loop-word.wants_path in
    let wants_now = c.if-wants_path.wants_path in
    let old = pack_asked c.loop-word.asked in
    let now = pack_asked c.if-wants_path.asked in
    let step : IsStep wants wants_now old now word rest = elim c.if-wants_path.branch [
      | then-wants_path w ↦ step_path wants wants_now old now word rest w.if-wants_path.true w.wants_path-is (ap pack_asked w.asked-is)
      | else-wants_path+then-eq w ↦
          step_peeled wants wants_now old now word rest w.if-wants_path.false w.wants_path-is (ap pack_asked w.asked-is)
          ((slice_eq-Decides Decides-eqb word w.as_slice.result.now w.eq.result w.eq.ensures).0 w.if-eq.true ∙ w.as_slice.ensures)
      | else-wants_path+else-eq+else-not-take_flag w ↦
          step_flag wants wants_now old now word rest w.if-wants_path.false (w.wants_path-is ∙ w.if-wants_path.false)
          (subst (λ (a : Asked). IsPackFlag word old (pack_asked a)) (sym w.asked-is) (w.take_flag.ensures.taken w.if-not-take_flag.false))
    ] in
    let drops = at_drop_more (λ (ws : List (Bor (List ℕ))). texts ws) words i none c.loop-word-test.true in
    record {
      sound = λ asked more. c.loop-word.invariant.sound asked (subst (λ (ws : List (List ℕ)). AsksToPack (left wants ws) old asked) (sym drops) ((step asked).0 more));
      complete = λ asked are. (step asked).1 (subst (λ (ws : List (List ℕ)). AsksToPack (left wants ws) old asked) drops (c.loop-word.invariant.complete asked are));
    }
