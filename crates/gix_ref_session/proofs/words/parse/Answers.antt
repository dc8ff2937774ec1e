use Rattle.std.proofs.Common.{◌∷◌, List, ℕ, Option, Bor, MatchOption, refl, sym, ◌∙◌, subst}
use Rattle.gix_ref_session.specs.Commands.{texts}
use Rattle.gix_ref_session.specs.Words.{AreOptions, IsRead, IsUnreadable, IsValued, options_in}
use Rattle.gix_ref_session.specs.declared.words.Line.{Line}
use Rattle.gix_ref_session.specs.declared.words.Parsed.{Parsed}
use Rattle.gix_ref_session.proofs.WordLemmas.{AfterFirst, IsFirst, flag_off, flag_on, is_read, no_value, no_words, stops, stops_at, unreadable, value_off, value_on, wrong_value}
use Rattle.gix_ref_session.proofs.words.parse.Goals.{in-Some+then-not-is_option, in_default}
use Rattle.gix_ref_session.proofs.words.parse.Goals as goal

pub loop-word-init : goal.loop-word-init
loop-word-init c =
    let whole = c.in_ok-dir.ensures.cases.0 in
    record {
      first = subst (λ (ws : List (Bor (List ℕ))). IsFirst (texts ws) c.in_ok-dir.dir.now.now) (sym whole) refl;
      sound = λ new rest are. subst (λ (ws : List (Bor (List ℕ))). AfterFirst (texts ws) new rest) (sym whole) are;
      complete = λ new rest after. subst (λ (ws : List (Bor (List ℕ))). AfterFirst (texts ws) new rest) whole after;
    }

pub returns-in_err-value : goal.returns-in_err-value
returns-in_err-value c =
    let words = texts c.args.words.now in
    let word = c.in-Some.word.now in
    let old = options_in c.loop-word.line in
    subst (λ (r : Option Parsed). MatchOption r (IsUnreadable words) (IsRead words)) (sym c.from_residual-in_err-value.ensures)
    (unreadable words (λ new rest after. no_value word.now (sym c.is_option.ensures ∙ c.if-not-is_option.false) (c.take_flag.ensures.not_taken c.if-not-take_flag.true).0 old new rest
    (subst (λ (ws : List (Bor (List ℕ))). AreOptions (texts (word ∷ ws)) old new rest) (no_words c.in-Some.after.now c.in_err-value.ensures.cases)
    (subst (λ (ws : List (Bor (List ℕ))). AreOptions (texts ws) old new rest) c.in-Some.ensures.cases.0 (c.loop-word.invariant.complete new rest after)))))

pub returns-in_err-take_value : goal.returns-in_err-take_value
returns-in_err-take_value c =
    let words = texts c.args.words.now in
    let word = c.in-Some.word.now in
    let value = c.in_ok-value.value.now in
    let old = options_in c.loop-word.line in
    let not = c.take_flag.ensures.not_taken c.if-not-take_flag.true in
    subst (λ (r : Option Parsed). MatchOption r (IsUnreadable words) (IsRead words)) (sym c.from_residual-in_err-take_value.ensures)
    (unreadable words (λ new rest after. wrong_value word.now (sym c.is_option.ensures ∙ c.if-not-is_option.false) not.0 old new rest value.now (texts c.in_ok-value.after.now)
    (λ mid taken. c.in_err-take_value.ensures.taken not.0 mid (subst (λ (l : Line). IsValued word.now value.now (options_in l) mid) (sym not.1) taken))
    (subst (λ (ws : List (Bor (List ℕ))). AreOptions (texts (word ∷ ws)) old new rest) c.in_ok-value.ensures.cases.0
    (subst (λ (ws : List (Bor (List ℕ))). AreOptions (texts ws) old new rest) c.in-Some.ensures.cases.0 (c.loop-word.invariant.complete new rest after)))))

pub loop-word-preserved-then-not-take_flag : goal.loop-word-preserved-then-not-take_flag
loop-word-preserved-then-not-take_flag c =
    let words = texts c.args.words.now in
    let word = c.in-Some.word.now in
    let value = c.in_ok-value.value.now in
    let old = options_in c.loop-word.line in
    let mid = options_in c.take_value.new.line in
    let is = sym c.is_option.ensures ∙ c.if-not-is_option.false in
    let not = c.take_flag.ensures.not_taken c.if-not-take_flag.true in
    let left = texts c.in_ok-value.after.now in
    let taken = subst (λ (l : Line). IsValued word.now value.now (options_in l) mid) not.1 (c.in_ok-take_value.ensures.taken not.0) in
    record {
      first = subst (λ (dir : Bor (List ℕ)). IsFirst words dir.now) (sym (c.take_value.ensures.dir ∙ c.take_flag.ensures.dir)) c.loop-word.invariant.first;
      sound = λ new rest more. c.loop-word.invariant.sound new rest
          (subst (λ (ws : List (Bor (List ℕ))). AreOptions (texts ws) old new rest) (sym c.in-Some.ensures.cases.0)
          (subst (λ (ws : List (Bor (List ℕ))). AreOptions (texts (word ∷ ws)) old new rest) (sym c.in_ok-value.ensures.cases.0)
          (value_on word.now is old mid new rest value.now left taken more)));
      complete = λ new rest after. value_off word.now is old mid new rest value.now left taken
          (subst (λ (ws : List (Bor (List ℕ))). AreOptions (texts (word ∷ ws)) old new rest) c.in_ok-value.ensures.cases.0
          (subst (λ (ws : List (Bor (List ℕ))). AreOptions (texts ws) old new rest) c.in-Some.ensures.cases.0 (c.loop-word.invariant.complete new rest after)));
    }

pub loop-word-preserved : goal.loop-word-preserved
loop-word-preserved c =
    let words = texts c.args.words.now in
    let word = c.in-Some.word.now in
    let old = options_in c.loop-word.line in
    let mid = options_in c.take_flag.new.line in
    let is = sym c.is_option.ensures ∙ c.if-not-is_option.false in
    let taken = c.take_flag.ensures.taken c.if-not-take_flag.false in
    let left = texts c.in-Some.after.now in
    record {
      first = subst (λ (dir : Bor (List ℕ)). IsFirst words dir.now) (sym c.take_flag.ensures.dir) c.loop-word.invariant.first;
      sound = λ new rest more. c.loop-word.invariant.sound new rest
          (subst (λ (ws : List (Bor (List ℕ))). AreOptions (texts ws) old new rest) (sym c.in-Some.ensures.cases.0) (flag_on word.now is old mid new rest left taken more));
      complete = λ new rest after. flag_off word.now is old mid new rest left taken
          (subst (λ (ws : List (Bor (List ℕ))). AreOptions (texts ws) old new rest) c.in-Some.ensures.cases.0 (c.loop-word.invariant.complete new rest after));
    }

pub returns : goal.returns
returns c =
    let words = texts c.args.words.now in
    let o = options_in c.loop-word.line in
    let left = c.loop-word.rest.now in
    let parsed : Parsed = record { line = c.loop-word.line; rest = record { ref_ptr = c.loop-word.rest.ref_ptr; now = left } } in
    let ended = λ (stopped : AreOptions (texts left) o o (texts left)). is_read words parsed c.loop-word.invariant.first (c.loop-word.invariant.sound o (texts left) stopped) in
    elim c.match-split_first.branch [
      | in-Some+then-not-is_option w ↦ ended (subst (λ (ws : List (Bor (List ℕ))). AreOptions (texts ws) o o (texts ws)) (sym w.in-Some.ensures.cases.0)
          (stops_at w.in-Some.word.now.now (texts w.in-Some.after.now) o (sym w.is_option.ensures ∙ w.if-not-is_option.true)))
      | in_default w ↦ ended (subst (λ (ws : List (Bor (List ℕ))). AreOptions (texts ws) o o (texts ws)) (sym (no_words left w.in_default.ensures.cases)) (stops o))
    ]
