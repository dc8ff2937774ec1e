use Rattle.std.proofs.Common.{None, List, ℕ, false, Bor, sym, ap, subst}
use Rattle.std.proofs.lemmas.List.{at_drop_more}
use Rattle.gix_ref_queries.specs.Asks.{AsksEach, EachAsked, each_alone, each_asked}
use Rattle.gix_ref_queries.specs.Patterns.{texts}
use Rattle.gix_ref_queries.proofs.ask.each_of.Goals as goal

pub loop-word-init : goal.loop-word-init
loop-word-init c =
    let words = texts c.args.words.now in
    let alone = ap (λ (patterns : List (Bor (List ℕ))). let asked : EachAsked = record { format = each_alone.format; descending = false; count = None; patterns = texts patterns } in asked) c.new.ensures.items in
    record {
      sound = λ asked more. subst (λ (old : EachAsked). AsksEach words old asked) alone more;
      complete = λ asked are. subst (λ (old : EachAsked). AsksEach words old asked) (sym alone) are;
    }

pub returns-then-not-branch : goal.returns-then-not-branch
returns-then-not-branch c asked are =
    let words = c.args.words.now in
    let i = c.loop-word.word-index in
    let old = each_asked c.loop-word.each in
    let left = subst (λ (ws : List (List ℕ)). AsksEach ws old asked) (at_drop_more (λ (ws : List (Bor (List ℕ))). texts ws) words i _ c.loop-word-test.true) (c.loop-word.invariant.complete asked are) in
    c.in_ok-take_word.ensures.refused c.if-not-branch.true left.0 left.1
