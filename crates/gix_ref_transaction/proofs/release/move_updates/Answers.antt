use Rattle.std.proofs.Common.{◌≡◌, ◌∙◌, List, [], ◌∷◌, ◌++◌, ap, refl, sym, arith, append_assoc, append-nil, reverse, take, drop, length}
use Rattle.std.proofs.lemmas.List.{reverse-append}
use Rattle.std.proofs.Math.Seq.{take-append_seam, drop-append_seam}
use Rattle.gix_ref_transaction.specs.PrepareSteps.{updates}
use Rattle.gix_ref_transaction.specs.declared.edit.Edit.{Edit}
use Rattle.gix_ref_edits.specs.declared.transaction.RefEdit.{RefEdit}
use Rattle.gix_ref_transaction.proofs.release.move_updates.Goals as goal

pub loop-edits-init : goal.loop-edits-init
loop-edits-init c = record {
  moved = ([], sym (append-nil c.args.edits.now.items), sym (append-nil c.args.given.now.items));
  within = c.requires.within;
  room = refl;
  len = refl;
}

pub loop-edits-preserved : goal.loop-edits-preserved
loop-edits-preserved c =
    let x = c.loop-edits.invariant in
    let tail = x.moved.0 in
    let own = c.in-Some.edit in
    let rest = c.pop.new.self.items in
    record {
      moved = (
        own ∷ tail,
        x.moved.1 ∙ (ap (λ (l : List Edit). l ++ tail) c.in-Some.ensures.items ∙ append_assoc rest (own ∷ []) tail),
        c.push_reserved.ensures.items ∙ (ap (λ (u : RefEdit). c.loop-edits.given.items ++ u ∷ []) c.into_update.ensures ∙ (ap (λ (l : List RefEdit). l ++ own.update ∷ []) x.moved.2
            ∙ (append_assoc c.args.given.now.items (reverse (updates tail)) (own.update ∷ []) ∙ ap (λ (l : List RefEdit). c.args.given.now.items ++ l) (sym (reverse-append (own.update ∷ []) (updates tail)))))),
      );
      within = omega (arith, x.within, c.in-Some.ensures.len);
      room = omega (arith, x.room);
      len = omega (arith, x.len, c.in-Some.ensures.len);
    }

pub returns-after-loop-edits-clause-rest : goal.returns-after-loop-edits-clause-rest
returns-after-loop-edits-clause-rest c =
    let x = c.loop-edits.invariant in
    let edits = c.loop-edits.edits.items in
    let at : length edits ≡ c.args.taken = omega (arith, x.within, c.loop-edits.edits.ok) in
    sym (ap (take c.args.taken) x.moved.1 ∙ (ap (λ n. take n (edits ++ x.moved.0)) (sym at) ∙ take-append_seam edits x.moved.0))

pub returns-after-loop-edits-clause-moved : goal.returns-after-loop-edits-clause-moved
returns-after-loop-edits-clause-moved c =
    let x = c.loop-edits.invariant in
    let edits = c.loop-edits.edits.items in
    let at : length edits ≡ c.args.taken = omega (arith, x.within, c.loop-edits.edits.ok) in
    x.moved.2 ∙ ap (λ (l : List Edit). c.args.given.now.items ++ reverse (updates l)) (sym (ap (drop c.args.taken) x.moved.1 ∙ (ap (λ n. drop n (edits ++ x.moved.0)) (sym at) ∙ drop-append_seam edits x.moved.0)))
