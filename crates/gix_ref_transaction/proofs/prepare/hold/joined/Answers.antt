use Rattle.std.proofs.Common.{◌≡◌, ◌+◌, ◌<◌, ◌∙◌, List, None, ⊎_elim, [], ◌∷◌, ◌++◌, ap, map, refl, sym, arith, append_assoc, append-nil, take, vec_len, length, get_or}
use Rattle.std.specs.Vec.Iter.{into_iter_items, into_iter_len}
use Rattle.std.specs.Iterator.Adapters.{zip_first, zip_second}
use Rattle.std.proofs.lemmas.List.{get_or_default, map-append, length-append, length-map, take_more, nil_from_length}
use Rattle.std.proofs.Math.Seq.{take-length}
use Rattle.gix_ref_transaction.specs.PrepareSteps.{updates, place_paths}
use Rattle.gix_ref_transaction.specs.declared.edit.Edit.{Edit}
use Rattle.gix_ref_transaction.proofs.prepare.hold.joined.Goals as goal

-- one more is taken from the front of what is left
taken_more : {A : Type 0} (f : Edit → A) (edits : List Edit) (edit : Edit) (all rest later : List A) (first : A) → all ≡ map f edits ++ rest → rest ≡ first ∷ later → f edit ≡ first → all ≡ map f (edits ++ edit ∷ []) ++ later
taken_more f edits edit all rest later first is next own =
    is ∙ (ap (λ l. map f edits ++ l) (next ∙ ap (λ y. y ∷ later) (sym own)) ∙ (sym (append_assoc (map f edits) (f edit ∷ []) later) ∙ ap (λ l. l ++ later) (sym (map-append f edits (edit ∷ [])))))

-- so none is missing before
some_left : {A : Type 0} (f : Edit → A) (edits : List Edit) (all rest later : List A) (first : A) → all ≡ map f edits ++ rest → rest ≡ first ∷ later → length edits < length all
some_left f edits all rest later first is next = omega (arith, ap length is, length-append (map f edits) rest, length-map edits f, ap length next)

-- and what has none left is whole
none_left : {A : Type 0} (f : Edit → A) (edits : List Edit) (all rest : List A) → all ≡ map f edits ++ rest → length all ≡ length edits → map f edits ≡ all
none_left f edits all rest is len =
    let none : rest ≡ [] = nil_from_length rest (omega (arith, len, ap length is, length-append (map f edits) rest, length-map edits f)) in
    sym (is ∙ (ap (λ l. map f edits ++ l) none ∙ append-nil (map f edits)))

pub loop-update-init : goal.loop-update-init
loop-update-init c =
    let none = c.requires.room.1 in
    let empty : vec_len c.args.edits ≡ 0 = omega (arith, ap length none, c.args.edits.ok) in
    let given = c.into_iter-update-iterator.ensures.into_iter_gives in
    let first : zip_first c.into_iter-update-iterator.result ≡ c.into_iter.result = ap zip_first given ∙ c.zip-update-items.ensures.first in
    let second = c.zip-update-items.ensures.second in
    let of_second : zip_second c.into_iter-update-iterator.result ≡ zip_second c.zip-update-items.result = ap zip_second given in
    record {
      asked = sym (ap (λ l. updates l ++ into_iter_items (zip_first c.into_iter-update-iterator.result)) none ∙ (ap into_iter_items first ∙ c.into_iter.ensures.rest));
      places = sym (ap (λ l. place_paths l ++ into_iter_items (zip_second c.into_iter-update-iterator.result)) none ∙ (ap into_iter_items of_second ∙ second.0));
      parents = rw none refl;
      updates_left = omega (arith, empty, ap into_iter_len first, c.into_iter.ensures.len);
      locks_left = omega (arith, empty, ap into_iter_len of_second, second.1);
      room = c.requires.room.0;
    }

pub index-parent-requires : goal.index-parent-requires
index-parent-requires c =
    let x = c.loop-update.invariant in
    omega (arith, some_left (λ (e : Edit). e.update) c.loop-update.edits.items _ _ _ _ x.asked c.in-Some.ensures.steps.0.0, c.loop-update.edits.ok, c.args.split.edits.ok, c.requires.lens.0, c.len.ensures)

pub push_reserved-requires : goal.push_reserved-requires
push_reserved-requires c =
    let x = c.loop-update.invariant in
    omega (arith, some_left (λ (e : Edit). e.update) c.loop-update.edits.items _ _ _ _ x.asked c.in-Some.ensures.steps.0.0, c.loop-update.edits.ok, c.args.split.edits.ok, x.room)

pub loop-update-preserved : goal.loop-update-preserved
loop-update-preserved c =
    let x = c.loop-update.invariant in
    let s = c.in-Some.ensures.steps in
    let edits = c.loop-update.edits.items in
    let new = c.new.result in
    let parents = c.args.split.parents.items in
    let n = length edits in
    let at : c.len.result ≡ n = omega (arith, c.loop-update.edits.ok, c.len.ensures) in
    let within : n < length parents = omega (arith, some_left (λ (e : Edit). e.update) edits _ _ _ _ x.asked s.0.0, c.args.split.edits.ok, c.args.split.parents.ok, c.requires.lens.0) in
    let next : length (edits ++ new ∷ []) ≡ n + 1 = length-append edits (new ∷ []) in
    rw c.push_reserved.ensures.items (record {
      asked = taken_more (λ (e : Edit). e.update) edits new _ _ _ _ x.asked s.0.0 c.new.ensures.update;
      places = taken_more (λ (e : Edit). e.lock) edits new _ _ _ _ x.places s.1.0 c.new.ensures.place;
      parents = map-append (λ (e : Edit). e.parent) edits (new ∷ [])
          ∙ (ap (λ l. l ++ new.parent ∷ []) x.parents
          ∙ (ap (λ p. take n parents ++ p ∷ []) (c.new.ensures.parent ∙ (c.index-parent.ensures ∙ (get_or_default parents c.len.result _ None (omega (arith, at, within)) ∙ ap (λ k. get_or parents k None) at)))
          ∙ (sym (take_more parents n None within) ∙ ap (λ k. take k parents) (sym next))));
      updates_left = omega (arith, x.updates_left, c.push_reserved.ensures.len, s.0.1);
      locks_left = omega (arith, x.locks_left, c.push_reserved.ensures.len, s.1.1);
      room = omega (arith, x.room, c.push_reserved.ensures.capacity);
    })

pub returns-clause-asked : goal.returns-clause-asked
returns-clause-asked c =
    let x = c.loop-update.invariant in
    let all : vec_len c.loop-update.edits ≡ vec_len c.args.split.edits =
    ⊎_elim (λ first. omega (arith, first.1.0, x.updates_left)) (λ second. omega (arith, second.1.0, x.locks_left, c.requires.lens.1)) c.in-None.ensures.steps in
    none_left (λ (e : Edit). e.update) c.loop-update.edits.items _ _ x.asked (omega (arith, all, c.loop-update.edits.ok, c.args.split.edits.ok))

pub returns-clause-places : goal.returns-clause-places
returns-clause-places c =
    let x = c.loop-update.invariant in
    let all : vec_len c.loop-update.edits ≡ vec_len c.args.split.edits =
    ⊎_elim (λ first. omega (arith, first.1.0, x.updates_left)) (λ second. omega (arith, second.1.0, x.locks_left, c.requires.lens.1)) c.in-None.ensures.steps in
    none_left (λ (e : Edit). e.lock) c.loop-update.edits.items _ _ x.places (omega (arith, all, c.requires.lens.1, c.loop-update.edits.ok, c.args.locks.ok))

pub returns-clause-parents : goal.returns-clause-parents
returns-clause-parents c =
    let x = c.loop-update.invariant in
    let parents = c.args.split.parents.items in
    let all : vec_len c.loop-update.edits ≡ vec_len c.args.split.edits =
    ⊎_elim (λ first. omega (arith, first.1.0, x.updates_left)) (λ second. omega (arith, second.1.0, x.locks_left, c.requires.lens.1)) c.in-None.ensures.steps in
    let as_many : length c.loop-update.edits.items ≡ length parents = omega (arith, all, c.requires.lens.0, c.loop-update.edits.ok, c.args.split.parents.ok) in
    x.parents ∙ (ap (λ k. take k parents) as_many ∙ take-length parents)
