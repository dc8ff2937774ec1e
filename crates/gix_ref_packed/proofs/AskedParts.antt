-- The part of a text that has each name of a prefix, whatever the lines are.
use Rattle.std.proofs.Common.{◌≡◌, inl, inr, ⊎_elim, ℕ, ◌-◌, ◌<◌, ◌≤◌, List, [], ◌++◌, length, take, drop, sym, subst, arith}
use Rattle.std.proofs.lemmas.Bool.{cases_lt}
use Rattle.std.proofs.lemmas.List.{length-take, length-drop, take-append-drop, nil_from_length}
use Rattle.gix_ref_hash.specs.declared.hash.Kind.{Kind}
use Rattle.gix_ref_packed_text.specs.RecordGrammar.{Below}
use Rattle.gix_ref_packed_text.specs.Positions.{BeginsLine}
use Rattle.gix_ref_packed_text.specs.Prefixes.{IsListStart, NamesAscend, SplitsLines}
use Rattle.gix_ref_packed.specs.FilePrefixes.{IsPast, EnclosesAsked, HoldsAsked}
use Rattle.gix_ref_packed_text.proofs.LineBounds.{named_inside}
use Rattle.gix_ref_packed_text.proofs.LowerBounds.{begins}
use Rattle.gix_ref_packed_text.proofs.TakenLines.{rest_ascends, named_in_rest}
use Rattle.gix_ref_packed_text.proofs.CutRecords.{rest_start, cut_named, cut_ascends}
use Rattle.gix_ref_packed.proofs.OwedRecords.{no_name, not_before}

module _ (k : Kind) (text prefix : List ℕ) where
  -- all of it
  pub encloses_whole : (end : ℕ) → end ≡ length text → EnclosesAsked k text prefix 0 end
  encloses_whole end whole = record {
    begins = record { within = omega arith; begins = inr (λ some. absurd (omega arith)) };
    ends = inl whole;
    ordered = omega arith;
    asked = λ name asked. (omega arith, let inside = named_inside k text asked.0.0 name asked.0.1 in omega arith);
  }

  -- from the first name of the prefix on
  pub encloses_from : (start end : ℕ) → IsListStart text start → end ≡ length text → SplitsLines k text prefix start → EnclosesAsked k text prefix start end
  encloses_from start end starts whole split = record {
    begins = starts;
    ends = inl whole;
    ordered = let within = starts.within in omega arith;
    asked = λ name asked. (not_before k text prefix start split name asked, let inside = named_inside k text asked.0.0 name asked.0.1 in omega arith);
  }

  -- from the first name of the prefix up to one past it
  pub encloses_up_to : (past : List ℕ) (start end : ℕ) → IsListStart text start → start ≤ end → IsPast prefix past → SplitsLines k text prefix start → SplitsLines k text past end → EnclosesAsked k text prefix start end
  encloses_up_to past start end starts ordered is first last = record {
    begins = starts;
    ends = last.there;
    ordered = ordered;
    asked = λ name asked. (
      not_before k text prefix start first name asked,
      ⊎_elim
          (λ (early : asked.0.0 < end). early)
          (λ (late : end ≤ asked.0.0). absurd (last.high asked.0.0 name late asked.0.1 (subst (λ (n : List ℕ). Below n past) (sym (begins name prefix asked.1)) (is (drop (length prefix) name)))))
          (cases_lt asked.0.0 end),
    );
  }

  module _ (start end : ℕ) (encloses : EnclosesAsked k text prefix start end) (ascend : NamesAscend k text) where
    none_left : start ≡ length text → HoldsAsked k text prefix (take (end - start) (drop start text))
    none_left all =
        let empty : take (end - start) (drop start text) ≡ [] = nothing (omega (arith, length-take (end - start) (drop start text), length-drop start text)) in (
          λ p q m n before a b. absurd (no_name k (take (end - start) (drop start text)) empty p m a),
          λ name asked. absurd (let late = (encloses.asked name asked).0 in let inside = named_inside k text asked.0.0 name asked.0.1 in omega arith),
        )
      where
        nothing : {t : List ℕ} → length t ≡ 0 → t ≡ []
        nothing {t} len = nil_from_length t len

    from_line : BeginsLine text start → HoldsAsked k text prefix (take (end - start) (drop start text))
    from_line line =
        let within = encloses.begins.within in
        let front = take start text in
        let rest = drop start text in
        let whole : text ≡ front ++ rest = sym (take-append-drop start text) in
        let len : length front ≡ start = omega (arith, length-take start text) in
        let there : BeginsLine text (length front) = subst (BeginsLine text) (sym len) line in (
          cut_ascends k rest (end - start) (rest_ascends text front rest whole there k ascend),
          λ name asked.
              let between = encloses.asked name asked in
              let low = between.0 in
              let high = between.1 in
              let at = named_in_rest text front rest whole there k asked.0.0 name (omega arith) asked.0.1 in (
                (
                  asked.0.0 - length front,
                  cut_named k rest (end - start) (rest_start k text end start within (omega arith) encloses.ends) (asked.0.0 - length front) name (omega arith) at,
                ),
                asked.1,
              ),
        )

    -- the part has them
    pub part_holds : HoldsAsked k text prefix (take (end - start) (drop start text))
    part_holds = ⊎_elim none_left from_line encloses.begins.begins
